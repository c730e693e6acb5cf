-- What a granted step touches: the places that it writes, where nobody else wrote, and the node that it inserts.
use Rattle.std.specs.Prelude.{ℕ, ◌≤◌, ◌≡◌, refl, Bool, true, false, cond, ◌&&◌, ◌||◌, List, [], eqb, ltb}
use Rattle.std.proofs.Common.{sym, ap, ◌∙◌, true≢false, eqb-true, eq-eqb, ne_eqb, le-ltb}
use Rattle.std.proofs.lemmas.Bool.{false≢true}
use Rattle.std.proofs.Math.Bool.{or-true, or-false, and-false}
use Rattle.tree.specs.Lists.{any, every, has, keep}
use Rattle.tree.specs.Forest.{row}
use Rattle.tree.specs.Document.{Document, Line, lines, in_subtree, select, here, numbers}
use Rattle.tree.specs.Steps.{Step, T, C, R, U, D, I, TT, RR, UU, target, inserts, named}
use Rattle.tree.specs.Plain.{touches}
use Rattle.tree.specs.Laws.Tests.{and_left, and_right, both_ways, refuted}
use Rattle.tree.specs.Laws.Lists.{any_map, in_map, map_in, in_keep, keep_in, has_in, in_has}
use Rattle.tree.specs.Laws.View.{in_view, view_in}
use Rattle.locks.specs.Needs.{Lock}
use Rattle.protocol.specs.State.{nobody, Marked, Tree, has_number, number_held, seen_by, callers_document, renamed}
use Rattle.protocol.specs.State.{Update, unwritten, wrote, writer_of, level_of, saving}
use Rattle.serializability.proofs.Laws.Parts.{Extent, below, all, shows}
use Rattle.serializability.proofs.Laws.OpenLevels.{touched_within}
use Rattle.serializability.proofs.Laws.Tests.{by_test, eqb_sym}
use Rattle.serializability.proofs.Laws.Lines.{of_lines, to_lines}
use Rattle.serializability.specs.Laws.Views.{reach}
use Rattle.serializability.proofs.Laws.Classes.{Rewriting, update, rename, Class, reading, rewriting, removing, inserting, class}
use Rattle.serializability.proofs.Laws.Classes.{inserts_none, write}
use Rattle.serializability.proofs.Laws.Shown.{Place, Inside, path, numbers_of, local, OwnUpdate}
use Rattle.serializability.proofs.Laws.Numbers.{number_of, Distinct, one_place, place_held}
use Rattle.serializability.proofs.Laws.Marks.{Covered, undeleted}
use Rattle.serializability.proofs.Laws.Seen.{places, renamed_under, CompatibleStep, own_read}

-- the places whose contents a granted step of t writes
abbrev pub writes : ℕ → Step → Place → Bool
writes t (T n) r = false
writes t (C n k) r = false
writes t (R n) r = false
writes t (U n b) r = has_number n r.it
writes t (D n) r = false
writes t (I m kind b n k) r = false
writes t (TT n) r = false
writes t (RR n) r = false
writes t (UU n a b) r = renamed t n a r

-- the places that it deletes
abbrev pub deletes : Step → Place → Bool
deletes (T n) r = false
deletes (C n k) r = false
deletes (R n) r = false
deletes (U n b) r = false
deletes (D n) r = has_number n r.it
deletes (I m kind b n k) r = false
deletes (TT n) r = false
deletes (RR n) r = false
deletes (UU n a b) r = false

-- such a step writes contents, and sees the place
writes_within : (t : ℕ) (s : Step) (r : Place) → writes t s r ≡ true → Rewriting s × (places (reach s) (target s) r ≡ true)
writes_within t (T n) r h = absurd (false≢true h)
writes_within t (C n k) r h = absurd (false≢true h)
writes_within t (R n) r h = absurd (false≢true h)
writes_within t (U n b) r h = (update n b, h)
writes_within t (D n) r h = absurd (false≢true h)
writes_within t (I m kind b n k) r h = absurd (false≢true h)
writes_within t (TT n) r h = absurd (false≢true h)
writes_within t (RR n) r h = absurd (false≢true h)
writes_within t (UU n a b) r h = (rename n a b, renamed_under t n a r h)

module _ (holds : ℕ → List Lock) (f : Tree) (cov : Covered holds f) (t : ℕ) (nz : t ≡ nobody → ⊥) (s : Step)
    (hs : here (target s) (callers_document t f) ≡ true) (c : CompatibleStep holds f cov t nz s) (r : Place) (i : Inside r f) where
  -- what a granted step writes nobody else wrote
  pub own_written : writes t s r ≡ true → local t (writer_of r.it.update) ≡ true
  own_written e = let w = writes_within t s r e in own_read holds f cov t nz (write w.0) hs c r i w.1

  -- what it deletes nobody had deleted
  pub deletes_undeleted : deletes s r ≡ true → r.it.deleter ≡ nobody
  deletes_undeleted e = undeleted holds f cov t s hs c r i (deletes_target s e)
    where
      deletes_target : (s : Step) → deletes s r ≡ true → number_of r ≡ target s
      deletes_target (T n) h = absurd (false≢true h)
      deletes_target (C n k) h = absurd (false≢true h)
      deletes_target (R n) h = absurd (false≢true h)
      deletes_target (U n b) h = absurd (false≢true h)
      deletes_target (D n) h = eqb-true _ n h
      deletes_target (I m kind b n k) h = absurd (false≢true h)
      deletes_target (TT n) h = absurd (false≢true h)
      deletes_target (RR n) h = absurd (false≢true h)
      deletes_target (UU n a b) h = absurd (false≢true h)

-- the marks of a node that t writes at level d, where only t can have written, or leaves
module _ (t d : ℕ) (nz : t ≡ nobody → ⊥) (w : Bool) (b : List ℕ) (a a' : Marked) (i : a'.inserter ≡ a.inserter)
    (j : a'.insertion_level ≡ a.insertion_level) (k : a'.update ≡ cond w (saving t d b a.update) a.update)
    (mine : w ≡ true → OwnUpdate t a.update) where
  -- those of others stay
  pub written_other : (x : Extent) (u : ℕ) → (u ≡ nobody → ⊥) → (u ≡ t → ⊥) → touched_within x u a' ≡ touched_within x u a
  written_other x u nu ne = rw (i, j, k) (ap (λ z. (eqb a.inserter u && shows x a.insertion_level) || z) (by_test w
      (λ e. rw e (go a.update (mine e))) (λ e. rw e)))
    where
      off : eqb t u ≡ false
      off = ne_eqb t u (λ z. ne (sym z))

      go : (v : Update) → OwnUpdate t v → (eqb (writer_of (saving t d b v)) u && shows x (level_of (saving t d b v)))
          ≡ (eqb (writer_of v) u && shows x (level_of v))
      go unwritten o = rw (off, ne_eqb nobody u (λ z. nu (sym z)))
      go (wrote v l saved deeper) o = rw (o.0, off)

  -- and those of its lower levels
  pub written_lower : (n : ℕ) → n ≤ d → touched_within (below n) t a' ≡ touched_within (below n) t a
  written_lower n h = rw (i, j, k) (ap (λ z. (eqb a.inserter t && ltb a.insertion_level n) || z) (by_test w
      (λ e. rw e (go a.update (mine e))) (λ e. rw e)))
    where
      go : (v : Update) → OwnUpdate t v → (eqb (writer_of (saving t d b v)) t && ltb (level_of (saving t d b v)) n)
          ≡ (eqb (writer_of v) t && ltb (level_of v) n)
      go unwritten o = rw (le-ltb d n h, and-false (eqb t t), ne_eqb nobody t (λ z. nz (sym z)))
      go (wrote v l saved deeper) o = rw o.0

  -- it touches what it writes
  pub written_own : touched_within all t a' ≡ (touched_within all t a || w)
  written_own = rw (i, k) (by_test w (λ e. rw e (go a.update)) (λ e. rw e (sym (or-false (touched_within all t a)))))
    where
      go : (v : Update) → ((eqb a.inserter t && true) || (eqb (writer_of (saving t d b v)) t && true)) ≡ (touched_within all t a || true)
      go unwritten = rw (eq-eqb t t refl, or-true (eqb a.inserter t && true), or-true (touched_within all t a))
      go (wrote v l saved deeper) = rw (eq-eqb t t refl, or-true (eqb a.inserter t && true), or-true (touched_within all t a))

-- what a step inserts it touches
pub inserted_touched : (s : Step) (d : Document) (m : ℕ) → has m (inserts s) ≡ true → has m (touches s d) ≡ true
inserted_touched s d m h = go (class s) h
  where
    go : {s : Step} → Class s → has m (inserts s) ≡ true → has m (touches s d) ≡ true
    go (reading a e) i = absurd (false≢true (rw e at i))
    go (rewriting w) i = absurd (false≢true (rw (inserts_none w) at i))
    go (removing n) i = absurd (false≢true i)
    go (inserting m kind b n k) i = i

-- of the nodes that are there a step touches those that it writes ---------------------------------

module _ (t : ℕ) (f : Tree) (d : Distinct f) (r : Place) (i : Inside r f) where
  -- UU touches the lines that t sees in the subtree and that have the name
  renamed_touched : (n : ℕ) (a b : List ℕ) → has (number_of r) (touches (UU n a b) (callers_document t f)) ≡ renamed t n a r
  unfolding callers_document select
  renamed_touched n a b = both_ways _ _ forth back
    where
      doc : Document
      doc = callers_document t f

      found : List Line
      found = keep (named a) (select (in_subtree n) doc)

      line : Place → Line
      line x = row x.it.now (numbers_of x.above)

      under : any (has_number n) (path r) ≡ has n (numbers_of (path r))
      under = sym (any_map (λ q. eqb q n) (λ (x : Marked). x.now.number) (path r))

      forth : has (number_of r) (numbers found) ≡ true → renamed t n a r ≡ true
      forth h =
          let l = in_map (λ (x : Line). x.it.number) found (has_in (number_of r) (numbers found) h) in
          let p = in_keep (named a) (select (in_subtree n) doc) l.1 in
          let q = in_keep (in_subtree n) (lines doc) p.0 in
          let v = in_view (λ x. x) (seen_by t) (seen_by t) (λ x. refl) (λ x. x.now) (λ x. x.number) (λ x. x.now.number) (λ x. refl)
          [] f refl (of_lines doc l.0 q.0) in
          let e : v.0 ≡ r = one_place f d v.1 i (sym (ap (λ (x : Line). x.it.number) v.3) ∙ sym l.2) in
          let w : l.0 ≡ line r = v.3 ∙ ap line e in
          rw (
            ap (λ (x : Place). every (seen_by t) (path x)) (sym e) ∙ v.2,
            under,
            ap (in_subtree n) (sym w) ∙ q.1,
            ap (named a) (sym w) ∙ p.1,
          )

      back : renamed t n a r ≡ true → has (number_of r) (numbers found) ≡ true
      back h =
          let x = and_left (every (seen_by t) (path r) && any (has_number n) (path r)) _ h in
          let o = view_in (λ x. x) (seen_by t) (seen_by t) (λ x. refl) (λ x. x.now) (λ x. x.number) (λ x. x.now.number) (λ x. refl)
          [] f refl i (and_left _ _ x) in
          in_has (number_of r) (numbers found) (map_in (λ (x : Line). x.it.number) (keep_in (named a) (select (in_subtree n) doc)
          (keep_in (in_subtree n) (lines doc) (to_lines doc o) (sym under ∙ and_right (every (seen_by t) (path r)) _ x))
          (and_right (every (seen_by t) (path r) && any (has_number n) (path r)) _ h)))

  pub touches_written : (s : Step) → ((m : ℕ) → has m (inserts s) ≡ true → number_held m f ≡ false)
      → has (number_of r) (touches s (callers_document t f)) ≡ writes t s r
  touches_written (T n) new = refl
  touches_written (C n k) new = refl
  touches_written (R n) new = refl
  touches_written (U n b) new = or-false (eqb n (number_of r)) ∙ eqb_sym n (number_of r)
  touches_written (D n) new = refl
  touches_written (I m kind b n k) new = refuted _ (λ h.
      let e : m ≡ number_of r = eqb-true m _ (sym (or-false (eqb m (number_of r))) ∙ h) in
      true≢false (sym (place_held m f i (sym e)) ∙ new m (rw (eq-eqb m m refl))))
  touches_written (TT n) new = refl
  touches_written (RR n) new = refl
  touches_written (UU n a b) new = renamed_touched n a b
