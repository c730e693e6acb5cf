-- A.7: no step that fits touches the document node, so it bears 0.
use Rattle.std.specs.Prelude.{ℕ, suc, ◌≡◌, true, false, List, [], ◌∷◌, eqb}
use Rattle.std.proofs.Math.Path.{refl, sym}
use Rattle.std.proofs.Common.{ap, ◌∙◌, eqb-true, eq-eqb}
use Rattle.std.proofs.Math.Bool.{false≢true, true≢false}
use mathlib.Core.List.Memᴰ
use Rattle.tree.specs.Lists.{has, keep}
use Rattle.tree.specs.Forest.{nil, node, row}
use Rattle.tree.specs.Content.{document_kind, element_kind}
use Rattle.tree.specs.Document.{Document, Line, lines, in_subtree, select, here, at, numbers, rooted, legal}
use Rattle.tree.specs.Steps.{Step, T, C, R, U, D, I, TT, RR, UU, fits, named, plain_after}
use Rattle.tree.specs.Plain.{touches, plain_touches, Operation, does, opens, closes, undoes, Work, Progress, before_all, plain_operation}
use Rattle.tree.specs.Plain.{last_opening, other_openings, progress_after, left_of}
use Rattle.tree.specs.Counts.{Counts, counted, zero_counts, counts_from}
use Rattle.tree.specs.Laws.Tests.{and_left, and_right, refuted}
use Rattle.tree.specs.Laws.Lists.{any_append, in_map, in_keep, has_in}
use Rattle.tree.specs.Laws.Rows.{self}
use Rattle.protocol.specs.Calls.{Call}
use Rattle.protocol.specs.History.{plain_counts}
use Rattle.serializability.specs.Theorem.{since_start}
use Rattle.serializability.proofs.Laws.Tests.{by_test}
use Rattle.serializability.proofs.Laws.Lines.{line_number, Of, of_lines, at_line, line_here, one_line}
use Rattle.serializability.proofs.Laws.Kept.{fit_parts, fits_here, fits_absent}
use Rattle.serializability.proofs.Laws.Legal.{legal_parts, legal_after}
use Rattle.serializability.proofs.Laws.AnyOrder.{entries, reached_tracks, fed_is}

-- the document node's line
root_line : (d : Document) → rooted d ≡ true → (r : Line) × Of r d × (r.it.number ≡ 0) × (r.it.kind ≡ document_kind)
root_line nil h = absurd (false≢true h)
root_line (node a ks nil) h =
    (row a [], self refl, eqb-true _ 0 (and_left _ _ h), eqb-true _ document_kind (and_right (eqb a.number 0) _ h))
root_line (node a ks (node b js fs)) h = absurd (false≢true h)

module _ (d : Document) (h : legal d ≡ true) where
  pub root_here : here 0 d ≡ true
  root_here = let o = root_line d (legal_parts d h).root in line_here 0 d o.0 o.1 o.2

  -- the node numbered 0 is the document node
  zero_kind : (r : Line) → Of r d → r.it.number ≡ 0 → r.it.kind ≡ document_kind
  zero_kind r m e =
      let o = root_line d (legal_parts d h).root in
      ap (λ (x : Line). x.it.kind) (one_line d (legal_parts d h).unique r o.0 m o.1 (e ∙ sym o.2)) ∙ o.3

  zero_untouched : (s : Step) → fits s d ≡ true → has 0 (touches s d) ≡ false
  unfolding select
  zero_untouched (T n) g = refl
  zero_untouched (C n k) g = refl
  zero_untouched (R n) g = refl
  zero_untouched (U n b) g = refuted _ (λ e.
      let l = at_line n d (fits_here (U n b) d g) in
      let z : 0 ≡ n = Memᴰ.eq_of_singleton (has_in 0 (n ∷ []) e) in
      true≢false (sym (eq-eqb _ document_kind (zero_kind (at n d) l.0 (l.1 ∙ sym z))) ∙ (fit_parts (U n b) d g).kind))
  zero_untouched (D n) g = refl
  zero_untouched (I m kind b n k) g = refuted _ (λ e. true≢false (sym root_here ∙ fits_absent (I m kind b n k) d g 0 e))
  zero_untouched (TT n) g = refl
  zero_untouched (RR n) g = refl
  zero_untouched (UU n a b) g = refuted _ (λ e.
      let found = keep (named a) (select (in_subtree n) d) in
      let l = in_map line_number found (has_in 0 (numbers found) e) in
      let p = in_keep (named a) (select (in_subtree n) d) l.1 in
      let m = of_lines d l.0 (in_keep (in_subtree n) (lines d) p.0).0 in
      false≢true (rw (zero_kind l.0 m (sym l.2)) at (and_left (eqb l.0.it.kind element_kind) _ p.1)))

  -- whatever the step is
  step_zero : (s : Step) → (has 0 (plain_touches s d) ≡ false) × (legal (plain_after s d) ≡ true)
  step_zero s = by_test (fits s d) (λ e. (rw e (zero_untouched s e), rw e (legal_after d s h e))) (λ e. (rw e, rw e h))

-- a transaction keeps this: now, and at each opening
record Sound (w : Work) : Type 0 where
  untouched : has 0 w.touched ≡ false
  document_legal : legal w.document ≡ true

abbrev AllSound : List Work → Type 0
AllSound [] = Unit {0}
AllSound (w ∷ ws) = Sound w × AllSound ws

other_sound : (ws : List Work) → AllSound ws → AllSound (other_openings ws)
other_sound [] o = tt
other_sound (w ∷ ws) o = o.1

last_sound : (now : Work) (ws : List Work) → Sound now → AllSound ws → Sound (last_opening now ws)
last_sound now [] n o = n
last_sound now (w ∷ ws) n o = o.0

operation_zero : (o : Operation Step) (p : Progress) → Sound p.now → AllSound p.openings
    → Sound (plain_operation o p).now × AllSound (plain_operation o p).openings
operation_zero (does s) p n o =
    let a = step_zero p.now.document n.document_legal s in (
      record {
        untouched = rw (any_append (λ q. eqb q 0) p.now.touched (plain_touches s p.now.document), n.untouched) a.0;
        document_legal = a.1;
      },
      o,
    )
operation_zero opens p n o = (n, (n, o))
operation_zero closes p n o = (n, other_sound p.openings o)
operation_zero undoes p n o = (last_sound p.now p.openings n o, other_sound p.openings o)

operations_zero : (l : List (Operation Step)) (p : Progress) → Sound p.now → AllSound p.openings → Sound (progress_after p l).now
unfolding progress_after
operations_zero [] p n o = n
operations_zero (x ∷ l) p n o = let a = operation_zero x p n o in operations_zero l (plain_operation x p) a.0 a.1

counts_zero : (k : ℕ) (d : Document) → legal d ≡ true → (c : Counts) (ls : List (List (Operation Step))) → counts_from k d c ls 0 ≡ c 0
unfolding counts_from
counts_zero k d h c [] = refl
counts_zero k d h c (l ∷ ls) =
    let a = operations_zero l (before_all d) (record { untouched = refl; document_legal = h }) tt in
    counts_zero (suc k) (left_of d l).document a.document_legal (counted k (left_of d l).touched c) ls ∙ rw a.untouched

pub document_count : (cs : List Call) → plain_counts (since_start cs) 0 ≡ 0
unfolding plain_counts
document_count cs = rw (fed_is cs) (counts_zero 1 (entries cs).initial (reached_tracks cs).first_legal zero_counts _)
