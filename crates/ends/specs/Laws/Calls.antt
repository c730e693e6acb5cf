-- From what the calls leave to the definitions of protocol.
use Rattle.std.specs.Prelude.{◌≡◌, ℕ, ◌+◌, ◌≤◌, ◌<◌, Bool, not, ◌&&◌, ◌||◌, List, [], ◌∷◌, get_or, drop, leb}
use Rattle.std.proofs.Math.Path.{refl, ap, subst}
use Rattle.std.proofs.Common.{sym, ◌∙◌, arith}
use Rattle.std.proofs.Math.Bool.{true, false, cond}
use Rattle.std.proofs.Math.ListN.{length}
use Rattle.std.proofs.Math.Dec.{eqb}
use borrow.Author.Tests.{le-leb, lt-leb, leb-true, leb-false, ne_eqb}
use Rattle.tree.specs.Steps.{done}
use Rattle.protocol.specs.State.{nobody, Header, State, Tree, commit_tree, with_header, opened, closed, with_open, with_commits, ended}
use Rattle.protocol.specs.State.{next_count, committed, aborted}
use Rattle.protocol.specs.Rings.{AmongOpen}
use Rattle.protocol.specs.Causes.{no_more_commits}
use Rattle.protocol.proofs.Laws.WaitSets.{among_begun, among_ended}
use Rattle.protocol.specs.Calls.{Call, begin, commit, abort, refused, commit_limit, Next, unchanged, becomes, refusing, if_open}
use Rattle.protocol.specs.Calls.{commits_reached, next}
use Rattle.protocol.specs.Answers.{answer_of, granted_answer}
use Rattle.protocol.specs.declared.Answer.TheVariants.{Done, Refused}
use Rattle.table.specs.Flat.{flat}
use Rattle.table.specs.Layout.{state_size, is_open, commits, Entry, nodes, no_entry, Left, header}
use Rattle.table.specs.Laws.Kept.{left_on}
use Rattle.rows.specs.Places.{unique}
use Rattle.form.specs.Form.{form, valid_tree, Holds}
use Rattle.form.specs.Start.{Started}
use Rattle.form.specs.Laws.Holds.{form_holds}
use Rattle.form.specs.Laws.Valid.{FineDocument, root_of}
use Rattle.form.specs.Laws.Steps.{holds_left, holds_unique, valid_commit, valid_abort}
use Rattle.rows.proofs.Laws.Ends.{commit_rows, abort_rows}
use Rattle.rows.proofs.Laws.Kept.{unique_commit, unique_abort}
use Rattle.engine.specs.Contract.{Performed}
use Rattle.engine.specs.Admission.{Opened, Barred}
use Rattle.ends.specs.Ends.{Restarted}
use Rattle.ends.specs.Marks.{stays, end_tree}
use Rattle.ends.specs.declared.pass.Ending.{Ending}
use Rattle.ends.specs.declared.pass.Ending.TheVariants.{Lasting, Undone}
use Rattle.ends.specs.Pass.{two_passes, Ended}
use Rattle.engine.specs.Laws.Outcomes.{performed_stays, performed_grants, stopped_stays}
use Rattle.engine.specs.Laws.Admission.{open_next}

-- the document is nobody's insertion or deletion, so that no end takes it out -------------------

first_document : (s : List ℕ) → form s ≡ true → FineDocument (get_or (nodes s) 0 no_entry).1
unfolding flat
first_document s f =
    let m = form_holds s f in
    let r = root_of m.0.tree m.1.valid in
    let e : (get_or (nodes s) 0 no_entry).1 ≡ r.it = ap (λ (l : List Entry). (get_or l 0 no_entry).1) (m.1.rows ∙ ap (flat 0) r.whole) in
    rw e r.document

pub document_stays : {s : List ℕ} {t : ℕ} (end : Ending) → Opened s t → stays end t (get_or (nodes s) 0 no_entry).1 ≡ true
document_stays {s} {t} end o = go end
  where
    d : FineDocument (get_or (nodes s) 0 no_entry).1
    d = first_document s o.formed

    n : eqb nobody t ≡ false
    n = ne_eqb nobody t (λ e. omega (arith, o.low))

    go : (end : Ending) → stays end t (get_or (nodes s) 0 no_entry).1 ≡ true
    go (Lasting k) = rw (d.deleter, n)
    go Undone = rw (d.inserter, n)

-- start ---------------------------------------------------------------------------------------------

module _ {s s' : List ℕ} {b : Bool} (k : Started s s' b) where
  pub start_done : b ≡ true → Restarted s s' Done
  unfolding next answer_of granted_answer
  start_done e =
      let z : state_size ≤ length s = leb-true state_size (length s) (sym k.answer ∙ e) in
      record {
        short = λ h. absurd (omega (arith, h, z));
        answer = λ h M writing. refl;
        state = λ h M. k.holds h;
        bytes = k.bytes;
        long = k.long;
        behind = k.behind;
      }

  pub start_short : b ≡ false → Restarted s s' (Refused 13)
  unfolding next
  start_short e =
      let z : length s < state_size = leb-false state_size (length s) (sym k.answer ∙ e) in
      record {
        short = λ h. (refl, k.short h);
        answer = λ h. absurd (omega (arith, h, z));
        state = λ h M. k.holds h;
        bytes = k.bytes;
        long = k.long;
        behind = k.behind;
      }

-- begin ---------------------------------------------------------------------------------------------

refusal : {s : List ℕ} {call : Call} (cause : ℕ) → form s ≡ true → ((M : State) → Holds s M → next call M ≡ unchanged (refused cause) M)
    → Performed s s (Refused cause) call
unfolding answer_of
refusal {s} {call} cause f h = performed_stays (record { formed = f; next = h; quiet = refl }) (Refused cause) (λ writing. refl)

module _ {s : List ℕ} {t : ℕ} (f : form s ≡ true) where
  pub begin_zero : t ≡ 0 → Performed s s (Refused 1) (begin t)
  unfolding next
  begin_zero e = refusal 1 f (λ M h. rw e)

  pub begin_high : 16 < t → Performed s s (Refused 1) (begin t)
  unfolding next
  begin_high k = refusal 1 f (λ M h. rw (lt-leb t 16 k) (go (leb 1 t) M))
    where
      go : (b : Bool) (M : State)
          → cond (not (b && false)) (unchanged (refused 1) M)
          (cond (M.header.is_open t) (unchanged (refused 2) M) (becomes done (opened t M)))
          ≡ unchanged (refused 1) M
      go true M = refl
      go false M = refl

  module _ (low : 1 ≤ t) (high : t ≤ 16) where
    pub begin_open : is_open s t ≡ true → Performed s s (Refused 2) (begin t)
    unfolding next
    begin_open e = refusal 2 f (λ M h. let o : M.header.is_open t ≡ true = rw (← h.header) e in rw (le-leb 1 t low, le-leb t 16 high, o))

    begins : is_open s t ≡ false → (M : State) → Holds s M → next (begin t) M ≡ becomes done (opened t M)
    unfolding next
    begins e M h = let o : M.header.is_open t ≡ false = rw (← h.header) e in rw (le-leb 1 t low, le-leb t 16 high, o)

    pub begin_done : {s' : List ℕ} → is_open s t ≡ false → Left s s' (with_open (λ u. eqb u t || is_open s u) (header s)) (nodes s)
        → Performed s s' Done (begin t)
    unfolding granted_answer
    begin_done {s'} e k = performed_grants
        (record {
          formed = f;
          outcome = λ M h. ap (λ (n : Next). n.outcome) (begins e M h);
          state = λ M h. subst (λ (n : Next). Holds s' n.state) (sym (begins e M h)) (record {
            layout = k.layout;
            header = k.header ∙ ap (λ (q : Header). with_open (λ u. eqb u t || q.is_open u) q) h.header;
            rows = k.nodes ∙ h.rows;
            unique = rw k.nodes h.unique;
            valid = h.valid;
            sets = among_begun M.header h.sets t;
          });
          long = k.long;
          behind = k.behind;
        })
        Done refl

-- commit and abort ------------------------------------------------------------------------------------

end_rows : (end : Ending) (t : ℕ) (f : Tree)
    → flat 0 (end_tree end t f) ≡ two_passes end t (flat 0 f)
end_rows (Lasting n) t f = commit_rows n t f
end_rows Undone t f = abort_rows t f

end_unique : (end : Ending) (t : ℕ) (f : Tree) → unique (flat 0 f) ≡ true → unique (flat 0 (end_tree end t f)) ≡ true
end_unique (Lasting n) t f = unique_commit n t f
end_unique Undone t f = unique_abort t f

end_valid : (end : Ending) (t : ℕ) (f : Tree) → 1 ≤ t → valid_tree f ≡ true → valid_tree (end_tree end t f) ≡ true
end_valid (Lasting n) t f = valid_commit n t f
end_valid Undone t f = valid_abort t f

-- 13, 1 or 3; `behind` is what the definition has behind these
barred : {s : List ℕ} {t : ℕ} (call : Call) (behind : State → Next) → ((M : State) → next call M ≡ if_open t M (behind M)) → (cause : ℕ)
    → Barred s t cause → Performed s s (Refused cause) call
unfolding answer_of
barred call behind n cause b =
    (stopped_stays {o = refused cause} (λ u. ap Refused (b.unformed u)) (λ M h. n M ∙ b.formed M h (behind M)) refl (λ writing. refl)
    ).performed

commit_next : (t : ℕ) (M : State) → next (commit t) M
    ≡ if_open t M (refusing ((refused no_more_commits, commits_reached commit_limit M) ∷ []) M (becomes done (committed t M)))
unfolding next
commit_next t M = refl

abort_next : (t : ℕ) (M : State) → next (abort t) M ≡ if_open t M (becomes done (aborted t M))
unfolding next
abort_next t M = refl

module _ {s : List ℕ} {t : ℕ} where
  pub commit_barred : (cause : ℕ) → Barred s t cause → Performed s s (Refused cause) (commit t)
  commit_barred = barred (commit t) _ (commit_next t)

  pub abort_barred : (cause : ℕ) → Barred s t cause → Performed s s (Refused cause) (abort t)
  abort_barred = barred (abort t) _ (abort_next t)

  module _ (o : Opened s t) where
    -- what is left of the state M by an end; g is what else becomes of the header
    end_holds : (end : Ending) (g : Header → Header) (s' : List ℕ) (M : State)
        → Left s s' (g (ended t (header s))) (two_passes end t (nodes s)) → Holds s M → AmongOpen (g (ended t M.header))
        → Holds s' (record { header = g (ended t M.header); tree = end_tree end t M.tree })
    end_holds end g s' M k h a =
        holds_left {s = s} (record { header = g (ended t M.header); tree = end_tree end t M.tree })
        (record {
          layout = k.layout;
          long = k.long;
          behind = k.behind;
          header = k.header ∙ ap (λ (q : Header). g (ended t q)) h.header;
          nodes = k.nodes ∙ ap (two_passes end t) h.rows ∙ sym (end_rows end t M.tree);
        })
        (end_unique end t M.tree (holds_unique h)) (end_valid end t M.tree o.low h.valid) a

    -- granted: the definition's next state is N
    ended_done : (call : Call) (N : State → State) (s' : List ℕ) → ((M : State) → Holds s M → next call M ≡ becomes done (N M))
        → ((M : State) → Holds s M → Holds s' (N M)) → length s' ≡ length s → drop state_size s' ≡ drop state_size s
        → Performed s s' Done call
    unfolding granted_answer
    ended_done call N s' n k l b = performed_grants
        (record {
          formed = o.formed;
          outcome = λ M h. ap (λ (x : Next). x.outcome) (n M h);
          state = λ M h. subst (λ (x : Next). Holds s' x.state) (sym (n M h)) (k M h);
          long = l;
          behind = b;
        })
        Done refl

    pub abort_done : {s' : List ℕ} → Ended Undone t s s' → Performed s s' Done (abort t)
    abort_done {s'} k = ended_done (abort t) (aborted t) s' (λ M h. abort_next t M ∙ open_next o M h _)
        (λ M h. end_holds Undone (λ q. q) s' M k h (among_ended M.header h.sets t)) k.long k.behind

    -- the number of commits that the bytes hold
    module _ (k : ℕ) (e : k ≡ commits s) where
      commits_are : (M : State) → Holds s M → k ≡ M.header.commits
      commits_are M h = e ∙ ap (λ (q : Header). q.commits) h.header

      pub commit_full : commit_limit ≤ k → Performed s s (Refused no_more_commits) (commit t)
      commit_full l = refusal no_more_commits o.formed (λ M h.
          let f : leb commit_limit M.header.commits ≡ true = rw (← commits_are M h) (le-leb commit_limit k l) in
          commit_next t M ∙ open_next o M h _ ∙ rw f)

      pub commit_done : {s₁ s₂ : List ℕ} → k < commit_limit → Ended (Lasting (k + 1)) t s s₁
          → Left s₁ s₂ (with_commits (k + 1) (header s₁)) (nodes s₁) → Performed s s₂ Done (commit t)
      commit_done {s₁} {s₂} l a b =
          let left : Left s s₂ (with_commits (k + 1) (ended t (header s))) (two_passes (Lasting (k + 1)) t (nodes s)) =
          left_on (two_passes (Lasting (k + 1)) t (nodes s)) (with_commits (k + 1)) (λ ns. ns) a b in
          ended_done (commit t) (committed t) s₂
          (λ M h.
          let f : leb commit_limit M.header.commits ≡ false = rw (← commits_are M h) (lt-leb commit_limit k l) in
          commit_next t M ∙ open_next o M h _ ∙ rw f)
          (λ M h.
          let c : k + 1 ≡ next_count M = omega (arith, commits_are M h) in
          subst (λ (j : ℕ). Holds s₂ (closed t (commit_tree j t M.tree) (with_header (with_commits j M.header) M))) c
          (end_holds (Lasting (k + 1)) (with_commits (k + 1)) s₂ M left h (among_ended M.header h.sets t)))
          left.long left.behind
