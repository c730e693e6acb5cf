-- From what the call finds to the definition of protocol.
use Rattle.std.specs.Prelude.{◌≡◌, ℕ, ◌≤◌, ◌<◌, true, false, List, ◌∷◌, length}
use Rattle.std.proofs.Math.Path.{refl}
use Rattle.std.proofs.Common.{ap, ◌∙◌, le-ltb}
use Rattle.tree.specs.Document.{here}
use Rattle.tree.specs.Steps.{how_many}
use Rattle.tree.specs.Laws.Lists.{every_same}
use Rattle.protocol.specs.State.{State, Tree, shown, as_shown, nothing, number_held, document_of, committed_document}
use Rattle.protocol.specs.Calls.{count_of, refused, first_count, commit_count, unchanged, becomes, next}
use Rattle.protocol.specs.Causes.{no_such_node}
use Rattle.protocol.specs.Answers.{answer_of, granted_answer}
use Rattle.protocol.specs.declared.Answer.TheVariants.{Count, Refused}
use Rattle.table.specs.Flat.{flat}
use Rattle.table.specs.Layout.{nodes}
use Rattle.rows.specs.Places.{item, ups, place_of, is_committed}
use Rattle.protocol.proofs.Laws.Shown.{shown_committed}
use Rattle.rows.proofs.Laws.Find.{Holder, holder, held_place, found_number, nodes_numbered, view_nowhere, view_here}
use Rattle.form.specs.Form.{form, Holds}
use Rattle.engine.specs.Contract.{Performed}
use Rattle.engine.specs.Laws.Outcomes.{performed_stays, performed_grants}
use Rattle.counts.specs.Committed.{committed_at}

-- the committed document ---------------------------------------------------------------------

committed_nowhere : (n : ℕ) (f : Tree) → number_held n f ≡ false → here n (document_of nothing f) ≡ false
unfolding document_of
committed_nowhere n f h = view_nowhere (shown nothing) (as_shown nothing) (λ a. refl) n f h

module _ {f : Tree} {n p : ℕ} (o : Holder f n p) where
  committed_here : here n (document_of nothing f) ≡ committed_at (flat 0 f) p
  unfolding document_of committed_at
  committed_here =
      view_here (shown nothing) (as_shown nothing) (λ a. refl) o
      ∙ every_same (shown nothing) is_committed (item (flat 0 f) p ∷ ups (flat 0 f) p) (λ a m. shown_committed a)

  count_here : commit_count n f ≡ (item (flat 0 f) p).count
  count_here = ap first_count (nodes_numbered o)

-- the call -----------------------------------------------------------------------------------

module _ (n : ℕ) (M : State) where
  next_unknown : here n (committed_document M) ≡ false → next (count_of n) M ≡ unchanged (refused no_such_node) M
  unfolding next
  next_unknown e = rw e

  next_told : here n (committed_document M) ≡ true → next (count_of n) M ≡ becomes (how_many (commit_count n M.tree)) M
  unfolding next
  next_told e = rw e

unknown : {s : List ℕ} {n : ℕ} → form s ≡ true → ((M : State) → Holds s M → here n (committed_document M) ≡ false)
    → Performed s s (Refused 7) (count_of n)
unfolding answer_of
unknown {s} {n} f h = performed_stays (record { formed = f; next = λ M k. next_unknown n M (h M k); quiet = refl }) (Refused 7)
    (λ writing. refl)

module _ {s : List ℕ} {n p : ℕ} (f : form s ≡ true) (e : p ≡ place_of n (nodes s)) where
  -- no node has the number
  pub count_nowhere : length (nodes s) ≤ p → Performed s s (Refused 7) (count_of n)
  count_nowhere k = unknown f (λ M h. committed_nowhere n M.tree
      (held_place n M.tree ∙ rw (← h.rows, ← e) (le-ltb p (length (nodes s)) k)))

  module _ (k : p < length (nodes s)) where
    at_place : (M : State) → Holds s M → Holder M.tree n p
    at_place M h = holder M.tree n p (rw (← h.rows) h.unique) (rw (← h.rows) k)
        (rw (← h.rows, e) (found_number n (nodes s) (rw (← e) k)))

    -- an open transaction inserted the node or one above it
    pub count_inserted : committed_at (nodes s) p ≡ false → Performed s s (Refused 7) (count_of n)
    count_inserted c = unknown f (λ M h. committed_here (at_place M h) ∙ rw (← h.rows) c)

    pub count_told : {v : ℕ} → committed_at (nodes s) p ≡ true → v ≡ (item (nodes s) p).count → Performed s s (Count v) (count_of n)
    unfolding granted_answer
    count_told {v} c w =
        let told : (M : State) → Holds s M → next (count_of n) M ≡ becomes (how_many v) M =
        λ M h. next_told n M (committed_here (at_place M h) ∙ rw (← h.rows) c) ∙ rw (count_here (at_place M h), w, h.rows) in
        performed_grants {v = how_many v}
        (record {
          formed = f;
          outcome = λ M h. rw (told M h);
          state = λ M h. rw (told M h) h;
          long = refl;
          behind = refl;
        })
        (Count v) refl
