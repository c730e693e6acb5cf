-- A.7: the counts are those of the plain run.
use Rattle.std.specs.Prelude.{ℕ, ◌≡◌, Bool, true, cond, leb}
use Rattle.std.proofs.Math.Path.{refl, ap, fun_ext}
use Rattle.std.proofs.Common.{sym, ◌∙◌, eqb-true, eq-eqb}
use Rattle.std.proofs.Math.Bool.{and-true}
use mathlib.Core.List.Memᴰ
use mathlib.Core.List.{List, [], ◌∷◌, map, Memᴰ}
use Rattle.std.proofs.lemmas.List.{length-map}
use Rattle.tree.specs.Plain.{told}
use Rattle.tree.specs.Lists.{keep}
use Rattle.tree.specs.Forest.{Forest, view}
use Rattle.tree.specs.Document.{here}
use Rattle.tree.specs.Steps.{done, how_many}
use Rattle.tree.specs.Laws.Tests.{and_left}
use Rattle.tree.specs.Laws.Lists.{keep_in, in_keep}
use Rattle.tree.specs.Laws.View.{view_view, view_agree}
use Rattle.protocol.specs.State.{nobody, State, Marked, nodes, has_number, shown, as_shown, document_of, nothing, committed_document}
use Rattle.protocol.specs.State.{committed_with_counts}
use Rattle.protocol.proofs.Laws.Shown.{shown_committed}
use Rattle.protocol.specs.Causes.{no_such_node, no_more_commits}
use Rattle.protocol.specs.Calls.{Call, commit, count_of, granted, refused, commit_limit, first_count, commit_count, next}
use Rattle.protocol.specs.History.{plain, plain_counts, plain_with_counts}
use Rattle.serializability.specs.Theorem.{since_start, reached, commits_in, WithoutCounts, CountsPlain}
use Rattle.serializability.proofs.Laws.Tests.{by_test}
use Rattle.serializability.proofs.Laws.Shown.{Place, Inside}
use Rattle.serializability.proofs.Laws.Numbers.{number_of, one_place, place_node, node_place}
use Rattle.serializability.proofs.Laws.CountsKept.{counts_of}
use Rattle.serializability.proofs.Laws.Tracks.{Tracks}
use Rattle.serializability.proofs.Laws.AnyOrder.{entries, reached_tracks, fed_is}
use Rattle.serializability.proofs.Laws.DocumentCount.{document_count}
use Rattle.serializability.proofs.Laws.Held.{visible, here_place}
use Rattle.serializability.proofs.Laws.OneCall.{commit_outcome}
use Rattle.serializability.proofs.Laws.Main.{plain_committed}

-- all of a view
view_all : {A B C : Type 0} (shown : A → Bool) (g : A → B) (g' : B → C) (f : Forest A)
    → view (λ a. true) g' (view shown g f) ≡ view shown (λ a. g' (g a)) f
view_all shown g g' f = view_view shown g (λ a. true) g' f ∙ ap (λ s. view s (λ a. g' (g a)) f) (fun_ext (λ a. and-true (shown a)))

-- where all have one count, the first has it
first_is : (l : List Marked) {a : Marked} {n : ℕ} → Memᴰ a l → ((b : Marked) → Memᴰ b l → b.count ≡ n) → first_count l ≡ n
first_is [] m h = absurd (Memᴰ.not-nil m)
first_is (b ∷ l) m h = h b (Memᴰ.head refl)

pub committed_without_counts : WithoutCounts
unfolding committed_with_counts document_of
committed_without_counts M = view_all (shown nothing) _ (λ a. a.node) M.tree

module _ (cs : List Call) where
  abbrev M : State
  M = reached cs

  abbrev tr : Tracks (entries cs) (reached cs)
  tr = reached_tracks cs

  -- the plain run's counts are those of the log
  count_is : plain_counts (since_start cs) ≡ counts_of (entries cs)
  unfolding plain_counts
  count_is = rw (fed_is cs)

  -- a node of the committed document bears its count
  bears : (r : Place) → Inside r M.tree → visible nothing r ≡ true → r.it.count ≡ plain_counts (since_start cs) (number_of r)
  bears r i v = rw count_is (tr.counts r i (eqb-true _ nobody (sym (shown_committed r.it) ∙ and_left _ _ v)))

  counts_equal : committed_with_counts M ≡ plain_with_counts (since_start cs)
  unfolding committed_with_counts document_of
  counts_equal = rw (← plain_committed cs) (sym (view_all (shown nothing) (as_shown nothing) _ M.tree
      ∙ view_agree (λ a. a) (shown nothing) (shown nothing) (λ a. refl) (shown nothing) _ _ [] M.tree refl (λ r i e. refl)
      (λ r i v. ap (λ (c : ℕ). record { node = as_shown nothing r.it; count = c }) (sym (bears r i v)))))

  -- the one node with this number
  count_found : (n : ℕ) → here n (committed_document M) ≡ true → commit_count n M.tree ≡ plain_counts (since_start cs) n
  count_found n h =
      let p = here_place nothing M.tree n h in
      first_is (keep (has_number n) (nodes M.tree)) (keep_in (has_number n) (nodes M.tree) (place_node M.tree p.1)
      (eq-eqb _ n p.3))
      (λ a m. let k = in_keep (has_number n) (nodes M.tree) m in
      let s = node_place M.tree k.0 in
      let e : s.0 ≡ p.0 = one_place M.tree tr.good.covered.distinct s.1 p.1
      (ap (λ (x : Marked). x.now.number) s.2 ∙ eqb-true _ n k.1 ∙ sym p.3) in
      ap (λ (x : Marked). x.count) (sym s.2) ∙ ap (λ (x : Place). x.it.count) e)
      ∙ bears p.0 p.1 p.2 ∙ ap (plain_counts (since_start cs)) p.3

  count_told : (n : ℕ) → (next (count_of n) M).outcome
      ≡ cond (here n (plain (since_start cs))) (granted (how_many (plain_counts (since_start cs) n))) (refused no_such_node)
  unfolding next
  count_told n = rw (← plain_committed cs) (by_test (here n (committed_document M)) (λ e. rw (e, count_found n e)) (λ e. rw e))

  commits_same : M.header.commits ≡ commits_in (since_start cs)
  commits_same = rw (fed_is cs) (tr.commits ∙ sym (length-map (entries cs).committed (map (told (λ x. x.step)))))

  commit_limited : (t : ℕ) → M.header.is_open t ≡ true → (next (commit t) M).outcome
      ≡ cond (leb commit_limit (commits_in (since_start cs))) (refused no_more_commits) (granted done)
  commit_limited t o = rw (← commits_same) (commit_outcome t M (tr.good.numbered t o) o)

pub counts_plain : (cs : List Call) → CountsPlain cs
counts_plain cs = record {
  equal = counts_equal cs;
  told = count_told cs;
  document = document_count cs;
  commits = commits_same cs;
  limit = commit_limited cs;
}
