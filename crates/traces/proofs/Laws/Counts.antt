-- The counts that the codes tell are those of the plain run, which is fed from arguments and codes alone.
use Rattle.std.specs.Prelude.{◌≡◌, refl, ℕ, ◌<◌, Bool, true, false, cond, List, length, leb}
use Rattle.std.proofs.Common.{sym, ap, ◌∙◌}
use Rattle.std.proofs.lemmas.List.{length-map}
use Rattle.std.proofs.lemmas.Bool.{lt-leb}
use Rattle.tree.specs.Document.{Document, here}
use Rattle.tree.specs.Counts.{with_counts}
use Rattle.tree.specs.Steps.{done, how_many}
use Rattle.protocol.specs.State.{State, committed_document, committed_with_counts}
use Rattle.protocol.specs.Causes.{no_such_node, no_more_commits}
use Rattle.protocol.specs.Calls.{Call, commit, count_of, Outcome, granted, refused, commit_limit, commits_reached, next}
use Rattle.protocol.specs.History.{Log, plain, plain_counts}
use Rattle.protocol.specs.Answers.{granted_answer, code_of, answer_of}
use Rattle.protocol.specs.declared.Answer.{Answer}
use Rattle.protocol.specs.declared.Answer.TheVariants.{Done, Count, Refused}
use Rattle.xml_write.specs.Contract.{writing}
use Rattle.serializability.specs.Theorem.{since_start, reached, commits_in}
use Rattle.serializability.proofs.Laws.Reached.{always_reached}
use Rattle.serializability.proofs.Laws.Main.{plain_committed}
use Rattle.serializability.proofs.Laws.DocumentCount.{root_here}
use Rattle.serializability.proofs.Laws.Counts.{counts_plain}
use Rattle.traces.specs.Exchange.{Exchange}
use Rattle.traces.specs.Theorem.{Demand2, GrantedStep, operations, Feeds, plain_left, counts_of}

-- the code of one of two outcomes
told_cond : {M : State} {c : Call} (y : Exchange) (b : Bool) (o p : Outcome) (a a' : Answer) → Demand2 M y c
    → (next c M).outcome ≡ cond b o p → ((w : Document → Answer) → answer_of w o ≡ a) → ((w : Document → Answer) → answer_of w p ≡ a')
    → y.code ≡ code_of (cond b a a')
told_cond y b o p a a' d e f g = d.by_definition.code ∙ ap code_of (ap (answer_of w) e ∙ go b)
  where
    w : Document → Answer
    w = writing (length y.first.before)

    go : (b : Bool) → answer_of w (cond b o p) ≡ cond b a a'
    go true = f w
    go false = g w

-- L feeds the plain run of the calls cs
module _ (cs : List Call) (L : Log GrantedStep) (f : Feeds L (since_start cs)) where
  plain_is : plain_left L.initial L.committed ≡ plain (since_start cs)
  unfolding plain
  plain_is = rw (f.initial, f.committed)

  counts_are : counts_of L ≡ plain_counts (since_start cs)
  unfolding plain_counts
  counts_are = rw (f.initial, f.committed)

  commits_are : commits_in (since_start cs) ≡ length L.committed
  commits_are = ap length (sym f.committed) ∙ length-map L.committed operations

  -- short of the limit
  pub commits_left : length L.committed < commit_limit → commits_reached commit_limit (reached cs) ≡ false
  commits_left h = rw ((counts_plain cs).commits ∙ commits_are) (lt-leb commit_limit (length L.committed) h)

  pub counts_plain_left : committed_with_counts (reached cs) ≡ with_counts (counts_of L) (plain_left L.initial L.committed)
  counts_plain_left = rw (plain_is, counts_are) (counts_plain cs).equal

  pub count_told : (n : ℕ) (y : Exchange) → Demand2 (reached cs) y (count_of n)
      → y.code ≡ code_of (cond (here n (plain_left L.initial L.committed)) (Count (counts_of L n)) (Refused no_such_node))
  unfolding answer_of granted_answer
  count_told n y d = rw (plain_is, counts_are) (told_cond y (here n (plain (since_start cs)))
      (granted (how_many (plain_counts (since_start cs) n))) (refused no_such_node) (Count (plain_counts (since_start cs) n))
      (Refused no_such_node) d ((counts_plain cs).told n) (λ w. refl) (λ w. refl))

  -- node 0 is in every document by the rules
  pub document_told : (y : Exchange) → Demand2 (reached cs) y (count_of 0) → y.code ≡ code_of (Count 0)
  document_told y d =
      let h : here 0 (plain (since_start cs)) ≡ true = rw (← plain_committed cs)
      (root_here (committed_document (reached cs)) ((always_reached cs).documents_legal (λ u. false))) in
      count_told 0 y d ∙ rw (plain_is, counts_are, h, (counts_plain cs).document)

  pub limit_told : (t : ℕ) → (reached cs).header.is_open t ≡ true → (y : Exchange)
      → Demand2 (reached cs) y (commit t)
      → y.code ≡ code_of (cond (leb commit_limit (length L.committed)) (Refused no_more_commits) Done)
  unfolding answer_of granted_answer
  limit_told t o y d = rw (← commits_are) (told_cond y (leb commit_limit (commits_in (since_start cs))) (refused no_more_commits)
      (granted done) (Refused no_more_commits) Done d ((counts_plain cs).limit t o) (λ w. refl) (λ w. refl))
