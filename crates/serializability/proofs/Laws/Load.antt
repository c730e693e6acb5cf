-- A document that was loaded bears no marks, and nobody has a log.
use Rattle.std.specs.Prelude.{ℕ, ◌≡◌, refl, true, false, List, [], ◌∷◌, map, eqb}
use Rattle.std.proofs.Common.{sym, ap, ◌∙◌, true≢false, ne_eqb}
use Rattle.tree.specs.Forest.{nil, node, rows, view}
use Rattle.tree.specs.Document.{Node, Document, Line, lines, numbers}
use Rattle.tree.specs.Laws.Lists.{map_append}
use Rattle.tree.specs.Laws.View.{in_view}
use Rattle.protocol.specs.State.{nobody, State, Marked, is_transaction, unmarked, tree_of, with_tree}
use Rattle.serializability.proofs.Laws.Lines.{Unique}
use Rattle.serializability.proofs.Laws.Parts.{end, all}
use Rattle.serializability.proofs.Laws.Runs.{not_of_end}
use Rattle.serializability.proofs.Laws.Orders.{logs}
use Rattle.serializability.proofs.Laws.Serial.{serial_same}
use Rattle.serializability.proofs.Laws.Shown.{Place, Inside, load_shown}
use Rattle.serializability.proofs.Laws.Numbers as places
use Rattle.serializability.proofs.Laws.Good.{shown_of, Good}
use Rattle.serializability.proofs.Laws.GoodLaws.{no_log}

load_numbers : (p : List Marked) (q : List ℕ) (d : Document)
    → map places.number_of (rows (λ a. a) p (tree_of d)) ≡ numbers (rows (λ a. a.number) q d)
unfolding tree_of view rows
load_numbers p q nil = refl
load_numbers p q (node a ks fs) = rw (
  map_append places.number_of (rows (λ b. b) (unmarked a ∷ p) (tree_of ks)) (rows (λ b. b) p (tree_of fs)),
  map_append (λ (r : Line). r.it.number) (rows (λ b. b.number) (a.number ∷ q) ks) (rows (λ b. b.number) q fs),
  load_numbers (unmarked a ∷ p) (a.number ∷ q) ks,
  load_numbers p q fs,
)

load_distinct : (d : Document) → Unique d → places.Distinct (tree_of d)
unfolding places.Distinct lines
load_distinct d u = rw (load_numbers [] [] d) u

-- nobody marked a node
pub load_unmarked : (d : Document) (r : Place) → Inside r (tree_of d) → (a : Node) × (r.it ≡ unmarked a)
unfolding tree_of
load_unmarked d r i =
    let v = in_view (λ (a : Node). a) (λ a. true) (λ a. true) (λ a. refl) unmarked (λ a. a) unmarked (λ a. refl) [] d refl i in
    (v.0.it, ap (λ (x : Place). x.it) v.3)

-- logs with nothing in them
no_logs : (b : List ℕ) → logs (λ u. end) b ≡ end
no_logs [] = refl
no_logs (t ∷ b) = no_logs b

-- no part is open
pub load_good : (d : Document) → Unique d → (M : State) → ((u : ℕ) → M.header.is_open u ≡ true → is_transaction u ≡ true)
    → ((u : ℕ) → M.header.depth u ≡ 0) → Good d (λ u l. end) (with_tree M (tree_of d))
load_good d u M n z = record {
  closed = λ v e l. refl;
  deeper = λ v l h. refl;
  no_parts = λ v e. z v;
  numbered = n;
  covered = record {
    distinct = load_distinct d u;
    guarded = λ r i v nv h. absurd (true≢false (sym h ∙ rw ((load_unmarked d r i).1, is_nobody v nv)));
    authored = λ r i v nv h. absurd (true≢false (sym h ∙ rw (load_unmarked d r i).1 (is_nobody v nv)));
  };
  standing = λ v y i. absurd (not_of_end (rw (no_log all (M.header.depth v) (λ l. end) (λ l. refl)) at i));
  brought = λ r i e. absurd (e (ap (λ (a : Marked). a.inserter) (load_unmarked d r i).1));
  levels = λ r i. rw (load_unmarked d r i).1 (record { insertion = λ e. absurd (e refl); deletion = λ e. absurd (e refl); writes = tt });
  touched = λ r i v nv x p e. rw (no_log x (M.header.depth v) (λ l. end) (λ l. refl), (load_unmarked d r i).1, is_nobody v nv);
  serial = λ x p b k. serial_same d b (λ v. end) _ _ (λ v. sym (no_log (x v) (M.header.depth v) (λ l. end) (λ l. refl))) (record {
    unique = u;
    distinct = k;
    apart = record { clear = λ v w ne y y' i j. absurd (not_of_end i); once = λ v. tt };
    none_there = λ v i y m. absurd (not_of_end m);
    run = rw (no_logs b) (sym (load_shown (shown_of x b) d));
  });
}
  where
    is_nobody : (v : ℕ) → (v ≡ nobody → ⊥) → eqb nobody v ≡ false
    is_nobody v nv = ne_eqb nobody v (λ e. nv (sym e))
