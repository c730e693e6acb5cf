-- No edit gives two rows one number.
use Rattle.std.specs.Prelude.{◌≡◌, refl, ℕ, suc, ◌<◌, Bool, true, false, cond, ◌&&◌, List, [], ◌∷◌, ◌++◌, map, length, take, drop, eqb}
use Rattle.std.proofs.Common.{sym, ap, ◌∙◌, take-append-drop}
use Rattle.tree.specs.Lists.{any, every, keep, distinct}
use Rattle.tree.specs.Forest.{nil, node, Row, row, rows, amend, view}
use Rattle.tree.specs.Document.{Node, Document, lines, rooted, ruled, legal}
use Rattle.tree.specs.Steps.{Step, T, C, R, U, D, I, TT, RR, UU, target, inserts}
use Rattle.tree.specs.Laws.Tests.{or_left, or_right, and_right}
use Rattle.tree.specs.Laws.Lists.{any_append, map_append, map_map, eqb_flip}
use Rattle.protocol.specs.State.{Marked, Tree, has_number, number_held, seen_by, lasting, undone, unmarked, inserted_by, renamed}
use Rattle.protocol.specs.State.{written_by, grant, act, commit_tree, abort_tree, tree_of}
use Rattle.locks.specs.Needs.{Lock}
use Rattle.table.specs.Lists.{insert}
use Rattle.table.specs.Flat.{flat, second, prune}
use Rattle.table.specs.Layout.{Entry}
use Rattle.rows.specs.Places.{items, number_of, unique}
use Rattle.rows.proofs.Laws.NodeAt.{lines_of, none_first, none_second}
use Rattle.rows.proofs.Laws.Find.{unique_head, nodes_held, has_items, rows_nodes}
use Rattle.rows.proofs.Laws.Subtree.{shown_forest}
use Rattle.tree.specs.Laws.Distinct.{distinct_keep}
use Rattle.rows.specs.Rows.{row_number, row_numbers, number_at, Lacks, not_inserted_by}
use Rattle.rows.proofs.Laws.Ends.{flat_view, load_rows}
use Rattle.rows.proofs.Laws.Insertion.{insert_rows}

-- changes that keep every number
numbers_amend : (g : Row Marked Marked → Marked) → ((r : Row Marked Marked) → number_of (g r) ≡ number_of r.it)
    → (d : ℕ) (up : List Marked) (f : Tree)
    → row_numbers (flat d (amend (λ a. a) g up f)) ≡ row_numbers (flat d f)
unfolding flat amend
numbers_amend g same d up nil = refl
numbers_amend g same d up (node a ks fs) =
    rw (
      same (row a up),
      map_append row_number (flat (suc d) (amend (λ a. a) g (a ∷ up) ks)) (flat d (amend (λ a. a) g up fs)),
      map_append row_number (flat (suc d) ks) (flat d fs),
      numbers_amend g same (suc d) (a ∷ up) ks,
      numbers_amend g same d up fs,
    )

pub unique_grant : (t : ℕ) (ls : List Lock) (f : Tree) → unique (flat 0 (grant t ls f)) ≡ unique (flat 0 f)
unfolding grant
unique_grant t ls f = ap distinct (numbers_amend _ (λ r. refl) 0 [] f)

unique_mark : (test : Row Marked Marked → Bool) (g : Marked → Marked) → ((a : Marked) → number_of (g a) ≡ number_of a) → (f : Tree)
    → unique (flat 0 (amend (λ a. a) (λ r. cond (test r) (g r.it) r.it) [] f)) ≡ unique (flat 0 f)
unique_mark test g same f = ap distinct (numbers_amend (λ r. cond (test r) (g r.it) r.it) (λ r. go (test r) r.it) 0 [] f)
  where
    go : (b : Bool) (a : Marked) → number_of (cond b (g a) a) ≡ number_of a
    go true a = same a
    go false a = refl

-- a new number --------------------------------------------------------------------------------

head_unique : (x : Entry) (l : List Entry) → Lacks (row_number x) l → unique l ≡ true → unique (x ∷ l) ≡ true
head_unique x l h e = rw (has_items (row_number x) l ∙ h) e

unique_between : (u v : List Entry) (x : Entry) → unique (u ++ v) ≡ true → Lacks (row_number x) (u ++ v) → unique (u ++ (x ∷ v)) ≡ true
unique_between [] v x h k = head_unique x v k h
unique_between (y ∷ u) v x h k =
    let a = unique_head y (u ++ v) h in
    let n : ℕ = row_number y in
    let i : eqb (row_number x) n ≡ false = eqb_flip (row_number y) (row_number x) (or_left (has_number (row_number x) y.1) _ k) in
    let b : Lacks n (u ++ (x ∷ v)) =
    ap (any (has_number n)) (map_append (λ (z : Entry). z.1) u (x ∷ v))
    ∙ any_append (has_number n) (items u) (items (x ∷ v))
    ∙ rw (none_first (has_number n) u v a.0, i) (none_second (has_number n) u v a.0) in
    head_unique y (u ++ (x ∷ v)) b (unique_between u v x a.1 (or_right (has_number (row_number x) y.1) _ k))

unique_insert : (i : ℕ) (x : Entry) (l : List Entry) → unique l ≡ true → Lacks (row_number x) l → unique (insert i x l) ≡ true
unfolding insert
unique_insert i x l h k =
    let e = take-append-drop i l in
    unique_between (take i l) (drop i l) x (ap unique e ∙ h) (ap (λ z. any (has_number (row_number x)) (items z)) e ∙ k)

-- a step ----------------------------------------------------------------------------------------

pub unique_act : (t level : ℕ) (s : Step) (f : Tree) (p : ℕ) → unique (flat 0 f) ≡ true → p < length (flat 0 f)
    → number_at (flat 0 f) p ≡ target s
    → any (λ m. number_held m f) (inserts s) ≡ false → unique (flat 0 (act t level s f)) ≡ true
unique_act t level (T n) f p u h e new = u
unique_act t level (C n k) f p u h e new = u
unique_act t level (R n) f p u h e new = u
unique_act t level (U n b) f p u h e new = unique_mark (λ r. has_number n r.it) (written_by t level b) (λ a. refl) f ∙ u
unique_act t level (D n) f p u h e new = unique_mark (λ r. has_number n r.it) _ (λ a. refl) f ∙ u
unique_act t level (I m kind b n k) f p u h e new =
    let x : Marked = inserted_by t level (record { number = m; kind = kind; content = b }) in
    ap unique (insert_rows t n k x f p u h e)
    ∙ unique_insert _ _ (flat 0 f) u (ap (any (has_number m)) (sym (nodes_held f)) ∙ or_left _ _ new)
unique_act t level (TT n) f p u h e new = u
unique_act t level (RR n) f p u h e new = u
unique_act t level (UU n a b) f p u h e new = unique_mark (renamed t n a) (written_by t level b) (λ a. refl) f ∙ u

-- ends ------------------------------------------------------------------------------------------

unique_view : (shown : Marked → Bool) (g : Marked → Marked) → ((a : Marked) → number_of (g a) ≡ number_of a) → (f : Tree)
    → unique (flat 0 f) ≡ true
    → unique (flat 0 (view shown g f)) ≡ true
unique_view shown g same f u =
    let visible : Row Marked Marked → Bool = λ r. every shown (r.it ∷ r.above) in
    let held : map (λ r. number_of r.it) (lines_of [] f) ≡ row_numbers (flat 0 f) =
    by_node (lines_of [] f) (flat 0 f) (rows_nodes (λ a. a) 0 [] f) in
    ap distinct (ap row_numbers (flat_view shown g 0 f) ∙ map_map row_number (second g) row_number (prune shown 0 (flat 0 f))
    (λ x m. same x.1)
    ∙ sym (by_node (keep visible (lines_of [] f)) (prune shown 0 (flat 0 f)) (shown_forest shown [] 0 f refl)))
    ∙ distinct_keep (λ r. number_of r.it) visible (lines_of [] f) (ap distinct held ∙ u)
  where
    by_node : (l : List (Row Marked Marked)) (k : List Entry) → map (λ r. r.it) l ≡ items k
        → map (λ r. number_of r.it) l ≡ row_numbers k
    by_node l k e =
        sym (map_map number_of (λ (r : Row Marked Marked). r.it) (λ r. number_of r.it) l (λ r m. refl)) ∙ ap (map number_of) e
        ∙ map_map number_of (λ (x : Entry). x.1) row_number k (λ x m. refl)

pub unique_commit : (k t : ℕ) (f : Tree) → unique (flat 0 f) ≡ true → unique (flat 0 (commit_tree k t f)) ≡ true
unfolding commit_tree
unique_commit k t f u = unique_view (seen_by t) (lasting k t) (λ a. refl) f u

pub unique_abort : (t : ℕ) (f : Tree) → unique (flat 0 f) ≡ true → unique (flat 0 (abort_tree t f)) ≡ true
unfolding abort_tree
unique_abort t f u = unique_view (not_inserted_by t) (undone t) (λ a. refl) f u

-- what is loaded ----------------------------------------------------------------------------------

pub unique_load : (d : Document) → legal d ≡ true → unique (flat 0 (tree_of d)) ≡ true
unfolding legal lines
unique_load d h =
    let number : Node → ℕ = λ a. a.number in
    ap unique (load_rows d)
    ∙ ap distinct (map_map row_number (second unmarked) (λ (x : ℕ × Node). x.1.number) (flat 0 d) (λ x m. refl)
    ∙ sym (map_map number (λ (x : ℕ × Node). x.1) (λ x. x.1.number) (flat 0 d) (λ x m. refl))
    ∙ ap (map number) (sym (rows_nodes number 0 [] d))
    ∙ map_map number (λ (r : Row Node ℕ). r.it) (λ r. r.it.number) (rows number [] d) (λ r m. refl))
    ∙ and_right (rooted d && ruled d) _ h
