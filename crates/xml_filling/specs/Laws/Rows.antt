-- Rows put behind the nodes held, and that the rows of an input are the nodes of its document.
use Rattle.std.specs.Prelude.{ℕ, suc, ◌+◌, ◌≤◌, ◌≡◌, refl, true, List, [], ◌∷◌, ◌++◌, length}
use Rattle.std.proofs.Common.{sym, ap, ap₂, ◌∙◌, append_assoc, append-nil, arith, length-append}
use Rattle.tree.specs.Forest.{nil, node, view}
use Rattle.tree.specs.Content.{content_limit}
use Rattle.tree.specs.Document.{node_0_alone}
use Rattle.protocol.specs.State.{unmarked, tree_of}
use Rattle.table.specs.Flat.{flat}
use Rattle.table.specs.Layout.{Entry, nodes}
use Rattle.xml.specs.Shape.{Label, Shape, size, longest, numbered, document}
use Rattle.xml.specs.Laws.Automaton.{Event, tell_bytes, tell}
use Rattle.xml.specs.Laws.Counts.{births, peak}
use Rattle.xml.proofs.Laws.Counts.{births_bytes, peak_bytes}
use Rattle.xml.proofs.Laws.Unique.{Fresh, fresh_end, fresh_node, same_bytes}
use Rattle.xml_filling.specs.Fill.{Row, listed, told, entries, with_rows, Short, Put}

pub entries_append : (i : ℕ) (k l : List Row) → entries i (k ++ l) ≡ entries i k ++ entries (i + length k) l
unfolding entries
entries_append i [] l = let p : i + 0 ≡ i = omega arith in rw p
entries_append i (x ∷ k) l = let p : i + suc (length k) ≡ suc i + length k = omega arith in rw (p, entries_append (suc i) k l)

pub length_entries : (i : ℕ) (l : List Row) → length (entries i l) ≡ length l
unfolding entries
length_entries i [] = refl
length_entries i (x ∷ l) = ap suc (length_entries (suc i) l)

-- the rows l behind the rows k
module _ {s s' : List ℕ} (k : List Row) (p : Put s s' k) where
  pub many_put : length (nodes s') ≡ length (nodes s) + length k
  many_put =
      ap length p.nodes ∙ length-append (nodes s) (entries (length (nodes s)) k) ∙ omega (arith, length_entries (length (nodes s)) k)

  pub rows_behind : (l : List Row) → with_rows s' l ≡ with_rows s (k ++ l)
  rows_behind l =
      let n = length (nodes s) in
      rw (many_put, p.nodes, entries_append n k l, append_assoc (nodes s) (entries n k) (entries (n + length k) l))

pub short_behind : (k l : List Row) → Short (k ++ l) → Short l
unfolding Short
short_behind [] l h = h
short_behind (x ∷ k) l h = short_behind k l h.1

-- what tells rows --------------------------------------------------------------------------

pub told_listed : (d : ℕ) (f : Shape) (l : List Row) (e : List Event) → told (listed d f l) e ≡ tell d f (told l e)
unfolding listed told tell
told_listed d nil l e = refl
told_listed d (node a g f) l e = rw (told_listed (suc d) g (listed d f l) e, told_listed d f l e)

fresh_told : (l : List Row) {e : List Event} → Fresh e → Fresh (told l e)
unfolding told
fresh_told [] h = h
fresh_told (x ∷ l) h = fresh_node

pub births_told : (l : List Row) → births (told l []) ≡ length l
unfolding told births
births_told [] = refl
births_told (x ∷ l) = ap suc (births_bytes x.1.content (told l []) ∙ births_told l)

pub peak_told : (k : ℕ) (l : List Row) → k ≤ content_limit → Short l → peak k (told l []) ≤ content_limit
unfolding told peak Short
peak_told k [] h s = h
peak_told k (x ∷ l) h s =
    let m = peak_told (0 + length x.1.content) l (omega (arith, s.0)) s.1 in
    omega (arith, peak_bytes 0 x.1.content (told l []))

-- rows that are told first are the first rows
pub split_rows : (k l : List Row) {e : List Event} → Fresh e → told l [] ≡ told k e → (m : List Row) × (l ≡ k ++ m) × (told m [] ≡ e)
unfolding told
split_rows [] l h p = (l, refl, p)
split_rows (x ∷ k) [] h p = absurd (let z : ◌≡◌ {A = ℕ} 0 1 = cc in omega arith)
split_rows (x ∷ k) (y ∷ l) {e} h p =
    let a : y.0 ≡ x.0 = cc in
    let b : y.1.kind ≡ x.1.kind = cc in
    let q : tell_bytes y.1.content (told l []) ≡ tell_bytes x.1.content (told k e) = cc in
    let r = same_bytes y.1.content x.1.content (fresh_told l fresh_end) (fresh_told k h) q in
    let w : y.1 ≡ x.1 = ap₂ (λ (i : ℕ) (c : List ℕ). record { kind = i; content = c }) b r.0 in
    let v : y ≡ x = ap₂ (λ (i : ℕ) (c : Label). (i, c)) a w in
    let t = split_rows k l h r.1 in
    (t.0, ap₂ (λ (i : Row) (c : List Row). i ∷ c) v t.1, t.2)

pub length_listed : (d : ℕ) (f : Shape) (l : List Row) → length (listed d f l) ≡ size f + length l
unfolding listed size
length_listed d nil l = omega arith
length_listed d (node a g f) l = omega (arith, length_listed (suc d) g (listed d f l), length_listed d f l)

pub short_listed : (d : ℕ) (f : Shape) (l : List Row) → longest f ≤ content_limit → Short l → Short (listed d f l)
unfolding listed longest Short
short_listed d nil l h s = s
short_listed d (node a g f) l h s = (omega arith, short_listed (suc d) g (listed d f l) (omega arith) (short_listed d f l (omega arith) s))

flat_listed : (d i : ℕ) (f : Shape) (l : List Row)
    → flat d (view (λ a. true) unmarked (numbered i f)) ++ entries (i + size f) l ≡ entries i (listed d f l)
unfolding flat view numbered size entries listed
flat_listed d i nil l = let p : i + 0 ≡ i = omega arith in rw p
flat_listed d i (node a g f) l =
    let p : i + suc (size g + size f) ≡ suc i + size g + size f = omega arith in
    let x = flat (suc d) (view (λ a. true) unmarked (numbered (suc i) g)) in
    let y = flat d (view (λ a. true) unmarked (numbered (suc i + size g) f)) in
    let z : x ++ y ++ entries (suc i + size g + size f) l ≡ entries (suc i) (listed (suc d) g (listed d f l)) =
    append_assoc x y (entries (suc i + size g + size f) l) ∙ ap (λ (t : List Entry). x ++ t) (flat_listed d (suc i + size g) f l)
    ∙ flat_listed (suc d) (suc i) g (listed d f l) in
    rw p (ap (λ (t : List Entry). (d, unmarked (record { number = i; kind = a.kind; content = a.content })) ∷ t) z)

-- node 0 alone, and the rows of the root element
pub document_rows : (s : List ℕ) (f : Shape) → nodes s ≡ flat 0 (tree_of node_0_alone)
    → with_rows s (listed 1 f []) ≡ flat 0 (tree_of (document f))
unfolding flat tree_of node_0_alone view numbered entries
document_rows s f e =
    rw e (ap (λ (t : List Entry). (0, unmarked (record { number = 0; kind = 1; content = [] })) ∷ t) (sym (flat_listed 1 1 f [])))

pub one_node : (s : List ℕ) → nodes s ≡ flat 0 (tree_of node_0_alone) → length (nodes s) ≡ 1
unfolding flat tree_of node_0_alone view
one_node s e = ap length e

-- no rows are left
pub rows_done : (s : List ℕ) → with_rows s [] ≡ nodes s
unfolding entries
rows_done s = append-nil (nodes s)
