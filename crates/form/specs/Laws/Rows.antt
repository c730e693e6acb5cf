-- Depths in document order: valid rows are those of a tree, and what that says of its nodes.
use Rattle.std.specs.Prelude.{◌≡◌, refl, ℕ, zero, suc, ◌+◌, ◌-◌, ◌≤◌, Bool, true, ◌&&◌, List, [], ◌∷◌, ◌++◌, length, eqb, leb}
use Rattle.std.proofs.Common.{sym, ap, ap₂, ◌∙◌, append_assoc, append-nil, arith, zero-add, suc-add, le-leb, leb-true, eqb-true}
use Rattle.std.proofs.lemmas.Bool.{false≢true}
use Rattle.tree.specs.Forest.{nil, node}
use Rattle.tree.specs.Content.{between}
use Rattle.tree.specs.Laws.Tests.{and_left, and_right}
use Rattle.protocol.specs.State.{Marked, Tree}
use Rattle.table.specs.Flat.{flat}
use Rattle.table.specs.Layout.{Entry}
use Rattle.form.specs.Form.{valid, valid_document, valid_below, valid_rows, valid_tree}

pub and_of : {a b : Bool} → a ≡ true → b ≡ true → (a && b) ≡ true
and_of h k = rw (h, k)

pub between_of : (low high x : ℕ) → low ≤ x → x ≤ high → between low high x ≡ true
between_of low high x a b = rw (le-leb low x a, le-leb x high b)

pub between_low : (low high x : ℕ) → between low high x ≡ true → low ≤ x
between_low low high x h = leb-true low x (and_left (leb low x) _ h)

pub between_high : (low high x : ℕ) → between low high x ≡ true → x ≤ high
between_high low high x h = leb-true x high (and_right (leb low x) _ h)

-- the tree of rows ---------------------------------------------------------------------------

-- forests at the depths length, .., 2, 1, one behind the other
unfoldable stacked : List Tree → List Entry
stacked [] = []
stacked (f ∷ fs) = flat (suc (length fs)) f ++ stacked fs

-- with n empty ones before them
unfoldable pad : ℕ → List Tree → List Tree
pad zero fs = fs
pad (suc n) fs = nil ∷ pad n fs

stacked_pad : (n : ℕ) (fs : List Tree) → stacked (pad n fs) ≡ stacked fs
unfolding stacked pad flat
stacked_pad zero fs = refl
stacked_pad (suc n) fs = stacked_pad n fs

length_pad : (n : ℕ) (fs : List Tree) → length (pad n fs) ≡ n + length fs
unfolding pad
length_pad zero fs = sym (zero-add _)
length_pad (suc n) fs = rw (length_pad n fs, suc-add)

-- rows that may follow one of depth `before`: a forest for each depth from before + 1 down to 1
abbrev Stacked : ℕ → List Entry → Type 0
Stacked before l = (fs : List Tree) × (length fs ≡ suc before) × (l ≡ stacked fs)

-- one row more before them
onto : (before d : ℕ) (a : Marked) (l : List Entry) (fs : List Tree) → 1 ≤ d → d ≤ suc before → length fs ≡ suc d → l ≡ stacked fs
    → Stacked before ((d, a) ∷ l)
unfolding stacked flat
onto before d a l [] low high m s = absurd (omega arith)
onto before d a l (k ∷ []) low high m s = absurd (omega arith)
onto before d a l (k ∷ (r ∷ fs)) low high m s =
    let w : d ≡ suc (length fs) = omega arith in (
      pad (suc before - d) (node a k r ∷ fs),
      length_pad (suc before - d) (node a k r ∷ fs) ∙ omega arith,
      rw (stacked_pad, s, w, append_assoc (flat (suc (suc (length fs))) k) (flat (suc (length fs)) r) (stacked fs)),
    )

stack_up : (before : ℕ) (l : List Entry) → valid_below before l ≡ true → Stacked before l
unfolding valid_below stacked
stack_up before [] h = (pad (suc before) [], length_pad (suc before) [] ∙ omega arith, sym (stacked_pad (suc before) []))
stack_up before (x ∷ xs) h =
    let q : between 1 (suc before) x.0 ≡ true = and_left _ (valid x.1) (and_left _ (valid_below x.0 xs) h) in
    let y = stack_up x.0 xs (and_right (between 1 (suc before) x.0 && valid x.1) _ h) in
    onto before x.0 x.1 xs y.0 (between_low 1 (suc before) x.0 q) (between_high 1 (suc before) x.0 q) y.1 y.2

below_forest : (l : List Entry) (fs : List Tree) → length fs ≡ 1 → l ≡ stacked fs → (f : Tree) × (l ≡ flat 1 f)
unfolding stacked
below_forest l [] m s = absurd (omega arith)
below_forest l (f ∷ (g ∷ fs)) m s = absurd (omega arith)
below_forest l (f ∷ []) m s = (f, s ∙ append-nil (flat 1 f))

pub valid_forest : (l : List Entry) → valid_rows l ≡ true → (f : Tree) × (l ≡ flat 0 f)
unfolding valid_rows flat
valid_forest [] h = absurd (false≢true h)
valid_forest (x ∷ xs) h =
    let y = stack_up 0 xs (and_right (eqb x.0 0 && valid_document x.1) _ h) in
    let f = below_forest xs y.0 y.1 y.2 in
    let z : x.0 ≡ 0 = eqb-true x.0 0 (and_left _ (valid_document x.1) (and_left _ (valid_below 0 xs) h)) in
    (node x.1 f.0 nil, ap₂ (λ (n : ℕ) (l : List Entry). (n, x.1) ∷ l) z (f.1 ∙ sym (append-nil (flat 1 f.0))))

-- the nodes of a valid tree --------------------------------------------------------------------

unfoldable pub all_valid : Tree → Bool
all_valid nil = true
all_valid (node a ks fs) = valid a && all_valid ks && all_valid fs

below_valid : (before d : ℕ) (f : Tree) (t : List Entry) → 1 ≤ d → d ≤ suc before → all_valid f ≡ true
    → ((n : ℕ) → d ≤ suc n → valid_below n t ≡ true)
    → valid_below before (flat d f ++ t) ≡ true
unfolding valid_below all_valid flat
below_valid before d nil t a b h k = k before b
below_valid before d (node x ks fs) t a b h k =
    let p : (valid x && all_valid ks) ≡ true = and_left (valid x && all_valid ks) _ h in
    rw (between_of 1 (suc before) d a b, and_left (valid x) _ p, append_assoc (flat (suc d) ks) (flat d fs) t)
    (below_valid d (suc d) ks (flat d fs ++ t) (omega arith) (omega arith) (and_right (valid x) _ p)
    (λ n m. below_valid n d fs t a (omega arith) (and_right (valid x && all_valid ks) _ h) k))

valid_under : (before d : ℕ) (f : Tree) (t : List Entry) → valid_below before (flat d f ++ t) ≡ true
    → (all_valid f ≡ true) × (n : ℕ) × (valid_below n t ≡ true)
unfolding valid_below all_valid flat
valid_under before d nil t h = (refl, before, h)
valid_under before d (node x ks fs) t h =
    let r : valid_below d (flat (suc d) ks ++ (flat d fs ++ t)) ≡ true =
    ap (valid_below d) (sym (append_assoc (flat (suc d) ks) (flat d fs) t)) ∙ and_right (between 1 (suc before) d && valid x) _ h in
    let k = valid_under d (suc d) ks (flat d fs ++ t) r in
    let s = valid_under k.1 d fs t k.2 in (
      and_of (and_of (and_right (between 1 (suc before) d) _ (and_left (between 1 (suc before) d && valid x) _ h)) k.0) s.0,
      s.1,
      s.2,
    )

-- a valid tree is a document with valid nodes below it
pub tree_valid : (a : Marked) (ks : Tree) → valid_document a ≡ true → all_valid ks ≡ true → valid_tree (node a ks nil) ≡ true
unfolding valid_rows valid_tree flat valid_below
tree_valid a ks d h = rw d (below_valid 0 1 ks [] (omega arith) (omega arith) h (λ n m. refl))

pub valid_root : (f : Tree) → valid_tree f ≡ true → (a : Marked) × (ks : Tree) × (f ≡ node a ks nil) × (valid_document a ≡ true)
    × (all_valid ks ≡ true)
unfolding valid_rows valid_tree flat valid_below
valid_root nil h = absurd (false≢true h)
valid_root (node a ks fs) h =
    let r = valid_under 0 1 ks (flat 0 fs) (and_right (valid_document a) _ h) in
    go fs r.1 r.2 (and_left (valid_document a) _ h) r.0
  where
    go : (fs : Tree) (n : ℕ) → valid_below n (flat 0 fs) ≡ true → valid_document a ≡ true → all_valid ks ≡ true
        → (b : Marked) × (js : Tree) × (node a ks fs ≡ node b js nil) × (valid_document b ≡ true) × (all_valid js ≡ true)
    go nil n q d v = (a, ks, refl, d, v)
    go (node b js gs) n q d v = absurd (false≢true q)
