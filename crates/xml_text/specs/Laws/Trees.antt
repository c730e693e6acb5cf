-- A pass over the rows of a tree is the same pass over the tree.
use Rattle.std.specs.Prelude.{◌≡◌, refl, ℕ, suc, ◌+◌, ◌-◌, ◌≤◌, Bool, true, false, ◌&&◌, List, [], ◌∷◌, ◌++◌, length}
use Rattle.std.proofs.Common.{ap, ◌∙◌, append_assoc, arith}
use Rattle.tree.specs.Forest.{nil, node}
use Rattle.xml.specs.Shape.{Label, Shape}
use Rattle.table.specs.Flat.{flat}
use Rattle.xml_text.specs.Rows.{Line, begin, end, ends, parent_of, previous_of, opened, emit, cost, fits}

-- nothing, or a row at most so deep
pub data Up (n : ℕ) : List Line → Type 0 where
  up_none : Up n []
  up_row : {x : Line} {xs : List Line} → x.0 ≤ n → Up n (x ∷ xs)

up_flat : (d : ℕ) (f : Shape) (t : List Line) → Up d t → Up (suc d) (flat (suc d) f ++ t)
unfolding flat
up_flat d nil t up_none = up_none
up_flat d nil t (up_row {x = x} h) = up_row {x = x} (omega arith)
up_flat d (node a ks fs) t u = up_row {x = (suc d, a)} (omega arith)

one_more : (n d : ℕ) → d ≤ n → suc n - d ≡ suc (n - d)
one_more n d h = omega arith

level : (n : ℕ) → n - n ≡ 0
level n = omega arith

-- what stands for a tree below this parent and behind this sibling, with the end of the parent
unfoldable pub inner : Label → ℕ → Shape → List ℕ
inner parent last nil = end parent last
inner parent last (node a ks fs) = begin parent last a ++ (inner a 0 ks ++ inner parent a.kind fs)

emit_pop : (a : Label) (es : List Label) (last : ℕ) (t : List Line) → Up (length es) t
    → emit (a ∷ es) last t ≡ end a last ++ emit es a.kind t
unfolding emit ends
emit_pop a es last [] up_none = refl
emit_pop a es last (x ∷ t) (up_row h) = rw (one_more (length es) x.0 h) (simp append_assoc)

emit_down : (a parent : Label) (zs : List Label) (last : ℕ) (t : List Line)
    → emit (parent ∷ zs) last ((suc (length zs), a) ∷ t) ≡ begin parent last a ++ emit (a ∷ parent ∷ zs) 0 t
unfolding emit ends
emit_down a parent zs last t = rw (level (suc (length zs)))

pub emit_tree : (parent : Label) (zs : List Label) (last : ℕ) (f : Shape) (t : List Line) → Up (length zs) t
    → emit (parent ∷ zs) last (flat (suc (length zs)) f ++ t) ≡ inner parent last f ++ emit zs parent.kind t
unfolding flat inner
emit_tree parent zs last nil t u = emit_pop parent zs last t u
emit_tree parent zs last (node a ks fs) t u =
    let d : ℕ = suc (length zs) in
    ap (λ (l : List Line). emit (parent ∷ zs) last ((d, a) ∷ l)) (append_assoc (flat (suc d) ks) (flat d fs) t)
    ∙ emit_down a parent zs last (flat (suc d) ks ++ (flat d fs ++ t))
    ∙ rw (emit_tree a (parent ∷ zs) 0 ks (flat d fs ++ t) (up_flat (length zs) fs t u), emit_tree parent zs a.kind fs t u)
    (simp append_assoc)

-- nodes in their places ------------------------------------------------------------------------

-- a node below this parent and behind a sibling of this kind
pub record Spot : Type 0 where
  pub parent : Label
  pub previous : ℕ
  pub it : Label

abbrev pub spot : Label → ℕ → Label → Spot
spot parent previous a = record { parent = parent; previous = previous; it = a }

unfoldable pub spots : List Label → ℕ → List Line → List Spot
spots es last [] = []
spots es last (x ∷ xs) = spot (parent_of es x.0) (previous_of es last x.0) x.1 ∷ spots (opened es x) 0 xs

unfoldable pub tree_spots : Label → ℕ → Shape → List Spot
tree_spots parent last nil = []
tree_spots parent last (node a ks fs) = spot parent last a ∷ (tree_spots a 0 ks ++ tree_spots parent a.kind fs)

spots_pop : (a : Label) (es : List Label) (last : ℕ) (t : List Line) → Up (length es) t → spots (a ∷ es) last t ≡ spots es a.kind t
unfolding spots
spots_pop a es last [] up_none = refl
spots_pop a es last (x ∷ t) (up_row h) = rw (one_more (length es) x.0 h)

spots_down : (a parent : Label) (zs : List Label) (last : ℕ) (t : List Line)
    → spots (parent ∷ zs) last ((suc (length zs), a) ∷ t) ≡ spot parent last a ∷ spots (a ∷ parent ∷ zs) 0 t
unfolding spots
spots_down a parent zs last t = rw (level (suc (length zs)))

pub spots_tree : (parent : Label) (zs : List Label) (last : ℕ) (f : Shape) (t : List Line) → Up (length zs) t
    → spots (parent ∷ zs) last (flat (suc (length zs)) f ++ t) ≡ tree_spots parent last f ++ spots zs parent.kind t
unfolding flat tree_spots
spots_tree parent zs last nil t u = spots_pop parent zs last t u
spots_tree parent zs last (node a ks fs) t u =
    let d : ℕ = suc (length zs) in
    ap (λ (l : List Line). spots (parent ∷ zs) last ((d, a) ∷ l)) (append_assoc (flat (suc d) ks) (flat d fs) t)
    ∙ spots_down a parent zs last (flat (suc d) ks ++ (flat d fs ++ t))
    ∙ rw (spots_tree a (parent ∷ zs) 0 ks (flat d fs ++ t) (up_flat (length zs) fs t u), spots_tree parent zs a.kind fs t u)
    (simp append_assoc)

-- every node fits, and the lengths of all
unfoldable pub all_fit : List Spot → Bool
all_fit [] = true
all_fit (x ∷ xs) = fits x.parent.kind x.previous x.it.kind && all_fit xs

unfoldable pub total : List Spot → ℕ
total [] = 0
total (x ∷ xs) = cost x.parent x.previous x.it + total xs

pub all_fit_append : (l m : List Spot) → all_fit (l ++ m) ≡ (all_fit l && all_fit m)
unfolding all_fit
all_fit_append [] m = refl
all_fit_append (x ∷ l) m = rw (all_fit_append l m) (go (fits x.parent.kind x.previous x.it.kind))
  where
    go : (b : Bool) → (b && (all_fit l && all_fit m)) ≡ ((b && all_fit l) && all_fit m)
    go true = refl
    go false = refl

pub total_append : (l m : List Spot) → total (l ++ m) ≡ total l + total m
unfolding total
total_append [] m = omega arith
total_append (x ∷ l) m = rw (total_append l m) (omega arith)
