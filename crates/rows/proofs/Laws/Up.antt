-- The way up from a place: its turns as a loop makes them, and that it meets the proper ancestors.
use Rattle.std.specs.Prelude.{◌≡◌, refl, Bool, true, false, cond, ◌&&◌, get_or, take, drop, ltb}
use Rattle.std.proofs.Math.Path.{ap}
use Rattle.std.proofs.Common.{◌∙◌, length-append, take_at, lt-ltb, le-ltb}
use Prim.Native.Nat.{ℕ, zero, suc, ◌+◌, ◌-◌, ◌≤◌, ◌<◌}
use mathlib.Core.List.Memᴰ
use mathlib.Core.List.{List, [], ◌∷◌, ◌++◌, map, reverse_aux, append-nil, Memᴰ}
use native.Mathlib.Omega.{arith}
use Rattle.std.proofs.Math.ListN.{length}
use Rattle.std.proofs.lemmas.List.{get_or_at}
use Rattle.std.proofs.Math.Seq.{drop-append-add}
use Rattle.tree.specs.Lists.{every}
use Rattle.protocol.specs.State.{Marked, Tree}
use Rattle.table.specs.Flat.{flat}
use Rattle.table.specs.Layout.{Entry, no_entry}
use Rattle.rows.specs.Places.{depth, item, climb, above_places, ups, all_at}
use Rattle.rows.proofs.Laws.NodeAt.{NodeAt, back}

-- the turns --------------------------------------------------------------------------

-- a loop goes down through the places: those from i on were looked at, e is the depth of the last ancestor found
module _ (l : List Entry) (e i : ℕ) (h : 0 < i) where
  pub climb_found : depth l (i - 1) < e → climb l e i ≡ (i - 1) ∷ climb l (depth l (i - 1)) (i - 1)
  unfolding climb
  climb_found k = let j : i ≡ suc (i - 1) = omega arith in ap (climb l e) j ∙ rw (lt-ltb (depth l (i - 1)) e k)

  pub climb_passed : e ≤ depth l (i - 1) → climb l e i ≡ climb l e (i - 1)
  unfolding climb
  climb_passed k = let j : i ≡ suc (i - 1) = omega arith in ap (climb l e) j ∙ rw (le-ltb (depth l (i - 1)) e k)

pub climb_start : (l : List Entry) (e : ℕ) → climb l e 0 ≡ []
unfolding climb
climb_start l e = refl

-- the same for the nodes there
module _ (l : List Entry) (e i : ℕ) (h : 0 < i) where
  pub ups_found : depth l (i - 1) < e → map (item l) (climb l e i) ≡ item l (i - 1) ∷ map (item l) (climb l (depth l (i - 1)) (i - 1))
  ups_found k = ap (map (item l)) (climb_found l e i h k)

  pub ups_passed : e ≤ depth l (i - 1) → map (item l) (climb l e i) ≡ map (item l) (climb l e (i - 1))
  ups_passed k = ap (map (item l)) (climb_passed l e i h k)

-- all nodes on the way up pass
abbrev pub all_up : (Marked → Bool) → List Entry → ℕ → ℕ → Bool
all_up q l e i = every q (map (item l) (climb l e i))

module _ (q : Marked → Bool) (l : List Entry) (e i : ℕ) (h : 0 < i) where
  pub all_up_fails : depth l (i - 1) < e → q (item l (i - 1)) ≡ false → all_up q l e i ≡ false
  all_up_fails k s = ap (every q) (ups_found l e i h k) ∙ rw s

  pub all_up_found : depth l (i - 1) < e → q (item l (i - 1)) ≡ true → all_up q l e i ≡ all_up q l (depth l (i - 1)) (i - 1)
  all_up_found k s = ap (every q) (ups_found l e i h k) ∙ rw s

  pub all_up_passed : e ≤ depth l (i - 1) → all_up q l e i ≡ all_up q l e (i - 1)
  all_up_passed k = ap (every q) (ups_passed l e i h k)

pub all_up_start : (q : Marked → Bool) (l : List Entry) (e : ℕ) → all_up q l e 0 ≡ true
unfolding climb
all_up_start q l e = refl

-- the node at p and the way up from it
pub all_at_up : (q : Marked → Bool) (l : List Entry) (p : ℕ) → all_at q l p ≡ (q (item l p) && all_up q l (depth l p) p)
unfolding ups above_places
all_at_up q l p = refl

-- the loop's places are earlier ones
pub climb_before : (l : List Entry) (e i : ℕ) {q : ℕ} → Memᴰ q (climb l e i) → q < i
unfolding climb
climb_before l e zero m = absurd (Memᴰ.not-nil m)
climb_before l e (suc i) {q} m = go (ltb (depth l i) e) (λ n. climb_before l (depth l i) i n) (λ n. climb_before l e i n) m
  where
    self : (Memᴰ q (climb l (depth l i) i) → q < i) → Memᴰ q (i ∷ climb l (depth l i) i) → q < suc i
    self f (Memᴰ.head x) = omega arith
    self f (Memᴰ.tail n) = let z = f n in omega arith

    go : (b : Bool) → (Memᴰ q (climb l (depth l i) i) → q < i) → (Memᴰ q (climb l e i) → q < i)
        → Memᴰ q (cond b (i ∷ climb l (depth l i) i) (climb l e i)) → q < suc i
    go true f g n = self f n
    go false f g n = let z = g n in omega arith

-- and so are the node's and those above it
pub above_inside : (l : List Entry) (p : ℕ) → p < length l → (i : ℕ) → Memᴰ i (p ∷ above_places l p) → i < length l
unfolding above_places
above_inside l p h i (Memᴰ.head e) = rw e h
above_inside l p h i (Memᴰ.tail m) = let k : i < p = climb_before l (depth l p) p m in omega arith

-- the proper ancestors -----------------------------------------------------------------

reverse_take : (l t : List Entry) (k : ℕ) → k < length l → reverse_aux (take (suc k) l) t ≡ get_or l k no_entry ∷ reverse_aux (take k l) t
reverse_take [] t k h = absurd (omega arith)
reverse_take (x ∷ l) t zero h = refl
reverse_take (x ∷ l) t (suc k) h = reverse_take l (x ∷ t) k (omega arith)

climb_back : (l : List Entry) (e i : ℕ) → i ≤ length l → map (item l) (climb l e i) ≡ back e (reverse_aux (take i l) [])
unfolding climb back
climb_back l e zero h = refl
climb_back l e (suc i) h =
    rw (reverse_take l [] i (omega arith)) (go (ltb (depth l i) e) (climb_back l (depth l i) i (omega arith))
    (climb_back l e i (omega arith)))
  where
    go : (b : Bool) → map (item l) (climb l (depth l i) i) ≡ back (depth l i) (reverse_aux (take i l) [])
        → map (item l) (climb l e i) ≡ back e (reverse_aux (take i l) [])
        → map (item l) (cond b (i ∷ climb l (depth l i) i) (climb l e i))
        ≡ cond b (item l i ∷ back (depth l i) (reverse_aux (take i l) [])) (back e (reverse_aux (take i l) []))
    go true p q = rw p
    go false p q = q

-- what stands at a place of the rows of a tree
module _ {f : Tree} {p : ℕ} (c : NodeAt 0 f p) where
  entry_at : get_or (flat 0 f) p no_entry ≡ (c.depth, c.it)
  entry_at = ap (λ l. get_or l p no_entry) c.split ∙ get_or_at c.before (c.depth, c.it) _ no_entry p c.count

  pub depth_at : depth (flat 0 f) p ≡ c.depth
  depth_at = ap (λ x. x.0) entry_at

  pub item_at : item (flat 0 f) p ≡ c.it
  item_at = ap (λ x. x.1) entry_at

  pub inside : p < length (flat 0 f)
  inside = rw (c.split, length-append c.before) (omega (arith, c.count))

  pub rows_before : take p (flat 0 f) ≡ c.before
  rows_before = ap (take p) c.split ∙ take_at c.before _ p c.count

  pub ups_at : ups (flat 0 f) p ≡ c.above
  unfolding ups above_places back
  ups_at =
      let k : p ≤ length (flat 0 f) = omega (arith, inside) in
      rw depth_at (climb_back (flat 0 f) c.depth p k ∙ ap (λ l. back c.depth (reverse_aux l [])) rows_before ∙ c.ancestors [] ∙
      append-nil c.above)

  pub rows_behind : drop (suc p) (flat 0 f) ≡ flat (suc c.depth) c.children ++ c.behind
  rows_behind =
      let e : suc p ≡ length c.before + 1 = omega (arith, c.count) in
      ap (drop (suc p)) c.split ∙ ap (λ n. drop n (c.before ++ ((c.depth, c.it) ∷
      (flat (suc c.depth) c.children ++ c.behind)))) e
      ∙ drop-append-add c.before _ 1
