-- Laws of `modify` and `insert`.
use Rattle.std.specs.Prelude.{◌≡◌, length, get_or, take}
use Rattle.std.proofs.Math.Path.{refl, ap}
use Rattle.std.proofs.Common.{◌∙◌, arith}
use Prim.Native.Nat.{ℕ, zero, suc, ◌+◌, ◌<◌}
use mathlib.Core.List.{List, [], ◌∷◌, ◌++◌, map, append_assoc}
use Rattle.std.proofs.Math.ListN.{drop}
use Rattle.std.proofs.Math.Seq.{take-append-add, drop-append-add}
use Rattle.tree.specs.Laws.Lists.{map_append}
use Rattle.table.specs.Lists.{modify, insert}

module _ {A : Type 0} where
  -- the rows up to a change, and behind it
  pub take_modify : (i : ℕ) (f : A → A) (l : List A) (d : A) → i < length l
      → take (suc i) (modify i f l) ≡ take i l ++ (f (get_or l i d) ∷ [])
  unfolding modify
  take_modify i f [] d h = absurd (omega arith)
  take_modify zero f (x ∷ l) d h = refl
  take_modify (suc i) f (x ∷ l) d h = ap (λ k. x ∷ k) (take_modify i f l d (omega arith))

  pub drop_modify : (i : ℕ) (f : A → A) (l : List A) → drop (suc i) (modify i f l) ≡ drop (suc i) l
  unfolding modify
  drop_modify i f [] = refl
  drop_modify zero f (x ∷ l) = refl
  drop_modify (suc i) f (x ∷ l) = drop_modify i f l

  pub insert_append : (u v : List A) (i : ℕ) (x : A) → insert (length u + i) x (u ++ v) ≡ u ++ insert i x v
  unfolding insert
  insert_append u v i x = rw (take-append-add u v i, drop-append-add u v i) (append_assoc u (take i v) (x ∷ drop i v))

-- a change of all, and one element changed or put in
pub map_modify : {A B : Type 0} (g : A → B) (f : A → A) (f' : B → B) (i : ℕ) (l : List A) → ((a : A) → g (f a) ≡ f' (g a))
    → map g (modify i f l) ≡ modify i f' (map g l)
unfolding modify
map_modify g f f' i [] h = refl
map_modify g f f' zero (x ∷ l) h = rw (h x)
map_modify g f f' (suc i) (x ∷ l) h = ap (λ k. g x ∷ k) (map_modify g f f' i l h)

pub map_take : {A B : Type 0} (g : A → B) (i : ℕ) (l : List A) → map g (take i l) ≡ take i (map g l)
map_take g zero l = refl
map_take g (suc i) [] = refl
map_take g (suc i) (x ∷ l) = ap (λ k. g x ∷ k) (map_take g i l)

pub map_drop : {A B : Type 0} (g : A → B) (i : ℕ) (l : List A) → map g (drop i l) ≡ drop i (map g l)
map_drop g zero l = refl
map_drop g (suc i) [] = refl
map_drop g (suc i) (x ∷ l) = map_drop g i l

pub map_insert : {A B : Type 0} (g : A → B) (i : ℕ) (x : A) (l : List A) → map g (insert i x l) ≡ insert i (g x) (map g l)
unfolding insert
map_insert g i x l = map_append g (take i l) (x ∷ drop i l) ∙ rw (map_take g i l, map_drop g i l)
