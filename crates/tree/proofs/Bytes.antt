-- Tests over lists in the words of the library. Assumes nothing.
use mathlib.Core.Path.{◌≡◌, refl, ap}
use mathlib.Core.Bool.{Bool, ◌&&◌, ◌||◌}
use mathlib.Core.List.{List, [], ◌∷◌}
use Rattle.std.specs.List.{list_any, list_all}
use Rattle.tree.specs.Lists.{any, every}

pub any_of : {A : Type 0} (t : A → Bool) (l : List A) → list_any t l ≡ any t l
any_of t [] = refl
any_of t (x ∷ l) = ap (λ b. t x || b) (any_of t l)

pub every_of : {A : Type 0} (t : A → Bool) (l : List A) → list_all t l ≡ every t l
every_of t [] = refl
every_of t (x ∷ l) = ap (λ b. t x && b) (every_of t l)
