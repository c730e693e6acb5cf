-- The judgement of rows by one pass, taken apart.
use Rattle.std.specs.Prelude.{◌≡◌, refl, ℕ, ◌+◌, Bool, true, false, cond, ◌&&◌, ◌||◌, List, [], ◌∷◌, leb}
use Rattle.std.proofs.Common.{◌∙◌, arith}
use Rattle.xml.specs.Shape.{Label}
use Rattle.xml.specs.Reading.{input_limit}
use Rattle.xml_text.specs.Rows.{Line, parent_of, previous_of, opened, fits, cost, repeated, judge}
use Rattle.xml_text.specs.Laws.Trees.{spots, all_fit, total}
use Rattle.xml_text.specs.Laws.Names.{repeated_in}

-- the length n, or 0 where a node does not fit, an attribute is repeated or the length is above the limit
abbrev pub verdict : Bool → Bool → ℕ → ℕ
verdict fit again n = cond fit (cond again 0 (cond (leb n input_limit) n 0)) 0

pub judge_is : (es : List Label) (last : ℕ) (pre : List Line) (sum : ℕ) (xs : List Line)
    → judge es last pre sum xs ≡ verdict (all_fit (spots es last xs)) (repeated_in pre xs) (sum + total (spots es last xs))
unfolding judge spots all_fit total repeated_in
judge_is es last pre sum [] = let z : sum + 0 ≡ sum = omega arith in rw z
judge_is es last pre sum (x ∷ xs) =
    let c : ℕ = cost (parent_of es x.0) (previous_of es last x.0) x.1 in
    go (fits (parent_of es x.0).kind (previous_of es last x.0) x.1.kind) (repeated pre x) c
    (judge_is (opened es x) 0 (x ∷ pre) (sum + c) xs)
  where
    g : Bool
    g = all_fit (spots (opened es x) 0 xs)

    r : Bool
    r = repeated_in (x ∷ pre) xs

    s : ℕ
    s = total (spots (opened es x) 0 xs)

    nothing : (g : Bool) → ◌≡◌ {A = ℕ} 0 (cond g 0 0)
    nothing true = refl
    nothing false = refl

    go : (f b : Bool) (c : ℕ) {j : ℕ} → j ≡ verdict g r (sum + c + s) → cond f (cond b 0 j) 0 ≡ verdict (f && g) (b || r) (sum + (c + s))
    go false b c e = refl
    go true true c e = nothing g
    go true false c e = let z : sum + c + s ≡ sum + (c + s) = omega arith in e ∙ rw z
