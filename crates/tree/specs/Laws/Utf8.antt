-- UTF-8 by its digits: the bytes of a code point are a first one and a digit of base 64 for each byte more, and a part of them leaves the
-- code points of an interval open.
use Rattle.std.specs.Prelude.{◌≡◌, refl, Bool, false, cond, ◌⊎◌, length, eqb, leb, ltb}
use Rattle.std.proofs.Math.Path.{sym}
use Rattle.std.proofs.Common.{ap, ◌∙◌, inl, inr, div-mul-le_self, div-one}
use Prim.Native.Nat.{ℕ, zero, suc, ◌+◌, ◌-◌, ◌*◌, ◌/◌, ◌%◌, ◌≤◌, ◌<◌, max, min}
use Rattle.std.proofs.Math.Bool.{true, or-true}
use Rattle.std.proofs.lemmas.Bool.{false≢true}
use mathlib.Core.List.{List, [], ◌∷◌, ◌++◌, map}
use Rattle.std.proofs.Math.Nat.{lt-div-mul-add, div-eq_of_lt-le, div-div-eq-div-mul}
use native.Mathlib.Omega.{arith}
use borrow.Author.Tests.{leb-true, le-leb, lt-leb, lt-ltb, le-ltb, ltb-true, ltb-false}
use Rattle.tree.specs.Lists.{joined}
use Rattle.tree.specs.Characters.{Range, within, utf8, code_point, spells_one, characters}
use Rattle.tree.specs.Content.{between}
use Rattle.tree.specs.Spelling.{Part, part, wrong_part, first_part, next_part, breadth, meets, possible}
use Rattle.tree.specs.Laws.Tests.{and_left, and_right, or_cases, both_ways}
use Rattle.tree.specs.Laws.Compare.{same_self, same_long}

-- ranges that meet an interval -----------------------------------------------------

module _ (low high : ℕ) where
  pub meets_within : (rs : List Range) (c : ℕ) → low ≤ c → c ≤ high → within rs c ≡ true → meets rs low high ≡ true
  unfolding within meets
  meets_within [] c h k e = e
  meets_within (r ∷ rs) c h k e = go (or_cases (between r.0 r.1 c) (within rs c) e) (meets_within rs c h k)
    where
      go : (between r.0 r.1 c ≡ true) ⊎ (within rs c ≡ true) → (within rs c ≡ true → meets rs low high ≡ true)
          → meets (r ∷ rs) low high ≡ true
      go (inl t) f =
          let a = leb-true r.0 c (and_left (leb r.0 c) (leb c r.1) t) in
          let b = leb-true c r.1 (and_right (leb r.0 c) (leb c r.1) t) in
          rw (le-leb (max low r.0) (min high r.1) (omega arith))
      go (inr t) f = rw (f t, or-true)

  pub meets_some : (rs : List Range) → meets rs low high ≡ true → (c : ℕ) × (low ≤ c) × (c ≤ high) × (within rs c ≡ true)
  unfolding within meets
  meets_some [] e = absurd (false≢true e)
  meets_some (r ∷ rs) e = go (or_cases (leb (max low r.0) (min high r.1)) (meets rs low high) e) (meets_some rs)
    where
      go : (leb (max low r.0) (min high r.1) ≡ true) ⊎ (meets rs low high ≡ true)
          → (meets rs low high ≡ true → (c : ℕ) × (low ≤ c) × (c ≤ high) × (within rs c ≡ true))
          → (c : ℕ) × (low ≤ c) × (c ≤ high) × (within (r ∷ rs) c ≡ true)
      go (inl t) f =
          let a = leb-true (max low r.0) (min high r.1) t in
          let b = le-leb r.0 (max low r.0) (omega arith) in
          let d = le-leb (max low r.0) r.1 (omega arith) in
          (max low r.0, omega arith, omega arith, rw (b, d))
      go (inr t) f = let g = f t in (g.0, g.1, g.2, rw (g.3, or-true))

pub meets_one : (rs : List Range) (low high c : ℕ) → low ≡ c → high ≡ c → meets rs low high ≡ within rs c
meets_one rs low high c h k = both_ways _ _ there (meets_within low high rs c (omega arith) (omega arith))
  where
    there : meets rs low high ≡ true → within rs c ≡ true
    there e =
        let g = meets_some low high rs e in
        let same : g.0 ≡ c = omega arith in
        rw same at g.3

-- digits ---------------------------------------------------------------------------

pub breadth_positive : (m : ℕ) → 0 < breadth m
unfolding breadth
breadth_positive m = go (eqb m 0) (eqb m 1) (eqb m 2)
  where
    go : (a b d : Bool) → 0 < cond a 1 (cond b 64 (cond d 4096 262144))
    go true b d = omega arith
    go false true d = omega arith
    go false false true = omega arith
    go false false false = omega arith

pub breadth_suc : (m : ℕ) → m ≤ 2 → breadth (suc m) ≡ breadth m * 64
unfolding breadth
breadth_suc zero h = refl
breadth_suc (suc zero) h = refl
breadth_suc (suc (suc zero)) h = refl
breadth_suc (suc (suc (suc m))) h = absurd (omega arith)

-- the byte behind which m more come
unfoldable pub digit : (m c : ℕ) → ℕ
digit m c = 128 + c / breadth m % 64

-- the last m bytes
unfoldable pub digits : (m c : ℕ) → List ℕ
digits zero c = []
digits (suc m) c = digit m c ∷ digits m c

-- c may still be what the part becomes
pub record Fits (c : ℕ) (p : Part) : Type 0 where
  pub few : p.more ≤ 3
  pub above : p.least ≤ c
  pub begins : c / breadth p.more ≡ p.value

-- exactly the code points of the interval do
module _ (rs : List Range) (p : Part) where
  pub fits_possible : (c : ℕ) → within rs c ≡ true → Fits c p → possible rs p ≡ true
  unfolding possible
  fits_possible c e f =
      let n = breadth p.more in
      let low : p.value * n ≤ c = rw f.begins at (div-mul-le_self c n) in
      let high : c < p.value * n + n = rw f.begins at (lt-div-mul-add {a = c} {b = n} (breadth_positive p.more)) in
      meets_within (max p.least (p.value * n)) (p.value * n + (n - 1)) rs c (omega (arith, f.above)) (omega arith) e

  pub possible_fits : p.more ≤ 3 → possible rs p ≡ true → (c : ℕ) × (within rs c ≡ true) × Fits c p
  unfolding possible
  possible_fits h e =
      let n = breadth p.more in
      let low = p.value * n in
      let g = meets_some (max p.least low) (low + (n - 1)) rs e in
      let pos = breadth_positive p.more in
      let k : g.0 < (p.value + 1) * n = omega arith in
      (g.0, g.3, record { few = h; above = omega arith; begins = div-eq_of_lt-le n {m = g.0} (omega arith) k })

-- a digit more
module _ (c m value least : ℕ) (h : m ≤ 2) where
  shift : c / breadth (suc m) ≡ c / breadth m / 64
  shift = rw (breadth_suc m h, div-div-eq-div-mul)

  pub fits_digit : Fits c (part (suc m) value least) → Fits c (part m (c / breadth m) least)
  fits_digit f = record { few = omega arith; above = f.above; begins = refl }

  pub next_digit : Fits c (part (suc m) value least) → next_part (part (suc m) value least) (digit m c) ≡ part m (c / breadth m) least
  unfolding next_part digit
  next_digit f =
      let e : c / breadth m / 64 ≡ value = sym shift ∙ f.begins in
      let d = c / breadth m in
      let a = le-leb 128 (128 + d % 64) (omega arith) in
      let b = le-leb (128 + d % 64) 191 (omega arith) in
      let v : value * 64 + (128 + d % 64 - 128) ≡ d = omega arith in
      let k : suc m - 1 ≡ m = omega arith in
      rw (a, b, k, v)

  -- what the part with the next digit becomes, the part itself may become, and the digit is this one
  pub fits_before : (b : ℕ) → 128 ≤ b → b ≤ 191 → Fits c (part m (value * 64 + (b - 128)) least)
      → Fits c (part (suc m) value least) × (digit m c ≡ b)
  unfolding digit
  fits_before b k l f =
      let d = c / breadth m in
      let e : d ≡ value * 64 + (b - 128) = f.begins in
      (record { few = omega arith; above = f.above; begins = shift ∙ omega arith }, omega arith)

-- the first byte -------------------------------------------------------------------

module _ (b : ℕ) where
  pub first_one : b < 128 → first_part b ≡ part 0 b 0
  unfolding first_part
  first_one h = rw (lt-ltb b 128 h)

  pub first_two : 192 ≤ b → b < 224 → first_part b ≡ part 1 (b - 192) 128
  unfolding first_part
  first_two h k = rw (le-ltb b 128 (omega arith), le-ltb b 192 h, lt-ltb b 224 k)

  pub first_three : 224 ≤ b → b < 240 → first_part b ≡ part 2 (b - 224) 2048
  unfolding first_part
  first_three h k = rw (le-ltb b 128 (omega arith), le-ltb b 192 (omega arith), le-ltb b 224 h, lt-ltb b 240 k)

  pub first_four : 240 ≤ b → b < 248 → first_part b ≡ part 3 (b - 240) 65536
  unfolding first_part
  first_four h k =
      rw (le-ltb b 128 (omega arith), le-ltb b 192 (omega arith), le-ltb b 224 (omega arith), le-ltb b 240 h, lt-ltb b 248 k)

  -- only behind another byte
  pub first_stray : 128 ≤ b → b < 192 → first_part b ≡ wrong_part
  unfolding first_part
  first_stray h k = rw (le-ltb b 128 h, lt-ltb b 192 k)

  -- in no character
  pub first_high : 248 ≤ b → first_part b ≡ wrong_part
  unfolding first_part
  first_high h =
      rw (le-ltb b 128 (omega arith), le-ltb b 192 (omega arith), le-ltb b 224 (omega arith), le-ltb b 240 (omega arith), le-ltb b 248 h)

-- each byte with the part that it begins
pub data First : ℕ → Part → Type 0 where
  begins_one : {b : ℕ} → b < 128 → First b (part 0 b 0)
  begins_two : {b : ℕ} → 192 ≤ b → b < 224 → First b (part 1 (b - 192) 128)
  begins_three : {b : ℕ} → 224 ≤ b → b < 240 → First b (part 2 (b - 224) 2048)
  begins_four : {b : ℕ} → 240 ≤ b → b < 248 → First b (part 3 (b - 240) 65536)
  begins_none : {b : ℕ} → 128 ≤ b → First b wrong_part

pub first : (b : ℕ) → First b (first_part b)
unfolding first_part
first b = go (ltb b 128) refl (ltb b 192) (ltb b 224) (ltb b 240) (ltb b 248) refl refl refl refl
  where
    go : (t : Bool) → ltb b 128 ≡ t → (u v w z : Bool) → ltb b 192 ≡ u → ltb b 224 ≡ v → ltb b 240 ≡ w → ltb b 248 ≡ z
        → First b
        (cond t (part 0 b 0)
        (cond u wrong_part
        (cond v (part 1 (b - 192) 128)
        (cond w (part 2 (b - 224) 2048)
        (cond z (part 3 (b - 240) 65536) wrong_part)))))
    go true e u v w z a c d f = begins_one (ltb-true b 128 e)
    go false e true v w z a c d f = begins_none (ltb-false b 128 e)
    go false e false true w z a c d f = begins_two (ltb-false b 192 a) (ltb-true b 224 c)
    go false e false false true z a c d f = begins_three (ltb-false b 224 c) (ltb-true b 240 d)
    go false e false false false true a c d f = begins_four (ltb-false b 240 d) (ltb-true b 248 f)
    go false e false false false false a c d f = begins_none (ltb-false b 128 e)

-- the bytes of a code point --------------------------------------------------------

module _ (c : ℕ) where
  pub utf8_one : c < 128 → utf8 c ≡ c ∷ []
  unfolding utf8
  utf8_one h = rw (le-leb c 0x7F (omega arith))

  pub utf8_two : 128 ≤ c → c < 2048 → utf8 c ≡ (0xC0 + c / 64) ∷ (0x80 + c % 64) ∷ []
  unfolding utf8
  utf8_two h k = rw (lt-leb c 0x7F h, le-leb c 0x7FF (omega arith))

  pub utf8_three : 2048 ≤ c → c < 65536 → utf8 c ≡ (0xE0 + c / 4096) ∷ (0x80 + c / 64 % 64) ∷ (0x80 + c % 64) ∷ []
  unfolding utf8
  utf8_three h k = rw (lt-leb c 0x7F (omega arith), lt-leb c 0x7FF h, le-leb c 0xFFFF (omega arith))

  pub utf8_four : 65536 ≤ c
      → utf8 c ≡ (0xF0 + c / 262144) ∷ (0x80 + c / 4096 % 64) ∷ (0x80 + c / 64 % 64) ∷ (0x80 + c % 64) ∷ []
  unfolding utf8
  utf8_four h = rw (lt-leb c 0x7F (omega arith), lt-leb c 0x7FF (omega arith), lt-leb c 0xFFFF h)

-- how many bytes, in general
pub data Size (c : ℕ) : Type 0 where
  size_one : c < 128 → Size c
  size_two : 128 ≤ c → c < 2048 → Size c
  size_three : 2048 ≤ c → c < 65536 → Size c
  size_four : 65536 ≤ c → Size c

pub size : (c : ℕ) → Size c
size c = go (ltb c 128) refl (ltb c 2048) refl (ltb c 65536) refl
  where
    go : (t : Bool) → ltb c 128 ≡ t → (u : Bool) → ltb c 2048 ≡ u → (v : Bool) → ltb c 65536 ≡ v → Size c
    go true e u f v g = size_one (ltb-true c 128 e)
    go false e true f v g = size_two (ltb-false c 128 e) (ltb-true c 2048 f)
    go false e false f true g = size_three (ltb-false c 2048 f) (ltb-true c 65536 g)
    go false e false f false g = size_four (ltb-false c 65536 g)

-- what a first byte may become begins with it
pub first_digits : {b : ℕ} {p : Part} {c : ℕ} → First b p → Fits c p → utf8 c ≡ b ∷ digits p.more c
unfolding breadth digit digits
first_digits {b} {c} (begins_one h) f =
    let e : c ≡ b = omega (arith, f.begins) in
    rw (utf8_one c (omega arith), e)
first_digits {b} {c} (begins_two h k) f =
    let e : 0xC0 + c / 64 ≡ b = omega (arith, f.begins) in
    rw (utf8_two c f.above (omega arith), e, div-one)
first_digits {b} {c} (begins_three h k) f =
    let e : 0xE0 + c / 4096 ≡ b = omega (arith, f.begins) in
    rw (utf8_three c f.above (omega arith), e, div-one)
first_digits {b} {c} (begins_four h k) f =
    let e : 0xF0 + c / 262144 ≡ b = omega (arith, f.begins) in
    rw (utf8_four c f.above, e, div-one)
first_digits {c} (begins_none h) f = let e : c / 1 ≡ 0 = f.begins in let k : 1 ≤ c = f.above in absurd (omega arith)

-- a first byte that may become c
pub first_fits : (c : ℕ) → c < 0x200000 → (b : ℕ) × Fits c (first_part b)
unfolding breadth
first_fits c h = go (size c)
  where
    go : Size c → (b : ℕ) × Fits c (first_part b)
    go (size_one k) = (c, rw (first_one c k) (record { few = omega arith; above = omega arith; begins = omega arith }))
    go (size_two k l) =
        let b = 192 + c / 64 in
        (b, rw (first_two b (omega arith) (omega arith)) (record { few = omega arith; above = k; begins = omega arith }))
    go (size_three k l) =
        let b = 224 + c / 4096 in
        (b, rw (first_three b (omega arith) (omega arith)) (record { few = omega arith; above = k; begins = omega arith }))
    go (size_four k) =
        let b = 240 + c / 262144 in
        (b, rw (first_four b (omega arith) (omega arith)) (record { few = omega arith; above = k; begins = omega arith }))

-- decoding -------------------------------------------------------------------------

-- bytes that are fewer than those of the code point that they would be
short : (w : List ℕ) (n : ℕ) → n ≤ length (utf8 (code_point w)) → length w < n → spells_one w ≡ false
short w n h k = same_long (utf8 (code_point w)) w (λ e. omega arith)

long : (c : ℕ) → (128 ≤ c → 2 ≤ length (utf8 c)) × (2048 ≤ c → 3 ≤ length (utf8 c)) × (65536 ≤ c → 4 ≤ length (utf8 c))
long c = go (size c)
  where
    go : Size c → (128 ≤ c → 2 ≤ length (utf8 c)) × (2048 ≤ c → 3 ≤ length (utf8 c)) × (65536 ≤ c → 4 ≤ length (utf8 c))
    go (size_one k) = (λ h. absurd (omega arith), λ h. absurd (omega arith), λ h. absurd (omega arith))
    go (size_two k l) = rw (utf8_two c k l) (omega arith, λ h. absurd (omega arith), λ h. absurd (omega arith))
    go (size_three k l) = rw (utf8_three c k l) (omega arith, omega arith, λ h. absurd (omega arith))
    go (size_four k) = rw (utf8_four c k) (omega arith, omega arith, omega arith)

spelled : (w : List ℕ) (c : ℕ) → utf8 c ≡ w → code_point w ≡ c → spells_one w ≡ true
spelled w c e f = rw (f, e) (same_self w)

go_on : (w s : List ℕ) (b : ℕ) → spells_one (w ++ (b ∷ [])) ≡ false → characters w (b ∷ s) ≡ characters (w ++ (b ∷ [])) s
unfolding characters
go_on w s b e = rw e

come_to : (w s : List ℕ) (b c : ℕ) → utf8 c ≡ w ++ (b ∷ []) → code_point (w ++ (b ∷ [])) ≡ c
    → characters w (b ∷ s) ≡ c ∷ characters [] s
unfolding characters
come_to w s b c e f = rw (spelled (w ++ (b ∷ [])) c e f, f)

pub decode : (c : ℕ) (s : List ℕ) → characters [] (utf8 c ++ s) ≡ c ∷ characters [] s
decode c s = go (size c)
  where
    go : Size c → characters [] (utf8 c ++ s) ≡ c ∷ characters [] s
    go (size_one k) = rw (utf8_one c k) (come_to [] s c c (utf8_one c k) refl)
    go (size_two k l) =
        let a = 0xC0 + c / 64 in
        let b = 0x80 + c % 64 in
        rw (utf8_two c k l) (go_on [] (b ∷ s) a (short (a ∷ []) 2 ((long a).0 (omega arith)) (omega arith))
        ∙ come_to (a ∷ []) s b c (utf8_two c k l) (omega arith))
    go (size_three k l) =
        let a = 0xE0 + c / 4096 in
        let b = 0x80 + c / 64 % 64 in
        let d = 0x80 + c % 64 in
        let q = div-div-eq-div-mul c 64 64 in
        rw (utf8_three c k l) (go_on [] (b ∷ d ∷ s) a (short (a ∷ []) 2 ((long a).0 (omega arith)) (omega arith))
        ∙ go_on (a ∷ []) (d ∷ s) b (short (a ∷ b ∷ []) 3 ((long (code_point (a ∷ b ∷ []))).1 (omega arith)) (omega arith))
        ∙ come_to (a ∷ b ∷ []) s d c (utf8_three c k l) (omega arith))
    go (size_four k) =
        let a = 0xF0 + c / 262144 in
        let b = 0x80 + c / 4096 % 64 in
        let d = 0x80 + c / 64 % 64 in
        let e = 0x80 + c % 64 in
        let q = div-div-eq-div-mul c 64 64 in
        let r = div-div-eq-div-mul c 4096 64 in
        rw (utf8_four c k) (go_on [] (b ∷ d ∷ e ∷ s) a (short (a ∷ []) 2 ((long a).0 (omega arith)) (omega arith))
        ∙ go_on (a ∷ []) (d ∷ e ∷ s) b (short (a ∷ b ∷ []) 3 ((long (code_point (a ∷ b ∷ []))).1 (omega arith)) (omega arith))
        ∙ go_on (a ∷ b ∷ []) (e ∷ s) d (short (a ∷ b ∷ d ∷ []) 4 ((long (code_point (a ∷ b ∷ d ∷ []))).2 (omega arith)) (omega arith))
        ∙ come_to (a ∷ b ∷ d ∷ []) s e c (utf8_four c k) (omega arith))

-- what spells code points is decoded to them
pub characters_of : (cs : List ℕ) → characters [] (joined (map utf8 cs)) ≡ cs
unfolding characters
characters_of [] = refl
characters_of (c ∷ cs) = decode c (joined (map utf8 cs)) ∙ ap (λ (l : List ℕ). c ∷ l) (characters_of cs)
