-- Laws of reading UTF-8 a byte at a time: what a byte does, and that every character that is begun can be completed.
use Rattle.std.specs.Prelude.{◌≡◌, refl, ℕ, zero, suc, ◌+◌, ◌-◌, ◌*◌, ◌/◌, ◌%◌, ◌≤◌, ◌<◌, Bool, true, false, cond, not, ◌&&◌, List, [], ◌∷◌, ◌⊎◌, eqb, leb, ltb}
use Rattle.std.proofs.Common.{sym, ◌∙◌, true≢false, inl, inr, arith, le-leb, ltb-true, ltb-false, eqb-true}
use Rattle.std.proofs.lemmas.Bool.{false≢true, lt-leb, eqb-false, not-true}
use Rattle.std.proofs.Math.Dec.{eqb-suc-zero}
use Rattle.tree.specs.Lists.{every}
use Rattle.tree.specs.Characters.{Range, within, name_start_characters, name_characters, text_characters}
use Rattle.tree.specs.Content.{between}
use Rattle.tree.specs.Content.{name_start, name_byte, text_byte}
use Rattle.tree.specs.Spelling.{Part, part, wrong_part, first_part, next_part, with_byte, breadth, possible}
use Rattle.tree.specs.Spelling.{Spelling, before, whole, Spelled, broken, spelling, spell}
use Rattle.tree.specs.Laws.Tests.{and_left, and_right, refuted}
use Rattle.tree.specs.Laws.Utf8.{meets_one, first_one, first, Fits, fits_possible, possible_fits}
use Rattle.tree.specs.Laws.Utf8.{First, begins_one, begins_two, begins_three, begins_four, begins_none}
use Rattle.tree.specs.Laws.Utf8.{digit, digits, fits_digit, next_digit}

-- one byte -------------------------------------------------------------------------

-- with a part read, a character is whole or goes on
abbrev pub reading : (here behind : List Range) → Part → Spelling
reading h b p = cond (eqb p.more 0) (before b b) (record { here = h; behind = b; begun = p })

abbrev pub with_part : Spelling → Part → Spelled
with_part x p = cond (possible x.here p) (spelling (reading x.here x.behind p)) broken

pub spell_is : (x : Spelling) (b : ℕ) → spell x b ≡ with_part x (with_byte x.begun b)
unfolding spell
spell_is x b = refl

pub possible_one : (rs : List Range) (b : ℕ) → possible rs (part 0 b 0) ≡ within rs b
unfolding possible breadth
possible_one rs b = meets_one rs _ _ b (omega arith) (omega arith)

pub possible_wrong : (rs : List Range) → possible rs wrong_part ≡ false
unfolding breadth
possible_wrong rs = refuted (possible rs wrong_part) never
  where
    never : possible rs wrong_part ≡ true → ⊥
    never e = let g = possible_fits rs wrong_part (omega arith) e in omega (arith, g.2.above, g.2.begins)

pub spell_ascii : (x : Spelling) (b : ℕ) → whole x ≡ true → b < 128
    → spell x b ≡ cond (within x.here b) (spelling (before x.behind x.behind)) broken
unfolding with_byte
spell_ascii x b e h = spell_is x b ∙ rw (e, first_one b h, possible_one x.here b)

-- an ASCII byte does not go on with a character that is begun
pub spell_cut : (x : Spelling) (b : ℕ) → whole x ≡ false → b < 128 → spell x b ≡ broken
unfolding with_byte next_part
spell_cut x b e h = spell_is x b ∙ rw (e, lt-leb 128 b h, possible_wrong x.here)

-- the byte classes are the classes of characters below 128 -------------------------

-- two tests agree below n
abbrev agree : (t u : ℕ → Bool) (n : ℕ) → Bool
agree t u zero = true
agree t u (suc n) = cond (t n) (u n) (not (u n)) && agree t u n

agree_at : (t u : ℕ → Bool) (n : ℕ) → agree t u n ≡ true → (b : ℕ) → b < n → t b ≡ u b
agree_at t u zero e b h = absurd (omega arith)
agree_at t u (suc n) e b h = go (eqb b n) refl (agree_at t u n (and_right (cond (t n) (u n) (not (u n))) (agree t u n) e) b)
  where
    same : (x y : Bool) → cond x y (not y) ≡ true → x ≡ y
    same true y f = sym f
    same false y f = sym (not-true y f)

    go : (v : Bool) → eqb b n ≡ v → (b < n → t b ≡ u b) → t b ≡ u b
    go true f k = rw (eqb-true b n f) (same (t n) (u n) (and_left (cond (t n) (u n) (not (u n))) (agree t u n) e))
    go false f k = k (omega (arith, eqb-false b n f))

pub name_start_ascii : (b : ℕ) → b < 128 → within name_start_characters b ≡ name_start b
unfolding within name_start
name_start_ascii b h = agree_at (within name_start_characters) name_start 128 refl b h

pub name_ascii : (b : ℕ) → b < 128 → within name_characters b ≡ name_byte b
unfolding within name_start name_byte
name_ascii b h = agree_at (within name_characters) name_byte 128 refl b h

pub text_ascii : (b : ℕ) → b < 128 → within text_characters b ≡ text_byte b
unfolding within text_byte
text_ascii b h = agree_at (within text_characters) text_byte 128 refl b h

-- a byte that is taken -------------------------------------------------------------

-- what it makes of the part is possible, and the reading goes on there
pub took : (x y : Spelling) (b : ℕ) → spell x b ≡ spelling y
    → (possible x.here (with_byte x.begun b) ≡ true) × (y ≡ reading x.here x.behind (with_byte x.begun b))
took x y b e = go (possible x.here (with_byte x.begun b)) (sym (spell_is x b) ∙ e)
  where
    z : Spelling
    z = reading x.here x.behind (with_byte x.begun b)

    go : (t : Bool) → cond t (spelling z) broken ≡ spelling y → (t ≡ true) × (y ≡ z)
    go true f = (refl, cc)
    go false f = (cc, cc)

-- a byte that is taken is from 128 on, or a character of the class
pub spell_high : (x y : Spelling) (b : ℕ) → spell x b ≡ spelling y → (b < 128 → ⊥) ⊎ (within x.here b ≡ true)
spell_high x y b e = go (ltb b 128) refl (whole x) refl
  where
    go : (t : Bool) → ltb b 128 ≡ t → (u : Bool) → whole x ≡ u → (b < 128 → ⊥) ⊎ (within x.here b ≡ true)
    go false f u g = inl (λ h. omega (arith, ltb-false b 128 f))
    go true f false g = let h : spelling y ≡ broken = sym e ∙ spell_cut x b g (ltb-true b 128 f) in inr (cc)
    go true f true g = inr (into (within x.here b) (sym (spell_ascii x b g (ltb-true b 128 f)) ∙ e))
      where
        into : (t : Bool) → cond t (spelling (before x.behind x.behind)) broken ≡ spelling y → t ≡ true
        into true k = refl
        into false k = cc

pub spell_behind : (x y : Spelling) (b : ℕ) → spell x b ≡ spelling y
    → (y.behind ≡ x.behind) × (whole y ≡ true → y ≡ before x.behind x.behind) × (whole y ≡ false → y.here ≡ x.here)
spell_behind x y b e = rw (took x y b e).1 (go (with_byte x.begun b) (eqb (with_byte x.begun b).more 0) refl)
  where
    go : (p : Part) (t : Bool) → eqb p.more 0 ≡ t →
        let z : Spelling = cond t (before x.behind x.behind) (record { here = x.here; behind = x.behind; begun = p }) in
        (z.behind ≡ x.behind) × (whole z ≡ true → z ≡ before x.behind x.behind) × (whole z ≡ false → z.here ≡ x.here)
    go p true f = (refl, (λ h. refl), (λ h. absurd (true≢false h)))
    go p false f = (refl, (λ h. absurd (false≢true (sym f ∙ h))), (λ h. refl))

-- every character that is begun can be completed -----------------------------------

-- one of the class goes on so, in at most three bytes
pub record Completable (x : Spelling) : Type 0 where
  pub few : x.begun.more ≤ 3
  pub going : whole x ≡ false → possible x.here x.begun ≡ true

pub completable_before : (h b : List Range) → Completable (before h b)
completable_before h b = record { few = omega arith; going = λ e. absurd (true≢false e) }

pub few_with : (p : Part) (b : ℕ) → p.more ≤ 3 → (with_byte p b).more ≤ 3
unfolding with_byte next_part
few_with p b h = go (eqb p.more 0) (between 128 191 b) (few_first (first b))
  where
    few_first : {q : Part} → First b q → q.more ≤ 3
    few_first (begins_one k) = omega arith
    few_first (begins_two k l) = omega arith
    few_first (begins_three k l) = omega arith
    few_first (begins_four k l) = omega arith
    few_first (begins_none k) = omega arith

    go : (t u : Bool) → (first_part b).more ≤ 3
        → (cond t (first_part b) (cond u (part (p.more - 1) (p.value * 64 + (b - 128)) p.least) wrong_part)).more ≤ 3
    go true u f = f
    go false true f = omega arith
    go false false f = omega arith

pub completable_spell : (x y : Spelling) (b : ℕ) → Completable x → spell x b ≡ spelling y → Completable y
completable_spell x y b a e =
    let g = took x y b e in
    rw g.1 (go (with_byte x.begun b) (few_with x.begun b a.few) g.0 (eqb (with_byte x.begun b).more 0))
  where
    go : (p : Part) → p.more ≤ 3 → possible x.here p ≡ true → (t : Bool)
        → Completable (cond t (before x.behind x.behind) (record { here = x.here; behind = x.behind; begun = p }))
    go p h f true = completable_before x.behind x.behind
    go p h f false = record { few = h; going = λ k. f }

-- bytes one after the other
abbrev pub spell_on : Spelled → (Spelling → Spelled) → Spelled
spell_on broken f = broken
spell_on (spelling y) f = f y

unfoldable pub spell_all : Spelling → List ℕ → Spelled
spell_all x [] = spelling x
spell_all x (b ∷ s) = spell_on (spell x b) (λ y. spell_all y s)

-- the digits of a character of the class complete it
pub complete : (h b : List Range) (c : ℕ) → within h c ≡ true → (m v l : ℕ) → Fits c (part m v l)
    → spell_all (reading h b (part m v l)) (digits m c) ≡ spelling (before b b)
unfolding spell_all digits with_byte
complete h b c e zero v l f = refl
complete h b c e (suc m) v l f =
    let few : m ≤ 2 = omega (arith, f.few) in
    let n = part m (c / breadth m) l in
    let x : Spelling = record { here = h; behind = b; begun = part (suc m) v l } in
    let fits = fits_digit c m v l few f in
    let took : spell x (digit m c) ≡ spelling (reading h b n) =
    spell_is x (digit m c) ∙ rw (eqb-suc-zero m, next_digit c m v l few f, fits_possible h n c e fits) in
    rw (eqb-suc-zero m, took) (complete h b c e m (c / breadth m) l fits)

digits_high : (m c : ℕ) → every (λ b. leb 128 b) (digits m c) ≡ true
unfolding digits digit
digits_high zero c = refl
digits_high (suc m) c = rw (le-leb 128 (128 + c / breadth m % 64) (omega arith)) (digits_high m c)

pub completing : (x : Spelling) → Completable x
    → (t : List ℕ) × (every (λ b. leb 128 b) t ≡ true) × ((y : Spelling) × (spell_all x t ≡ spelling y) × (whole y ≡ true))
unfolding spell_all
completing x a = go (whole x) refl
  where
    go : (t : Bool) → whole x ≡ t
        → (t : List ℕ) × (every (λ b. leb 128 b) t ≡ true) × ((y : Spelling) × (spell_all x t ≡ spelling y) × (whole y ≡ true))
    go true e = ([], refl, (x, refl, e))
    go false e =
        let g = possible_fits x.here x.begun a.few (a.going e) in
        let m = x.begun.more in
        let d = complete x.here x.behind g.0 g.1 m x.begun.value x.begun.least g.2 in
        (digits m g.0, digits_high m g.0, (before x.behind x.behind, rw e at d, refl))
