-- Bytes are read to the end exactly if they spell characters of the class, and then they are of the byte classes.
use Rattle.std.specs.Prelude.{◌≡◌, refl, ℕ, zero, suc, ◌+◌, ◌-◌, ◌*◌, ◌≤◌, ◌<◌, Bool, true, false, cond, ◌&&◌, List, [], ◌∷◌, ◌++◌, map, ◌⊎◌, eqb, leb, ltb}
use Rattle.std.proofs.Common.{sym, ap, ◌∙◌, true≢false, append_assoc, append-nil, inl, inr, arith, leb-true, le-leb, ltb-true, ltb-false, eqb-true}
use Rattle.std.proofs.Math.Bool.{or-true}
use Rattle.std.proofs.lemmas.Bool.{false≢true, eqb-false}
use Rattle.tree.specs.Lists.{every, joined}
use Rattle.tree.specs.Characters.{Range, within, name_start_characters, name_characters, text_characters, utf8, no_character}
use Rattle.tree.specs.Content.{between}
use Rattle.tree.specs.Characters.{code_point, spells_one, characters}
use Rattle.tree.specs.Content.{name_start, name_byte, text_byte, spells_name, spells_text}
use Rattle.tree.specs.Spelling.{Part, part, no_part, wrong_part, first_part, next_part, with_byte, breadth, possible}
use Rattle.tree.specs.Spelling.{Spelling, before, whole, Spelled, broken, spelling, spell, start_of}
use Rattle.tree.specs.Spelling.{Fault, faultless, fault, is_faultless, later, fault_behind, fault_in}
use Rattle.tree.specs.Laws.Tests.{and_left, and_right, or_cases, both_ways}
use Rattle.tree.specs.Laws.Compare.{same_equal}
use Rattle.tree.specs.Laws.Utf8.{first, first_digits, first_fits, Fits, fits_possible, possible_fits, digits, fits_before, decode}
use Rattle.tree.specs.Laws.Reading.{reading, spell_is, took, few_with, complete}
pub use Rattle.tree.specs.Laws.Utf8.{characters_of}
pub use Rattle.tree.specs.Laws.Reading.{spell_ascii, spell_cut, spell_high, spell_behind, name_start_ascii, name_ascii, text_ascii}
pub use Rattle.tree.specs.Laws.Reading.{Completable, completable_before, completable_spell, spell_on, completing}
unfoldable pub use Rattle.tree.specs.Laws.Reading.{spell_all}

-- bytes whose characters are all code points are what spells them: nothing but UTF-8 is decoded
pub spelled_by : (w s : List ℕ) → every (λ c. ltb c no_character) (characters w s) ≡ true → joined (map utf8 (characters w s)) ≡ w ++ s
unfolding characters
spelled_by [] [] h = refl
spelled_by (a ∷ w) [] h = absurd (false≢true h)
spelled_by w (d ∷ s) h = go (spells_one (w ++ (d ∷ []))) refl h (spelled_by [] s) (spelled_by (w ++ (d ∷ [])) s)
  where
    v : List ℕ
    v = w ++ (d ∷ [])

    go : (t : Bool) → spells_one v ≡ t → every (λ c. ltb c no_character) (cond t (code_point v ∷ characters [] s) (characters v s)) ≡ true
        → (every (λ c. ltb c no_character) (characters [] s) ≡ true → joined (map utf8 (characters [] s)) ≡ s)
        → (every (λ c. ltb c no_character) (characters v s) ≡ true → joined (map utf8 (characters v s)) ≡ v ++ s)
        → joined (map utf8 (cond t (code_point v ∷ characters [] s) (characters v s))) ≡ w ++ (d ∷ s)
    go true f k now on =
        ap (λ (l : List ℕ). utf8 (code_point v) ++ l) (now (and_right (ltb (code_point v) no_character) _ k))
        ∙ rw (same_equal (utf8 (code_point v)) v f) (append_assoc w (d ∷ []) s)
    go false f k now on = on k ∙ append_assoc w (d ∷ []) s

-- the definition and the reading ---------------------------------------------------

pub later_faultless : (f : Fault) → is_faultless (later f) ≡ is_faultless f
later_faultless faultless = refl
later_faultless (fault n) = refl

fault_all : (x y : Spelling) (t s : List ℕ) → spell_all x t ≡ spelling y
    → is_faultless (fault_in x (t ++ s)) ≡ is_faultless (fault_in y s)
unfolding spell_all fault_in
fault_all x y [] s e = let f : x ≡ y = cc in rw f
fault_all x y (b ∷ t) s e = go (spell x b) e (λ z. fault_all z y t s)
  where
    go : (z : Spelled) → spell_on z (λ u. spell_all u t) ≡ spelling y
        → ((u : Spelling) → spell_all u t ≡ spelling y → is_faultless (fault_in u (t ++ s)) ≡ is_faultless (fault_in y s))
        → is_faultless (fault_behind z (λ u. fault_in u (t ++ s))) ≡ is_faultless (fault_in y s)
    go broken f k = cc
    go (spelling u) f k = later_faultless (fault_in u (t ++ s)) ∙ k u f

-- a character of the class is read
spell_utf8 : (h b : List Range) (c : ℕ) → within h c ≡ true → c < 0x200000 → spell_all (before h b) (utf8 c) ≡ spelling (before b b)
unfolding spell_all with_byte
spell_utf8 h b c e k =
    let g = first_fits c k in
    let p = first_part g.0 in
    let took : spell (before h b) g.0 ≡ spelling (reading h b p) =
    spell_is (before h b) g.0 ∙ rw (fits_possible h p c e g.1) in
    rw (first_digits (first g.0) g.1, took) (complete h b c e p.more p.value p.least g.1)

-- a class of code points
abbrev Proper : List Range → Type 0
Proper rs = every (λ r. ltb r.1 no_character) rs ≡ true

below : (rs : List Range) → Proper rs → (c : ℕ) → within rs c ≡ true → c < no_character
unfolding within
below [] p c e = absurd (false≢true e)
below (r ∷ rs) p c e = go (or_cases (between r.0 r.1 c) (within rs c) e) (below rs (and_right (ltb r.1 no_character) _ p) c)
  where
    go : (between r.0 r.1 c ≡ true) ⊎ (within rs c ≡ true) → (within rs c ≡ true → c < no_character) → c < no_character
    go (inl f) k =
        let a = ltb-true r.1 no_character (and_left (ltb r.1 no_character) _ p) in
        omega (arith, leb-true c r.1 (and_right (leb r.0 c) (leb c r.1) f))
    go (inr f) k = k f

-- the first of a class, the others of another
abbrev in_classes : (h b : List Range) → List ℕ → Bool
in_classes h b [] = true
in_classes h b (c ∷ cs) = within h c && every (within b) cs

same_class : (b : List Range) (cs : List ℕ) → in_classes b b cs ≡ every (within b) cs
same_class b [] = refl
same_class b (c ∷ cs) = refl

-- what the definition takes is read, behind bytes w of a character that is begun
defined_read : (h b : List Range) → Proper h → Proper b → (w s : List ℕ) → in_classes h b (characters w s) ≡ true
    → is_faultless (fault_in (before h b) (w ++ s)) ≡ true
unfolding characters fault_in
defined_read h b ph pb [] [] e = refl
defined_read h b ph pb (a ∷ w) [] e = let k = below h ph no_character (and_left (within h no_character) true e) in absurd (omega arith)
defined_read h b ph pb w (d ∷ s) e =
    rw (sym (append_assoc w (d ∷ []) s))
    (go (spells_one (w ++ (d ∷ []))) refl e (defined_read b b pb pb [] s) (defined_read h b ph pb (w ++ (d ∷ [])) s))
  where
    v : List ℕ
    v = w ++ (d ∷ [])

    Read : Type 0
    Read = is_faultless (fault_in (before h b) ((w ++ (d ∷ [])) ++ s)) ≡ true

    go : (t : Bool) → spells_one v ≡ t → in_classes h b (cond t (code_point v ∷ characters [] s) (characters v s)) ≡ true
        → (in_classes b b (characters [] s) ≡ true → is_faultless (fault_in (before b b) s) ≡ true)
        → (in_classes h b (characters v s) ≡ true → Read)
        → Read
    go true f k now on =
        let c = code_point v in
        let e = and_left (within h c) (every (within b) (characters [] s)) k in
        let r = and_right (within h c) (every (within b) (characters [] s)) k in
        let all = spell_utf8 h b c e (omega (arith, below h ph c e)) in
        fault_all (before h b) (before b b) v s (rw (same_equal (utf8 c) v f) at all) ∙ now (same_class b (characters [] s) ∙ r)
    go false f k now on = on k

-- the bytes w have been read up to the part p
abbrev Came : List ℕ → Part → Type 0
Came w p = (p.more ≤ 3) × ((c : ℕ) → Fits c p → utf8 c ≡ w ++ digits p.more c)

-- w are the bytes of the character that is begun
data Begun : List ℕ → Spelling → Type 0 where
  none_begun : {x : Spelling} → whole x ≡ true → Begun [] x
  some_begun : {w : List ℕ} {x : Spelling} → whole x ≡ false → Came w x.begun → Begun w x

came_wrong : (w : List ℕ) → Came w wrong_part
unfolding breadth
came_wrong w = (omega arith, λ c f. absurd (omega (arith, f.above, f.begins)))

came_digit : (w : List ℕ) (m v l b : ℕ) → 128 ≤ b → b ≤ 191 → Came w (part (suc m) v l)
    → Came (w ++ (b ∷ [])) (part m (v * 64 + (b - 128)) l)
unfolding digits
came_digit w m v l b h k a = (
  omega (arith, a.0),
  λ c f.
      let g = fits_before c m v l (omega (arith, a.0)) b h k f in
      a.1 c g.0 ∙ rw (g.1, append_assoc w (b ∷ []) (digits m c)),
)

came_next : (w : List ℕ) (p : Part) (b : ℕ) → eqb p.more 0 ≡ false → Came w p → Came (w ++ (b ∷ [])) (next_part p b)
unfolding next_part
came_next w p b e a = go (leb 128 b) refl (leb b 191) refl p.more refl a
  where
    Next : (t u : Bool) (n : ℕ) → Type 0
    Next t u n = Came (w ++ (b ∷ [])) (cond (t && u) (part (n - 1) (p.value * 64 + (b - 128)) p.least) wrong_part)

    go : (t : Bool) → leb 128 b ≡ t → (u : Bool) → leb b 191 ≡ u → (n : ℕ) → p.more ≡ n → Came w (part n p.value p.least)
        → Next t u n
    go false f u g n h a = came_wrong (w ++ (b ∷ []))
    go true f false g n h a = came_wrong (w ++ (b ∷ []))
    go true f true g zero h a = absurd (eqb-false p.more 0 e h)
    go true f true g (suc m) h a =
        let k : suc m - 1 ≡ m = omega arith in
        rw k (came_digit w m p.value p.least b (leb-true 128 b f) (leb-true b 191 g) a)

came : (w : List ℕ) (x : Spelling) (b : ℕ) → Begun w x → Came (w ++ (b ∷ [])) (with_byte x.begun b)
unfolding with_byte
came w x b (none_begun e) = rw e (few_with no_part b (omega arith), λ c f. first_digits (first b) f)
came w x b (some_begun e a) = rw e (came_next w x.begun b e a)

came_whole : (w : List ℕ) (p : Part) (c : ℕ) → Came w p → eqb p.more 0 ≡ true → Fits c p → utf8 c ≡ w
unfolding digits
came_whole w p c a e f = a.1 c f ∙ rw (eqb-true p.more 0 e, append-nil w)

-- what is read, the definition takes
read_defined : (w s : List ℕ) (x : Spelling) → Begun w x → is_faultless (fault_in x s) ≡ true
    → in_classes x.here x.behind (characters [] (w ++ s)) ≡ true
unfolding fault_in characters
read_defined w [] x a e = ends a (whole x) refl e
  where
    ends : {w : List ℕ} → Begun w x → (t : Bool) → whole x ≡ t → is_faultless (cond t faultless (fault 0)) ≡ true
        → in_classes x.here x.behind (characters [] (w ++ [])) ≡ true
    ends (none_begun f) t g e = refl
    ends (some_begun f a) true g e = absurd (true≢false (sym g ∙ f))
    ends (some_begun f a) false g e = absurd (false≢true e)
read_defined w (b ∷ s) x a e = rw (sym (append_assoc w (b ∷ []) s)) (go (spell x b) refl e (λ v y. read_defined v s y))
  where
    v : List ℕ
    v = w ++ (b ∷ [])

    Defined : Type 0
    Defined = in_classes x.here x.behind (characters [] (v ++ s)) ≡ true

    On : Type 0
    On = (v : List ℕ) (y : Spelling) → Begun v y → is_faultless (fault_in y s) ≡ true
        → in_classes y.here y.behind (characters [] (v ++ s)) ≡ true

    goes_on : Part → Spelling
    goes_on p = record { here = x.here; behind = x.behind; begun = p }

    on : (p : Part) → Came v p → possible x.here p ≡ true → (t : Bool) → eqb p.more 0 ≡ t → On
        → is_faultless (fault_in (cond t (before x.behind x.behind) (goes_on p)) s) ≡ true
        → Defined
    on p k q false f o r = o v (goes_on p) (some_begun f k) r
    on p k q true f o r =
        let g = possible_fits x.here p k.0 q in
        let c = g.0 in
        let u = came_whole v p c k f g.2 in
        let d : characters [] (v ++ s) ≡ c ∷ characters [] s = rw (sym u) (decode c s) in
        let z : every (within x.behind) (characters [] s) ≡ true =
        sym (same_class x.behind (characters [] s)) ∙ o [] (before x.behind x.behind) (none_begun refl) r in
        rw (d, g.1) z

    go : (z : Spelled) → spell x b ≡ z → is_faultless (fault_behind z (λ y. fault_in y s)) ≡ true → On → Defined
    go broken f r o = absurd (false≢true r)
    go (spelling y) f r o =
        let p = with_byte x.begun b in
        let g = took x y b f in
        on p (came w x b a) g.0 (eqb p.more 0) refl o (rw g.1 at (sym (later_faultless (fault_in y s)) ∙ r))

read_exactly : (h b : List Range) → Proper h → Proper b → (s : List ℕ)
    → in_classes h b (characters [] s) ≡ is_faultless (fault_in (before h b) s)
read_exactly h b ph pb s = both_ways _ _ (defined_read h b ph pb [] s) (read_defined [] s (before h b) (none_begun refl))

-- bytes are at least one character
abbrev Some : List ℕ → Type 0
Some l = (c : ℕ) × ((cs : List ℕ) × (l ≡ c ∷ cs))

some_begins : (a : ℕ) (w s : List ℕ) → Some (characters (a ∷ w) s)
unfolding characters
some_begins a w [] = (no_character, ([], refl))
some_begins a w (b ∷ s) = go (spells_one (a ∷ (w ++ (b ∷ [])))) (some_begins a (w ++ (b ∷ [])) s)
  where
    go : (t : Bool) → Some (characters (a ∷ (w ++ (b ∷ []))) s)
        → Some (cond t (code_point (a ∷ (w ++ (b ∷ []))) ∷ characters [] s) (characters (a ∷ (w ++ (b ∷ []))) s))
    go true f = (code_point (a ∷ (w ++ (b ∷ []))), (characters [] s, refl))
    go false f = f

some_character : (b : ℕ) (s : List ℕ) → Some (characters [] (b ∷ s))
unfolding characters
some_character b s = go (spells_one (b ∷ [])) (some_begins b [] s)
  where
    go : (t : Bool) → Some (characters (b ∷ []) s) → Some (cond t (b ∷ characters [] s) (characters (b ∷ []) s))
    go true f = (b, (characters [] s, refl))
    go false f = f

-- a name, and a text, is what is read to the end
pub name_spelled : (b : ℕ) (s : List ℕ) → spells_name (b ∷ s) ≡ is_faultless (fault_in (start_of false) (b ∷ s))
unfolding spells_name
name_spelled b s =
    let g = some_character b s in
    let r = read_exactly name_start_characters name_characters refl refl (b ∷ s) in
    rw g.1.1 (rw g.1.1 at r)

pub text_spelled : (b : ℕ) (s : List ℕ) → spells_text (b ∷ s) ≡ is_faultless (fault_in (start_of true) (b ∷ s))
unfolding spells_text
text_spelled b s =
    let g = some_character b s in
    let r = read_exactly text_characters text_characters refl refl (b ∷ s) in
    rw g.1.1 (rw g.1.1 at r)

pub no_empty : (spells_name [] ≡ false) × (spells_text [] ≡ false)
unfolding spells_name spells_text characters
no_empty = (refl, refl)

-- the bytes are of the byte classes ------------------------------------------------

first_taken : (x : Spelling) (b : ℕ) (s : List ℕ) → is_faultless (fault_in x (b ∷ s)) ≡ true
    → (y : Spelling) × (spell x b ≡ spelling y) × (is_faultless (fault_in y s) ≡ true)
unfolding fault_in
first_taken x b s e = go (spell x b) refl e
  where
    go : (z : Spelled) → spell x b ≡ z → is_faultless (fault_behind z (λ y. fault_in y s)) ≡ true
        → (y : Spelling) × (spell x b ≡ spelling y) × (is_faultless (fault_in y s) ≡ true)
    go broken f r = absurd (false≢true r)
    go (spelling y) f r = (y, f, sym (later_faultless (fault_in y s)) ∙ r)

module _ (t : ℕ → Bool) (high : (b : ℕ) → 128 ≤ b → t b ≡ true) where
  byte_taken : (x y : Spelling) (b : ℕ) → ((b : ℕ) → b < 128 → within x.here b ≡ true → t b ≡ true) → spell x b ≡ spelling y → t b ≡ true
  byte_taken x y b h e = go (ltb b 128) refl (spell_high x y b e)
    where
      go : (u : Bool) → ltb b 128 ≡ u → (b < 128 → ⊥) ⊎ (within x.here b ≡ true) → t b ≡ true
      go false f r = high b (ltb-false b 128 f)
      go true f (inl n) = absurd (n (ltb-true b 128 f))
      go true f (inr k) = h b (ltb-true b 128 f) k

  bytes_taken : (x : Spelling) (s : List ℕ) → ((b : ℕ) → b < 128 → within x.here b ≡ true → t b ≡ true)
      → ((b : ℕ) → b < 128 → within x.behind b ≡ true → t b ≡ true) → is_faultless (fault_in x s) ≡ true → every t s ≡ true
  bytes_taken x [] h k e = refl
  bytes_taken x (b ∷ s) h k e =
      let g = first_taken x b s e in
      let c = spell_behind x g.0 b g.1 in
      rw (byte_taken x g.0 b h g.1) (bytes_taken g.0 s (here g.0 g.1 (whole g.0) refl) (rw c.0 k) g.2)
    where
      here : (y : Spelling) → spell x b ≡ spelling y → (u : Bool) → whole y ≡ u → (b : ℕ) → b < 128 → within y.here b ≡ true → t b ≡ true
      here y f true g = rw ((spell_behind x y b f).1 g) k
      here y f false g = rw ((spell_behind x y b f).2 g) h

name_start_high : (b : ℕ) → 128 ≤ b → name_start b ≡ true
unfolding name_start
name_start_high b h = rw (le-leb 128 b h, or-true)

start_name : (b : ℕ) → name_start b ≡ true → name_byte b ≡ true
unfolding name_byte
start_name b e = rw e

pub name_bytes : (b : ℕ) (s : List ℕ) → spells_name (b ∷ s) ≡ true → (name_start b ≡ true) × (every name_byte s ≡ true)
name_bytes b s e =
    let r = sym (name_spelled b s) ∙ e in
    let g = first_taken (start_of false) b s r in
    let f = byte_taken name_start name_start_high (start_of false) g.0 b (λ b h k. sym (name_start_ascii b h) ∙ k) g.1 in
    let all = bytes_taken name_byte (λ b h. start_name b (name_start_high b h)) (start_of false) (b ∷ s)
    (λ b h k. start_name b (sym (name_start_ascii b h) ∙ k)) (λ b h k. sym (name_ascii b h) ∙ k) r in
    (f, and_right (name_byte b) (every name_byte s) all)

text_high : (b : ℕ) → 128 ≤ b → text_byte b ≡ true
unfolding text_byte
text_high b h = rw (le-leb 32 b (omega arith), or-true)

pub text_bytes : (s : List ℕ) → spells_text s ≡ true → every text_byte s ≡ true
text_bytes [] e = refl
text_bytes (b ∷ s) e =
    bytes_taken text_byte text_high (start_of true) (b ∷ s) (λ b h k. sym (text_ascii b h) ∙ k) (λ b h k. sym (text_ascii b h) ∙ k)
    (sym (text_spelled b s) ∙ e)
