-- Characters read by the code: its tables, parts of characters, and the loops over bytes. Assumes nothing.
use Prim.Native.Nat.{ℕ, zero, suc, ◌+◌, ◌-◌, ◌*◌, ◌≤◌, ◌<◌}
use mathlib.Core.Path.{◌≡◌, refl, ap, ◌∙◌}
use mathlib.Core.Bool.{Bool, true, false, cond, ◌&&◌, false≢true}
use mathlib.Core.List.{List, [], ◌∷◌}
use native.Mathlib.Omega.{arith}
use native.Mathlib.Nat.{sub-zero, mul-le-mul_right}
use lib.Dec.{eqb, leb, ltb}
use borrow.Author.Tests.{ltb-true, leb-true, eqb-false}
use lib.ListN.{length, get_or, take, drop}
use lib.Seq.{drop-cons, take-length}
use Rattle.std.specs.Prelude.{Result, Ok, Err, is_ok}
use Rattle.tree.specs.Lists.{every}
use Rattle.tree.specs.Characters.{within, name_start_characters, text_characters}
use Rattle.tree.specs.Content.{name_start, name_byte, text_byte}
use Rattle.tree.specs.Spelling.{Part, part, wrong_part, first_part, next_part, with_byte, breadth, possible}
use Rattle.tree.specs.Spelling.{Spelling, broken, spelling, spell, start_of, no_part}
use Rattle.tree.specs.Spelling.{Fault, faultless, fault, is_faultless, later, fault_behind, fault_in}
use Rattle.tree.specs.Values.{class, Small, Behind, reading_of, plain}
use Rattle.tree.specs.Laws.Tests.{and_left, and_right}
use Rattle.tree.specs.Laws.Utf8.{breadth_positive, breadth_suc, first_one, first}
use Rattle.tree.specs.Laws.Utf8.{First, begins_one, begins_two, begins_three, begins_four, begins_none}
use Rattle.tree.specs.Laws.Reading.{reading, spell_ascii, possible_one, name_start_ascii, name_ascii, text_ascii}
use Rattle.tree.specs.Laws.Spelling.{later_faultless}

-- parts stay small
pub small_room : (p : Part) → Small p → (n : ℕ) → n ≡ breadth p.more → (p.value * n + n ≤ 0x200000) × (1 ≤ n)
small_room p s n e = rw e (omega (arith, s.low), breadth_positive p.more)

module _ (m v l b : ℕ) (s : Small (part (suc m) v l)) where
  few : m ≤ 2
  few = omega (arith, s.few)

  low : (v + 1) * (breadth m * 64) ≤ 0x200000
  low = rw (breadth_suc m few) at s.low

  room : v * 64 + 64 ≤ 0x200000
  room = omega (arith, low, mul-le-mul_right (v * 64 + 64) (breadth_positive m))

  small_digit : b ≤ 191 → Small (part m (v * 64 + (b - 128)) l)
  small_digit h =
      let k : v * 64 + (b - 128) + 1 ≤ (v + 1) * 64 = omega arith in
      record { few = omega (arith, few); low = omega (arith, low, mul-le-mul_right (breadth m) k) }

-- a value with a digit more fits
pub small_value : (p : Part) → Small p → 1 ≤ p.more → p.value * 64 + 64 ≤ 0x200000
small_value p s h = go p.more s h
  where
    go : (n : ℕ) → Small (part n p.value p.least) → 1 ≤ n → p.value * 64 + 64 ≤ 0x200000
    go zero s h = absurd (omega arith)
    go (suc m) s h = room m p.value p.least 0 s

small_first : {b : ℕ} {p : Part} → First b p → Small p
unfolding breadth
small_first (begins_one h) = record { few = omega arith; low = omega arith }
small_first (begins_two h k) = record { few = omega arith; low = omega arith }
small_first (begins_three h k) = record { few = omega arith; low = omega arith }
small_first (begins_four h k) = record { few = omega arith; low = omega arith }
small_first (begins_none h) = record { few = omega arith; low = omega arith }

pub small_none : (p : Part) → p ≡ no_part → Small p
unfolding breadth
small_none p e = rw e (record { few = omega arith; low = omega arith })

pub small_begins : (b : ℕ) → Small (first_part b)
small_begins b = small_first (first b)

small_next : (n v l b : ℕ) → Small (part n v l) → (n ≡ 0 → ⊥) → Small (next_part (part n v l) b)
unfolding next_part breadth
small_next zero v l b s h = absurd (h refl)
small_next (suc m) v l b s h = go (leb 128 b) (leb b 191) refl
  where
    go : (t u : Bool) → leb b 191 ≡ u → Small (cond (t && u) (part (suc m - 1) (v * 64 + (b - 128)) l) wrong_part)
    go false u e = record { few = omega arith; low = omega arith }
    go true false e = record { few = omega arith; low = omega arith }
    go true true e = let k : suc m - 1 ≡ m = omega arith in rw k (small_digit m v l b s (leb-true b 191 e))

pub small_with : (p : Part) (b : ℕ) → Small p → Small (with_byte p b)
unfolding with_byte
small_with p b s = go (eqb p.more 0) refl
  where
    go : (t : Bool) → eqb p.more 0 ≡ t → Small (cond t (first_part b) (next_part p b))
    go true e = small_begins b
    go false e = small_next p.more p.value p.least b s (eqb-false p.more 0 e)

pub small_behind : (first first' : Bool) (p p' : Part) → Behind first p first' p' → Small p → Small p'
small_behind first first' p p' b s = rw b.rest (go (eqb p.more 0))
  where
    go : (t : Bool) → Small (cond t no_part p)
    go true = small_none no_part refl
    go false = s

-- the first byte of a character
pub start_possible : (text : Bool) (p q : Part) → p ≡ q → possible (class text true) p ≡ possible (start_of text).here q
unfolding class
start_possible true p q e = rw e
start_possible false p q e = rw e

module _ (text : Bool) (b : ℕ) (h : b < 128) where
  pub text_begins : text ≡ true → text_byte b ≡ possible (start_of text).here (first_part b)
  text_begins e = rw (e, first_one b h, possible_one text_characters b, text_ascii b h)

  pub name_begins : text ≡ false → name_start b ≡ possible (start_of text).here (first_part b)
  name_begins e = rw (e, first_one b h, possible_one name_start_characters b, name_start_ascii b h)

-- the loop over bytes: the reading stands before the byte at i of those up to `to`
abbrev pub state : (text first : Bool) → Part → Spelling
state text first p = record { here = class text first; behind = class text false; begun = p }

-- behind n bytes that are spelled
abbrev pub after : ℕ → Fault → Fault
after n faultless = faultless
after n (fault k) = fault (n + k)

after_later : (n : ℕ) (f : Fault) → after n (later f) ≡ after (n + 1) f
after_later n faultless = refl
after_later n (fault k) = let e : n + suc k ≡ n + 1 + k = omega arith in rw e

pub start_at : (text : Bool) (s : List ℕ) (p : Part) (n : ℕ) → p ≡ no_part → n ≡ 0
    → fault_in (start_of text) s ≡ after n (fault_in (state text true p) s)
unfolding class
start_at text s p n e h = rw (e, h) (go text ∙ same (fault_in (state text true no_part) s))
  where
    go : (text : Bool) → fault_in (start_of text) s ≡ fault_in (state text true no_part) s
    go true = refl
    go false = refl

    same : (f : Fault) → f ≡ after 0 f
    same faultless = refl
    same (fault n) = let e : n ≡ 0 + n = omega arith in ap fault e

module _ (s : List ℕ) (text first : Bool) (p q : Part) (i to : ℕ) (h : i < to) (k : to ≤ length s)
    (e : q ≡ with_byte p (get_or s i 0)) where
  read_turn : fault_in (state text first p) (take (to - i) (drop i s))
      ≡ fault_behind (cond (possible (class text first) q) (spelling (reading (class text first) (class text false) q)) broken)
      (λ y. fault_in y (take (to - (i + 1)) (drop (i + 1) s)))
  unfolding fault_in spell
  read_turn =
      let f : i + 1 ≡ suc i = omega arith in
      let g : to - i ≡ suc (to - (i + 1)) = omega arith in
      rw (g, f, drop-cons s i 0 (omega arith), e)

  pub read_broken : possible (class text first) q ≡ false → fault_in (state text first p) (take (to - i) (drop i s)) ≡ fault 0
  read_broken f = read_turn ∙ rw f

  pub read_on : possible (class text first) q ≡ true → (first' : Bool) (p' : Part) → Behind first q first' p' → (n m : ℕ) → m ≡ n + 1
      → after n (fault_in (state text first p) (take (to - i) (drop i s)))
      ≡ after m (fault_in (state text first' p') (take (to - (i + 1)) (drop (i + 1) s)))
  read_on f first' p' b n m e =
      let z = fault_in (state text first' p') (take (to - (i + 1)) (drop (i + 1) s)) in
      let g : fault_in (state text first p) (take (to - i) (drop i s)) ≡ later z = read_turn ∙ rw (f, goes (eqb q.more 0) refl) in
      rw (g, e) (after_later n z)
    where
      goes : (t : Bool) → eqb q.more 0 ≡ t → reading (class text first) (class text false) q ≡ state text first' p'
      goes true g = rw (g, b.next, b.rest, g)
      goes false g = rw (g, b.next, b.rest, g)

pub read_end : (s : List ℕ) (text first : Bool) (p : Part) (to i : ℕ) → to ≤ i
    → fault_in (state text first p) (take (to - i) (drop i s)) ≡ cond (eqb p.more 0) faultless (fault 0)
unfolding fault_in
read_end s text first p to i h = let e : to - i ≡ 0 = omega arith in rw e

-- the answers
pub answer_broken : (f g : Fault) (n m : ℕ) → f ≡ after n g → g ≡ fault 0 → m ≡ n → Err m ≡ reading_of f
unfolding reading_of
answer_broken f g n m e h k = let z : m ≡ n + 0 = omega arith in rw (e, h, z)

pub answer_whole : (f g : Fault) (n : ℕ) → f ≡ after n g → g ≡ faultless → Ok tt ≡ reading_of f
unfolding reading_of
answer_whole f g n e h = rw (e, h)

-- all bytes of a list
all_bytes : (s : List ℕ) → take (length s - 0) (drop 0 s) ≡ s
all_bytes s = rw sub-zero (take-length s)

module _ (x : Spelling) (s : List ℕ) (r : Result (Unit {0}) ℕ) (e : r ≡ reading_of (fault_in x (take (length s - 0) (drop 0 s)))) where
  same : r ≡ reading_of (fault_in x s)
  same = e ∙ ap (λ (l : List ℕ). reading_of (fault_in x l)) (all_bytes s)

  pub is_ok_bytes : is_ok r ≡ is_faultless (fault_in x s)
  unfolding reading_of
  is_ok_bytes = ap is_ok same ∙ go (fault_in x s)
    where
      go : (f : Fault) → is_ok (reading_of f) ≡ is_faultless f
      go faultless = refl
      go (fault n) = refl

-- bytes of ASCII, each a character by itself
own_class : (text first : Bool) (b : ℕ) → plain text b ≡ true → (text ≡ false → first ≡ true → name_start b ≡ true)
    → (b < 128) × (within (class text first) b ≡ true)
unfolding class plain
own_class text first b e k = let h = ltb-true b 128 (and_left (ltb b 128) _ e) in (h, go text first h (and_right (ltb b 128) _ e) k)
  where
    go : (text first : Bool) → b < 128 → cond text text_byte name_byte b ≡ true → (text ≡ false → first ≡ true → name_start b ≡ true)
        → within (class text first) b ≡ true
    go true first h e k = text_ascii b h ∙ e
    go false true h e k = name_start_ascii b h ∙ k refl refl
    go false false h e k = name_ascii b h ∙ e

plain_read : (text first : Bool) (s : List ℕ) → every (plain text) s ≡ true
    → (text ≡ false → first ≡ true → name_start (get_or s 0 0) ≡ true) → is_faultless (fault_in (state text first no_part) s) ≡ true
unfolding fault_in
plain_read text first [] e k = refl
plain_read text first (b ∷ s) e k =
    let c = own_class text first b (and_left (plain text b) _ e) k in
    let r = plain_read text false s (and_right (plain text b) _ e) (λ t f. absurd (false≢true f)) in
    rw (spell_ascii (state text first no_part) b refl c.0, c.1) (later_faultless (fault_in (state text false no_part) s) ∙ r)

pub plain_whole : (text : Bool) (s : List ℕ) → every (plain text) s ≡ true → (text ≡ false → name_start (get_or s 0 0) ≡ true)
    → is_faultless (fault_in (start_of text) s) ≡ true
unfolding class
plain_whole true s e k = plain_read true true s e (λ t f. k t)
plain_whole false s e k = plain_read false true s e (λ t f. k t)
