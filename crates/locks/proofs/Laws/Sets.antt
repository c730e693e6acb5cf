-- A word stands for a set of modes: the word of a union, of a mask, and of the locks of a step. Assumes nothing.
use Rattle.std.specs.Prelude.{ℕ, zero, suc, ◌+◌, ◌*◌, ◌/◌, ◌%◌, ◌^◌, ◌<◌, max, ◌≡◌, refl, Bool, true, false, cond, ◌&&◌, ◌||◌, List, [], map, eqb, get_or}
use Rattle.std.proofs.Common.{ap, ◌∙◌, arith, eqb-true, eq-eqb, ne_eqb}
use Rattle.std.specs.Bool.{beq}
use Rattle.std.proofs.lemmas.Bool.{false≢true, eqb-false}
use Rattle.std.proofs.Math.Nat.{pow-succ', div-div-eq-div-mul}
use Rattle.std.specs.Int.Bits.{bit_or, or_step}
use Rattle.std.proofs.lemmas.Nat.{or_shr}
use Rattle.tree.specs.Lists.{every}
use Rattle.tree.specs.Laws.Tests.{and_left, and_right}
use Rattle.tree.specs.Steps.{Step, T, C, R, U, D, I, TT, RR, UU}
use Rattle.locks.specs.Modes.{Mode, LT, LC, LR, LU, LW, LTT, LRR, LUU, LIR, LIU, LIW, LICW, modes, index, clash, among, union}
use Rattle.locks.specs.Modes.{against, in_word, bit}
use Rattle.locks.specs.Needs.{Need, need}
use Rattle.locks.proofs.Laws.Clash.{every_mode}
use Rattle.locks.specs.Words.{clash_table, clash_at, word, some_place, meets, mask_of, word_of}

-- what holds at each place of the table holds for each mode
pub at_index : {X : Type 0} (f : Mode → X) (d : X) (a : Mode) → get_or (map f modes) (index a) d ≡ f a
at_index f d LT = refl
at_index f d LC = refl
at_index f d LR = refl
at_index f d LU = refl
at_index f d LW = refl
at_index f d LTT = refl
at_index f d LRR = refl
at_index f d LUU = refl
at_index f d LIR = refl
at_index f d LIU = refl
at_index f d LIW = refl
at_index f d LICW = refl

pub index_below : (a : Mode) → index a < 12
index_below LT = omega arith
index_below LC = omega arith
index_below LR = omega arith
index_below LU = omega arith
index_below LW = omega arith
index_below LTT = omega arith
index_below LRR = omega arith
index_below LUU = omega arith
index_below LIR = omega arith
index_below LIU = omega arith
index_below LIW = omega arith
index_below LICW = omega arith

beq_eq : (a b : Bool) → beq a b ≡ true → a ≡ b
beq_eq true true h = refl
beq_eq true false h = absurd (false≢true h)
beq_eq false true h = absurd (false≢true h)
beq_eq false false h = refl

-- the table by places is the table
pub clash_at_index : (a b : Mode) → clash_at (index a) (index b) ≡ clash a b
unfolding clash_at clash_table
clash_at_index a b = rw (at_index (λ a. map (clash a) modes) [] a) (at_index (clash a) false b)

-- the bits of a word
bit_zero : (b : Bool) (w : ℕ) → eqb ((cond b 1 0 + 2 * w) / 2 ^ 0 % 2) 1 ≡ b
bit_zero true w = let e : (1 + 2 * w) / 1 % 2 ≡ 1 = omega arith in eq-eqb _ 1 e
bit_zero false w = let e : (0 + 2 * w) / 1 % 2 ≡ 0 =
    omega arith in ne_eqb ((0 + 2 * w) / 1 % 2) 1 (λ (h : (0 + 2 * w) / 1 % 2 ≡ 1). omega arith)

half : (b : Bool) (w : ℕ) → (cond b 1 0 + 2 * w) / 2 ≡ w
half true w = omega arith
half false w = omega arith

pub word_bit : (q : ℕ → Bool) (n u i : ℕ) → i < n → bit (word q n u) i ≡ q (u + i)
unfolding word
word_bit q zero u i h = absurd (omega arith)
word_bit q (suc n) u zero h = let e : u ≡ u + 0 = omega arith in bit_zero (q u) (word q n (suc u)) ∙ ap q e
word_bit q (suc n) u (suc i) h =
    let e : suc u + i ≡ u + suc i = omega arith in
    rw (pow-succ' 2 i, ← div-div-eq-div-mul (cond (q u) 1 0 + 2 * word q n (suc u)) 2 (2 ^ i), half (q u) (word q n (suc u)))
    (word_bit q n (suc u) i (omega arith) ∙ ap q e)

pub in_mask : (w : ℕ) (a : Mode) → in_word (mask_of w) a ≡ against (in_word w) a
unfolding mask_of meets some_place
in_mask w a = word_bit (meets w) 12 0 (index a) (index_below a) ∙ ap (meets w) (z (index a)) ∙ any_same
  where
    z : (n : ℕ) → 0 + n ≡ n
    z n = omega arith

    any_same : meets w (index a) ≡ against (in_word w) a
    any_same = rw (
      clash_at_index a LT,
      clash_at_index a LC,
      clash_at_index a LR,
      clash_at_index a LU,
      clash_at_index a LW,
      clash_at_index a LTT,
      clash_at_index a LRR,
      clash_at_index a LUU,
      clash_at_index a LIR,
      clash_at_index a LIU,
      clash_at_index a LIW,
      clash_at_index a LICW,
    )

-- the union of two words
bits_or : (x y : ℕ) → x < 2 → y < 2 → eqb (max x y) 1 ≡ (eqb x 1 || eqb y 1)
bits_or x y h k = go (eqb x 1) refl (eqb y 1) refl
  where
    go : (a : Bool) → eqb x 1 ≡ a → (b : Bool) → eqb y 1 ≡ b → eqb (max x y) 1 ≡ (a || b)
    go true e b f = let p = eqb-true x 1 e in eq-eqb (max x y) 1 (omega arith)
    go false e true f = let p = eqb-true y 1 f in eq-eqb (max x y) 1 (omega arith)
    go false e false f = ne_eqb (max x y) 1 (λ m. let p = eqb-false x 1 e in let q = eqb-false y 1 f in omega arith)

low : (q m : ℕ) → m < 2 → (q * 2 + m) % 2 ≡ m
low q m h = omega arith

pub bit_of_or : (v w i : ℕ) → bit (bit_or v w) i ≡ (bit v i || bit w i)
bit_of_or v w i =
    let x = v / 2 ^ i in
    let y = w / 2 ^ i in
    let h : x % 2 < 2 = omega arith in
    let k : y % 2 < 2 = omega arith in
    rw (or_shr v w i, or_step x y, low (bit_or (x / 2) (y / 2)) (max (x % 2) (y % 2)) (omega arith)) (bits_or (x % 2) (y % 2) h k)

pub in_union : (v w : ℕ) (a : Mode) → in_word (bit_or v w) a ≡ union (in_word v) (in_word w) a
in_union v w a = bit_of_or v w (index a)

-- the word of a list of modes, where the test says so
sets_same : List Mode → Bool
sets_same l = every (λ a. beq (in_word (word_of l) a) (among l a)) modes

word_of_list : (l : List Mode) → sets_same l ≡ true → (a : Mode) → in_word (word_of l) a ≡ among l a
unfolding sets_same
word_of_list l h a = beq_eq _ _ (every_mode (λ a. beq (in_word (word_of l) a) (among l a)) h a)

-- the locks of a step as words: the same sets
pub record SameSets (w : Need) : Type 0 where
  pub node : (a : Mode) → in_word (word_of w.node) a ≡ among w.node a
  pub parent : (a : Mode) → in_word (word_of w.parent) a ≡ among w.parent a
  pub above : (a : Mode) → in_word (word_of w.above) a ≡ among w.above a
  pub new : (a : Mode) → in_word (word_of w.new) a ≡ among w.new a

all_same : Need → Bool
all_same w = sets_same w.node && sets_same w.parent && sets_same w.above && sets_same w.new

same_sets : (w : Need) → all_same w ≡ true → SameSets w
unfolding all_same
same_sets w h =
    let abc = sets_same w.node && sets_same w.parent && sets_same w.above in
    let ab = sets_same w.node && sets_same w.parent in
    let p = and_left abc (sets_same w.new) h in
    let q = and_left ab (sets_same w.above) p in
    record {
      node = word_of_list w.node (and_left _ _ q);
      parent = word_of_list w.parent (and_right (sets_same w.node) _ q);
      above = word_of_list w.above (and_right ab _ p);
      new = word_of_list w.new (and_right abc _ h);
    }

pub need_sets : (s : Step) → SameSets (need s)
unfolding all_same sets_same word_of
need_sets (T n) = same_sets (need (T n)) refl
need_sets (C n k) = same_sets (need (C n k)) refl
need_sets (R n) = same_sets (need (R n)) refl
need_sets (U n b) = same_sets (need (U n b)) refl
need_sets (D n) = same_sets (need (D n)) refl
need_sets (I m kind b n k) = same_sets (need (I m kind b n k)) refl
need_sets (TT n) = same_sets (need (TT n)) refl
need_sets (RR n) = same_sets (need (RR n)) refl
need_sets (UU n a b) = same_sets (need (UU n a b)) refl
