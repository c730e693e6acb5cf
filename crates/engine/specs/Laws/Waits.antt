-- The loops that find what a step waits for.
use Rattle.std.proofs.Math.Path.{◌≡◌, refl, sym, fun_ext}
use Rattle.std.proofs.Common.{ap, ◌∙◌, arith, drop_of_length-le, pow_mono, lt_of_lt_of_le}
use Prim.Native.Nat.{ℕ, zero, suc, ◌+◌, ◌-◌, ◌*◌, ◌≤◌, ◌<◌}
use Rattle.std.specs.Prelude.{Bool, cond, ◌&&◌, ◌||◌, List, [], ◌∷◌, map, length, get_or, drop}
use Rattle.std.proofs.Math.Bool.{true, false}
use Rattle.std.proofs.Math.Numerals.{add-one}
use Rattle.std.proofs.Math.ListN.{get_or-map}
use Rattle.std.proofs.lemmas.List.{length-map}
use Rattle.std.proofs.Math.Seq.{drop-cons}
use Rattle.tree.specs.Laws.Lists.{any_same}
use Rattle.locks.specs.Modes.{modes, in_word}
use Rattle.tree.specs.Steps.{Step}
use Rattle.locks.specs.Needs.{need}
use Rattle.locks.specs.Words.{word, words, in_common}
use Rattle.locks.specs.declared.NeedWords.{NeedWords}
use Rattle.locks.proofs.Laws.Words.{word_turn, word_small}
use Rattle.locks.proofs.Laws.Sets.{need_sets}
use Rattle.protocol.specs.State.{Marked}
use Rattle.table.specs.Layout.{Entry, nodes, slot}
use Rattle.table.specs.Transaction.{Loaded}
use Rattle.rows.specs.Places.{item}
use Rattle.rows.specs.Found.{blocks_at, wait_word}
use Rattle.engine.specs.Way.{nodes_at}
use Rattle.engine.specs.Waits.{word_at, masks_of, SmallWords, touches, touches_from, blocks_by}
use Rattle.engine.specs.Laws.Masks.{blocks_mask}

-- along the way ----------------------------------------------------------------------

module _ (l : List Entry) (way : List ℕ) where
  length_way : length (nodes_at l way) ≡ length way
  unfolding nodes_at
  length_way = length-map way (item l)

  -- the nodes from the j-th on
  way_cons : (j : ℕ) → j < length way → drop j (nodes_at l way) ≡ item l (get_or way j 0) ∷ drop (j + 1) (nodes_at l way)
  unfolding nodes_at
  way_cons j k =
      drop-cons (map (item l) way) j (item l 0) (omega (arith, length_way)) ∙ rw (add-one, get_or-map (item l) way j 0)

  way_end : (j : ℕ) → length way ≤ j → drop j (nodes_at l way) ≡ []
  way_end j k = drop_of_length-le (nodes_at l way) {i = j} (omega (arith, length_way))

  -- the j-th node is looked at, those before touched nothing
  module _ (m : NeedWords) (u j : ℕ) (v : touches_from m 0 u (nodes_at l way) ≡ touches_from m j u (drop j (nodes_at l way))) where
    turn : j < length way
        → touches_from m 0 u (nodes_at l way)
        ≡ (touches (word_at m j) u (item l (get_or way j 0)) || touches_from m (j + 1) u (drop (j + 1) (nodes_at l way)))
    unfolding touches_from
    turn k = v ∙ rw (way_cons j k, add-one j)

    pub touch_found : j < length way → touches (word_at m j) u (item l (get_or way j 0)) ≡ true
        → true ≡ touches_from m 0 u (nodes_at l way)
    touch_found k e = sym (turn k ∙ rw e)

    pub touch_passed : j < length way → touches (word_at m j) u (item l (get_or way j 0)) ≡ false
        → touches_from m 0 u (nodes_at l way) ≡ touches_from m (j + 1) u (drop (j + 1) (nodes_at l way))
    touch_passed k e = turn k ∙ rw e

    pub touch_none : length way ≤ j → false ≡ touches_from m 0 u (nodes_at l way)
    unfolding touches_from
    touch_none k = sym (v ∙ rw (way_end j k))

-- the test of one node, by the word of its slot
pub touches_word : {s : List ℕ} {u : ℕ} {ws : List ℕ} → Loaded s u ws → (i k m v : ℕ) (r : Bool) → i < length (nodes s) → k ≡ slot s i
    → v ≡ m
    → r ≡ in_common (get_or ws k 0) v
    → touches m u (item (nodes s) i) ≡ r
unfolding in_common touches
touches_word h i k m v r b e f g = sym (g ∙ rw (e, f) (any_same _ _ modes (λ a x. ap (λ z. z a && in_word m a) (h.held i b))))

pub words_small : (m : NeedWords) → SmallWords m → (j : ℕ) → word_at m j < 4096
words_small m h zero = h.node
words_small m h (suc zero) = h.parent
words_small m h (suc (suc j)) = h.above

pub word_above : (m : NeedWords) (j : ℕ) → (j ≡ 0 → ⊥) → (j ≡ 1 → ⊥) → m.above ≡ word_at m j
word_above m zero p q = absurd (p refl)
word_above m (suc zero) p q = absurd (q refl)
word_above m (suc (suc j)) p q = refl

-- the set ----------------------------------------------------------------------------------

-- transaction u has bit u-1
abbrev pub set_of : ℕ → NeedWords → (ℕ → Bool) → List Marked → ℕ → ℕ
set_of t m is_open way u = word (λ i. blocks_by t m is_open way (suc i)) (16 - u) u

module _ (t : ℕ) (m : NeedWords) (is_open : ℕ → Bool) (way : List Marked) where
  pub set_below : (u : ℕ) → 0 < u → set_of t m is_open way u < 32768
  set_below u h = lt_of_lt_of_le (word_small (λ i. blocks_by t m is_open way (suc i)) (16 - u) u) (pow_mono {j = 15} (omega arith))

  pub set_turn : (u set set' : ℕ) (b : Bool) → 0 < u → u ≤ 16 → set ≡ set_of t m is_open way u → b ≡ blocks_by t m is_open way u
      → set' ≡ cond b 1 0 + 2 * set
      → set' ≡ set_of t m is_open way (u - 1)
  set_turn u set set' b h k e f g =
      let z : suc (u - 1) ≡ u = omega arith in
      g ∙ rw (f, e, word_turn (λ i. blocks_by t m is_open way (suc i)) 16 u h k, z)

  pub set_whole : (w : NeedWords) → m ≡ masks_of w → (u set : ℕ) → u ≡ 0 → set ≡ set_of t m is_open way u → (st : Step)
      → w ≡ words (need st)
      → set ≡ wait_word t (need st) is_open way
  unfolding wait_word
  set_whole w v u set z e st f =
      let q : ◌≡◌ {A = ℕ → Bool} (λ i. blocks_by t m is_open way (suc i)) (λ i. blocks_at t (need st) is_open way (suc i)) =
      fun_ext (λ i. rw (v, f) (blocks_mask (need st) (need_sets st) t is_open way (suc i))) in
      e ∙ rw z (ap (λ (q : ℕ → Bool). word q 16 0) q)
