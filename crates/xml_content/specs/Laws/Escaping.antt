-- Texts and values with references, byte by byte, and those that need none.
use Rattle.std.specs.Prelude.{◌≡◌, ℕ, suc, ◌+◌, ◌*◌, ◌-◌, ◌≤◌, ◌<◌, Bool, true, false, get_or, take, drop, ltb}
use Rattle.std.proofs.Math.Path.{refl}
use Rattle.std.proofs.Common.{sym, ap, ◌∙◌, add-one, length-drop, take-append-drop, drop_of_length-le, length-take, length-take-le}
use Rattle.std.proofs.Common.{take_all, take-add, take-take, ltb-true, ltb-false}
use mathlib.Core.List.{List, [], ◌∷◌, ◌++◌, append_assoc}
use native.Mathlib.Omega.{arith}
use Rattle.std.proofs.Math.ListN.{length, length-append}
use Rattle.std.proofs.Math.Seq.{drop-cons, take-nil}
use Rattle.std.specs.List.{sum_by, enumerate_from}
use Rattle.std.proofs.lemmas.List.Sums.{sum_by-cons}
use mir.Val.{bool_byte}
use borrow.Rule.Slice.PartMut.{put_mid}
use Rattle.xml.specs.Writing.{escape, escaped}
use Rattle.xml_text.specs.Lending.{Wrote, wrote_as, front, room, behind}
use Rattle.xml_text.specs.Lending.{Partly, partly_as, partly_end}
use Rattle.xml_text.specs.Laws.Next.{Next, next}
use Rattle.xml_text.specs.Laws.Pieces.{escape_some, escape_same, escape_short}

module _ (v : Bool) where
  -- two parts
  escaped_append : (a b : List ℕ) → escaped v (a ++ b) ≡ escaped v a ++ escaped v b
  unfolding escaped
  escaped_append [] b = refl
  escaped_append (x ∷ a) b = rw (escaped_append a b) (sym (append_assoc (escape v x) (escaped v a) (escaped v b)))

  -- the next byte
  escaped_from : (c : List ℕ) (j : ℕ) → j < length c → escaped v (drop j c) ≡ escape v (get_or c j 0) ++ escaped v (drop (j + 1) c)
  unfolding escaped
  escaped_from c j h = rw (add-one, drop-cons c j 0 h)

  escaped_end : (c : List ℕ) (j : ℕ) → length c ≤ j → escaped v (drop j c) ≡ []
  unfolding escaped
  escaped_end c j h = rw (drop_of_length-le c h)

-- lengths --------------------------------------------------------------------------------

-- at most six bytes stand for one
escaped_short : (v : Bool) (c : List ℕ) → length (escaped v c) ≤ 6 * length c
unfolding escaped
escaped_short v [] = omega arith
escaped_short v (b ∷ c) = omega (arith, length-append (escape v b) (escaped v c), escape_short v b, escaped_short v c)

-- the lengths that stand for the bytes, added up
pub escaped_sum : (v : Bool) (c : List ℕ) → sum_by (λ b. length (escape v b)) c ≡ length (escaped v c)
unfolding escaped
escaped_sum v [] = refl
escaped_sum v (b ∷ c) = sum_by-cons (λ x. length (escape v x)) b c ∙ rw (escaped_sum v c) (sym (length-append (escape v b) (escaped v c)))

-- a sum of the lengths for at most 32 bytes
pub whole_counted : (v : Bool) (c : List ℕ) (r : ℕ) → r ≡ sum_by (λ b. length (escape v b)) c → length c ≤ 32
    → (r ≡ length (escaped v c)) × (r ≤ 192)
whole_counted v c r e h = let f = e ∙ escaped_sum v c in (f, omega (arith, f, escaped_short v c))

-- what a byte at the place of p.0 adds, where the first n count
abbrev pub counted : Bool → ℕ → ℕ × ℕ → ℕ
counted v n p = bool_byte (ltb p.0 n) * length (escape v p.1)

first_sum : (v : Bool) (n i : ℕ) (w : List ℕ)
    → sum_by (counted v n) (enumerate_from i w) ≡ length (escaped v (take (n - i) w))
unfolding escaped
first_sum v n i [] = rw (take-nil {A = ℕ} (n - i))
first_sum v n i (b ∷ w) =
    sum_by-cons (counted v n) (i, b) (enumerate_from (i + 1) w) ∙ rw (first_sum v n (i + 1) w) (go (ltb i n) refl)
  where
    go : (t : Bool) → ltb i n ≡ t
        → bool_byte (ltb i n) * length (escape v b) + length (escaped v (take (n - (i + 1)) w)) ≡ length (escaped v (take (n - i) (b ∷ w)))
    go true l =
        let k : n - i ≡ suc (n - (i + 1)) = omega (arith, ltb-true i n l) in
        rw (l, k) (omega (arith, length-append (escape v b) (escaped v (take (n - (i + 1)) w))))
    go false l =
        let k : n - i ≡ 0 = omega (arith, ltb-false i n l) in
        let k' : n - (i + 1) ≡ 0 = omega arith in
        rw (l, k, k') (omega arith)

-- the sum of what 32 bytes add, where the first n count
module _ (v : Bool) (w : List ℕ) (n : ℕ) where
  first_of : sum_by (counted v n) (enumerate_from 0 (take 32 w)) ≡ length (escaped v (take n (take 32 w)))
  first_of = let z : n - 0 ≡ n = omega arith in rw z at (first_sum v n 0 (take 32 w))

  pub first_small : sum_by (counted v n) (enumerate_from 0 (take 32 w)) ≤ 192
  first_small = omega (arith, first_of, escaped_short v (take n (take 32 w)), length-take n (take 32 w), length-take 32 w)

  pub first_counted : (r : ℕ) → r ≡ sum_by (counted v n) (enumerate_from 0 (take 32 w)) → length w ≡ 32
      → (r ≡ length (escaped v (take n w))) × (r ≤ 192)
  first_counted r e h = (rw (take_all 32 w (omega arith)) at (e ∙ first_of), omega (arith, first_small))

-- what needs no reference -------------------------------------------------------------------

module _ (v : Bool) where
  escaped_long : (c : List ℕ) → length c ≤ length (escaped v c)
  unfolding escaped
  escaped_long [] = omega arith
  escaped_long (b ∷ c) = omega (arith, length-append (escape v b) (escaped v c), escape_some v b, escaped_long c)

  -- what did not get longer
  escaped_same : (c : List ℕ) → length (escaped v c) ≡ length c → escaped v c ≡ c
  unfolding escaped
  escaped_same [] e = refl
  escaped_same (b ∷ c) e =
      let sum : length (escape v b ++ escaped v c) ≡ length (escape v b) + length (escaped v c) =
      length-append (escape v b) (escaped v c) in
      let one : length (escape v b) ≡ 1 = omega (arith, sum, escape_some v b, escaped_long c, e) in
      rw (escape_same v b one, escaped_same c (omega (arith, sum, one, e)))

  -- and its first n bytes
  escaped_first : (w : List ℕ) (n : ℕ) → length (escaped v w) ≡ length w → escaped v (take n w) ≡ take n w
  escaped_first w n e =
      let a : length (escaped v w) ≡ length (escaped v (take n w)) + length (escaped v (drop n w)) =
      ap (λ b. length (escaped v b)) (sym (take-append-drop n w)) ∙ ap length (escaped_append v (take n w) (drop n w))
      ∙ length-append (escaped v (take n w)) (escaped v (drop n w)) in
      let b : length w ≡ length (take n w) + length (drop n w) =
      ap length (sym (take-append-drop n w)) ∙ length-append (take n w) (drop n w) in
      escaped_same (take n w) (omega (arith, a, b, e, escaped_long (take n w), escaped_long (drop n w)))

-- k bytes that did not get longer, and a content that is the first n
module _ (v : Bool) (w : List ℕ) (n k r : ℕ) (long : length w ≡ k) (e : r ≡ length (escaped v (take k w))) (same : r ≡ k) where
  pub plain_first : escaped v (take n w) ≡ take n w
  plain_first = escaped_first v w n (sym (rw (take_all k w (omega arith)) at e) ∙ same ∙ sym long)

  pub plain_length : n ≤ k → n ≡ length (escaped v (take n w))
  plain_length h = sym (ap length plain_first ∙ length-take-le n w (omega arith))

-- lent output ----------------------------------------------------------------------------

module _ (v : Bool) (t : List ℕ) (j : ℕ) {o₀ o : List ℕ} {at : ℕ} (c : Partly (escaped v t) (escaped v (drop j t)) o₀ o at) where
  module _ (h : length (escaped v t) ≤ length o₀) where
    -- the next byte, b, is the j-th
    pub next_byte : (b : ℕ) → j < length t → b ≡ get_or t j 0 → Next (escape v b) (escaped v t) (escaped v (drop (j + 1) t)) o₀ o at
    next_byte b k e =
        next (escape v b) (escaped v (drop (j + 1) t))
        (escaped_from v t j k ∙ ap (λ (x : ℕ). escape v x ++ escaped v (drop (j + 1) t)) (sym e)) c h

  pub no_byte : length t ≤ j → Wrote (escaped v t) o₀ o at
  no_byte h = partly_end (partly_as (escaped_end v t j h) c)

-- the first n of 32 bytes, by the halves
module _ (v : Bool) (w : List ℕ) (n : ℕ) (o₀ : List ℕ) (long : length w ≡ 32) (k : length (escaped v (take n w)) ≤ length o₀) where
  -- none of the last sixteen
  pub first_half : n ≤ 16 → take n (take 16 w) ≡ take n w
  first_half h = take-take n 16 w h

  module _ (h : 16 < n) where
    halves : escaped v (take 16 (take 16 w)) ++ escaped v (take (n - 16) (take (length w - 16) (drop 16 w))) ≡ escaped v (take n w)
    halves =
        let z : 16 + (n - 16) ≡ n = omega arith in
        rw (take-take 16 16 w (omega arith), take_all (length w - 16) (drop 16 w) (simp length-drop (omega arith)))
        (sym (escaped_append v (take 16 w) (take (n - 16) (drop 16 w))) ∙ ap (escaped v) (sym (take-add 16 (n - 16) w) ∙ ap (λ m. take m w) z))

    both : length (escaped v (take 16 (take 16 w)) ++ escaped v (take (n - 16) (take (length w - 16) (drop 16 w)))) ≤ length o₀
    both = rw halves k

    pub half_room : length (escaped v (take 16 (take 16 w))) ≤ length o₀
    half_room = front _ _ o₀ both

    module _ {o : List ℕ} {r : ℕ} (u : Wrote (escaped v (take 16 (take 16 w))) o₀ o r) where
      pub rest_room : length (escaped v (take (n - 16) (take (length w - 16) (drop 16 w)))) ≤ length (take (length o - r) (drop r o))
      rest_room = room _ _ o₀ o r u both

      pub rest_behind : (y : List ℕ) (q : ℕ)
          → Wrote (escaped v (take (n - 16) (take (length w - 16) (drop 16 w)))) (take (length o - r) (drop r o)) y q
          → Wrote (escaped v (take n w)) o₀ (put_mid r (length o - r) o y) (r + q)
      rest_behind y q z = wrote_as halves (behind _ _ o₀ o r u both y q z)
