-- Lent output: each piece goes behind the last, into the rest of the lent bytes.
use Rattle.std.specs.Prelude.{◌≡◌, refl, List, [], ◌∷◌, ◌++◌, ℕ, suc, ◌+◌, ◌-◌, ◌<◌, ◌≤◌, length, get_or, take, drop, set}
use Rattle.std.proofs.Common.{ap, sym, ◌∙◌, append_assoc, append-nil, add-one, arith, length-append, length-drop, drop_of_length-le, take-suc, drop-cons, length-take-le, take_at, drop_at, drop-drop, take_all, Fits}
use Rattle.std.proofs.lemmas.List.{set_at}
use borrow.Rule.Slice.PartMut.{put_mid}
use Rattle.std.specs.Int.{w64}

-- the lent bytes began with the piece, whose length was answered, and the bytes behind it kept their values
pub record Wrote (piece old new : List ℕ) (r : ℕ) : Type 0 where
  pub count : r ≡ length piece
  pub bytes : new ≡ piece ++ drop (length piece) old

-- one byte more of a copy
pub copy_more : (p o₀ o : List ℕ) (i : ℕ) → i < length p → i < length o₀ → o ≡ take i p ++ drop i o₀
    → set o i (get_or p i 0) ≡ take (i + 1) p ++ drop (i + 1) o₀
copy_more p o₀ o i h k e =
    let d : drop i o₀ ≡ get_or o₀ i 0 ∷ drop (suc i) o₀ = drop-cons o₀ i 0 k in
    let n : length (take i p) ≡ i = length-take-le i p (omega arith) in
    ap (λ (l : List ℕ). set l i (get_or p i 0)) (e ∙ ap (λ (l : List ℕ). take i p ++ l) d)
    ∙ set_at (take i p) (get_or o₀ i 0) (drop (suc i) o₀) (get_or p i 0) i n
    ∙ rw (add-one, take-suc p i 0) (sym (append_assoc (take i p) (get_or p i 0 ∷ []) (drop (suc i) o₀)))

-- nothing is written
pub wrote_none : (o : List ℕ) → Wrote [] o o 0
wrote_none o = record { count = refl; bytes = refl }

-- the same piece, given otherwise
pub wrote_as : {a b o o' : List ℕ} {r : ℕ} → a ≡ b → Wrote a o o' r → Wrote b o o' r
wrote_as e w = rw (← e) w

-- a piece a is written: what a next piece b asks of the rest, and what stands there once it is written too.
-- The rest that is lent is take (length o - r) (drop r o), and put_mid puts it back.
module _ (a b o₀ o : List ℕ) (r : ℕ) (w : Wrote a o₀ o r) (h : length (a ++ b) ≤ length o₀) where
  pub long : length o ≡ length o₀
  long = ap length w.bytes ∙ simp (length-append, length-drop) (omega (arith, simp length-append at h))

  pub inside : r ≤ length o
  inside = omega (arith, long, w.count, simp length-append at h)

  lent : take (length o - r) (drop r o) ≡ drop (length a) o₀
  lent =
      take_all (length o - r) (drop r o) (simp length-drop (omega arith))
      ∙ rw w.bytes (drop_at a (drop (length a) o₀) r (sym w.count))

  pub room : length b ≤ length (take (length o - r) (drop r o))
  room = rw lent (simp length-drop (omega (arith, simp length-append at h)))

  pub behind : (rest : List ℕ) (q : ℕ) → Wrote b (take (length o - r) (drop r o)) rest q
      → Wrote (a ++ b) o₀ (put_mid r (length o - r) o rest) (r + q)
  behind rest q v =
      let t : take r o ≡ a = rw w.bytes (take_at a (drop (length a) o₀) r (sym w.count)) in
      let z : drop (length o - r) (drop r o) ≡ [] = drop_of_length-le (drop r o) {i = length o - r} (simp length-drop (omega arith)) in
      record {
        count = simp length-append (omega (arith, w.count, v.count));
        bytes =
            rw (t, z) (rw (v.bytes, lent)
            (simp (append-nil, append_assoc, length-append) (ap (λ (l : List ℕ). a ++ (b ++ l)) (drop-drop (length b) (length a) o₀))));
      }

-- room for two pieces is room for the first
pub front : (a b o : List ℕ) → length (a ++ b) ≤ length o → length a ≤ length o
front a b o h = omega (arith, length-append a b)

-- the length of two pieces that are written
pub sum_fits : {a b o₀ o x y : List ℕ} {r q : ℕ} → Wrote a o₀ o r → Wrote b x y q → length (a ++ b) ≤ length o₀ → Fits w64 (length o₀)
    → Fits w64 (r + q)
sum_fits {a} {b} w v h f = omega (arith, w.count, v.count, length-append a b, f)

-- a text of many pieces: `rest` is still to be written, and the pieces before it stand in the lent bytes
pub record Partly (text rest old new : List ℕ) (at : ℕ) : Type 0 where
  pub done : List ℕ
  pub whole : text ≡ done ++ rest
  pub wrote : Wrote done old new at

pub partly_start : (text old : List ℕ) → Partly text text old old 0
partly_start text old = record { done = []; whole = refl; wrote = wrote_none old }

pub partly_end : {text old new : List ℕ} {at : ℕ} → Partly text [] old new at → Wrote text old new at
partly_end c = wrote_as (sym (c.whole ∙ append-nil c.done)) c.wrote

pub partly_as : {text rest rest' old new : List ℕ} {at : ℕ} → rest ≡ rest' → Partly text rest old new at → Partly text rest' old new at
partly_as e c = record { done = c.done; whole = rw (← e) c.whole; wrote = c.wrote }

-- the next piece is b
module _ (text b rest o₀ o : List ℕ) (at : ℕ) (c : Partly text (b ++ rest) o₀ o at) (h : length text ≤ length o₀) where
  enough : length (c.done ++ b) ≤ length o₀
  enough = omega (arith, simp length-append at (ap length c.whole), length-append c.done b)

  pub partly_long : length o ≡ length o₀
  partly_long = long c.done b o₀ o at c.wrote enough

  pub partly_small : at + length b ≤ length o₀
  partly_small = omega (arith, c.wrote.count, length-append c.done b, enough)

  pub partly_inside : at ≤ length o
  partly_inside = inside c.done b o₀ o at c.wrote enough

  pub partly_room : length b ≤ length (take (length o - at) (drop at o))
  partly_room = room c.done b o₀ o at c.wrote enough

  pub partly_on : (new : List ℕ) (q : ℕ) → Wrote b (take (length o - at) (drop at o)) new q
      → Partly text rest o₀ (put_mid at (length o - at) o new) (at + q)
  partly_on new q w = record {
    done = c.done ++ b;
    whole = c.whole ∙ sym (append_assoc c.done b rest);
    wrote = behind c.done b o₀ o at c.wrote enough new q w;
  }
