-- The next piece of a text: what it asks of the rest of the lent bytes, and what is left once it is written.
use Rattle.std.specs.Prelude.{◌≡◌, refl, ℕ, ◌+◌, ◌-◌, ◌≤◌, List, [], ◌++◌, length, take, drop}
use Rattle.std.proofs.Common.{sym, append-nil}
use borrow.Rule.Slice.PartMut.{put_mid}
use Rattle.xml_text.specs.Lending.{Wrote, Partly, partly_as, partly_end, partly_long, partly_small, partly_inside, partly_room}
use Rattle.xml_text.specs.Lending.{partly_on}

-- b is the next piece of the text, and rest is what comes behind it
pub record Next (b text rest o₀ o : List ℕ) (at : ℕ) : Type 0 where
  pub inside : at ≤ length o
  pub long : length o ≡ length o₀
  pub room : length b ≤ length (take (length o - at) (drop at o))
  pub small : at + length b ≤ length o₀
  pub on : (new : List ℕ) (q : ℕ) → Wrote b (take (length o - at) (drop at o)) new q
      → Partly text rest o₀ (put_mid at (length o - at) o new) (at + q)

pub next : (b rest : List ℕ) {text rest' o₀ o : List ℕ} {at : ℕ} → rest' ≡ b ++ rest → Partly text rest' o₀ o at → length text ≤ length o₀
    → Next b text rest o₀ o at
next b rest {text} {rest'} {o₀} {o} {at} e c h =
    let d : Partly text (b ++ rest) o₀ o at = partly_as e c in
    record {
      inside = partly_inside text b rest o₀ o at d h;
      long = partly_long text b rest o₀ o at d h;
      room = partly_room text b rest o₀ o at d h;
      small = partly_small text b rest o₀ o at d h;
      on = partly_on text b rest o₀ o at d h;
    }

-- the second and last of two pieces
pub second : (a b : List ℕ) {o₀ o : List ℕ} {r : ℕ} → Wrote a o₀ o r → length (a ++ b) ≤ length o₀ → Next b (a ++ b) [] o₀ o r
second a b {o₀} {o} {r} w h = next b [] (sym (append-nil b)) (record { done = a; whole = refl; wrote = w }) h

pub both : {b text o₀ o : List ℕ} {at : ℕ} → Next b text [] o₀ o at → (new : List ℕ) (q : ℕ)
    → Wrote b (take (length o - at) (drop at o)) new q
    → Wrote text o₀ (put_mid at (length o - at) o new) (at + q)
both n new q w = partly_end (n.on new q w)
