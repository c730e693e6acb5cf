use native.Mathlib.Omega.{arith}
use mathlib.Core.Path.{◌≡◌, ◌∙◌}
use mathlib.Core.List.{List}
use Prim.Native.Nat.{ℕ, ◌+◌, ◌-◌, ◌*◌, ◌≤◌, ◌<◌}
use lib.ListN.{length, get_or, take, drop, length-drop}
use lib.Seq.{get_or-take, get_or-drop, ext_get_or, length-take-le, take-take}
use Rattle.table.specs.Fields.{Begins}
use Rattle.table.specs.Laws.Texts.{byte_at, size_small}
use Rattle.table.proofs.content_window.Goals as goal

-- 32 bytes from `at` on, the first of which are those of t
begins : (s t : List ℕ) (at : ℕ) → length t ≤ 32 → at + 32 ≤ length s → ((j : ℕ) → j < length t → get_or s (at + j) 0 ≡ get_or t j 0)
    → Begins t (take 32 (drop at s))
begins s t at few room same =
    let n : length (take (length t) (drop at s)) ≡ length t =
    length-take-le (length t) (drop at s) (simp length-drop (omega arith)) in
    record {
      long = length-take-le 32 (drop at s) (simp length-drop (omega arith));
      first = take-take (length t) 32 (drop at s) few
          ∙ ext_get_or 0 (take (length t) (drop at s)) t n
          (λ j q. let k : j < length t = omega (arith, n) in
          get_or-take (length t) (drop at s) j 0 k ∙ get_or-drop at s j 0 ∙ same j k);
    }

pub returns : goal.returns
returns c =
    let k = c.slot in
    let at = 8208 + 74 * k.result + 6 + 32 * c.args.o in
    let z : at + 32 - at ≡ 32 = omega arith in
    rw z
    (begins c.args.s.now _ at (size_small _ c.args.i c.args.o _ k.ensures.0 c.requires.0 c.requires.1 c.requires.3)
    (omega (arith, k.ensures.1, c.requires.0.size, c.requires.2))
    (byte_at _ c.args.i c.args.o _ k.ensures.0 c.requires.0 c.requires.1 c.requires.3))
