use native.Mathlib.Omega.{arith}
use mathlib.Core.Path.{◌≡◌, ◌∙◌}
use mathlib.Core.List.{List}
use Prim.Native.Nat.{ℕ, ◌+◌, ◌-◌, ◌*◌, ◌≤◌, ◌<◌}
use lib.ListN.{length, get_or, take, drop, length-drop}
use lib.Seq.{get_or-take, get_or-drop, ext_get_or, length-take-le}
use Rattle.table.specs.Laws.Texts.{byte_at}
use Rattle.table.proofs.content_bytes.Goals as goal

-- the m bytes from `at` on are those of t
part_is : (s t : List ℕ) (at m : ℕ) → m ≡ length t → at + m ≤ length s → ((j : ℕ) → j < length t → get_or s (at + j) 0 ≡ get_or t j 0)
    → take m (drop at s) ≡ t
part_is s t at m e h f =
    let n : length (take m (drop at s)) ≡ m = length-take-le m (drop at s) (simp length-drop (omega arith)) in
    ext_get_or 0 (take m (drop at s)) t (n ∙ e)
    (λ j q. let k : j < m = omega (arith, n) in get_or-take m (drop at s) j 0 k ∙ get_or-drop at s j 0 ∙ f j (omega arith))

pub returns : goal.returns
returns c =
    let k = c.slot in
    let n = c.size-n in
    let at = 8208 + 74 * k.result + 6 + 32 * c.args.o in
    let z : at + n.result - at ≡ n.result = omega arith in
    rw z
    (part_is _ _ at n.result n.ensures.0 (omega (arith, n.ensures.1, k.ensures.1, c.requires.0.size, c.requires.2))
    (byte_at _ c.args.i c.args.o _ k.ensures.0 c.requires.0 c.requires.1 c.requires.3))
