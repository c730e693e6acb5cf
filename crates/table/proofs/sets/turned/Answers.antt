use native.Mathlib.Omega.{arith}
use Prim.Native.Nat.{◌-◌, ◌^◌}
use native.Mathlib.Nat.{one-mul}
use mathlib.Core.Path.{◌∙◌, ap}
use lib.Bits.{bit_xor}
use lib.Dec.{lit<}
use lib.Pow.{shl_exact}
use Rattle.table.proofs.sets.turned.Goals as goal

pub returns : goal.returns
returns c = ap (bit_xor c.args.w) (shl_exact 1 (c.args.t - 1) 16 (lit< tt) (omega arith) ∙ one-mul (2 ^ (c.args.t - 1)))
