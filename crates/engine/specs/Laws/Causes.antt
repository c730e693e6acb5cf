-- No cause has the number 0.
use Rattle.std.specs.Prelude.{◌≡◌}
use Rattle.std.proofs.Common.{arith}
use Rattle.protocol.specs.declared.causes.Cause.{Cause}
use Rattle.protocol.specs.declared.causes.Cause.TheVariants.{NotATransaction, AlreadyOpen, NotOpen, NotOfGrammar, ContentOverLimit, NodesOverLimit}
use Rattle.protocol.specs.declared.causes.Cause.TheVariants.{NoSuchNode, KindNotAllowed, ContentNotAllowed, HeldNumber, PlaceNotAllowed}
use Rattle.protocol.specs.declared.causes.Cause.TheVariants.{NoMoreNodes, ShortBuffer, NotExpressible, OpenAtLoad, Deadlock, NoMoreCommits}
use Rattle.protocol.specs.declared.causes.Cause.TheVariants.{PartNotAllowed}
use Rattle.protocol.specs.CauseNumbers.{number_of}

pub cause_named : (c : Cause) → number_of c ≡ 0 → ⊥
cause_named NotATransaction e = omega arith
cause_named AlreadyOpen e = omega arith
cause_named NotOpen e = omega arith
cause_named NotOfGrammar e = omega arith
cause_named ContentOverLimit e = omega arith
cause_named NodesOverLimit e = omega arith
cause_named NoSuchNode e = omega arith
cause_named KindNotAllowed e = omega arith
cause_named ContentNotAllowed e = omega arith
cause_named HeldNumber e = omega arith
cause_named PlaceNotAllowed e = omega arith
cause_named NoMoreNodes e = omega arith
cause_named ShortBuffer e = omega arith
cause_named NotExpressible e = omega arith
cause_named OpenAtLoad e = omega arith
cause_named Deadlock e = omega arith
cause_named NoMoreCommits e = omega arith
cause_named PartNotAllowed e = omega arith
