-- Numbers that count up are distinct: for 1,024 of them that is shorter than comparing all pairs.
use Rattle.std.specs.Prelude.{ℕ, ◌+◌, ◌<◌, ◌≡◌, refl, true, false, List, [], ◌∷◌, eqb}
use Rattle.std.proofs.Common.{arith, eqb-true, ne_eqb}
use Rattle.tree.specs.Lists.{has, distinct}
use Rattle.tree.specs.Laws.Tests.{and_left, and_right}
use Rattle.protocol.specs.Calls.{ascending_from}

ascending_new : (q i : ℕ) (l : List ℕ) → q < i → ascending_from i l ≡ true → has q l ≡ false
ascending_new q i [] h a = refl
ascending_new q i (n ∷ l) h a =
    let e = eqb-true n i (and_left (eqb n i) _ a) in
    rw (ne_eqb n q (λ x. omega (arith, e))) (ascending_new q (i + 1) l (omega arith) (and_right (eqb n i) _ a))

pub ascending_distinct : (i : ℕ) (l : List ℕ) → ascending_from i l ≡ true → distinct l ≡ true
ascending_distinct i [] a = refl
ascending_distinct i (n ∷ l) a =
    let e = eqb-true n i (and_left (eqb n i) _ a) in
    let b = and_right (eqb n i) _ a in rw (ascending_new n (i + 1) l (omega (arith, e)) b) (ascending_distinct (i + 1) l b)
