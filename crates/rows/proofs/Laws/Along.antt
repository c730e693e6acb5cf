-- The locks of a step, along the numbers of its node and the nodes above.
use Rattle.std.specs.Prelude.{◌≡◌, refl, ℕ, List, [], ◌∷◌, ◌++◌}
use Rattle.std.proofs.Common.{sym, ap, ◌∙◌, append_assoc}
use Rattle.tree.specs.Steps.{Step, target, inserts}
use Rattle.locks.specs.Modes.{Mode}
use Rattle.locks.specs.Needs.{Need, need, Lock, each, every_one, up, locks}

-- ms on the first number, ms' on the next, and ms'' on all others
abbrev pub locks_along : List Mode → List Mode → List Mode → List ℕ → List Lock
locks_along ms ms' ms'' [] = []
locks_along ms ms' ms'' (q ∷ qs) = each ms q ++ locks_along ms' ms'' ms'' qs

along_one : (ms : List Mode) (qs : List ℕ) → every_one ms qs ≡ locks_along ms ms ms qs
along_one ms [] = refl
along_one ms (q ∷ qs) = ap (λ ls. each ms q ++ ls) (along_one ms qs)

along_up : (w : Need) (qs : List ℕ) → up w qs ≡ locks_along w.parent w.above w.above qs
along_up w [] = refl
along_up w (q ∷ qs) = ap (λ ls. each w.parent q ++ ls) (along_one w.above qs)

pub locks_way : (s : Step) (ns : List ℕ) (n : ℕ) → target s ≡ n
    → locks s ns ≡ locks_along (need s).node (need s).parent (need s).above (n ∷ ns) ++ every_one (need s).new (inserts s)
unfolding locks
locks_way s ns n e =
    ap (λ ls. each (need s).node (target s) ++ (ls ++ every_one (need s).new (inserts s))) (along_up (need s) ns)
    ∙ sym (append_assoc (each (need s).node (target s)) (locks_along (need s).parent (need s).above (need s).above ns)
    (every_one (need s).new (inserts s)))
    ∙ ap (λ q. (each (need s).node q ++ locks_along (need s).parent (need s).above (need s).above ns) ++ every_one (need s).new
    (inserts s)) e
