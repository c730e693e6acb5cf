-- What a prefix leads to, however it goes on: as many nodes and as long a content as the automaton has told, or is certain to.
use Rattle.std.specs.Prelude.{ℕ, suc, ◌+◌, ◌≤◌, ◌<◌, ◌≡◌, refl, true, false, List, [], ◌++◌}
use Rattle.std.proofs.Common.{sym, ◌∙◌, subst, arith}
use Rattle.std.proofs.Math.Path.{ap}
use Rattle.tree.specs.Content.{content_limit}
use Rattle.xml.specs.Shape.{Shape}
use Rattle.xml.specs.Grammar.{Parses}
use Rattle.xml.specs.Reading.{LongContent, ManyNodes, Forces}
use Rattle.xml.specs.Laws.Automaton.{Config, at_start, Event, Reads, tell}
use Rattle.xml.proofs.Laws.Sound.{rest_of, sound}
use Rattle.xml.specs.Laws.Complete.{Accepts}
use Rattle.xml.proofs.Laws.Complete.{complete}
use Rattle.xml.proofs.Laws.Unique.{one_run}
use Rattle.xml.specs.Laws.Counts.{births, tail, peak}
use Rattle.xml.proofs.Laws.Counts.{births_append, peak_append, size_told, longest_told}
use Rattle.xml.specs.Laws.Phases.{Phase, phase, is_early, pending}
use Rattle.xml.proofs.Laws.Phases.{quiet_run, pending_told, loose}
use Rattle.xml.proofs.Laws.Completions.{Ending, ending_early, ending_reading, ending_referring, ending_over, completion, join, cut}
use Rattle.xml.specs.Laws.Forces.{extent}

ending_few : {q : Phase} {e : List Event} (limit n : ℕ) → 2 ≤ limit → Ending q e → (is_early q ≡ true → n ≡ 0) → suc n ≤ limit
    → suc (n + births e) ≤ limit
unfolding births
ending_few limit n m ending_early h l = let z : n ≡ 0 = h refl in omega arith
ending_few limit n m ending_reading h l = omega arith
ending_few limit n m ending_referring h l = omega arith
ending_few limit n m ending_over h l = omega arith

ending_short : {q : Phase} {e : List Event} (k : ℕ) → Ending q e → k + pending q ≤ content_limit → peak k e ≤ content_limit
unfolding peak
ending_short k ending_early l = omega arith
ending_short k ending_reading l = omega arith
ending_short k ending_referring l = omega arith
ending_short k ending_over l = omega arith

module _ {p : List ℕ} {c : Config} {v : List Event} (r : Reads true at_start p v c) where
  -- whatever begins with p tells v first
  told : (t : List ℕ) (f : Shape) → Parses false (p ++ t) f → (e : List Event) × (tell 1 f [] ≡ v ++ e) × Accepts false c t e
  told t f x =
      let y = cut p t (complete x) in
      let z = one_run (loose r) y.first_part in (
        y.after,
        y.events ∙ ap (λ (l : List Event). l ++ y.after) (sym z.0),
        subst (λ (d : Config). Accepts false d t y.after) (sym z.1) y.second_part,
      )

  pub many_forced : {limit : ℕ} → limit < suc (births v) → Forces (ManyNodes limit) p
  many_forced h t f x = let y = told t f x in omega (arith, size_told f, ap births y.1, births_append v y.0)

  pub long_forced : content_limit < extent 0 v c → Forces LongContent p
  long_forced h t f x =
      let y = told t f x in
      omega (arith, longest_told f, ap (peak 0) y.1, peak_append 0 v y.0, pending_told c (rest_of y.2 refl) (tail 0 v))

  -- the shortest document that begins with p
  shortest : (t : List ℕ) × (f : Shape) × (e : List Event) × Parses false (p ++ t) f × (v ++ e ≡ tell 1 f []) × Ending (phase c) e
  shortest = let x = completion false c in let d = sound (join (loose r) x.run) in (x.bytes, d.0, x.events, d.1, d.2, x.short refl)

  -- the root element is certain from the start
  pub few_free : {limit : ℕ} → 2 ≤ limit → suc (births v) ≤ limit → ¬ (Forces (ManyNodes limit) p)
  unfolding births
  few_free {limit} m h g =
      let x = shortest in
      let k = g x.0 x.1 x.3 in
      let q = ending_few limit (births v) m x.5 (λ q. ap births (quiet_run r q).1) h in
      omega (arith, size_told x.1, ap births x.4, births_append v x.2)

  pub short_free : extent 0 v c ≤ content_limit → ¬ (Forces LongContent p)
  short_free h g =
      let x = shortest in
      let k = g x.0 x.1 x.3 in
      let q = ending_short (tail 0 v) x.5 (omega arith) in
      omega (arith, longest_told x.1, ap (peak 0) x.4, peak_append 0 v x.2)
