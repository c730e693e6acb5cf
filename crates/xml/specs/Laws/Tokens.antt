-- Runs of blanks, names and words of a fixed set, in one go.
use Rattle.std.specs.Prelude.{ℕ, suc, ◌+◌, ◌≡◌, Bool, false, cond, take}
use Rattle.std.proofs.Math.Bool.{true}
use mathlib.Core.List.{List, [], ◌∷◌, ◌++◌}
use Rattle.std.proofs.Math.ListN.{drop}
use Rattle.tree.specs.Content.{name_byte}
use Rattle.xml.specs.Grammar.{Name}
use Rattle.xml.specs.Laws.Words.{Words, Found, no_word, whole, begun, follow}
use Rattle.xml.specs.Laws.Automaton.{Config, Event, byte, move, to, word_step, step}
use Rattle.xml.specs.Laws.Counts.{births, tail}
use Rattle.xml.specs.Laws.Phases.{phase, is_over, pending}
use Rattle.xml.specs.Laws.Monitor.{Monitor}
use Rattle.xml.specs.Laws.Judge.{Verdict, bad}
use Rattle.xml.specs.Laws.Scan.{scan_at}

-- how many bytes pass a test before the first that does not
unfoldable pub span : (ℕ → Bool) → List ℕ → ℕ
span t [] = 0
span t (b ∷ l) = cond (t b) (suc (span t l)) 0

-- names ------------------------------------------------------------------------------------

-- the name that stands at offset o
unfoldable pub name_at : List ℕ → ℕ → Name
name_at s o = take (span name_byte (drop o s)) (drop o s)

-- configurations that carry a name so far
pub record Naming (C : Name → Config) : Type 0 where
  pub next : (p : Name) (b : ℕ) → name_byte b ≡ true → step true (C p) b ≡ move (C (p ++ (b ∷ []))) (byte b ∷ [])
  pub calm : (p : Name) → pending (phase (C p)) ≡ 0

-- words of a set ---------------------------------------------------------------------------

-- a word with its value and length, or the length of the longest beginning of one
pub data Reach : Type 0 where
  got : (value n : ℕ) → Reach
  lost : (n : ℕ) → Reach

abbrev pub one_more : Reach → Reach
one_more (got k n) = got k (suc n)
one_more (lost n) = lost (suc n)

abbrev pub reached : Found → (Words → Reach) → Reach
reached no_word f = lost 0
reached (whole k) f = got k 1
reached (begun y) f = one_more (f y)

unfoldable pub reach : Words → List ℕ → Reach
reach x [] = lost 0
reach x (b ∷ l) = reached (follow x b) (λ y. reach y l)

-- configurations that carry the words that remain; the value ends in d with events
pub record Wording (C : Words → Config) (d : Config) (w : ℕ → List Event) : Type 0 where
  pub next : (x : Words) (b : ℕ) → step true (C x) b ≡ word_step (follow x b) (λ k. move d (w k)) (λ y. to (C y))
  pub calm : (x : Words) → is_over (phase (C x)) ≡ false
  pub no_node : (k : ℕ) → births (w k) ≡ 0

-- from d on behind the byte that the word stands for
abbrev pub Landed : List ℕ → Config → (ℕ → List Event) → (ℕ → Monitor) → ℕ → ℕ → ℕ → Reach → Verdict
Landed s d w Y n k i (got b m) = scan_at s d (Y b) n (tail k (w b)) (i + m)
Landed s d w Y n k i (lost m) = bad 4 (i + m)
