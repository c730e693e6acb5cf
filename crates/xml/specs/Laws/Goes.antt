-- The scan from place to place, as a reader goes: whatever the verdict is further on, it is the verdict here.
use Rattle.std.specs.Prelude.{ℕ, ◌≤◌, ◌≡◌, Bool, true}
use mathlib.Core.List.{List}
use Rattle.tree.specs.Content.{content_limit}
use Rattle.xml.specs.Laws.Automaton.{Config}
use Rattle.xml.specs.Laws.Monitor.{Monitor, at_rest, is_on}
use Rattle.xml.specs.Laws.Judge.{Verdict}
use Rattle.xml.specs.Laws.Scan.{scan_at}

-- the verdict from c at offset i, between two characters, where n nodes may still come, whatever the length of the last content;
-- w is whether characters are asked for
pub record Leads (w : Bool) (s : List ℕ) (c : Config) (n i : ℕ) (v : Verdict) : Type 0 where
  pub leads : (x : Monitor) → is_on x ≡ w → at_rest x ≡ true → (k : ℕ) → k ≤ content_limit → scan_at s c x n k i ≡ v

-- the scan goes on from c at i to d at j, where m of n nodes may still come
pub record Goes (w : Bool) (s : List ℕ) (c : Config) (n i : ℕ) (d : Config) (m j : ℕ) : Type 0 where
  pub back : (v : Verdict) → Leads w s d m j v → Leads w s c n i v
