-- The way to the root element.
use Rattle.std.specs.Prelude.{ℕ, ◌+◌, ◌-◌, ◌≤◌, ◌≡◌, Bool, true, false, List, [], ◌∷◌, get_or, Result, Ok, Err}
use Rattle.tree.specs.Content.{element_kind}
use Rattle.xml.specs.Laws.Automaton.{Config, prolog, tag_name, born, byte}
use Rattle.tree.specs.Spelling.{Spelling, broken, spelling, spell, start_of}
use Rattle.xml.specs.Laws.Monitor.{on}
use Rattle.xml.specs.Laws.Judge.{Verdict, bad}
use Rattle.xml.specs.Laws.Scan.{scan_at}
use Rattle.xml.specs.Laws.Goes.{Leads}
use Rattle.xml.specs.Laws.Tokens.{Reach, got, lost}
use Rattle.xml.specs.Laws.Tells.{Tells}
use Rattle.xml_tokens.specs.declared.Cursor.{Cursor}
use Rattle.xml_reader.specs.Elements.{Named}
use Rattle.xml_tokens.specs.Values.{mismatch}
use Rattle.xml_tokens.specs.declared.Mismatch.{Mismatch}

-- where the bytes before the root element's name lead from a configuration: where characters are asked for, the first byte of the name
-- has to begin one
pub data RootRead (s : List ℕ) (from : Config) (at : ℕ) : Result Cursor Mismatch → Type 0 where
  root_at : {c : Cursor} → Named s c.at
      → ((spare : ℕ) → 1 ≤ spare → (y : Spelling) → spell (start_of false) (get_or s c.at 0) ≡ spelling y → (v : Verdict)
      → scan_at s (tag_name [] (get_or s c.at 0 ∷ [])) (on y) (spare - 1) 1 (c.at + 1) ≡ v → Leads true s from spare at v)
      → ((spare : ℕ) → spell (start_of false) (get_or s c.at 0) ≡ broken → Leads true s from spare at (bad 4 c.at))
      → Tells s from at (born 1 element_kind ∷ byte (get_or s c.at 0) ∷ []) (tag_name [] (get_or s c.at 0 ∷ [])) (c.at + 1)
      → RootRead s from at (Ok c)
  no_root : {j : ℕ} → ((w : Bool) (spare : ℕ) → Leads w s from spare at (bad 4 j)) → RootRead s from at (Err (mismatch j))

-- behind a declaration, by how far it agrees
pub data DeclaredRead (s : List ℕ) : Reach → Result Cursor Mismatch → Type 0 where
  behind_it : {k n : ℕ} {r : Result Cursor Mismatch} → RootRead s prolog n r → DeclaredRead s (got k n) r
  short_of_it : {n : ℕ} → DeclaredRead s (lost n) (Err (mismatch n))
