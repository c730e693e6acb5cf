-- The values that the reading steps hand back.
use Rattle.std.specs.Prelude.{ℕ}
use Rattle.xml_tokens.specs.declared.Cursor.{Cursor}
use Rattle.xml_reader.specs.declared.Inside.{Inside}

abbrev pub inside_at : (cursor : Cursor) → (depth spare : ℕ) → Inside
inside_at c d m = record { cursor = c; depth = d; spare = m }
