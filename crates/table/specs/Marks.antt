-- The byte of each mark in the cell of a node.
use Rattle.std.specs.Prelude.{ℕ}
use Rattle.table.specs.declared.Mark.{Mark}
use Rattle.table.specs.declared.Mark.TheVariants.{Writer, Inserter, Deleter}

abbrev pub byte_of : Mark → ℕ
byte_of Writer = 1
byte_of Inserter = 2
byte_of Deleter = 3
