-- The values that the reading steps hand back, and what a test of bytes tells.
use Rattle.std.specs.Prelude.{ℕ, Bool, ◌≡◌}
use Rattle.protocol.specs.declared.causes.Cause.{Cause}
use Rattle.xml_tokens.specs.declared.Cursor.{Cursor}
use Rattle.xml_tokens.specs.declared.Refusal.{Refusal}
use Rattle.xml_tokens.specs.declared.Mismatch.{Mismatch}
use Rattle.xml_tokens.specs.declared.Reference.{Reference}
use Rattle.xml_tokens.specs.declared.Read.{Read}
use Rattle.xml_tokens.specs.declared.Piece.{Piece}
use Rattle.xml_tokens.specs.declared.Opening.{Opening}

abbrev pub refusal : Cause → (offset : ℕ) → Refusal
refusal x j = record { cause = x; offset = j }

abbrev pub mismatch : (offset : ℕ) → Mismatch
mismatch j = record { offset = j }

abbrev pub reference : (byte : ℕ) → (behind : Cursor) → Reference
reference b c = record { byte = b; behind = c }

abbrev pub read : (behind : Cursor) → (spare : ℕ) → Read
read c m = record { behind = c; spare = m }

abbrev pub piece : (behind : Cursor) → (length : ℕ) → Piece
piece c n = record { behind = c; length = n }

abbrev pub opening : (quote : ℕ) → (value : Cursor) → Opening
opening q c = record { quote = q; value = c }

-- what the calls of a test of bytes return is what t says
abbrev pub Computes : (ℕ → Bool → Type 0) → (ℕ → Bool) → Type 0
Computes P t = (b : ℕ) (x : Bool) → P b x → x ≡ t b
