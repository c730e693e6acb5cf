-- The classes of bytes in values and texts.
use Rattle.std.specs.Prelude.{ℕ, ◌<◌, ◌≡◌, Bool, ◌&&◌}
use Rattle.std.proofs.Math.Path.{refl}
use Rattle.std.proofs.Math.Bool.{true, false}
use borrow.Author.Tests.{lt-ltb}
use Rattle.tree.specs.Content.{name_byte, text_byte}
use Rattle.xml.specs.Bytes.{space, ampersand}
use Rattle.xml_tokens.specs.Classes.{literal, ascii_name}

-- a byte that stands for itself is one of a text
pub literal_text : (stop k b : ℕ) → literal stop k b ≡ true → text_byte b ≡ true
unfolding literal
literal_text stop k b h = go (text_byte b) _ _ _ h
  where
    go : (t x y z : Bool) → (t && x && y && z) ≡ true → t ≡ true
    go true x y z e = refl
    go false x y z e = e

pub space_text : text_byte space ≡ true
unfolding text_byte
space_text = refl

pub ampersand_text : text_byte ampersand ≡ true
unfolding text_byte
ampersand_text = refl

pub name_ascii_byte : (b : ℕ) → b < 128 → name_byte b ≡ ascii_name b
unfolding ascii_name
name_ascii_byte b h = rw (lt-ltb b 128 h)
