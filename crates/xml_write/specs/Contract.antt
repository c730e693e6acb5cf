-- The contract of write on lent bytes: document 01, "Reading and writing XML" and "Refused calls".
use Rattle.std.specs.Prelude.{◌≡◌, ℕ, Bool, false, cond, ◌&&◌, List, length, leb}
use Rattle.tree.specs.Document.{Document, ordered}
use Rattle.protocol.specs.State.{State, committed_document}
use Rattle.protocol.specs.Lent.{filled}
use Rattle.protocol.specs.declared.Answer.{Answer}
use Rattle.protocol.specs.declared.Answer.TheVariants.{Count, Refused}
use Rattle.form.specs.Form.{form, Holds}
use Rattle.xml.specs.Writing.{write, expressible}

-- the text of a document can be written, and fits into this room
unfoldable pub writable : ℕ → Document → Bool
writable room d = expressible d && leb (length (write d)) room

-- "write: 14, 13", and "write answers the length"
unfoldable pub writing : ℕ → Document → Answer
writing room d = cond (expressible d) (cond (leb (length (write d)) room) (Count (length (write d))) (Refused 13)) (Refused 14)

-- the lent bytes afterwards: "bytes of a lent buffer behind the answer keep their values"
unfoldable pub text_after : List ℕ → Document → List ℕ
text_after o d = cond (writable (length o) d) (filled (write d) o) o

-- bytes of the form may hold a tree that no call leaves, with children against the tree's rules: it is not expressible either.
-- Every document of the rules is ordered, so these are `writing` and `text_after` in every list of calls
unfoldable pub write_answer : ℕ → Document → Answer
write_answer room d = cond (ordered d) (writing room d) (Refused 14)

unfoldable pub write_buffer : List ℕ → Document → List ℕ
write_buffer o d = cond (ordered d) (text_after o d) o

-- a call that was lent the state bytes s and a buffer that held o, left o' there and answered r
pub record Written (s o o' : List ℕ) (r : Answer) : Type 0 where
  -- "state bytes that are too short, or not of the form .. give 13 before all else"
  pub unformed : form s ≡ false → (r ≡ Refused 13) × (o' ≡ o)
  -- otherwise answer and text are the definition's
  pub answer : (M : State) → Holds s M → r ≡ write_answer (length o) (committed_document M)
  pub text : (M : State) → Holds s M → o' ≡ write_buffer o (committed_document M)
  pub long : length o' ≡ length o
