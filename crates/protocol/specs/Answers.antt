-- What a call hands back: its answer, the number of 64 bits for it, and the lent buffers afterwards.
use Rattle.std.specs.Prelude.{ℕ, ◌+◌, ◌*◌, ◌^◌, List, length}
use Rattle.tree.specs.Document.{Document}
use Rattle.tree.specs.Steps.{Value, done, kind_parent, child_is, none, content_is, numbers_are, cells_are, how_many}
use Rattle.protocol.specs.Lent.{filled}
use Rattle.protocol.specs.Calls.{Outcome, granted, written, waits, refused, refused_at}
use Rattle.protocol.specs.declared.Answer.{Answer}
use Rattle.protocol.specs.declared.Answer.TheVariants.{Done, Node, Child, NoChild, Count, Waits, Refused, RefusedAt}

-- the paper's values for a granted call
unfoldable pub granted_answer : Value → Answer
granted_answer done = Done
granted_answer (kind_parent kind parent) = Node kind parent
granted_answer (child_is number kind) = Child kind number
granted_answer none = NoChild
granted_answer (content_is b) = Count (length b)
granted_answer (numbers_are l) = Count (length l)
granted_answer (cells_are l) = Count (length l)
granted_answer (how_many n) = Count n

-- the paper's numbers and values for each outcome; `writing` says what writing a document answers
unfoldable pub answer_of : (Document → Answer) → Outcome → Answer
answer_of writing (granted v) = granted_answer v
answer_of writing (written d) = writing d
answer_of writing (waits set) = Waits set
answer_of writing (refused cause) = Refused cause
answer_of writing (refused_at cause offset) = RefusedAt cause offset

-- bits 0 to 7: 0 granted, 1 waits, 2 refused; bits 8 to 15: the cause; bits 16 to 63: the value
abbrev pub packed : ℕ → ℕ → ℕ → ℕ
packed outcome cause value = outcome + 256 * cause + 65536 * value

-- the values of T and C: number + 2^32 · kind
abbrev pub number_kind : ℕ → ℕ → ℕ
number_kind number kind = number + 2 ^ 32 * kind

unfoldable pub code_of : Answer → ℕ
code_of Done = packed 0 0 0
code_of (Node kind parent) = packed 0 0 (number_kind parent kind)
code_of (Child kind number) = packed 0 0 (number_kind number kind)
code_of NoChild = packed 0 0 0
code_of (Count n) = packed 0 0 n
code_of (Waits set) = packed 1 0 set
code_of (Refused cause) = packed 2 cause 0
code_of (RefusedAt cause offset) = packed 2 cause offset

-- a lent buffer afterwards: "bytes of a lent buffer behind the answer keep their values". Only a granted call puts anything there: what
-- `lent`, which is first_lent or second_lent, has for its answer, and what `text` says of the buffer and the document written
unfoldable pub lent_after : (Value → List ℕ) → (List ℕ → Document → List ℕ) → Outcome → List ℕ → List ℕ
lent_after lent text (granted v) buffer = filled (lent v) buffer
lent_after lent text (written d) buffer = text buffer d
lent_after lent text (waits set) buffer = buffer
lent_after lent text (refused cause) buffer = buffer
lent_after lent text (refused_at cause offset) buffer = buffer

-- a buffer that no text goes into
abbrev pub as_it_was : List ℕ → Document → List ℕ
as_it_was buffer d = buffer
