-- What the reading steps find, by what stands in the input.
use Rattle.std.specs.Prelude.{ℕ, ◌+◌, ◌-◌, ◌≤◌, ◌<◌, ◌≡◌, Bool, true, false, List, [], ◌∷◌, length, get_or, drop, Result, Ok, Err}
use Rattle.tree.specs.Content.{content_limit, text_kind, name_start, name_byte}
use Rattle.tree.specs.Spelling.{Spelling, spelling, spell, start_of, Fault, faultless, fault}
use Rattle.xml.specs.Bytes.{ampersand, brackets, Quote, quote_byte}
use Rattle.xml.specs.Grammar.{Name}
use Rattle.xml.specs.Reading.{node_offset}
use Rattle.xml.specs.Laws.Words.{Words, references}
use Rattle.xml.specs.Laws.Automaton.{Config, behind_part, in_tag, before_equals, behind_quote, content, behind_open, end_name, closed}
use Rattle.xml.specs.Laws.Automaton.{born, byte, Move, stuck, move, to, tag_step, step}
use Rattle.xml.specs.Laws.Phases.{phase, is_over, pending}
use Rattle.xml.specs.Laws.Monitor.{Monitor, on, at_rest, is_on}
use Rattle.xml.specs.Laws.Judge.{Verdict, bad}
use Rattle.xml.specs.Laws.Scan.{scan_at}
use Rattle.xml.specs.Laws.Goes.{Leads, Goes}
use Rattle.xml.specs.Laws.Tokens.{span, name_at, Naming, Reach, got, lost, Wording}
use Rattle.xml.specs.Laws.Tells.{Passes}
use Rattle.xml_tokens.specs.Classes.{literal, reads_as}
use Rattle.xml_tokens.specs.declared.Cursor.{Cursor}
use Rattle.xml_tokens.specs.declared.Reference.{Reference}
use Rattle.xml_tokens.specs.declared.Markup.{Markup}
use Rattle.xml_tokens.specs.declared.Markup.TheVariants.{StartTag, EndTag}
use Rattle.xml_tokens.specs.declared.Item.{Item}
use Rattle.xml_tokens.specs.declared.Item.TheVariants.{Open, Empty, Attribute}
use Rattle.xml_tokens.specs.declared.Piece.{Piece}
use Rattle.xml_tokens.specs.declared.Read.{Read}
use Rattle.protocol.specs.CauseNumbers.{number_of}
use Rattle.protocol.specs.declared.causes.Cause.{Cause}
use Rattle.protocol.specs.declared.causes.Cause.TheVariants.{NotOfGrammar, ContentOverLimit}
use Rattle.xml_tokens.specs.Values.{refusal, mismatch, reference, read, piece, opening}
use Rattle.xml_tokens.specs.declared.Mismatch.{Mismatch}
use Rattle.xml_tokens.specs.declared.Opening.{Opening}
use Rattle.xml_tokens.specs.declared.Refusal.{Refusal}

-- the bytes that pass a test, from one offset to another
pub record Run (t : ℕ → Bool) (s : List ℕ) (from to : ℕ) : Type 0 where
  pub ends : to ≡ from + span t (drop from s)
  pub inside : to ≤ length s

-- one byte, which has to be b
pub data ByteRead (s : List ℕ) (at b : ℕ) : Result Cursor Mismatch → Type 0 where
  byte_there : {c : Cursor} → c.at ≡ at + 1 → at < length s → get_or s at 0 ≡ b → ByteRead s at b (Ok c)
  byte_missing : {j : ℕ} → j ≡ at → (at < length s → get_or s at 0 ≡ b → ⊥) → ByteRead s at b (Err (mismatch j))

-- a reference, by the word that is reached from an offset on
pub data Refers (s : List ℕ) (at : ℕ) : Reach → Result Reference Mismatch → Type 0 where
  refers : {b n : ℕ} {c : Cursor} → c.at ≡ at + n → c.at ≤ length s → Refers s at (got b n) (Ok (reference b c))
  no_reference : {n j : ℕ} → j ≡ at + n → Refers s at (lost n) (Err (mismatch j))

-- the bytes up to an offset, behind count bytes of a content, by how they are spelled
pub data Fits (at to count : ℕ) : Fault → Result Piece Refusal → Type 0 where
  fits : {c : Cursor} {n : ℕ} → c.at ≡ to → n ≡ count + (to - at) → n ≤ content_limit → Fits at to count faultless (Ok (piece c n))
  too_long : {j : ℕ} → content_limit < count + (to - at) → j ≡ at + (content_limit - count)
      → Fits at to count faultless (Err (refusal ContentOverLimit j))
  late_fault : {n j : ℕ} → content_limit < count + n → j ≡ at + (content_limit - count)
      → Fits at to count (fault n) (Err (refusal ContentOverLimit j))
  early_fault : {n j : ℕ} → count + n ≤ content_limit → j ≡ at + n → Fits at to count (fault n) (Err (refusal NotOfGrammar j))

-- a step on which nothing is told, or none
pub data Quiet : Move → Type 0 where
  no_step : Quiet stuck
  quiet_step : {c : Config} → Quiet (to c)

-- the configurations in a name, with what is read of it; what stands behind it tells nothing
pub record NamePlace (C : Name → Config) : Type 0 where
  pub naming : Naming C
  pub quiet : (p : Name) (b : ℕ) → name_byte b ≡ false → Quiet (step true (C p) b)
  pub going : (p : Name) → is_over (phase (C p)) ≡ false

-- where a name leads from behind its first byte, if that begins a character
pub data NameRead (s : List ℕ) (at : ℕ) : Result Piece Refusal → Type 0 where
  name_taken : {c : Cursor} {n : ℕ} → Run name_byte s at c.at → c.at - at ≤ content_limit
      → ((C : Name → Config) → NamePlace C → (m : ℕ) (y : Spelling) → spell (start_of false) (get_or s at 0) ≡ spelling y → (v : Verdict)
      → ((z : Monitor) → is_on z ≡ true → at_rest z ≡ true → scan_at s (C (name_at s at)) z m (c.at - at) c.at ≡ v)
      → scan_at s (C (get_or s at 0 ∷ [])) (on y) m 1 (at + 1) ≡ v)
      → NameRead s at (Ok (piece c n))
  name_unfit : {x : Cause} {j : ℕ}
      → ((C : Name → Config) → NamePlace C → (m : ℕ) (y : Spelling) → spell (start_of false) (get_or s at 0) ≡ spelling y
      → scan_at s (C (get_or s at 0 ∷ [])) (on y) m 1 (at + 1) ≡ bad (number_of x) j)
      → NameRead s at (Err (refusal x j))

-- before a character of a value or a text
abbrev pub text_monitor : Monitor
text_monitor = on (start_of true)

-- the configurations in a value or a text: C k with k bytes ] just before, R in a reference, D behind the byte stop that ends it
pub record Characters (stop : ℕ) (C : ℕ → Config) (R : Words → Config) (D : Config) : Type 0 where
  pub ascii : stop < 128
  pub plainly : (k b : ℕ) → (b ≡ stop → ⊥) → literal stop k b ≡ true
      → step true (C k) b ≡ move (C (brackets k b)) (byte (reads_as stop b) ∷ [])
  pub refers_to : (k : ℕ) → step true (C k) ampersand ≡ to (R references)
  pub stops : (k : ℕ) → step true (C k) stop ≡ to D
  pub no_other : (k b : ℕ) → (b ≡ stop → ⊥) → (b ≡ ampersand → ⊥) → literal stop k b ≡ false → step true (C k) b ≡ stuck
  pub words : Wording R (C 0) (λ b. byte b ∷ [])
  pub calm : (k : ℕ) → pending (phase (C k)) ≡ 0
  pub going : (k : ℕ) → is_over (phase (C k)) ≡ false
  pub due : (x : Words) → pending (phase (R x)) ≡ 1
  pub behind : pending (phase D) ≡ 0

-- where a reference or bytes from 128 on lead, behind count bytes of the content
pub data SpecialRead (s : List ℕ) (at count : ℕ) : Result Piece Refusal → Type 0 where
  special_taken : {c : Cursor} {n : ℕ} → at < c.at → c.at ≤ length s → n ≤ content_limit
      → ((stop : ℕ) (C : ℕ → Config) (R : Words → Config) (D : Config) → Characters stop C R D → (k m : ℕ)
      → scan_at s (C k) text_monitor m count at ≡ scan_at s (C 0) text_monitor m n c.at)
      → SpecialRead s at count (Ok (piece c n))
  special_unfit : {x : Cause} {j : ℕ}
      → ((stop : ℕ) (C : ℕ → Config) (R : Words → Config) (D : Config) → Characters stop C R D → (k m : ℕ)
      → scan_at s (C k) text_monitor m count at ≡ bad (number_of x) j)
      → SpecialRead s at count (Err (refusal x j))

-- where the characters from an offset on lead
pub data CharactersRead (s : List ℕ) (stop at spare : ℕ) : Result Read Refusal → Type 0 where
  characters_past : {c : Cursor} → at < c.at → c.at ≤ length s → get_or s (c.at - 1) 0 ≡ stop
      → ((C : ℕ → Config) (R : Words → Config) (D : Config) → Characters stop C R D → (v : Verdict) → Leads true s D spare c.at v
      → scan_at s (C 0) text_monitor spare 0 at ≡ v)
      → CharactersRead s stop at spare (Ok (read c spare))
  characters_refused : {x : Cause} {j : ℕ}
      → ((C : ℕ → Config) (R : Words → Config) (D : Config) → Characters stop C R D → scan_at s (C 0) text_monitor spare 0 at ≡ bad (number_of x) j)
      → CharactersRead s stop at spare (Err (refusal x j))

-- a value or a text from the configuration S on, before its first byte
pub record Contents (stop : ℕ) (S : Config) (C : ℕ → Config) (R : Words → Config) (D : Config) : Type 0 where
  pub inner : Characters stop C R D
  pub depth : ℕ
  pub first : (b : ℕ) → (b ≡ stop → ⊥) → literal stop 0 b ≡ true
      → step true S b ≡ move (C (brackets 0 b)) (born depth text_kind ∷ byte (reads_as stop b) ∷ [])
  pub first_refers : step true S ampersand ≡ move (R references) (born depth text_kind ∷ [])
  pub nothing : step true S stop ≡ to D
  pub no_first : (b : ℕ) → (b ≡ stop → ⊥) → (b ≡ ampersand → ⊥) → literal stop 0 b ≡ false → step true S b ≡ stuck
  pub starting : is_over (phase S) ≡ false

-- where a value or a text leads
pub data TextRead (s : List ℕ) (stop at spare : ℕ) : Result Read Refusal → Type 0 where
  text_past : {c : Cursor} {m : ℕ} → at < c.at → c.at ≤ length s → get_or s (c.at - 1) 0 ≡ stop → m ≤ spare
      → ((S : Config) (C : ℕ → Config) (R : Words → Config) (D : Config) → Contents stop S C R D → Goes true s S spare at D m c.at)
      → TextRead s stop at spare (Ok (read c m))
  text_refused : {x : Cause} {j : ℕ}
      → ((S : Config) (C : ℕ → Config) (R : Words → Config) (D : Config) → Contents stop S C R D → Leads true s S spare at (bad (number_of x) j))
      → TextRead s stop at spare (Err (refusal x j))

-- from behind an attribute's name
pub data EqualsRead (s : List ℕ) (at : ℕ) : Result Opening Mismatch → Type 0 where
  quoted : {c : Cursor} (q : Quote) → at < c.at → c.at ≤ length s → node_offset s c.at ≡ c.at - 1
      → ((n : Name) (ns seen : List Name) → Passes s (before_equals n ns seen) at (behind_quote n ns seen q) c.at)
      → EqualsRead s at (Ok (opening (quote_byte q) c))
  no_quote : {j : ℕ} → ((w : Bool) (n : Name) (ns seen : List Name) (m : ℕ) → Leads w s (before_equals n ns seen) m at (bad 4 j))
      → EqualsRead s at (Err (mismatch j))

-- from a configuration in a start tag, which may depend on the element, those around it and the attributes so far
pub data TagRead (s : List ℕ) (F : Name → List Name → List Name → Config) (at : ℕ) : Result Item Mismatch → Type 0 where
  tag_open : {c : Cursor} → at < c.at → c.at ≤ length s → node_offset s c.at ≡ c.at
      → ((n : Name) (ns seen : List Name) → Passes s (F n ns seen) at (content n ns) c.at) → TagRead s F at (Ok (Open c))
  tag_empty : {c : Cursor} → at < c.at → c.at ≤ length s → node_offset s c.at ≡ c.at
      → ((n : Name) (ns seen : List Name) → Passes s (F n ns seen) at (closed ns) c.at) → TagRead s F at (Ok (Empty c))
  tag_attribute : {c : Cursor} → at < c.at → c.at < length s → node_offset s c.at ≡ c.at → name_start (get_or s c.at 0) ≡ true
      → ((n : Name) (ns seen : List Name) → Passes s (F n ns seen) at (in_tag n ns seen) c.at) → TagRead s F at (Ok (Attribute c))
  tag_wrong : {j : ℕ} → ((w : Bool) (n : Name) (ns seen : List Name) (m : ℕ) → Leads w s (F n ns seen) m at (bad 4 j))
      → TagRead s F at (Err (mismatch j))

-- from behind a name or a value
abbrev pub ItemRead : List ℕ → ℕ → Result Item Mismatch → Type 0
ItemRead s at r = TagRead s behind_part at r

-- configurations in a start tag that go on alike where no name begins
pub record TagPlace (F : Name → List Name → List Name → Config) : Type 0 where
  pub alike : (n : Name) (ns seen : List Name) (b : ℕ) → name_start b ≡ false → step true (F n ns seen) b ≡ tag_step n ns seen b
  pub calm : (n : Name) (ns seen : List Name) → is_over (phase (F n ns seen)) ≡ false

-- from such a place
pub record SlashRead (s : List ℕ) (at : ℕ) (r : Result Item Mismatch) : Type 0 where
  pub reads : (F : Name → List Name → List Name → Config) → TagPlace F → TagRead s F at r

-- behind a <: the name of a start tag, the slash of an end tag, or another byte
pub data MarkupRead (s : List ℕ) (at : ℕ) : Result Markup Mismatch → Type 0 where
  markup_start : {c : Cursor} → c.at ≡ at → at < length s → name_start (get_or s at 0) ≡ true → MarkupRead s at (Ok (StartTag c))
  markup_end : {c : Cursor} → c.at ≡ at + 1 → at < length s
      → ((n : Name) (ns : List Name) → Passes s (behind_open n ns) at (end_name n ns n) c.at) → MarkupRead s at (Ok (EndTag c))
  markup_wrong : {j : ℕ} → ((w : Bool) (n : Name) (ns : List Name) (m : ℕ) → Leads w s (behind_open n ns) m at (bad 4 j))
      → MarkupRead s at (Err (mismatch j))

-- from behind the name of an end tag to behind the tag
pub data CloseRead (s : List ℕ) (at : ℕ) : Result Cursor Mismatch → Type 0 where
  close_behind : {c : Cursor} → at < c.at → c.at ≤ length s → node_offset s c.at ≡ c.at
      → ((n : Name) (ns : List Name) → Passes s (end_name n ns []) at (closed ns) c.at) → CloseRead s at (Ok c)
  close_wrong : {j : ℕ} → ((w : Bool) (n : Name) (ns : List Name) (m : ℕ) → Leads w s (end_name n ns []) m at (bad 4 j))
      → CloseRead s at (Err (mismatch j))
