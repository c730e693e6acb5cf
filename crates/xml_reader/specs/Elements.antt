-- Names of open elements and of attributes, kept as offsets of the bytes before them, and what whole attributes and tags lead to.
use Rattle.std.specs.Prelude.{ℕ, zero, suc, ◌+◌, ◌≤◌, ◌<◌, ◌≡◌, Bool, true, false, List, [], ◌∷◌, length, get_or, Result, Ok, Err}
use Rattle.tree.specs.Content.{name_start}
use Rattle.xml.specs.Grammar.{Name}
use Rattle.xml.specs.Reading.{node_offset, input_limit}
use Rattle.xml.specs.Laws.Automaton.{behind_part, in_tag, tag_name, content, closed, end_name}
use Rattle.tree.specs.Spelling.{Spelling, spelling, spell, start_of}
use Rattle.xml.specs.Laws.Monitor.{on}
use Rattle.xml.specs.Laws.Judge.{Verdict, bad}
use Rattle.xml.specs.Laws.Scan.{scan_at}
use Rattle.xml.specs.Laws.Goes.{Leads, Goes}
use Rattle.xml.specs.Laws.Tokens.{name_at}
use Rattle.byte_strings.specs.Sorted.{entries, Among, Lists, Added}
use Rattle.xml_tokens.specs.declared.Cursor.{Cursor}
use Rattle.xml_tokens.specs.declared.Read.{Read}
use Rattle.xml_reader.specs.declared.Tag.{Tag}
use Rattle.xml_reader.specs.declared.Tag.TheVariants.{Opened, Emptied}
use Rattle.protocol.specs.CauseNumbers.{number_of}
use Rattle.protocol.specs.declared.causes.Cause.{Cause}
use Rattle.xml_tokens.specs.Values.{refusal, mismatch, read}
use Rattle.xml_tokens.specs.declared.Mismatch.{Mismatch}
use Rattle.xml_tokens.specs.declared.Refusal.{Refusal}

-- the name behind the byte at an offset
abbrev pub name_behind : List ℕ → ℕ → Name
name_behind s o = name_at s (o + 1)

-- the names behind the n offsets from place lo on, the last first
unfoldable pub stack : List ℕ → List ℕ → ℕ → ℕ → List Name
stack s os lo zero = []
stack s os lo (suc n) = name_behind s (get_or os (lo + n) 0) ∷ stack s os lo n

-- the first n are offsets in the input, which is at most one byte longer than the limit
pub record Placed (s os : List ℕ) (n : ℕ) : Type 0 where
  pub short : length s ≤ input_limit + 1
  pub placed : (i : ℕ) → i < n → get_or os i 0 + 1 ≤ length s

-- an attribute may begin here
pub record Attributed (s : List ℕ) (at : ℕ) : Type 0 where
  pub not_first : 1 ≤ at
  pub inside : at < length s
  pub starts : name_start (get_or s at 0) ≡ true
  pub begins_here : node_offset s at ≡ at

-- where an attribute leads, behind those seen, where spare nodes may still come
pub data AttributeRead (s : List ℕ) (seen : List Name) (at spare : ℕ) : Result Read Refusal → Type 0 where
  attribute_past : {c : Cursor} {m : ℕ} → at < c.at → c.at ≤ length s → m < spare
      → ((n : Name) (ns : List Name) → Goes true s (in_tag n ns seen) spare at (behind_part n ns (name_at s at ∷ seen)) m c.at)
      → AttributeRead s seen at spare (Ok (read c m))
  attribute_refused : {x : Cause} {j : ℕ} → ((n : Name) (ns : List Name) → Leads true s (in_tag n ns seen) spare at (bad (number_of x) j))
      → AttributeRead s seen at spare (Err (refusal x j))

-- the first n are as they were
pub record Kept (n : ℕ) (os os' : List ℕ) : Type 0 where
  pub as_long : length os' ≡ length os
  pub kept : (i : ℕ) → i < n → get_or os' i 0 ≡ get_or os i 0

-- the names of attributes, behind the offsets from place lo on
abbrev pub attribute_names : List ℕ → List ℕ → ℕ → ℕ → Name
attribute_names s os lo = entries (name_behind s) os lo

-- the name at an offset is put among the count names from place lo on, os before and os' behind it
pub record Entered (s os os' : List ℕ) (lo count at : ℕ) : Type 0 where
  pub placed : Placed s os' (lo + count + 1)
  pub added : Added (attribute_names s os lo) (attribute_names s os' lo) count (name_at s at)

-- where it is none of them
pub data EnterRead (s os os' : List ℕ) (lo count at : ℕ) : Bool → Type 0 where
  is_entered : Entered s os os' lo count at → EnterRead s os os' lo count at true
  is_repeated : Among (attribute_names s os lo) count (name_at s at) → EnterRead s os os' lo count at false

-- behind an attribute
pub data NamesRead (s os os' : List ℕ) (lo count at : ℕ) : Result Read Refusal → Type 0 where
  names_past : {c : Cursor} {m : ℕ} → Entered s os os' lo count at → NamesRead s os os' lo count at (Ok (read c m))
  names_refused : {x : Cause} {j : ℕ} → NamesRead s os os' lo count at (Err (refusal x j))

-- an attribute behind those whose names stand from place lo on
pub record AttributeEnters (s os os' : List ℕ) (lo count at spare : ℕ) (r : Result Read Refusal) : Type 0 where
  pub reads : (seen : List Name) → Lists (attribute_names s os lo) count seen → AttributeRead s seen at spare r
  pub names : NamesRead s os os' lo count at r
  pub kept : Kept lo os os'

-- a cursor behind a part of the input, where a node could begin; m of the spare nodes may still come
pub record Onward (s : List ℕ) (at spare : ℕ) (c : Cursor) (m : ℕ) : Type 0 where
  pub further : at < c.at
  pub inside : c.at ≤ length s
  pub begins_here : node_offset s c.at ≡ c.at
  pub fewer : m ≤ spare

-- where a start tag leads from behind its name
pub data AttributesRead (s : List ℕ) (at spare : ℕ) : Result Tag Refusal → Type 0 where
  attributes_opened : {c : Cursor} {m : ℕ} → Onward s at spare c m
      → ((n : Name) (ns : List Name) → Goes true s (behind_part n ns []) spare at (content n ns) m c.at)
      → AttributesRead s at spare (Ok (Opened (read c m)))
  attributes_emptied : {c : Cursor} {m : ℕ} → Onward s at spare c m
      → ((n : Name) (ns : List Name) → Goes true s (behind_part n ns []) spare at (closed ns) m c.at)
      → AttributesRead s at spare (Ok (Emptied (read c m)))
  attributes_broken : {x : Cause} {j : ℕ} → ((n : Name) (ns : List Name) → Leads true s (behind_part n ns []) spare at (bad (number_of x) j))
      → AttributesRead s at spare (Err (refusal x j))

-- a name begins here
pub record Named (s : List ℕ) (at : ℕ) : Type 0 where
  pub not_first : 1 ≤ at
  pub inside : at < length s
  pub starts : name_start (get_or s at 0) ≡ true

-- where a start tag leads from behind the first byte of its name, if that begins a character
pub data ElementRead (s : List ℕ) (at spare : ℕ) : Result Tag Refusal → Type 0 where
  element_opened : {c : Cursor} {m : ℕ} → Onward s at spare c m
      → ((ns : List Name) (y : Spelling) → spell (start_of false) (get_or s at 0) ≡ spelling y → (v : Verdict)
      → Leads true s (content (name_at s at) ns) m c.at v
      → scan_at s (tag_name ns (get_or s at 0 ∷ [])) (on y) spare 1 (at + 1) ≡ v)
      → ElementRead s at spare (Ok (Opened (read c m)))
  element_emptied : {c : Cursor} {m : ℕ} → Onward s at spare c m
      → ((ns : List Name) (y : Spelling) → spell (start_of false) (get_or s at 0) ≡ spelling y → (v : Verdict)
      → Leads true s (closed ns) m c.at v → scan_at s (tag_name ns (get_or s at 0 ∷ [])) (on y) spare 1 (at + 1) ≡ v)
      → ElementRead s at spare (Ok (Emptied (read c m)))
  element_broken : {x : Cause} {j : ℕ}
      → ((ns : List Name) (y : Spelling) → spell (start_of false) (get_or s at 0) ≡ spelling y
      → scan_at s (tag_name ns (get_or s at 0 ∷ [])) (on y) spare 1 (at + 1) ≡ bad (number_of x) j)
      → ElementRead s at spare (Err (refusal x j))

-- where the end tag of an element named n leads
pub data EndRead (s : List ℕ) (n : Name) (at : ℕ) : Result Cursor Mismatch → Type 0 where
  end_behind : {c : Cursor} → at < c.at → c.at ≤ length s → node_offset s c.at ≡ c.at
      → ((ns : List Name) (m : ℕ) → Goes true s (end_name n ns n) m at (closed ns) m c.at) → EndRead s n at (Ok c)
  end_mismatch : {j : ℕ} → ((ns : List Name) (m : ℕ) → Leads true s (end_name n ns n) m at (bad 4 j)) → EndRead s n at (Err (mismatch j))
