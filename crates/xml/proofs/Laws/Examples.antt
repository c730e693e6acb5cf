-- Inputs with what the judgement says of them: a table, and one of inputs at the limits, with a theorem each. Values, texts and tree E,
-- written and read.
use Prim.Native.String.{String}
use Rattle.std.specs.Prelude.{ℕ, zero, suc, ◌+◌, ◌-◌, ◌≤◌, ◌<◌, ◌≡◌, refl, true, false, List, [], ◌∷◌, ◌++◌, map, length, leb}
use Rattle.std.proofs.Common.{ap, ap₂, ◌∙◌, arith, leb-true}
use Rattle.std.proofs.lemmas.Bool.{lt-leb}
use Rattle.tree.specs.Lists.{every}
use Rattle.tree.specs.Forest.{rows, view}
use Rattle.tree.specs.Characters.{within, utf8, characters}
use Rattle.tree.specs.Content.{name_start, name_byte, text_byte, spells_name, spells_text, is_name, is_text, allowed, takes}
use Rattle.tree.specs.Content.{attributes_first, children_rule}
use Rattle.tree.specs.Spelling.{spell, possible, meets, breadth, with_byte, first_part, next_part}
use Rattle.tree.specs.Document.{lines, ruled, legal}
use Rattle.tree.specs.Examples.{tree_E}
use Rattle.protocol.specs.Calls.{node_limit, stands_for}
use Rattle.protocol.specs.Examples.{E_loadable}
use Rattle.tree.specs.Text.{bytes}
use Rattle.xml.specs.Bytes.{space, blank, double, value_literal, normalized, text_literal, brackets, used}
use Rattle.xml.specs.Shape.{size, longest, numbered, shape}
use Rattle.xml.specs.Grammar.{no_blank, character_tab, character_line_feed, Value, value_close, value_byte, value_refers, Chars}
use Rattle.xml.specs.Grammar.{chars_end, chars_byte, chars_refers, bare, Spells}
use Rattle.xml.specs.Reading.{input_limit, ReadsAs}
use Rattle.xml.specs.Writing.{escaped, attributes, contents, below, write, repeats, neighbouring_texts}
use Rattle.xml.specs.Laws.Words.{follow}
use Rattle.xml.specs.Laws.Automaton.{prolog, depth, tag_step, step}
use Rattle.xml.specs.Laws.Counts.{births, tail, peak}
use Rattle.xml.specs.Laws.Monitor.{see, monitor, monitoring}
use Rattle.xml.specs.Laws.Judge.{Verdict, fine, bad, judge, judgement}
use Rattle.xml.proofs.Laws.Structure.{FormedRoot, left_of, right_of, root_spelled}
use Rattle.xml.proofs.Laws.Readings.{accepted_iff}
use Rattle.xml.proofs.Laws.Written.{written_root, written_spells}
use Rattle.xml.proofs.Laws.Expressible.{formed_document}

-- a document of n nodes
abbrev pub fine_with : ℕ → Verdict
fine_with n = fine (node_limit - n)

abbrev pub inputs : List (String × Verdict)
inputs =
    -- document 01: tree E, and the empty input
    ("<lift rope=\"2\"><speed>6</speed><ramp/></lift>", fine_with 7)
    ∷ ("", bad 4 0)
    -- declarations
    ∷ ("<?xml version=\"1.0\"?><a/>", fine_with 2)
    ∷ ("<?xml version=\"1.0\" encoding=\"UTF-8\"?> <a/> ", fine_with 2)
    ∷ ("<?xml version=\"1.1\"?><a/>", bad 4 17)
    ∷ (" <?xml version=\"1.0\"?><a/>", bad 4 2)
    -- the end comes too soon, or something stands behind the root element
    ∷ ("<a>", bad 4 3)
    ∷ ("<a/><b/>", bad 4 4)
    -- tags
    ∷ ("<a ></a >", fine_with 2)
    ∷ ("<a></b>", bad 4 5)
    ∷ ("<ab></a>", bad 4 7)
    ∷ ("<a b='1' c=\"'\"/>", fine_with 6)
    ∷ ("<a b='1' b='2'/>", bad 4 10)
    ∷ ("<a b='1' bb='2'/>", fine_with 6)
    -- a name that repeats another ends with its 32nd byte, or has a 33rd
    ∷ ("<a abcdefghijabcdefghijabcdefghijab='' abcdefghijabcdefghijabcdefghijab=''/>", bad 4 71)
    ∷ ("<a abcdefghijabcdefghijabcdefghijab='' abcdefghijabcdefghijabcdefghijabc=''/>", bad 5 71)
    -- characters
    ∷ ("<a>]]&gt;</a>", fine_with 3)
    ∷ ("<a>]]></a>", bad 4 5)
    ∷ ("<a b=']]>'/>", fine_with 4)
    ∷ ("<a>&apos;</a>", fine_with 3)
    -- character references: to a tab and a line feed, and to no other character
    ∷ ("<a b='&#9;'>]]&#10;></a>", fine_with 5)
    ∷ ("<a>&#1;</a>", bad 4 6)
    ∷ ("<a>&#13;</a>", bad 4 6)
    ∷ ("<a>&#32;</a>", bad 4 5)
    ∷ ("<a>&#09;</a>", bad 4 5)
    ∷ ("<a>&#x9;</a>", bad 4 5)
    ∷ ("<a>&#9", bad 4 6)
    -- 32 and 33 bytes of content
    ∷ ("<a>12345678901234567890123456789012</a>", fine_with 3)
    ∷ ("<a b='1234567890123456789012345678901&#9;'/>", fine_with 4)
    ∷ ("<a>12345678901234567890123456789012&</a>", bad 5 35)
    ∷ ("<a b='12345678901234567890123456789012&#9;'/>", bad 5 38)
    ∷ ("<a>12345678901234567890123456789012></a>", bad 5 35)
    ∷ ("<a>123456789012345678901234567890]]></a>", bad 4 35)
    ∷ []

pub examples : map (λ (x : String × Verdict). judgement node_limit (bytes x.0)) inputs ≡ map (λ (x : String × Verdict). x.1) inputs
unfolding judgement judge step tag_step depth follow births tail peak blank value_literal text_literal brackets used name_start name_byte
    text_byte monitor see spell possible meets breadth with_byte first_part next_part normalized
examples = refl

-- characters beyond ASCII (A.2), between two texts
abbrev around : String → List ℕ → String → List ℕ
around a s b = bytes a ++ (s ++ bytes b)

abbrev pub spellings : List (List ℕ × Verdict)
spellings =
    -- ü in names; U+0300 combines, U+036F too, U+0370 begins a name; U+00B7 alone of those with C2 stands in one
    (around "<T" (0xC3 ∷ 0xBC ∷ []) "r/>", fine_with 2)
    ∷ (around "<" (0xCC ∷ 0x80 ∷ []) "/>", bad 4 1)
    ∷ (around "<a" (0xCC ∷ 0x80 ∷ []) "/>", fine_with 2)
    ∷ (around "<" (0xCD ∷ 0xAF ∷ []) "/>", bad 4 2)
    ∷ (around "<" (0xCD ∷ 0xB0 ∷ []) "/>", fine_with 2)
    ∷ (around "<a" (0xC2 ∷ 0xB7 ∷ []) "/>", fine_with 2)
    ∷ (around "<a" (0xC2 ∷ 0xB8 ∷ []) "/>", bad 4 3)
    ∷ (around "<" (0xC2 ∷ 0xB7 ∷ []) "/>", bad 4 1)
    ∷ (around "<a " (0xC3 ∷ 0xBC ∷ []) "='1'/>", fine_with 4)
    ∷ (bytes "<a:b/>", bad 4 2)
    -- an end tag has the bytes of its start tag
    ∷ (bytes "<" ++ ((0xC3 ∷ 0xBC ∷ []) ++ around "></" (0xC3 ∷ 0xBC ∷ []) ">"), fine_with 2)
    ∷ (bytes "<" ++ ((0xC3 ∷ 0xBC ∷ []) ++ around "></" (0xC3 ∷ 0xBD ∷ []) ">"), bad 4 7)
    -- texts and values: 127, U+10FFFF; no U+FFFE, no surrogate, nothing above U+10FFFF, no long form, no stray byte
    ∷ (around "<a>" (127 ∷ 0xF4 ∷ 0x8F ∷ 0xBF ∷ 0xBF ∷ []) "</a>", fine_with 3)
    ∷ (around "<a b='" (0xE2 ∷ 0x82 ∷ 0xAC ∷ []) "&lt;'/>", fine_with 4)
    ∷ (around "<a>" (0xEF ∷ 0xBF ∷ 0xBE ∷ []) "</a>", bad 4 5)
    ∷ (around "<a>" (0xED ∷ 0xA0 ∷ 0x80 ∷ []) "</a>", bad 4 4)
    ∷ (around "<a>" (0xF4 ∷ 0x90 ∷ []) "</a>", bad 4 4)
    ∷ (around "<a>" (0xF5 ∷ []) "</a>", bad 4 3)
    ∷ (around "<a>" (0xC1 ∷ 0xBF ∷ []) "</a>", bad 4 3)
    ∷ (around "<a>" (0xE0 ∷ 0x9F ∷ []) "</a>", bad 4 4)
    ∷ (around "<a>" (0x80 ∷ []) "</a>", bad 4 3)
    -- a character that is cut: by a tag, a reference, the quote, what follows a name, the end
    ∷ (around "<a>" (0xE2 ∷ 0x82 ∷ []) "</a>", bad 4 5)
    ∷ (around "<a>" (0xC3 ∷ []) "&amp;</a>", bad 4 4)
    ∷ (around "<a b='" (0xC3 ∷ []) "'/>", bad 4 7)
    ∷ (around "<a" (0xC3 ∷ []) "/>", bad 4 3)
    ∷ (around "<a" (0xC3 ∷ []) "", bad 4 3)
    -- the count of ] begins anew behind a character, and is one of literal bytes
    ∷ (around "<a>]]" (0xC3 ∷ 0xBC ∷ []) "></a>", fine_with 3)
    -- attributes with one name, and one with a longer name; a byte with which no NameChar begins ends the name
    ∷ (bytes "<a " ++ ((0xC3 ∷ 0xBC ∷ []) ++ around "='' " (0xC3 ∷ 0xBC ∷ []) "=''/>"), bad 4 11)
    ∷ (around "<a b='' b" (0xC2 ∷ 0xB7 ∷ []) "=''/>", fine_with 4)
    ∷ (around "<a b='' b" (0xEE ∷ []) "=''/>", bad 4 9)
    -- a literal byte 13; the end inside a text's character
    ∷ (around "<a>" (13 ∷ []) "</a>", bad 4 3)
    ∷ (around "<a>" (0xC3 ∷ []) "", bad 4 4)
    -- the 33rd byte inside a character of a value; a & in its place, behind a whole character and inside one
    ∷ (around "<a b='1234567890123456789012345678901" (0xC3 ∷ 0xBC ∷ []) "'/>", bad 5 38)
    ∷ (around "<a>123456789012345678901234567890" (0xC3 ∷ 0xBC ∷ []) "&</a>", bad 5 35)
    ∷ (around "<a>1234567890123456789012345678901" (0xC3 ∷ []) "&</a>", bad 4 35)
    -- no byte order mark
    ∷ (around "" (0xEF ∷ 0xBB ∷ 0xBF ∷ []) "<a/>", bad 4 0)
    -- the 33rd byte inside a character, and one that spoils it
    ∷ (around "<a>1234567890123456789012345678901" (0xE2 ∷ 0x82 ∷ 0xAC ∷ []) "</a>", bad 5 35)
    ∷ (around "<a>1234567890123456789012345678901" (0xE2 ∷ []) "</a>", bad 4 35)
    ∷ (around "<abcdefghijabcdefghijabcdefghijab" (0xC3 ∷ 0xBC ∷ []) "/>", bad 5 33)
    ∷ (around "<abcdefghijabcdefghijabcdefghija" (0xC3 ∷ 0xBC ∷ []) "/>", bad 5 33)
    ∷ (around "<abcdefghijabcdefghijabcdefghij" (0xC3 ∷ 0xBC ∷ []) "/>", fine_with 2)
    ∷ []

pub spelling_examples : map (λ (x : List ℕ × Verdict). judgement node_limit x.0) spellings ≡ map (λ
    (x : List ℕ × Verdict). x.1) spellings
unfolding judgement judge step tag_step depth follow births tail peak blank value_literal text_literal brackets used name_start name_byte
    text_byte monitor see spell possible meets breadth with_byte first_part next_part normalized
spelling_examples = refl

abbrev times : ℕ → List ℕ → List ℕ
times zero s = []
times (suc n) s = s ++ times n s

-- an input at the limits: so many blanks, then these bytes, and the judgement
abbrev pub Limit : Type 0
Limit = ℕ × List ℕ × Verdict

abbrev pub input : ℕ → List ℕ → List ℕ
input n s = times n (space ∷ []) ++ s

-- the root and n childless elements in it, then the rest
abbrev with_elements : ℕ → String → List ℕ
with_elements n rest = bytes "<a>" ++ (times n (bytes "<b/>") ++ bytes rest)

abbrev pub inputs_at_limits : List Limit
inputs_at_limits =
    -- document 01: 1,024 nodes load, 1,025 give 6
    (0, with_elements 1022 "</a>", fine_with 1024)
    ∷ (0, with_elements 1023 "</a>", bad 6 4091)
    -- the 1,025th begins with a < and a name's first byte, or with a &, whatever follows; a < before another byte begins none
    ∷ (0, with_elements 1022 "<b!", bad 6 4091)
    ∷ (0, with_elements 1022 "&!", bad 6 4091)
    ∷ (0, with_elements 1022 "<!", bad 4 4092)
    -- and so does one that begins with a byte of a character, whatever follows; one with which no such character begins does not
    ∷ (0, with_elements 1022 "<" ++ (0xC3 ∷ bytes "!"), bad 6 4091)
    ∷ (0, with_elements 1022 "<" ++ (0xC2 ∷ bytes "!"), bad 4 4092)
    ∷ (0, with_elements 1022 "" ++ (0xC2 ∷ bytes "!"), bad 6 4091)
    ∷ (0, with_elements 1022 "" ++ (0x80 ∷ bytes "!"), bad 4 4091)
    ∷ (0, with_elements 1021 "<b " ++ (0xC3 ∷ bytes "!"), bad 6 4090)
    ∷ (0, with_elements 1021 "<b " ++ (0xC2 ∷ bytes "!"), bad 4 4090)
    ∷ (0, with_elements 1020 "<b c='" ++ (0xC2 ∷ bytes "!"), bad 6 4088)
    ∷ (0, with_elements 1020 "<b c='" ++ (0xF5 ∷ bytes "!"), bad 4 4089)
    -- 65,536 bytes, and one more
    ∷ (65532, bytes "<a/>", fine_with 2)
    ∷ (65532, bytes "<a/> ", bad 4 65536)
    -- 4 before 5 and 6 at one offset: a byte too many is the 33rd of a text, or the first of a text that is the 1,025th node
    ∷ (65501, bytes "<a>123456789012345678901234567890123", bad 4 65536)
    ∷ (61445, with_elements 1022 "1", bad 4 65536)
    -- a < one byte earlier is the 1,025th node: the earliest offset
    ∷ (61444, with_elements 1022 "<b", bad 6 65535)
    ∷ []

-- the judgement behind n blanks
abbrev late : ℕ → List ℕ → Verdict
late zero s = judgement node_limit s
late (suc n) s = judge prolog monitoring (node_limit - 1) 0 space (suc n) s

blank_judged : (i : ℕ) (s : List ℕ) → i < input_limit
    → judge prolog monitoring (node_limit - 1) 0 space i (space ∷ s) ≡ judge prolog monitoring (node_limit - 1) 0 space (suc i) s
unfolding judge step blank births tail peak monitor
blank_judged i s h = rw (lt-leb input_limit i h)

late_judged : (n i : ℕ) (s : List ℕ) → i + n ≤ input_limit
    → judge prolog monitoring (node_limit - 1) 0 space i (input n s) ≡ judge prolog monitoring (node_limit - 1) 0 space (i + n) s
late_judged zero i s h = ap (λ (k : ℕ). judge prolog monitoring (node_limit - 1) 0 space k s) (omega arith)
late_judged (suc n) i s h =
    blank_judged i (input n s) (omega arith) ∙ late_judged n (suc i) s (omega arith)
    ∙ ap (λ (k : ℕ). judge prolog monitoring (node_limit - 1) 0 space k s) (omega arith)

first_blank : (s : List ℕ) → judgement node_limit (space ∷ s) ≡ judge prolog monitoring (node_limit - 1) 0 space 1 s
unfolding judgement judge step blank births tail peak monitor
first_blank s = refl

is_late : (n : ℕ) (s : List ℕ) → n ≤ input_limit → judgement node_limit (input n s) ≡ late n s
is_late zero s h = refl
is_late (suc n) s h =
    first_blank (input n s) ∙ late_judged n 1 s (omega arith)
    ∙ ap (λ (k : ℕ). judge prolog monitoring (node_limit - 1) 0 space k s) (omega arith)

all_late : (l : List Limit) → every (λ x. leb x.0 input_limit) l ≡ true
    → map (λ (x : Limit). judgement node_limit (input x.0 x.1)) l ≡ map (λ (x : Limit). late x.0 x.1) l
all_late [] h = refl
all_late (x ∷ l) h =
    ap₂ ◌∷◌ (is_late x.0 x.1 (leb-true x.0 input_limit (left_of _ _ h))) (all_late l (right_of (leb x.0 input_limit) _ h))

computed : map (λ (x : Limit). late x.0 x.1) inputs_at_limits ≡ map (λ (x : Limit). x.2) inputs_at_limits
unfolding judgement judge step tag_step depth follow births tail peak blank value_literal text_literal brackets used name_start name_byte
    text_byte monitor see spell possible meets breadth with_byte first_part next_part normalized
computed = refl

pub limits : map (λ (x : Limit). judgement node_limit (input x.0 x.1)) inputs_at_limits ≡ map (λ (x : Limit). x.2) inputs_at_limits
limits = all_late inputs_at_limits refl ∙ computed

-- tabs and line feeds: in values and in texts, read and written ----------------------------

pub value_read : Value double (bytes "a\tb\n&#9;&#10;\"") [] (bytes "a b \t\n")
unfolding value_literal normalized blank text_byte
value_read = value_byte refl (value_byte refl (value_byte refl (value_byte refl (value_refers character_tab
    (value_refers character_line_feed value_close)))))

pub text_read : Chars 0 (bytes "a\tb\n&#9;&#10;<") [] (bytes "a\tb\n\t\n")
unfolding text_literal text_byte brackets
text_read = chars_byte refl (chars_byte refl (chars_byte refl (chars_byte refl (chars_refers character_tab
    (chars_refers character_line_feed chars_end)))))

pub written_escaped : (escaped true (bytes "a\tb\n<") ≡ bytes "a&#9;b&#10;&lt;") × (escaped false (bytes "a\tb\n<") ≡ bytes "a\tb\n&lt;")
unfolding escaped
written_escaped = (refl, refl)

-- tree E of document 01: its text, written and read -----------------------------------------

abbrev pub text_E : List ℕ
text_E = bytes "<lift rope=\"2\"><speed>6</speed><ramp/></lift>"

abbrev pub whole_text_E : List ℕ
whole_text_E = bytes "<?xml version=\"1.0\" encoding=\"UTF-8\"?>\n<lift rope=\"2\"><speed>6</speed><ramp/></lift>"

pub writes_E : write tree_E ≡ whole_text_E
unfolding tree_E write shape view contents attributes escaped
writes_E = refl

formed_E : FormedRoot (below (shape tree_E))
unfolding tree_E shape view repeats neighbouring_texts legal ruled lines rows within utf8 characters spells_name spells_text is_name
    is_text allowed takes
    attributes_first children_rule used
formed_E = formed_document tree_E refl (refl, refl, refl)

-- with the declaration or without, the text stands for tree E with document 01's numbers
reads_E : (s : List ℕ) → Spells s (below (shape tree_E)) → length s ≤ 100 → ReadsAs s (stands_for tree_E E_loadable)
unfolding tree_E shape view numbered size longest
reads_E s x l = (accepted_iff node_limit (omega arith) (omega arith) s tree_E E_loadable).1 (record {
  shape = below (shape tree_E);
  spelled = x;
  stands = refl;
  short_input = omega (arith, l);
  few_nodes = omega arith;
  short_contents = omega arith;
})

pub bare_reads_E : ReadsAs text_E (stands_for tree_E E_loadable)
unfolding tree_E shape view contents attributes escaped
bare_reads_E = reads_E text_E (bare (written_root formed_E no_blank), root_spelled formed_E) (omega arith)

pub whole_reads_E : ReadsAs whole_text_E (stands_for tree_E E_loadable)
unfolding tree_E shape view contents attributes escaped
whole_reads_E = reads_E whole_text_E (written_spells formed_E) (omega arith)
