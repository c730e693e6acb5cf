-- What is written is of the grammar, and spells the tree that was written.
use Rattle.std.specs.Prelude.{ℕ, ◌≡◌, Bool, true, false, cond, ◌&&◌, List, [], ◌∷◌, ◌++◌, eqb}
use Rattle.std.proofs.Math.Path.{refl}
use Rattle.std.proofs.Common.{sym, subst, ◌∙◌, append_assoc, eqb-true}
use Rattle.std.proofs.lemmas.Bool.{false≢true}
use Rattle.tree.specs.Text.{bytes}
use Rattle.tree.specs.Lists.{every}
use Rattle.tree.specs.Forest.{node}
use Rattle.tree.specs.Content.{name_byte, text_byte, spells_name}
use Rattle.tree.specs.Laws.Spelling.{no_empty, text_bytes}
use Rattle.tree.specs.Laws.Spelling as spelling
use Rattle.xml.specs.Bytes.{tab, line_feed, space, less_than, greater_than, ampersand, quotation_mark, equals_sign, blank, used}
use Rattle.xml.specs.Bytes.{double, value_literal, normalized, text_literal, brackets, amp, gt, lt, quot, tab_reference}
use Rattle.xml.specs.Bytes.{line_feed_reference, long_declaration}
use Rattle.xml.specs.Shape.{Shape, attribute}
use Rattle.xml.specs.Grammar.{Name, Blanks, no_blank, blank_then, NameBytes, no_name_byte, name_byte_then, Named, name}
use Rattle.xml.specs.Grammar.{entity_amp, entity_gt, entity_lt, entity_quot, character_tab, character_line_feed, Value, value_close}
use Rattle.xml.specs.Grammar.{value_byte, value_refers, Chars, chars_end}
use Rattle.xml.specs.Grammar.{chars_byte, chars_refers, text_node, unspaced, inside, opened, Derives, spacing, empty, full}
use Rattle.xml.specs.Grammar.{derive_attribute, derive_text, markup, derive_element, end_tag, Root, root, declared_long, Spells}
use Rattle.xml.specs.Writing.{escape, escaped, value, childless, contents}
use Rattle.xml.specs.Writing as writing
use Rattle.xml.proofs.Laws.Structure.{Spot, attributes, children, behind_text, Formed, formed_nil, formed_attribute, formed_text}
use Rattle.xml.proofs.Laws.Structure.{formed_element, no_text, no_attribute, FormedRoot, formed_root, left_of, right_of}
use Rattle.xml.proofs.Laws.Structure.{spells_value, root_spelled}

name_bytes : (r t : List ℕ) → every name_byte r ≡ true → NameBytes r (r ++ t) t
name_bytes [] t h = no_name_byte
name_bytes (b ∷ r) t h = name_byte_then (left_of (name_byte b) _ h) (name_bytes r t (right_of (name_byte b) _ h))

named : (n t : List ℕ) → spells_name n ≡ true → Named n (n ++ t) t
named [] t h = absurd (false≢true (sym no_empty.0 ∙ h))
named (b ∷ r) t h = let x = spelling.name_bytes b r h in name x.0 (name_bytes r t x.1)

-- the bytes of a text or a value
value_bytes : (c : List ℕ) → spells_value c ≡ true → every text_byte c ≡ true
value_bytes [] h = refl
value_bytes (b ∷ c) h = text_bytes (b ∷ c) h

-- an escaped byte, by those that are written as references
escape_cases : (P : List ℕ → Type 0) (v : Bool) (b : ℕ) → (b ≡ ampersand → P (ampersand ∷ amp)) → (b ≡ less_than → P (ampersand ∷ lt))
    → (b ≡ greater_than → P (ampersand ∷ gt)) → (b ≡ quotation_mark → P (ampersand ∷ quot))
    → ((v && eqb b tab) ≡ true → P (ampersand ∷ tab_reference)) → ((v && eqb b line_feed) ≡ true → P (ampersand ∷ line_feed_reference))
    → (eqb b ampersand ≡ false → eqb b less_than ≡ false → eqb b greater_than ≡ false → eqb b quotation_mark ≡ false
    → (v && eqb b tab) ≡ false → (v && eqb b line_feed) ≡ false → P (b ∷ []))
    → P (escape v b)
escape_cases P v b f g h k m n l = go (eqb b ampersand) refl (eqb b less_than) refl (eqb b greater_than) refl (eqb b quotation_mark) refl
    (v && eqb b tab) refl (v && eqb b line_feed) refl
  where
    go : (x : Bool) → eqb b ampersand ≡ x → (y : Bool) → eqb b less_than ≡ y → (z : Bool) → eqb b greater_than ≡ z
        → (w : Bool) → eqb b quotation_mark ≡ w → (s : Bool) → (v && eqb b tab) ≡ s → (t : Bool) → (v && eqb b line_feed) ≡ t
        → P (escape v b)
    go true e y e₁ z e₂ w e₃ s e₄ t e₅ = rw e (f (eqb-true b ampersand e))
    go false e true e₁ z e₂ w e₃ s e₄ t e₅ = rw (e, e₁) (g (eqb-true b less_than e₁))
    go false e false e₁ true e₂ w e₃ s e₄ t e₅ = rw (e, e₁, e₂) (h (eqb-true b greater_than e₂))
    go false e false e₁ false e₂ true e₃ s e₄ t e₅ = rw (e, e₁, e₂, e₃) (k (eqb-true b quotation_mark e₃))
    go false e false e₁ false e₂ false e₃ true e₄ t e₅ = rw (e, e₁, e₂, e₃, e₄) (m e₄)
    go false e false e₁ false e₂ false e₃ false e₄ true e₅ = rw (e, e₁, e₂, e₃, e₄, e₅) (n e₅)
    go false e false e₁ false e₂ false e₃ false e₄ false e₅ = rw (e, e₁, e₂, e₃, e₄, e₅) (l e e₁ e₂ e₃ e₄ e₅)

-- a byte that is no tab and no line feed is read as itself
normalized_same : (b : ℕ) → eqb b tab ≡ false → eqb b line_feed ≡ false → normalized b ≡ b
unfolding normalized blank
normalized_same b h k = rw (h, k) (go (eqb b space) refl)
  where
    go : (t : Bool) → eqb b space ≡ t → cond t space b ≡ b
    go true e = sym (eqb-true b space e)
    go false e = refl

value_written : (c t : List ℕ) → every text_byte c ≡ true → Value double (escaped true c ++ (quotation_mark ∷ t)) t c
unfolding escaped value_literal
value_written [] t h = value_close
value_written (b ∷ c) t h =
    rw (append_assoc (escape true b) (escaped true c) (quotation_mark ∷ t))
    (go (left_of (text_byte b) _ h) (value_written c t (right_of (text_byte b) _ h)))
  where
    go : text_byte b ≡ true → Value double (escaped true c ++ (quotation_mark ∷ t)) t c
        → Value double (escape true b ++ (escaped true c ++ (quotation_mark ∷ t))) t (b ∷ c)
    go k v = escape_cases (λ l. Value double (l ++ (escaped true c ++ (quotation_mark ∷ t))) t (b ∷ c)) true b
        (λ e. rw e (value_refers entity_amp v)) (λ e. rw e (value_refers entity_lt v)) (λ e. rw e (value_refers entity_gt v))
        (λ e. rw e (value_refers entity_quot v))
        (λ e. rw (eqb-true b tab e) (value_refers character_tab v)) (λ e. rw (eqb-true b line_feed e) (value_refers character_line_feed v))
        (λ e e₁ e₂ e₃ e₄ e₅. subst (λ (a : ℕ). Value double (b ∷ (escaped true c ++ (quotation_mark ∷ t))) t (a ∷ c))
        (normalized_same b e₄ e₅) (value_byte {b = b} (rw (k, e, e₁, e₃)) v))

text_written : (k : ℕ) (c t : List ℕ) → every text_byte c ≡ true → Chars k (escaped false c ++ (less_than ∷ t)) t c
unfolding escaped text_literal
text_written k [] t h = chars_end
text_written k (b ∷ c) t h =
    rw (append_assoc (escape false b) (escaped false c) (less_than ∷ t))
    (go (left_of (text_byte b) _ h) (λ j. text_written j c t (right_of (text_byte b) _ h)))
  where
    go : text_byte b ≡ true → ((j : ℕ) → Chars j (escaped false c ++ (less_than ∷ t)) t c)
        → Chars k (escape false b ++ (escaped false c ++ (less_than ∷ t))) t (b ∷ c)
    go i v = escape_cases (λ l. Chars k (l ++ (escaped false c ++ (less_than ∷ t))) t (b ∷ c)) false b
        (λ e. rw e (chars_refers entity_amp (v 0))) (λ e. rw e (chars_refers entity_lt (v 0))) (λ e. rw e (chars_refers entity_gt (v 0)))
        (λ e. rw e (chars_refers entity_quot (v 0))) (λ e. absurd (false≢true e)) (λ e. absurd (false≢true e))
        (λ e e₁ e₂ e₃ e₄ e₅. chars_byte {k = k} {b = b} (rw (i, e, e₁, e₂)) (v (brackets k b)))

-- the end of an element, of its start tag or of the empty tag
abbrev close : Name → List ℕ → List ℕ
close n t = bytes "</" ++ (n ++ (bytes ">" ++ t))

abbrev ending : Name → Shape → List ℕ
ending n f = cond (childless f) (bytes "/>") (bytes ">" ++ (contents f ++ (bytes "</" ++ (n ++ bytes ">"))))

ending_full : (n : Name) (f : Shape) (t : List ℕ) → childless f ≡ false → ending n f ++ t ≡ greater_than ∷ (contents f ++ close n t)
ending_full n f t h = rw (h, append_assoc (contents f) (bytes "</" ++ (n ++ bytes ">")) t, append_assoc n (bytes ">") t)

-- what is written from a spot on
abbrev Good : Spot → Name → Shape → List ℕ → Type 0
Good (attributes seen) n f t = Derives true (unspaced n seen) (writing.attributes f ++ (ending n f ++ t)) f t
Good children n f t = Derives true (inside n) (contents f ++ close n t) f t
Good behind_text n f t = (u : List ℕ) × (contents f ++ close n t ≡ less_than ∷ u) × Derives true (opened n) u f t

-- behind the attributes there is none
abbrev NoAttribute : Spot → Shape → Type 0
NoAttribute (attributes seen) f = Unit {0}
NoAttribute children f = writing.attributes f ≡ []
NoAttribute behind_text f = writing.attributes f ≡ []

none_left : {p : Spot} {f : Shape} → Formed p f → NoAttribute p f
unfolding writing.attributes
none_left (formed_nil {p = attributes seen}) = tt
none_left (formed_nil {p = children}) = refl
none_left (formed_nil {p = behind_text}) = refl
none_left (formed_attribute c n h k r) = tt
none_left (formed_text h r) = none_left r
none_left (formed_element n g r) = none_left r
none_left (no_text r) = none_left r
none_left (no_attribute r) = tt

module _ (n : Name) (seen : List Name) (t : List ℕ) where
  written_full : {f : Shape} → childless f ≡ false → writing.attributes f ≡ [] → Good children n f t → Good (attributes seen) n f t
  written_full {f} h k x = rw (k, ending_full n f t h) (full x)

  written_last : {f : Shape} → Formed children f → Good children n f t → Good (attributes seen) n f t
  unfolding writing.attributes contents
  written_last formed_nil x = empty
  written_last (formed_text h r) x = written_full refl (none_left r) x
  written_last (no_text formed_nil) x = empty
  written_last (no_text (formed_element i g r)) x = written_full refl (none_left r) x

value_of : (c : List ℕ) → value (text_node c) ≡ escaped true c
unfolding escaped
value_of [] = refl
value_of (b ∷ c) = refl

-- an attribute, then l and x
attribute_written : (n a : Name) (seen : List Name) (c l x t : List ℕ) (f : Shape) → spells_name a ≡ true → used seen a ≡ false
    → spells_value c ≡ true
    → Derives true (unspaced n (a ∷ seen)) (l ++ x) f t
    → Derives true (unspaced n seen) ((bytes " " ++ (a ++ (bytes "=\"" ++ (value (text_node c) ++ (bytes "\"" ++ l))))) ++ x)
    (node (attribute a) (text_node c) f) t
unfolding blank
attribute_written n a seen c l x t f i h k p =
    let q = append_assoc a (equals_sign ∷ quotation_mark ∷ (escaped true c ++ (quotation_mark ∷ l))) x in
    let r = append_assoc (escaped true c) (quotation_mark ∷ l) x in
    rw (value_of c, q, r) (spacing refl (derive_attribute double (named a _ i) h no_blank no_blank (value_written c (l ++ x)
    (value_bytes c k)) p))

written : {p : Spot} {f : Shape} (n : Name) (t : List ℕ) → Formed p f → Good p n f t
unfolding writing.attributes contents
written n t (formed_nil {p = attributes seen}) = empty
written n t (formed_nil {p = children}) = markup (end_tag no_blank)
written n t (formed_nil {p = behind_text}) = (_, refl, end_tag no_blank)
written n t (formed_attribute {seen = seen} {a = a} c {f = f} i h k r) =
    attribute_written n a seen c (writing.attributes f) (ending n f ++ t) t f i h k (written n t r)
written n t (formed_text {b = b} {c = c} {f = f} h r) =
    let x = written n t r in
    rw (append_assoc (escaped false (b ∷ c)) (contents f) (close n t), x.1) (derive_text (text_written 0 (b ∷ c) x.0 (text_bytes
    (b ∷ c) h)) x.2)
written n t (formed_element {m = m} {g = g} {f = f} i h r) =
    let later : List ℕ = contents f ++ close n t in
    let p = append_assoc m (writing.attributes g ++ (ending m g ++ contents f)) (close n t) in
    let q = append_assoc (writing.attributes g) (ending m g ++ contents f) (close n t) in
    let o = append_assoc (ending m g) (contents f) (close n t) in
    (m ++ (writing.attributes g ++ (ending m g ++ later)), rw (p, q, o), derive_element (named m _ i) (written m later h) (written n t r))
written n t (no_text r) = let x = written n t r in rw x.1 (markup x.2)
written n t (no_attribute {seen = seen} r) = written_last n seen t r (written n t r)

-- WRITTEN: what is written spells the tree, blanks before it or none
pub written_root : {f : Shape} {s : List ℕ} → FormedRoot f → Blanks s (contents f) → Root true s f
unfolding contents
written_root (formed_root {n = n} {f = f} i r) b =
    let x : Derives true (unspaced n []) (writing.attributes f ++ (ending n f ++ [])) f [] = written n [] r in
    root b (named n _ i) x no_blank

pub written_spells : {f : Shape} → FormedRoot f → Spells (long_declaration ++ (line_feed ∷ contents f)) f
unfolding blank
written_spells r = (declared_long (written_root r (blank_then refl no_blank)), root_spelled r)
