-- The grammar: document 01, "Reading and writing XML", and document 02, A.2 and A.3; numbers in brackets are productions of XML 1.0.
-- Each relation says that the bytes s begin with such a part, and t is what stands behind it. A byte from 128 on is one of a character that
-- is spelled with several, and never one of markup; which characters names and texts may have is asked at the end, of the tree (`spelled`).
use Rattle.std.specs.Prelude.{ℕ, ◌≡◌, Bool, true, false, cond, ◌&&◌, List, [], ◌∷◌, ◌++◌, eqb}
use Rattle.tree.specs.Forest.{nil, node}
use Rattle.tree.specs.Content.{text_kind, name_start, name_byte, spells_name, spells_text}
use Rattle.xml.specs.Bytes.{ampersand, slash, less_than, equals_sign, greater_than, quotation_mark, apostrophe, blank, Quote}
use Rattle.xml.specs.Bytes.{tab, line_feed, quote_byte, value_literal, normalized, text_literal, brackets, used}
use Rattle.xml.specs.Bytes.{amp, apos, gt, lt, quot, tab_reference, line_feed_reference}
use Rattle.xml.specs.Bytes.{short_declaration, long_declaration}
use Rattle.xml.specs.Shape.{Shape, element, attribute, text}

abbrev pub Name : Type 0
Name = List ℕ

-- S? [3]: any number of blanks
pub data Blanks : (s t : List ℕ) → Type 0 where
  no_blank : {t : List ℕ} → Blanks t t
  blank_then : {b : ℕ} {s t : List ℕ} → blank b ≡ true → Blanks s t → Blanks (b ∷ s) t

-- NameChar* [4a]: the bytes r
pub data NameBytes : (r s t : List ℕ) → Type 0 where
  no_name_byte : {t : List ℕ} → NameBytes [] t t
  name_byte_then : {b : ℕ} {r s t : List ℕ} → name_byte b ≡ true → NameBytes r s t → NameBytes (b ∷ r) (b ∷ s) t

-- Name [5]: the name n
pub data Named : (n s t : List ℕ) → Type 0 where
  name : {b : ℕ} {r s t : List ℕ} → name_start b ≡ true → NameBytes r s t → Named (b ∷ r) (b ∷ s) t

-- Reference [67] behind its ampersand, and the byte that it stands for; "only the five predefined entities exist" [68], and of the
-- character references [66] "exactly" those to a tab and a line feed, spelled so (A.3)
pub data Reference : (s t : List ℕ) → ℕ → Type 0 where
  entity_amp : {t : List ℕ} → Reference (amp ++ t) t ampersand
  entity_apos : {t : List ℕ} → Reference (apos ++ t) t apostrophe
  entity_gt : {t : List ℕ} → Reference (gt ++ t) t greater_than
  entity_lt : {t : List ℕ} → Reference (lt ++ t) t less_than
  entity_quot : {t : List ℕ} → Reference (quot ++ t) t quotation_mark
  character_tab : {t : List ℕ} → Reference (tab_reference ++ t) t tab
  character_line_feed : {t : List ℕ} → Reference (line_feed_reference ++ t) t line_feed

-- AttValue [10] behind its opening quote, the closing quote included; its bytes, by Attribute-Value Normalization (3.3.3), are c
pub data Value (q : Quote) : (s t c : List ℕ) → Type 0 where
  value_close : {t : List ℕ} → Value q (quote_byte q ∷ t) t []
  value_byte : {b : ℕ} {s t c : List ℕ} → value_literal q b ≡ true → Value q s t c → Value q (b ∷ s) t (normalized b ∷ c)
  value_refers : {b : ℕ} {s u t c : List ℕ} → Reference s u b → Value q u t c → Value q (ampersand ∷ s) t (b ∷ c)

-- CharData [14] and references [67] up to the < that ends them, that byte included, k literal bytes ] just before; the bytes of the text
-- are c
pub data Chars : ℕ → (s t c : List ℕ) → Type 0 where
  chars_end : {k : ℕ} {t : List ℕ} → Chars k (less_than ∷ t) t []
  chars_byte : {k b : ℕ} {s t c : List ℕ} → text_literal k b ≡ true → Chars (brackets k b) s t c → Chars k (b ∷ s) t (b ∷ c)
  chars_refers : {k b : ℕ} {s u t c : List ℕ} → Reference s u b → Chars 0 u t c → Chars k (ampersand ∷ s) t (b ∷ c)

-- "an attribute without a text has the empty value"
abbrev pub text_node : List ℕ → Shape
text_node [] = nil
text_node (b ∷ c) = node (text (b ∷ c)) nil nil

-- places in an element named n: in its start tag behind the name or a value, or behind a blank, `seen` being the attribute names so far;
-- behind the start tag or a child; behind a < there
pub data Place : Type 0 where
  unspaced spaced : (n : Name) (seen : List Name) → Place
  inside opened : (n : Name) → Place

-- from the place on to the end of the element; f are the children that stand there. `unique` asks for Unique Att Spec, the constraint of
-- [40] and [44]
pub data Derives (unique : Bool) : Place → (s : List ℕ) (f : Shape) (t : List ℕ) → Type 0 where
  -- S in a start tag [40], [44]
  spacing : {n : Name} {seen : List Name} {b : ℕ} {s t : List ℕ} {f : Shape}
      → blank b ≡ true → Derives unique (spaced n seen) s f t → Derives unique (unspaced n seen) (b ∷ s) f t
  -- EmptyElemTag [44]
  empty : {n : Name} {seen : List Name} {t : List ℕ} → Derives unique (unspaced n seen) (slash ∷ greater_than ∷ t) nil t
  -- the end of STag [40]
  full : {n : Name} {seen : List Name} {s t : List ℕ} {f : Shape} → Derives unique (inside n) s f t
      → Derives unique (unspaced n seen) (greater_than ∷ s) f t
  -- no attribute behind the blank
  more : {n : Name} {seen : List Name} {s t : List ℕ} {f : Shape} → Derives unique (unspaced n seen) s f t
      → Derives unique (spaced n seen) s f t
  -- Attribute [41], with Eq [25] and AttValue [10]
  derive_attribute : {n a : Name} {seen : List Name} (q : Quote) {s u v w x t c : List ℕ} {f : Shape}
      → Named a s u → (unique && used seen a) ≡ false → Blanks u (equals_sign ∷ v) → Blanks v (quote_byte q ∷ w) → Value q w x c
      → Derives unique (unspaced n (a ∷ seen)) x f t → Derives unique (spaced n seen) s (node (attribute a) (text_node c) f) t
  -- CharData and references in content [43]
  derive_text : {n : Name} {s u t c : List ℕ} {b : ℕ} {f : Shape}
      → Chars 0 s u (b ∷ c) → Derives unique (opened n) u f t → Derives unique (inside n) s (node (text (b ∷ c)) nil f) t
  -- no text before the next tag
  markup : {n : Name} {s t : List ℕ} {f : Shape} → Derives unique (opened n) s f t → Derives unique (inside n) (less_than ∷ s) f t
  -- element in content [39], [43]
  derive_element : {n m : Name} {s u v t : List ℕ} {g f : Shape}
      → Named m s u → Derives unique (unspaced m []) u g v → Derives unique (inside n) v f t
      → Derives unique (opened n) s (node (element m) g f) t
  -- ETag [42], by Element Type Match with the name of the start tag
  end_tag : {n : Name} {u t : List ℕ} → Blanks u (greater_than ∷ t) → Derives unique (opened n) (slash ∷ (n ++ u)) nil t

-- the root element [39] with blanks around it, to the end of the input
pub data Root (unique : Bool) : List ℕ → Shape → Type 0 where
  root : {n : Name} {s u v t : List ℕ} {f : Shape}
      → Blanks s (less_than ∷ u) → Named n u v → Derives unique (unspaced n []) v f t → Blanks t [] → Root unique s (node (element n) f nil)

-- document [1] with its optional XMLDecl [23]: the bytes, and the root element that they spell
pub data Parses (unique : Bool) : List ℕ → Shape → Type 0 where
  bare : {s : List ℕ} {f : Shape} → Root unique s f → Parses unique s f
  declared_short : {s : List ℕ} {f : Shape} → Root unique s f → Parses unique (short_declaration ++ s) f
  declared_long : {s : List ℕ} {f : Shape} → Root unique s f → Parses unique (long_declaration ++ s) f

-- the names are Names [5] and the texts are of Chars [2], by document 02, A.2
unfoldable pub spelled : Shape → Bool
spelled nil = true
spelled (node a ks fs) =
    cond (eqb a.kind text_kind) (spells_text a.content) (spells_name a.content) && spelled ks && spelled fs

-- the documents of the grammar
abbrev pub Spells : List ℕ → Shape → Type 0
Spells s f = Parses true s f × (spelled f ≡ true)
