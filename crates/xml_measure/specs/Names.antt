-- The names of the attributes of the element whose start tag was opened last, kept as places in the order of the names.
use Rattle.std.specs.Prelude.{ℕ, ◌+◌, ◌≤◌, ◌≡◌, true, false, cond, List, [], ◌∷◌, Option, None, Some, eqb}
use Rattle.tree.specs.Content.{attribute_kind, text_kind}
use Rattle.xml.specs.Bytes.{used}
use Rattle.table.specs.Layout.{Entry}
use Rattle.byte_strings.specs.Sorted.{entries, Increasing, Among, Lists, Added}
use Rattle.xml_text.specs.Rows.{Line, fits}
use Rattle.xml_measure.specs.Lines.{label_at, Inside}

-- by the rows so far, the nearest first; the document's is at depth 0
unfoldable pub tag_names : List Line → List (List ℕ)
tag_names [] = []
tag_names (x ∷ pre) =
    cond (eqb x.0 0) []
    (cond (eqb x.1.kind attribute_kind) (x.1.content ∷ tag_names pre)
    (cond (eqb x.1.kind text_kind) (tag_names pre) []))

-- by the places
abbrev pub names_at : List Entry → List ℕ → ℕ → List ℕ
names_at l os = entries (λ p. (label_at l p).content) os 0

-- the name of the node at p is put among the first n, os before and os' behind it, unless it is one of them
pub data Entered (l : List Entry) (os os' : List ℕ) (n p : ℕ) : Option ℕ → Type 0 where
  is_repeated : Among (names_at l os) n (label_at l p).content → Entered l os os' n p None
  is_entered : {m : ℕ} → m ≡ n + 1 → Inside l os' m
      → Added (names_at l os) (names_at l os') n (label_at l p).content → Entered l os os' n p (Some m)

-- the first m names behind the node at p, where the first n stand before it
pub record Follows (l : List Entry) (os os' : List ℕ) (n p m : ℕ) : Type 0 where
  pub few : m ≤ n + 1
  pub inside : Inside l os' m
  pub sorted : Increasing (names_at l os') m
  pub lists : (d : ℕ) → 1 ≤ d → (pre : List Line) → Lists (names_at l os) n (tag_names pre)
      → Lists (names_at l os') m (tag_names ((d, label_at l p) ∷ pre))
  pub unseen : (label_at l p).kind ≡ attribute_kind → (pre : List Line) → Lists (names_at l os) n (tag_names pre)
      → used (tag_names pre) (label_at l p).content ≡ false

-- behind the node at p
pub data Followed (l : List Entry) (os os' : List ℕ) (n p : ℕ) : Option ℕ → Type 0 where
  is_again : (label_at l p).kind ≡ attribute_kind → Among (names_at l os) n (label_at l p).content → Followed l os os' n p None
  is_followed : {m : ℕ} → Follows l os os' n p m → Followed l os os' n p (Some m)

-- the node at p below one of kind `above` and behind one of kind `before`
pub data Admitted (l : List Entry) (os os' : List ℕ) (n above before p : ℕ) : Option ℕ → Type 0 where
  is_unfit : fits above before (label_at l p).kind ≡ false → Admitted l os os' n above before p None
  is_fit : {r : Option ℕ} → fits above before (label_at l p).kind ≡ true → Followed l os os' n p r → Admitted l os os' n above before p r
