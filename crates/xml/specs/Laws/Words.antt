-- Finite sets of words, read a byte at a time: the references and the declarations.
use Rattle.std.specs.Prelude.{ℕ, ◌≡◌, false, cond, List, [], ◌∷◌, eqb}
use Rattle.tree.specs.Text.{bytes}
use Rattle.xml.specs.Bytes.{tab, line_feed, ampersand, apostrophe, greater_than, less_than, quotation_mark}

-- a prefix tree, no word the beginning of another: the byte b ends a word, which has a value; or goes on with x; or does so, and
-- other bytes go by y
pub data Words : Type 0 where
  last : (b value : ℕ) → Words
  then : (b : ℕ) (x : Words) → Words
  fork : (b : ℕ) (x y : Words) → Words

pub data Found : Type 0 where
  no_word : Found
  whole : (value : ℕ) → Found
  begun : Words → Found

unfoldable pub follow : Words → ℕ → Found
follow (last b value) a = cond (eqb a b) (whole value) no_word
follow (then b x) a = cond (eqb a b) (begun x) no_word
follow (fork b x y) a = cond (eqb a b) (begun x) (follow y a)

abbrev pub chain : List ℕ → Words → Words
chain [] x = x
chain (b ∷ w) x = then b (chain w x)

-- amp; apos; gt; lt; #9; #10; quot;
abbrev pub references : Words
references =
    fork 97 (fork 109 (chain (bytes "p") (last 59 ampersand)) (chain (bytes "pos") (last 59 apostrophe)))
    (fork 103 (chain (bytes "t") (last 59 greater_than))
    (fork 108 (chain (bytes "t") (last 59 less_than))
    (fork 35 (fork 49 (chain (bytes "0") (last 59 line_feed)) (chain (bytes "9") (last 59 tab)))
    (chain (bytes "quot") (last 59 quotation_mark)))))

-- both declarations, behind <?
abbrev pub version : List ℕ
version = bytes "xml version=\"1.0\""

abbrev pub encoding : List ℕ
encoding = bytes " encoding=\"UTF-8\"?"

abbrev pub declarations : Words
declarations = chain version (fork 63 (last greater_than 0) (chain encoding (last greater_than 0)))

-- s begins with a word of the set, t stands behind it
pub data Word : Words → (s t : List ℕ) → ℕ → Type 0 where
  word_last : {b k : ℕ} {t : List ℕ} → Word (last b k) (b ∷ t) t k
  word_then : {b k : ℕ} {x : Words} {s t : List ℕ} → Word x s t k → Word (then b x) (b ∷ s) t k
  word_this : {b k : ℕ} {x y : Words} {s t : List ℕ} → Word x s t k → Word (fork b x y) (b ∷ s) t k
  word_other : {a b k : ℕ} {x y : Words} {s t : List ℕ} → eqb a b ≡ false → Word y (a ∷ s) t k → Word (fork b x y) (a ∷ s) t k

-- a byte forth ---------------------------------------------------------------------

pub data First (x : Words) : (s t : List ℕ) → ℕ → Type 0 where
  first_whole : {a k : ℕ} {t : List ℕ} → follow x a ≡ whole k → First x (a ∷ t) t k
  first_begun : {a k : ℕ} {y : Words} {s t : List ℕ} → follow x a ≡ begun y → Word y s t k → First x (a ∷ s) t k
