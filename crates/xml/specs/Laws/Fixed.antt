-- The references and the declarations as fixed byte strings, compared whole.
use Rattle.std.specs.Prelude.{ℕ, suc, cond, List, [], ◌∷◌, eqb, length, get_or}
use Rattle.xml.specs.Bytes.{tab, line_feed, ampersand, apostrophe, greater_than, less_than, quotation_mark, amp, apos, gt, lt, quot}
use Rattle.xml.specs.Bytes.{tab_reference, line_feed_reference, short_declaration, long_declaration}
use Rattle.xml.specs.Laws.Tokens.{Reach, got, lost}

-- how many bytes of the word stand at the beginning of l
unfoldable pub agree : List ℕ → List ℕ → ℕ
agree [] l = 0
agree (x ∷ w) [] = 0
agree (x ∷ w) (b ∷ l) = cond (eqb b x) (suc (agree w l)) 0

-- the word as a whole, or as far as it agrees
unfoldable pub word_at : List ℕ → ℕ → List ℕ → Reach
word_at w k l = cond (eqb (agree w l) (length w)) (got k (length w)) (lost (agree w l))

-- the references, by their first two bytes ---------------------------------------------------

unfoldable pub reference_at : List ℕ → Reach
reference_at l =
    cond (eqb (get_or l 0 0) 97) (cond (eqb (get_or l 1 0) 109) (word_at amp ampersand l) (word_at apos apostrophe l))
    (cond (eqb (get_or l 0 0) 103) (word_at gt greater_than l)
    (cond (eqb (get_or l 0 0) 108) (word_at lt less_than l)
    (cond (eqb (get_or l 0 0) 35)
    (cond (eqb (get_or l 1 0) 49) (word_at line_feed_reference line_feed l) (word_at tab_reference tab l))
    (word_at quot quotation_mark l))))

-- the declarations, behind <?, by the byte behind the version ---------------------------------

-- from the first byte on, where the first two are <?
unfoldable pub declaration_at : List ℕ → Reach
declaration_at l = cond (eqb (get_or l 19 0) 63) (word_at short_declaration 0 l) (word_at long_declaration 0 l)
