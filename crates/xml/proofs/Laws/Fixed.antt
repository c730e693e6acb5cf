-- The references and the declarations as fixed byte strings, compared whole.
use Rattle.std.specs.Prelude.{ℕ, suc, ◌≡◌, refl, Bool, true, false, cond, List, [], ◌∷◌, ◌++◌, eqb, length, get_or}
use Rattle.std.proofs.Common.{sym, ap, ◌∙◌}
use Rattle.std.proofs.Math.Dec.{eqb-zero-suc, eqb-suc-suc}
use Rattle.tree.specs.Text.{bytes}
use Rattle.xml.specs.Bytes.{tab, line_feed, ampersand, apostrophe, greater_than, less_than, quotation_mark}
use Rattle.xml.specs.Bytes.{short_declaration, long_declaration}
use Rattle.xml.specs.Laws.Words.{Words, last, then, fork, no_word, whole, begun, follow, chain, references, declarations, version}
use Rattle.xml.specs.Laws.Words.{encoding}
use Rattle.xml.specs.Laws.Tokens.{Reach, got, lost, one_more, reached, reach}
use Rattle.xml.specs.Laws.Fixed.{agree, word_at, reference_at, declaration_at}

-- one word -----------------------------------------------------------------------------------

more_of : (t : Bool) (k n a : ℕ) → one_more (cond t (got k n) (lost a)) ≡ cond t (got k (suc n)) (lost (suc a))
more_of true k n a = refl
more_of false k n a = refl

word_more : (x : ℕ) (w : List ℕ) (k b : ℕ) (l : List ℕ) → eqb b x ≡ true → word_at (x ∷ w) k (b ∷ l) ≡ one_more (word_at w k l)
unfolding word_at agree
word_more x w k b l e = rw (e, eqb-suc-suc (agree w l) (length w)) (sym (more_of (eqb (agree w l) (length w)) k (length w) (agree w l)))

word_none : (x : ℕ) (w : List ℕ) (k b : ℕ) (l : List ℕ) → eqb b x ≡ false → word_at (x ∷ w) k (b ∷ l) ≡ lost 0
unfolding word_at agree
word_none x w k b l e = rw (e, eqb-zero-suc (length w))

word_end : (x : ℕ) (w : List ℕ) (k : ℕ) → word_at (x ∷ w) k [] ≡ lost 0
unfolding word_at agree
word_end x w k = rw (eqb-zero-suc (length w))

word_nil : (k : ℕ) (l : List ℕ) → word_at [] k l ≡ got k 0
unfolding word_at agree
word_nil k l = refl

pub one_word : (w : List ℕ) (b k : ℕ) (l : List ℕ) → reach (chain w (last b k)) l ≡ word_at (w ++ (b ∷ [])) k l
unfolding reach follow
one_word [] b k [] = sym (word_end b [] k)
one_word [] b k (c ∷ l) = go (eqb c b) refl
  where
    go : (t : Bool) → eqb c b ≡ t → reached (cond t (whole k) no_word) (λ y. reach y l) ≡ word_at (b ∷ []) k (c ∷ l)
    go true e = sym (word_more b [] k c l e ∙ ap one_more (word_nil k l))
    go false e = sym (word_none b [] k c l e)
one_word (x ∷ w) b k [] = sym (word_end x (w ++ (b ∷ [])) k)
one_word (x ∷ w) b k (c ∷ l) = go (eqb c x) refl (one_word w b k l)
  where
    go : (t : Bool) → eqb c x ≡ t → reach (chain w (last b k)) l ≡ word_at (w ++ (b ∷ [])) k l
        → reached (cond t (begun (chain w (last b k))) no_word) (λ y. reach y l) ≡ word_at (x ∷ (w ++ (b ∷ []))) k (c ∷ l)
    go true e h = ap one_more h ∙ sym (word_more x (w ++ (b ∷ [])) k c l e)
    go false e h = sym (word_none x (w ++ (b ∷ [])) k c l e)

-- a fork behind a common beginning is decided by the byte behind it --------------------------

common : (w : List ℕ) (b : ℕ) (x y : Words) (l : List ℕ)
    → reach (chain w (fork b x y)) l ≡ cond (eqb (get_or l (length w) 0) b) (reach (chain w (then b x)) l) (reach (chain w y) l)
unfolding reach follow
common [] b x y [] = go (eqb 0 b)
  where
    go : (t : Bool) → lost 0 ≡ cond t (lost 0) (lost 0)
    go true = refl
    go false = refl
common [] b x y (c ∷ l) = go (eqb c b)
  where
    go : (t : Bool)
        → reached (cond t (begun x) (follow y c)) (λ z. reach z l)
        ≡ cond t (reached (cond t (begun x) no_word) (λ z. reach z l)) (reached (follow y c) (λ z. reach z l))
    go true = refl
    go false = refl
common (a ∷ w) b x y [] = go (eqb 0 b)
  where
    go : (t : Bool) → lost 0 ≡ cond t (lost 0) (lost 0)
    go true = refl
    go false = refl
common (a ∷ w) b x y (c ∷ l) = go (eqb c a) (eqb (get_or l (length w) 0) b) (common w b x y l)
  where
    go : (t u : Bool) → reach (chain w (fork b x y)) l ≡ cond u (reach (chain w (then b x)) l) (reach (chain w y) l)
        → reached (cond t (begun (chain w (fork b x y))) no_word) (λ z. reach z l)
        ≡ cond u (reached (cond t (begun (chain w (then b x))) no_word) (λ z. reach z l))
        (reached (cond t (begun (chain w y)) no_word) (λ z. reach z l))
    go true true h = ap one_more h
    go true false h = ap one_more h
    go false true h = refl
    go false false h = refl

-- the references, by their first two bytes ---------------------------------------------------

choose : {x x' y y' : Reach} (t : Bool) → x ≡ x' → y ≡ y' → cond t x y ≡ cond t x' y'
choose true p q = p
choose false p q = q

pub references_at : (l : List ℕ) → reach references l ≡ reference_at l
unfolding reference_at
references_at l =
    let u = chain (bytes "quot") (last 59 quotation_mark) in
    let f = chain (bytes "0") (last 59 line_feed) in
    let t = chain (bytes "9") (last 59 tab) in
    let n = chain (bytes "t") (last 59 less_than) in
    let o = chain (bytes "t") (last 59 greater_than) in
    let m = chain (bytes "p") (last 59 ampersand) in
    let p = chain (bytes "pos") (last 59 apostrophe) in
    let c = common (35 ∷ []) 49 f t l
    ∙ choose (eqb (get_or l 1 0) 49) (one_word (bytes "#10") 59 line_feed l) (one_word (bytes "#9") 59 tab l) in
    let h = common [] 35 (fork 49 f t) u l ∙ choose (eqb (get_or l 0 0) 35) c (one_word (bytes "quot") 59 quotation_mark l) in
    let q = common [] 108 n (fork 35 (fork 49 f t) u) l ∙ choose (eqb (get_or l 0 0) 108) (one_word (bytes "lt") 59 less_than l) h in
    let g = common [] 103 o (fork 108 n (fork 35 (fork 49 f t) u)) l
    ∙ choose (eqb (get_or l 0 0) 103) (one_word (bytes "gt") 59 greater_than l) q in
    let a = common (97 ∷ []) 109 m p l
    ∙ choose (eqb (get_or l 1 0) 109) (one_word (bytes "amp") 59 ampersand l) (one_word (bytes "apos") 59 apostrophe l) in
    common [] 97 (fork 109 m p) (fork 103 o (fork 108 n (fork 35 (fork 49 f t) u))) l ∙ choose (eqb (get_or l 0 0) 97) a g

-- the declarations, behind <?, by the byte behind the version ---------------------------------

pub declarations_at : (l : List ℕ) → one_more (one_more (reach declarations l)) ≡ declaration_at (less_than ∷ 63 ∷ l)
unfolding declaration_at
declarations_at l =
    ap (λ r. one_more (one_more r)) (common version 63 (last greater_than 0) (chain encoding (last greater_than 0)) l)
    ∙ go (eqb (get_or l 17 0) 63)
  where
    whole_of : (w : List ℕ) → one_more (one_more (word_at w 0 l)) ≡ word_at (less_than ∷ 63 ∷ w) 0 (less_than ∷ 63 ∷ l)
    whole_of w = ap one_more (sym (word_more 63 w 0 63 l refl)) ∙ sym (word_more less_than (63 ∷ w) 0 less_than (63 ∷ l) refl)

    go : (t : Bool)
        → one_more (one_more (cond t (reach (chain version (then 63 (last greater_than 0))) l)
        (reach (chain version (chain encoding (last greater_than 0))) l)))
        ≡ cond t (word_at short_declaration 0 (less_than ∷ 63 ∷ l)) (word_at long_declaration 0 (less_than ∷ 63 ∷ l))
    go true =
        ap (λ r. one_more (one_more r)) (one_word (version ++ (63 ∷ [])) greater_than 0 l) ∙ whole_of (version ++ (63 ∷ greater_than ∷ []))
    go false =
        ap (λ r. one_more (one_more r)) (one_word (version ++ encoding) greater_than 0 l)
        ∙ whole_of (version ++ (encoding ++ (greater_than ∷ [])))
