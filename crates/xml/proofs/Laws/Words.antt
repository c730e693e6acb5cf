-- Finite sets of words, read a byte at a time: the references and the declarations.
use Rattle.std.specs.Prelude.{ℕ, ◌≡◌, refl, Bool, true, false, cond, List, [], ◌∷◌, ◌++◌, eqb}
use Rattle.std.proofs.Common.{◌∙◌, subst, eqb-true, eq-eqb}
use Rattle.xml.specs.Bytes.{greater_than, less_than, short_declaration}
use Rattle.xml.specs.Bytes.{long_declaration}
use Rattle.xml.specs.Grammar.{Reference, entity_amp, entity_apos, entity_gt, entity_lt, entity_quot, character_tab}
use Rattle.xml.specs.Grammar.{character_line_feed}
use Rattle.xml.specs.Laws.Words.{Words, last, then, fork, Found, no_word, whole, begun, follow, chain, references, version, encoding}
use Rattle.xml.specs.Laws.Words.{declarations, Word, word_last, word_then, word_this, word_other, First, first_whole, first_begun}

-- some word
pub some_word : (x : Words) (t : List ℕ) → (s : List ℕ) × (k : ℕ) × Word x s t k
some_word (last b k) t = (_, _, word_last)
some_word (then b x) t = let w = some_word x t in (_, _, word_then w.2)
some_word (fork b x y) t = let w = some_word x t in (_, _, word_this w.2)

-- a byte back ----------------------------------------------------------------------

pub fork_on : {X : Type 0} (P : X → Type 0) (t : Bool) {x y : X} → (t ≡ true → P x) → (t ≡ false → P y) → P (cond t x y)
fork_on P true f g = f refl
fork_on P false f g = g refl

abbrev Followed : Words → ℕ → Found → Type 0
Followed x a no_word = Unit {0}
Followed x a (whole k) = (t : List ℕ) → Word x (a ∷ t) t k
Followed x a (begun y) = (s t : List ℕ) (k : ℕ) → Word y s t k → Word x (a ∷ s) t k

followed : (x : Words) (a : ℕ) → Followed x a (follow x a)
unfolding follow
followed (last b k) a = fork_on (Followed (last b k) a) (eqb a b) (λ h t. rw (eqb-true a b h) word_last) (λ h. tt)
followed (then b x) a = fork_on (Followed (then b x) a) (eqb a b) (λ h s t k w. rw (eqb-true a b h) (word_then w)) (λ h. tt)
followed (fork b x y) a = go (followed y a)
  where
    other : eqb a b ≡ false → (r : Found) → Followed y a r → Followed (fork b x y) a r
    other h no_word k = tt
    other h (whole c) k = λ t. word_other h (k t)
    other h (begun z) k = λ s t c w. word_other h (k s t c w)

    go : Followed y a (follow y a) → Followed (fork b x y) a (follow (fork b x y) a)
    go k = fork_on (Followed (fork b x y) a) (eqb a b) (λ h s t c w. rw (eqb-true a b h) (word_this w)) (λ h. other h (follow y a) k)

pub word_back : {x y : Words} {a k : ℕ} {s t : List ℕ} → follow x a ≡ begun y → Word y s t k → Word x (a ∷ s) t k
word_back {x} {y} {a} {k} {s} {t} e w = subst (Followed x a) e (followed x a) s t k w

pub word_end : {x : Words} {a k : ℕ} {t : List ℕ} → follow x a ≡ whole k → Word x (a ∷ t) t k
word_end {x} {a} {k} {t} e = subst (Followed x a) e (followed x a) t

-- a byte forth ---------------------------------------------------------------------

same_byte : (a : ℕ) → eqb a a ≡ true
same_byte a = eq-eqb a a refl

follow_last : (b k : ℕ) → follow (last b k) b ≡ whole k
unfolding follow
follow_last b k = rw (same_byte b)

follow_then : (b : ℕ) (x : Words) → follow (then b x) b ≡ begun x
unfolding follow
follow_then b x = rw (same_byte b)

follow_this : (b : ℕ) (x y : Words) → follow (fork b x y) b ≡ begun x
unfolding follow
follow_this b x y = rw (same_byte b)

follow_other : (a b : ℕ) (x y : Words) → eqb a b ≡ false → follow (fork b x y) a ≡ follow y a
unfolding follow
follow_other a b x y h = rw h

first_other : {a b k : ℕ} {x y : Words} {s t : List ℕ} → eqb a b ≡ false → First y (a ∷ s) t k → First (fork b x y) (a ∷ s) t k
first_other {a} {b} {k} {x} {y} h (first_whole e) = first_whole (follow_other a b x y h ∙ e)
first_other {a} {b} {k} {x} {y} h (first_begun e w) = first_begun (follow_other a b x y h ∙ e) w

pub first : {x : Words} {s t : List ℕ} {k : ℕ} → Word x s t k → First x s t k
first word_last = first_whole (follow_last _ _)
first (word_then w) = first_begun (follow_then _ _) w
first (word_this w) = first_begun (follow_this _ _ _) w
first (word_other h w) = first_other h (first w)

pub no_first : {x : Words} {t : List ℕ} {k : ℕ} → First x [] t k → ⊥
no_first f = elim f [ ]

-- the references -------------------------------------------------------------------

pub word_reference : {s t : List ℕ} {k : ℕ} → Word references s t k → Reference s t k
word_reference (word_this (word_this (word_then word_last))) = entity_amp
word_reference (word_this (word_other h (word_then (word_then (word_then word_last))))) = entity_apos
word_reference (word_other h (word_this (word_then word_last))) = entity_gt
word_reference (word_other h (word_other h₁ (word_this (word_then word_last)))) = entity_lt
word_reference (word_other h (word_other h₁ (word_other h₂ (word_this (word_this (word_then word_last)))))) = character_line_feed
word_reference (word_other h (word_other h₁ (word_other h₂ (word_this (word_other h₃ (word_then word_last)))))) = character_tab
word_reference (word_other h (word_other h₁ (word_other h₂ (word_other h₃ (word_then (word_then (word_then (word_then word_last)))))))) =
    entity_quot

pub reference_word : {s t : List ℕ} {k : ℕ} → Reference s t k → Word references s t k
reference_word entity_amp = word_this (word_this (word_then word_last))
reference_word entity_apos = word_this (word_other refl (word_then (word_then (word_then word_last))))
reference_word entity_gt = word_other refl (word_this (word_then word_last))
reference_word entity_lt = word_other refl (word_other refl (word_this (word_then word_last)))
reference_word character_line_feed = word_other refl (word_other refl (word_other refl (word_this (word_this (word_then word_last)))))
reference_word character_tab = word_other refl (word_other refl (word_other refl (word_this (word_other refl (word_then word_last)))))
reference_word entity_quot =
    word_other refl (word_other refl (word_other refl (word_other refl (word_then (word_then (word_then (word_then word_last)))))))

-- the declarations -----------------------------------------------------------------

chain_back : (w : List ℕ) {x : Words} {s t : List ℕ} {k : ℕ} → Word (chain w x) s t k → (P : List ℕ → Type 0)
    → ((u : List ℕ) → Word x u t k → P (w ++ u)) → P s
chain_back [] r P f = f _ r
chain_back (b ∷ w) (word_then r) P f = chain_back w r (λ s. P (b ∷ s)) f

chain_forth : (w : List ℕ) {x : Words} {u t : List ℕ} {k : ℕ} → Word x u t k → Word (chain w x) (w ++ u) t k
chain_forth [] r = r
chain_forth (b ∷ w) r = word_then (chain_forth w r)

end_of : {a b : ℕ} {u t : List ℕ} {k : ℕ} → Word (last a b) u t k → u ≡ a ∷ t
end_of word_last = refl

-- what holds of both declarations with t behind them holds of each word's <? and s
pub word_declaration : {s t : List ℕ} {k : ℕ} (P : List ℕ → Type 0) → Word declarations s t k → P (short_declaration ++ t)
    → P (long_declaration ++ t)
    → P (less_than ∷ 63 ∷ s)
word_declaration {s} {t} {k} P w short long = chain_back version w (λ s. P (less_than ∷ 63 ∷ s)) go
  where
    go : (u : List ℕ) → Word (fork 63 (last greater_than 0) (chain encoding (last greater_than 0))) u t k
        → P (less_than ∷ 63 ∷ (version ++ u))
    go u (word_this x) = rw (end_of x) short
    go u (word_other h x) = chain_back encoding x (λ s. P (less_than ∷ 63 ∷ (version ++ s))) (λ v y. rw (end_of y) long)

-- behind their first two bytes
pub short_word : (t : List ℕ) → Word declarations (version ++ (63 ∷ greater_than ∷ t)) t 0
short_word t = chain_forth version (word_this word_last)

pub long_word : (t : List ℕ) → Word declarations (version ++ (encoding ++ (greater_than ∷ t))) t 0
long_word t = chain_forth version (word_other refl (chain_forth encoding word_last))
