-- The automaton's transitions as a relation, a line each, and that they are those of the function `step`.
use Rattle.std.specs.Prelude.{ℕ, suc, ◌≡◌, refl, Bool, true, false, cond, ◌&&◌, ◌||◌, List, [], ◌∷◌, ◌++◌, eqb}
use Rattle.std.proofs.Common.{sym, subst, eqb-true, eq-eqb}
use Rattle.std.proofs.lemmas.Bool.{false≢true}
use Rattle.tree.specs.Content.{element_kind, attribute_kind, text_kind, name_start, name_byte, text_byte}
use Rattle.xml.specs.Bytes.{ampersand, slash, less_than, equals_sign, greater_than, quotation_mark, apostrophe, blank, Quote, double}
use Rattle.xml.specs.Bytes.{single, quote_byte, value_literal, normalized, text_literal, brackets, used}
use Rattle.xml.specs.Grammar.{Name}
use Rattle.xml.specs.Laws.Words.{Words, Found, no_word, whole, begun, follow, references, declarations}
use Rattle.xml.proofs.Laws.Words.{fork_on}
use Rattle.xml.specs.Laws.Automaton.{Config, at_start, behind_first, prolog, behind_root, epilog, declaration, tag_name, behind_part}
use Rattle.xml.specs.Laws.Automaton.{in_tag, before_equals, behind_equals, behind_slash, attribute_name, behind_quote, in_value}
use Rattle.xml.specs.Laws.Automaton.{value_reference, content, behind_open, in_text, text_reference, end_name, Event, born, byte}
use Rattle.xml.specs.Laws.Automaton.{Move, stuck, move, to, depth, closed, tag_step, word_step, step}

-- behind a name or a value in a start tag
pub data TagStep (n : Name) (ns seen : List Name) : ℕ → Config → Type 0 where
  tag_blank : {b : ℕ} → blank b ≡ true → TagStep n ns seen b (in_tag n ns seen)
  tag_slash : TagStep n ns seen slash (behind_slash ns)
  tag_close : TagStep n ns seen greater_than (content n ns)

pub data Step (u : Bool) : Config → ℕ → Config → List Event → Type 0 where
  s_start_blank : {b : ℕ} → blank b ≡ true → Step u at_start b prolog []
  s_start_open : Step u at_start less_than behind_first []
  s_first_name : {b : ℕ} → name_start b ≡ true → Step u behind_first b (tag_name [] (b ∷ [])) (born 1 element_kind ∷ byte b ∷ [])
  s_first_declaration : Step u behind_first 63 (declaration declarations) []
  s_declaration_end : {x : Words} {b : ℕ} (k : ℕ) → follow x b ≡ whole k → Step u (declaration x) b prolog []
  s_declaration_on : {x y : Words} {b : ℕ} → follow x b ≡ begun y → Step u (declaration x) b (declaration y) []
  s_prolog_blank : {b : ℕ} → blank b ≡ true → Step u prolog b prolog []
  s_prolog_open : Step u prolog less_than behind_root []
  s_root_name : {b : ℕ} → name_start b ≡ true → Step u behind_root b (tag_name [] (b ∷ [])) (born 1 element_kind ∷ byte b ∷ [])
  s_tag_name : {ns : List Name} {p : Name} {b : ℕ} → name_byte b ≡ true
      → Step u (tag_name ns p) b (tag_name ns (p ++ (b ∷ []))) (byte b ∷ [])
  s_tag_name_end : {ns : List Name} {p : Name} {b : ℕ} {d : Config} → name_byte b ≡ false → TagStep p ns [] b d
      → Step u (tag_name ns p) b d []
  s_behind : {n : Name} {ns seen : List Name} {b : ℕ} {d : Config} → TagStep n ns seen b d → Step u (behind_part n ns seen) b d []
  s_in_tag : {n : Name} {ns seen : List Name} {b : ℕ} {d : Config} → name_start b ≡ false → TagStep n ns seen b d
      → Step u (in_tag n ns seen) b d []
  s_in_tag_name : {n : Name} {ns seen : List Name} {b : ℕ} → name_start b ≡ true
      → Step u (in_tag n ns seen) b (attribute_name n ns seen (b ∷ [])) (born (depth (n ∷ ns)) attribute_kind ∷ byte b ∷ [])
  s_attribute : {n p : Name} {ns seen : List Name} {b : ℕ} → name_byte b ≡ true
      → Step u (attribute_name n ns seen p) b (attribute_name n ns seen (p ++ (b ∷ []))) (byte b ∷ [])
  s_attribute_blank : {n p : Name} {ns seen : List Name} {b : ℕ} → (u && used seen p) ≡ false → blank b ≡ true
      → Step u (attribute_name n ns seen p) b (before_equals n ns (p ∷ seen)) []
  s_attribute_equals : {n p : Name} {ns seen : List Name} → (u && used seen p) ≡ false
      → Step u (attribute_name n ns seen p) equals_sign (behind_equals n ns (p ∷ seen)) []
  s_before_blank : {n : Name} {ns seen : List Name} {b : ℕ} → blank b ≡ true
      → Step u (before_equals n ns seen) b (before_equals n ns seen) []
  s_before_equals : {n : Name} {ns seen : List Name} → Step u (before_equals n ns seen) equals_sign (behind_equals n ns seen) []
  s_equals_blank : {n : Name} {ns seen : List Name} {b : ℕ} → blank b ≡ true
      → Step u (behind_equals n ns seen) b (behind_equals n ns seen) []
  s_equals_quote : {n : Name} {ns seen : List Name} (q : Quote)
      → Step u (behind_equals n ns seen) (quote_byte q) (behind_quote n ns seen q) []
  s_quote_byte : {n : Name} {ns seen : List Name} {q : Quote} {b : ℕ} → value_literal q b ≡ true
      → Step u (behind_quote n ns seen q) b (in_value n ns seen q) (born (suc (depth (n ∷ ns))) text_kind ∷ byte (normalized b) ∷ [])
  s_quote_reference : {n : Name} {ns seen : List Name} {q : Quote}
      → Step u (behind_quote n ns seen q) ampersand (value_reference n ns seen q references) (born (suc (depth (n ∷ ns))) text_kind ∷ [])
  s_quote_end : {n : Name} {ns seen : List Name} {q : Quote} → Step u (behind_quote n ns seen q) (quote_byte q) (behind_part n ns seen) []
  s_value_byte : {n : Name} {ns seen : List Name} {q : Quote} {b : ℕ} → value_literal q b ≡ true
      → Step u (in_value n ns seen q) b (in_value n ns seen q) (byte (normalized b) ∷ [])
  s_value_reference : {n : Name} {ns seen : List Name} {q : Quote}
      → Step u (in_value n ns seen q) ampersand (value_reference n ns seen q references) []
  s_value_end : {n : Name} {ns seen : List Name} {q : Quote} → Step u (in_value n ns seen q) (quote_byte q) (behind_part n ns seen) []
  s_value_word_end : {n : Name} {ns seen : List Name} {q : Quote} {x : Words} {b k : ℕ} → follow x b ≡ whole k
      → Step u (value_reference n ns seen q x) b (in_value n ns seen q) (byte k ∷ [])
  s_value_word_on : {n : Name} {ns seen : List Name} {q : Quote} {x y : Words} {b : ℕ} → follow x b ≡ begun y
      → Step u (value_reference n ns seen q x) b (value_reference n ns seen q y) []
  s_slash : {ns : List Name} → Step u (behind_slash ns) greater_than (closed ns) []
  s_content_byte : {n : Name} {ns : List Name} {b : ℕ} → text_literal 0 b ≡ true
      → Step u (content n ns) b (in_text n ns (brackets 0 b)) (born (depth (n ∷ ns)) text_kind ∷ byte b ∷ [])
  s_content_reference : {n : Name} {ns : List Name}
      → Step u (content n ns) ampersand (text_reference n ns references) (born (depth (n ∷ ns)) text_kind ∷ [])
  s_content_open : {n : Name} {ns : List Name} → Step u (content n ns) less_than (behind_open n ns) []
  s_text_byte : {n : Name} {ns : List Name} {k b : ℕ} → text_literal k b ≡ true
      → Step u (in_text n ns k) b (in_text n ns (brackets k b)) (byte b ∷ [])
  s_text_reference : {n : Name} {ns : List Name} {k : ℕ} → Step u (in_text n ns k) ampersand (text_reference n ns references) []
  s_text_open : {n : Name} {ns : List Name} {k : ℕ} → Step u (in_text n ns k) less_than (behind_open n ns) []
  s_text_word_end : {n : Name} {ns : List Name} {x : Words} {b k : ℕ} → follow x b ≡ whole k
      → Step u (text_reference n ns x) b (in_text n ns 0) (byte k ∷ [])
  s_text_word_on : {n : Name} {ns : List Name} {x y : Words} {b : ℕ} → follow x b ≡ begun y
      → Step u (text_reference n ns x) b (text_reference n ns y) []
  s_open_name : {n : Name} {ns : List Name} {b : ℕ} → name_start b ≡ true
      → Step u (behind_open n ns) b (tag_name (n ∷ ns) (b ∷ [])) (born (depth (n ∷ ns)) element_kind ∷ byte b ∷ [])
  s_open_slash : {n : Name} {ns : List Name} → Step u (behind_open n ns) slash (end_name n ns n) []
  s_end_byte : {n : Name} {ns : List Name} {a : ℕ} {w : List ℕ} → Step u (end_name n ns (a ∷ w)) a (end_name n ns w) []
  s_end_blank : {n : Name} {ns : List Name} {b : ℕ} → blank b ≡ true → Step u (end_name n ns []) b (end_name n ns []) []
  s_end_close : {n : Name} {ns : List Name} → Step u (end_name n ns []) greater_than (closed ns) []
  s_epilog : {b : ℕ} → blank b ≡ true → Step u epilog b epilog []

-- each move of the function is a transition ------------------------------------------

data View (u : Bool) (c : Config) (b : ℕ) : Move → Type 0 where
  nowhere : View u c b stuck
  moved : {d : Config} {v : List Event} → Step u c b d v → View u c b (move d v)

module _ {u : Bool} {c d : Config} {v : List Event} {m : Move} (b : ℕ) where
  on_byte : (k : ℕ) → Step u c k d v → View u c b m → View u c b (cond (eqb b k) (move d v) m)
  on_byte k s w = fork_on (View u c b) (eqb b k) (λ h. moved (subst (λ (a : ℕ). Step u c a d v) (sym (eqb-true b k h)) s)) (λ h. w)

  on_test : (t : Bool) → (t ≡ true → Step u c b d v) → (t ≡ false → View u c b m) → View u c b (cond t (move d v) m)
  on_test t f g = fork_on (View u c b) t (λ h. moved (f h)) g

on_tag : {u : Bool} {c : Config} (n : Name) (ns seen : List Name) (b : ℕ) → ((d : Config) → TagStep n ns seen b d → Step u c b d [])
    → View u c b (tag_step n ns seen b)
unfolding tag_step
on_tag {u} {c} n ns seen b f = on_test b (blank b) (λ h. f _ (tag_blank h))
    (λ _. fork_on (View u c b) (eqb b slash) (λ h. moved (f _ (subst (λ (a : ℕ). TagStep n ns seen a (behind_slash ns))
    (sym (eqb-true b slash h)) tag_slash)))
    (λ _. fork_on (View u c b) (eqb b greater_than)
    (λ h. moved (f _ (subst (λ (a : ℕ). TagStep n ns seen a (content n ns)) (sym (eqb-true b greater_than h)) tag_close)))
    (λ _. nowhere)))

on_word : {u : Bool} {c : Config} (b : ℕ) (r : Found) {f : ℕ → Move} {g : Words → Move}
    → ((k : ℕ) → r ≡ whole k → View u c b (f k)) → ((y : Words) → r ≡ begun y → View u c b (g y)) → View u c b (word_step r f g)
on_word b no_word p q = nowhere
on_word b (whole k) p q = p k refl
on_word b (begun y) p q = q y refl

view : (u : Bool) (c : Config) (b : ℕ) → View u c b (step u c b)
unfolding step
view u at_start b = on_test b (blank b) s_start_blank (λ _. on_byte b less_than s_start_open nowhere)
view u behind_first b = on_test b (name_start b) s_first_name (λ _. on_byte b 63 s_first_declaration nowhere)
view u (declaration x) b = on_word b (follow x b) (λ k h. moved (s_declaration_end k h)) (λ y h. moved (s_declaration_on h))
view u prolog b = on_test b (blank b) s_prolog_blank (λ _. on_byte b less_than s_prolog_open nowhere)
view u behind_root b = on_test b (name_start b) s_root_name (λ _. nowhere)
view u (tag_name ns p) b = on_test b (name_byte b) s_tag_name (λ h. on_tag p ns [] b (λ d. s_tag_name_end h))
view u (behind_part n ns seen) b = on_tag n ns seen b (λ d. s_behind)
view u (in_tag n ns seen) b = on_test b (name_start b) s_in_tag_name (λ h. on_tag n ns seen b (λ d. s_in_tag h))
view u (attribute_name n ns seen p) b = on_test b (name_byte b) s_attribute
    (λ h. fork_on (View u (attribute_name n ns seen p) b) (u && used seen p) (λ _. nowhere)
    (λ k. on_test b (blank b) (s_attribute_blank k) (λ _. on_byte b equals_sign (s_attribute_equals k) nowhere)))
view u (before_equals n ns seen) b = on_test b (blank b) s_before_blank (λ _. on_byte b equals_sign s_before_equals nowhere)
view u (behind_equals n ns seen) b = on_test b (blank b) s_equals_blank
    (λ _. on_byte b quotation_mark (s_equals_quote double) (on_byte b apostrophe (s_equals_quote single) nowhere))
view u (behind_quote n ns seen q) b =
    on_test b (value_literal q b) s_quote_byte (λ _. on_byte b ampersand s_quote_reference (on_byte b (quote_byte q) s_quote_end nowhere))
view u (in_value n ns seen q) b =
    on_test b (value_literal q b) s_value_byte (λ _. on_byte b ampersand s_value_reference (on_byte b (quote_byte q) s_value_end nowhere))
view u (value_reference n ns seen q x) b = on_word b (follow x b) (λ k h. moved (s_value_word_end h)) (λ y h. moved (s_value_word_on h))
view u (behind_slash ns) b = on_byte b greater_than s_slash nowhere
view u (content n ns) b =
    on_test b (text_literal 0 b) s_content_byte (λ _. on_byte b ampersand s_content_reference (on_byte b less_than s_content_open nowhere))
view u (in_text n ns k) b =
    on_test b (text_literal k b) s_text_byte (λ _. on_byte b ampersand s_text_reference (on_byte b less_than s_text_open nowhere))
view u (text_reference n ns x) b = on_word b (follow x b) (λ k h. moved (s_text_word_end h)) (λ y h. moved (s_text_word_on h))
view u (behind_open n ns) b = on_test b (name_start b) s_open_name (λ _. on_byte b slash s_open_slash nowhere)
view u (end_name n ns []) b = on_test b (blank b) s_end_blank (λ _. on_byte b greater_than s_end_close nowhere)
view u (end_name n ns (a ∷ w)) b = on_byte b a s_end_byte nowhere
view u epilog b = on_test b (blank b) s_epilog (λ _. nowhere)

pub step_is : {u : Bool} {c d : Config} {b : ℕ} {v : List Event} → step u c b ≡ move d v → Step u c b d v
step_is {u} {c} {d} {b} {v} h = go (subst (View u c b) h (view u c b))
  where
    go : View u c b (move d v) → Step u c b d v
    go (moved s) = s

-- each transition is a move of the function ------------------------------------------

-- what holds of 9, 10 and 32 holds of blanks
pub for_blanks : (P : ℕ → Type 0) → P 9 → P 10 → P 32 → (b : ℕ) → blank b ≡ true → P b
unfolding blank
for_blanks P p q r b h = go (eqb b 9) refl (eqb b 10) refl (eqb b 32) refl h
  where
    go : (x : Bool) → eqb b 9 ≡ x → (y : Bool) → eqb b 10 ≡ y → (z : Bool) → eqb b 32 ≡ z → (x || y || z) ≡ true → P b
    go true e y e₁ z e₂ h = rw (eqb-true b 9 e) p
    go false e true e₁ z e₂ h = rw (eqb-true b 10 e₁) q
    go false e false e₁ true e₂ h = rw (eqb-true b 32 e₂) r
    go false e false e₁ false e₂ h = absurd (false≢true h)

pub blank_no_name : (b : ℕ) → blank b ≡ true → (name_byte b ≡ false) × (name_start b ≡ false)
unfolding name_byte name_start
blank_no_name b h = for_blanks (λ b. (name_byte b ≡ false) × (name_start b ≡ false)) (refl, refl) (refl, refl) (refl, refl) b h

tag_forth : {n : Name} {ns seen : List Name} {b : ℕ} {d : Config} → TagStep n ns seen b d → tag_step n ns seen b ≡ to d
unfolding tag_step blank
tag_forth (tag_blank h) = rw h
tag_forth tag_slash = refl
tag_forth tag_close = refl

pub tag_no_name : {n : Name} {ns seen : List Name} {b : ℕ} {d : Config} → TagStep n ns seen b d
    → (name_byte b ≡ false) × (name_start b ≡ false)
unfolding name_byte name_start
tag_no_name (tag_blank {b = b} h) = blank_no_name b h
tag_no_name tag_slash = (refl, refl)
tag_no_name tag_close = (refl, refl)

pub forth : {u : Bool} {c : Config} {b : ℕ} {d : Config} {v : List Event} → Step u c b d v → step u c b ≡ move d v
unfolding step blank name_start name_byte text_literal value_literal text_byte
forth (s_start_blank h) = rw h
forth s_start_open = refl
forth (s_first_name h) = rw h
forth s_first_declaration = refl
forth (s_declaration_end k h) = rw h
forth (s_declaration_on h) = rw h
forth (s_prolog_blank h) = rw h
forth s_prolog_open = refl
forth (s_root_name h) = rw h
forth (s_tag_name h) = rw h
forth (s_tag_name_end h t) = rw (h, tag_forth t)
forth (s_behind t) = tag_forth t
forth (s_in_tag h t) = rw (h, tag_forth t)
forth (s_in_tag_name h) = rw h
forth (s_attribute h) = rw h
forth (s_attribute_blank {b = b} k h) = rw ((blank_no_name b h).0, k, h)
forth (s_attribute_equals k) = rw k
forth (s_before_blank h) = rw h
forth s_before_equals = refl
forth (s_equals_blank h) = rw h
forth (s_equals_quote double) = refl
forth (s_equals_quote single) = refl
forth (s_quote_byte h) = rw h
forth (s_quote_reference {q = double}) = refl
forth (s_quote_reference {q = single}) = refl
forth (s_quote_end {q = double}) = refl
forth (s_quote_end {q = single}) = refl
forth (s_value_byte h) = rw h
forth (s_value_reference {q = double}) = refl
forth (s_value_reference {q = single}) = refl
forth (s_value_end {q = double}) = refl
forth (s_value_end {q = single}) = refl
forth (s_value_word_end h) = rw h
forth (s_value_word_on h) = rw h
forth s_slash = refl
forth (s_content_byte h) = rw h
forth s_content_reference = refl
forth s_content_open = refl
forth (s_text_byte h) = rw h
forth s_text_reference = refl
forth s_text_open = refl
forth (s_text_word_end h) = rw h
forth (s_text_word_on h) = rw h
forth (s_open_name h) = rw h
forth s_open_slash = refl
forth (s_end_byte {a = a}) = rw (eq-eqb a a refl)
forth (s_end_blank h) = rw h
forth s_end_close = refl
forth (s_epilog h) = rw h
