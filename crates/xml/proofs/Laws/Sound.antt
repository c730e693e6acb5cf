-- Whatever the automaton reads to the end of a document is of the grammar.
use Rattle.std.specs.Prelude.{ℕ, suc, ◌≡◌, refl, Bool, true, false, ◌&&◌}
use Rattle.std.proofs.Common.{sym, subst}
use Rattle.std.proofs.Math.Path.{ap}
use mathlib.Core.List.{List, [], ◌∷◌, ◌++◌, append_assoc, append-nil}
use Rattle.tree.specs.Content.{element_kind}
use Rattle.xml.specs.Bytes.{less_than, equals_sign, greater_than, blank, Quote, quote_byte, used}
use Rattle.xml.specs.Shape.{Shape}
use Rattle.xml.specs.Grammar.{Name, Blanks, no_blank, blank_then, NameBytes, no_name_byte, name_byte_then, Named, name, Value}
use Rattle.xml.specs.Grammar.{value_close, value_byte, value_refers, Chars, chars_end, chars_byte, chars_refers, text_node, unspaced}
use Rattle.xml.specs.Grammar.{spaced, inside, opened, Derives, spacing, empty, full, more, derive_attribute, derive_text, markup}
use Rattle.xml.specs.Grammar.{derive_element, end_tag, Root, root, Parses, bare, declared_short, declared_long}
use Rattle.xml.specs.Laws.Words.{Words, declarations, Word}
use Rattle.xml.proofs.Laws.Words.{word_back, word_end, word_reference, word_declaration}
use Rattle.xml.specs.Laws.Automaton.{Config, at_start, behind_first, prolog, behind_root, epilog, declaration, tag_name, behind_part}
use Rattle.xml.specs.Laws.Automaton.{in_tag, before_equals, behind_equals, behind_slash, attribute_name, behind_quote, in_value}
use Rattle.xml.specs.Laws.Automaton.{value_reference, content, behind_open, in_text, text_reference, end_name, Event, born, byte}
use Rattle.xml.specs.Laws.Automaton.{depth, closed, Reads, stay, on, tell_bytes, tell}
use Rattle.xml.proofs.Laws.Transitions.{TagStep, tag_blank, tag_slash, tag_close, Step, s_start_blank, s_start_open, s_first_name}
use Rattle.xml.proofs.Laws.Transitions.{s_first_declaration, s_declaration_end, s_declaration_on, s_prolog_blank, s_prolog_open}
use Rattle.xml.proofs.Laws.Transitions.{s_root_name, s_tag_name, s_tag_name_end, s_behind, s_in_tag, s_in_tag_name, s_attribute}
use Rattle.xml.proofs.Laws.Transitions.{s_attribute_blank, s_attribute_equals, s_before_blank, s_before_equals, s_equals_blank}
use Rattle.xml.proofs.Laws.Transitions.{s_equals_quote, s_quote_byte, s_quote_reference, s_quote_end, s_value_byte, s_value_reference}
use Rattle.xml.proofs.Laws.Transitions.{s_value_end, s_value_word_end, s_value_word_on, s_slash, s_content_byte, s_content_reference}
use Rattle.xml.proofs.Laws.Transitions.{s_content_open, s_text_byte, s_text_reference, s_text_open, s_text_word_end, s_text_word_on}
use Rattle.xml.proofs.Laws.Transitions.{s_open_name, s_open_slash, s_end_byte, s_end_blank, s_end_close, s_epilog, step_is}

-- s may follow the configuration to the end of a document, and tells e
pub data Rest (u : Bool) : Config → List ℕ → List Event → Type 0 where
  r_start : {s : List ℕ} {f : Shape} → Parses u s f → Rest u at_start s (tell 1 f [])
  r_prolog : {s t : List ℕ} {e : List Event} → Blanks s (less_than ∷ t) → Rest u behind_root t e → Rest u prolog s e
  r_root : {n : Name} {s t : List ℕ} {e : List Event} → Named n s t → Rest u (behind_part n [] []) t e
      → Rest u behind_root s (born 1 element_kind ∷ tell_bytes n e)
  r_first : {s : List ℕ} {e : List Event} → Rest u behind_root s e → Rest u behind_first s e
  r_declarations : {s : List ℕ} {e : List Event} → Rest u (declaration declarations) s e → Rest u behind_first (63 ∷ s) e
  r_declaration : {x : Words} {s t : List ℕ} {k : ℕ} {e : List Event} → Word x s t k → Rest u prolog t e → Rest u (declaration x) s e
  r_tag_name : {ns : List Name} {p : Name} {r s t : List ℕ} {e : List Event} → NameBytes r s t → Rest u (behind_part (p ++ r) ns []) t e
      → Rest u (tag_name ns p) s (tell_bytes r e)
  r_behind : {n : Name} {ns seen : List Name} {s t : List ℕ} {f : Shape} {e : List Event} → Derives u (unspaced n seen) s f t
      → Rest u (closed ns) t e
      → Rest u (behind_part n ns seen) s (tell (suc (depth ns)) f e)
  r_in_tag : {n : Name} {ns seen : List Name} {s t : List ℕ} {f : Shape} {e : List Event} → Derives u (spaced n seen) s f t
      → Rest u (closed ns) t e
      → Rest u (in_tag n ns seen) s (tell (suc (depth ns)) f e)
  r_attribute : {n p : Name} {ns seen : List Name} {r s t : List ℕ} {e : List Event} → NameBytes r s t → (u && used seen (p ++ r)) ≡ false
      → Rest u (before_equals n ns ((p ++ r) ∷ seen)) t e
      → Rest u (attribute_name n ns seen p) s (tell_bytes r e)
  r_before : {n : Name} {ns seen : List Name} {s t : List ℕ} {e : List Event} → Blanks s (equals_sign ∷ t)
      → Rest u (behind_equals n ns seen) t e
      → Rest u (before_equals n ns seen) s e
  r_equals : {n : Name} {ns seen : List Name} (q : Quote) {s t : List ℕ} {e : List Event} → Blanks s (quote_byte q ∷ t)
      → Rest u (behind_quote n ns seen q) t e
      → Rest u (behind_equals n ns seen) s e
  r_quote : {n : Name} {ns seen : List Name} {q : Quote} {s t c : List ℕ} {e : List Event} → Value q s t c
      → Rest u (behind_part n ns seen) t e
      → Rest u (behind_quote n ns seen q) s (tell (suc (suc (depth ns))) (text_node c) e)
  r_value : {n : Name} {ns seen : List Name} {q : Quote} {s t c : List ℕ} {e : List Event} → Value q s t c
      → Rest u (behind_part n ns seen) t e
      → Rest u (in_value n ns seen q) s (tell_bytes c e)
  r_value_word : {n : Name} {ns seen : List Name} {q : Quote} {k : ℕ} {x : Words} {s t : List ℕ} {e : List Event} → Word x s t k
      → Rest u (in_value n ns seen q) t e
      → Rest u (value_reference n ns seen q x) s (byte k ∷ e)
  r_slash : {ns : List Name} {s : List ℕ} {e : List Event} → Rest u (closed ns) s e → Rest u (behind_slash ns) (greater_than ∷ s) e
  r_content : {n : Name} {ns : List Name} {s t : List ℕ} {f : Shape} {e : List Event} → Derives u (inside n) s f t → Rest u (closed ns) t e
      → Rest u (content n ns) s (tell (suc (depth ns)) f e)
  r_open : {n : Name} {ns : List Name} {s t : List ℕ} {f : Shape} {e : List Event} → Derives u (opened n) s f t → Rest u (closed ns) t e
      → Rest u (behind_open n ns) s (tell (suc (depth ns)) f e)
  r_text : {n : Name} {ns : List Name} {k : ℕ} {s t c : List ℕ} {e : List Event} → Chars k s t c → Rest u (behind_open n ns) t e
      → Rest u (in_text n ns k) s (tell_bytes c e)
  r_text_word : {n : Name} {ns : List Name} {k : ℕ} {x : Words} {s t : List ℕ} {e : List Event} → Word x s t k → Rest u (in_text n ns 0) t e
      → Rest u (text_reference n ns x) s (byte k ∷ e)
  r_end : {n : Name} {ns : List Name} {w s t : List ℕ} {e : List Event} → Blanks s (greater_than ∷ t) → Rest u (closed ns) t e
      → Rest u (end_name n ns w) (w ++ s) e
  r_epilog : {s : List ℕ} → Blanks s [] → Rest u epilog s []

-- a transition back --------------------------------------------------------------------

module _ {u : Bool} where
  back_tag : {n : Name} {ns seen : List Name} {b : ℕ} {d : Config} {s : List ℕ} {e : List Event} → TagStep n ns seen b d → Rest u d s e
      → Rest u (behind_part n ns seen) (b ∷ s) e
  unfolding tell
  back_tag (tag_blank h) (r_in_tag p r) = r_behind (spacing h p) r
  back_tag tag_slash (r_slash r) = r_behind empty r
  back_tag tag_close (r_content p r) = r_behind (full p) r

  no_attribute : {n : Name} {ns seen : List Name} {s : List ℕ} {e : List Event} → Rest u (behind_part n ns seen) s e
      → Rest u (in_tag n ns seen) s e
  no_attribute (r_behind p r) = r_in_tag (more p) r

  at_end : {s : List ℕ} {e : List Event} → Rest u epilog s e → Blanks s [] × (e ≡ [])
  at_end (r_epilog x) = (x, refl)

  root_part : {n : Name} {s : List ℕ} {e : List Event} → Rest u (behind_part n [] []) s e
      → (f : Shape) × (t : List ℕ) × Derives u (unspaced n []) s f t × Blanks t [] × (e ≡ tell 2 f [])
  unfolding depth
  root_part (r_behind p r) = let x = at_end r in (_, _, p, x.0, rw x.1)

  from_root : {s t : List ℕ} {e : List Event} → Blanks t (less_than ∷ s) → Rest u behind_root s e
      → (f : Shape) × Root u t f × (e ≡ tell 1 f [])
  unfolding tell
  from_root b (r_root {n = m} n r) =
      let x = root_part r in (_, root b n x.2 x.3, ap (λ (l : List Event). born 1 element_kind ∷ tell_bytes m l) x.4)

  from_prolog : {s : List ℕ} {e : List Event} → Rest u prolog s e → (f : Shape) × Root u s f × (e ≡ tell 1 f [])
  from_prolog (r_prolog b r) = from_root b r

  spaced_root : {b : ℕ} {s : List ℕ} {f : Shape} → blank b ≡ true → Root u s f → Root u (b ∷ s) f
  spaced_root h (root x n p y) = root (blank_then h x) n p y

  started : {s : List ℕ} {e : List Event} → (f : Shape) × Parses u s f × (e ≡ tell 1 f []) → Rest u at_start s e
  started x = rw x.2 (r_start x.1)

  from_first : {s : List ℕ} {e : List Event} → Rest u behind_first s e → Rest u at_start (less_than ∷ s) e
  from_first (r_first r) = let x = from_root no_blank r in started (x.0, bare x.1, x.2)
  from_first (r_declarations (r_declaration {s = s} w r)) = let x = from_prolog r in
      started (x.0, word_declaration (λ s. Parses u s x.0) w (declared_short x.1) (declared_long x.1), x.2)

  end_tag_name : {ns : List Name} {p : Name} {s : List ℕ} {e : List Event} → Rest u (behind_part p ns []) s e → Rest u (tag_name ns p) s e
  unfolding tell_bytes
  end_tag_name {ns} {p} {s} {e} r =
      r_tag_name {p = p} {e = e} no_name_byte (subst (λ (x : Name). Rest u (behind_part x ns []) s e) (sym (append-nil p)) r)

  end_attribute : {n p : Name} {ns seen : List Name} {s : List ℕ} {e : List Event} → (u && used seen p) ≡ false
      → Rest u (before_equals n ns (p ∷ seen)) s e → Rest u (attribute_name n ns seen p) s e
  unfolding tell_bytes
  end_attribute {n} {p} {ns} {seen} {s} {e} k r =
      r_attribute {p = p} {e = e} no_name_byte (subst (λ (x : Name). (u && used seen x) ≡ false) (sym (append-nil p)) k)
      (subst (λ (x : Name). Rest u (before_equals n ns (x ∷ seen)) s e) (sym (append-nil p)) r)

  child_in : {m n : Name} {ns : List Name} {s t v : List ℕ} {g : Shape} {e : List Event} → Named m s t → Derives u (unspaced m []) t g v
      → Rest u (content n ns) v e
      → Rest u (behind_open n ns) s (born (suc (depth ns)) element_kind ∷ tell_bytes m (tell (suc (suc (depth ns))) g e))
  unfolding tell
  child_in l p (r_content i r) = r_open (derive_element l p i) r

  child : {m n : Name} {ns : List Name} {s t : List ℕ} {e : List Event} → Named m s t → Rest u (behind_part m (n ∷ ns) []) t e
      → Rest u (behind_open n ns) s (born (suc (depth ns)) element_kind ∷ tell_bytes m e)
  unfolding depth
  child l (r_behind p r) = child_in l p r

  back : {c : Config} {b : ℕ} {d : Config} {v e : List Event} {s : List ℕ} → Step u c b d v → Rest u d s e → Rest u c (b ∷ s) (v ++ e)
  unfolding tell depth tell_bytes
  back (s_start_blank h) r = let x = from_prolog r in started (x.0, bare (spaced_root h x.1), x.2)
  back s_start_open r = from_first r
  back (s_first_name h) (r_tag_name l r) = r_first (r_root (name h l) r)
  back s_first_declaration r = r_declarations r
  back (s_declaration_end k h) r = r_declaration (word_end h) r
  back (s_declaration_on h) (r_declaration w r) = r_declaration (word_back h w) r
  back (s_prolog_blank h) (r_prolog w r) = r_prolog (blank_then h w) r
  back s_prolog_open r = r_prolog no_blank r
  back (s_root_name h) (r_tag_name l r) = r_root (name h l) r
  back (s_tag_name h) (r_tag_name l r) = r_tag_name (name_byte_then h l) (rw append_assoc at r)
  back (s_tag_name_end h t) r = end_tag_name (back_tag t r)
  back (s_behind t) r = back_tag t r
  back (s_in_tag h t) r = no_attribute (back_tag t r)
  back (s_in_tag_name h) (r_attribute l k (r_before x (r_equals q y (r_quote v (r_behind p r))))) =
      r_in_tag (derive_attribute q (name h l) k x y v p) r
  back (s_attribute h) (r_attribute l k r) = r_attribute (name_byte_then h l) (rw append_assoc at k) (rw append_assoc at r)
  back (s_attribute_blank k h) (r_before x r) = end_attribute k (r_before (blank_then h x) r)
  back (s_attribute_equals k) r = end_attribute k (r_before no_blank r)
  back (s_before_blank h) (r_before x r) = r_before (blank_then h x) r
  back s_before_equals r = r_before no_blank r
  back (s_equals_blank h) (r_equals q x r) = r_equals q (blank_then h x) r
  back (s_equals_quote q) r = r_equals q no_blank r
  back (s_quote_byte h) (r_value v r) = r_quote (value_byte h v) r
  back s_quote_reference (r_value_word w (r_value v r)) = r_quote (value_refers (word_reference w) v) r
  back s_quote_end r = r_quote value_close r
  back (s_value_byte h) (r_value v r) = r_value (value_byte h v) r
  back s_value_reference (r_value_word w (r_value v r)) = r_value (value_refers (word_reference w) v) r
  back s_value_end r = r_value value_close r
  back (s_value_word_end h) r = r_value_word (word_end h) r
  back (s_value_word_on h) (r_value_word w r) = r_value_word (word_back h w) r
  back s_slash r = r_slash r
  back (s_content_byte h) (r_text x (r_open p r)) = r_content (derive_text (chars_byte h x) p) r
  back s_content_reference (r_text_word w (r_text x (r_open p r))) = r_content (derive_text (chars_refers (word_reference w) x) p) r
  back s_content_open (r_open p r) = r_content (markup p) r
  back (s_text_byte h) (r_text x r) = r_text (chars_byte h x) r
  back s_text_reference (r_text_word w (r_text x r)) = r_text (chars_refers (word_reference w) x) r
  back s_text_open r = r_text chars_end r
  back (s_text_word_end h) r = r_text_word (word_end h) r
  back (s_text_word_on h) (r_text_word w r) = r_text_word (word_back h w) r
  back (s_open_name h) (r_tag_name l r) = child (name h l) r
  back s_open_slash (r_end x r) = r_open (end_tag x) r
  back s_end_byte (r_end x r) = r_end x r
  back (s_end_blank h) (r_end x r) = r_end (blank_then h x) r
  back s_end_close r = r_end no_blank r
  back (s_epilog h) (r_epilog x) = r_epilog (blank_then h x)

  pub rest_of : {c d : Config} {s : List ℕ} {e : List Event} → Reads u c s e d → d ≡ epilog → Rest u c s e
  rest_of stay p = rw p (r_epilog no_blank)
  rest_of (on h r) p = back (step_is h) (rest_of r p)

  -- SOUND
  pub sound : {s : List ℕ} {e : List Event} → Reads u at_start s e epilog → (f : Shape) × Parses u s f × (e ≡ tell 1 f [])
  sound r = go (rest_of r refl)
    where
      go : {s : List ℕ} {e : List Event} → Rest u at_start s e → (f : Shape) × Parses u s f × (e ≡ tell 1 f [])
      go (r_start d) = (_, d, refl)
