-- Every document of the grammar is read to its end.
use Rattle.std.specs.Prelude.{ℕ, suc, ◌≡◌, Bool, true, false, ◌&&◌}
use mathlib.Core.List.{List, [], ◌∷◌, ◌++◌, append_assoc, append-nil}
use Rattle.tree.specs.Content.{text_kind}
use Rattle.xml.specs.Bytes.{equals_sign, greater_than, blank, Quote, quote_byte, used}
use Rattle.xml.specs.Shape.{Shape}
use Rattle.xml.specs.Grammar.{Name, Blanks, no_blank, blank_then, NameBytes, no_name_byte, name_byte_then, name, Value, value_close}
use Rattle.xml.specs.Grammar.{value_byte, value_refers, Chars, chars_end, chars_byte, chars_refers, text_node, Place, unspaced}
use Rattle.xml.specs.Grammar.{spaced, inside, opened, Derives, spacing, empty, full, more, derive_attribute, derive_text, markup}
use Rattle.xml.specs.Grammar.{derive_element, end_tag, Root, root, Parses, bare, declared_short, declared_long}
use Rattle.xml.specs.Laws.Words.{Words, whole, begun, follow, Word, First, first_whole, first_begun}
use Rattle.xml.proofs.Laws.Words.{first, no_first, reference_word}
use Rattle.xml.proofs.Laws.Words.{short_word, long_word}
use Rattle.xml.specs.Laws.Automaton.{Config, at_start, prolog, epilog, declaration, tag_name, behind_part, in_tag, before_equals}
use Rattle.xml.specs.Laws.Automaton.{behind_equals, attribute_name, behind_quote, in_value, value_reference, content, behind_open}
use Rattle.xml.specs.Laws.Automaton.{in_text, text_reference, end_name, Event, born, byte, depth, closed, stay, on, tell_bytes}
use Rattle.xml.specs.Laws.Automaton.{tell}
use Rattle.xml.proofs.Laws.Transitions.{tag_blank, tag_slash, tag_close, Step, s_start_blank, s_start_open, s_first_name}
use Rattle.xml.proofs.Laws.Transitions.{s_first_declaration, s_declaration_end, s_declaration_on, s_prolog_blank, s_prolog_open}
use Rattle.xml.proofs.Laws.Transitions.{s_root_name, s_tag_name, s_tag_name_end, s_behind, s_in_tag, s_in_tag_name, s_attribute}
use Rattle.xml.proofs.Laws.Transitions.{s_attribute_blank, s_attribute_equals, s_before_blank, s_before_equals, s_equals_blank}
use Rattle.xml.proofs.Laws.Transitions.{s_equals_quote, s_quote_byte, s_quote_reference, s_quote_end, s_value_byte, s_value_reference}
use Rattle.xml.proofs.Laws.Transitions.{s_value_end, s_value_word_end, s_value_word_on, s_slash, s_content_byte, s_content_reference}
use Rattle.xml.proofs.Laws.Transitions.{s_content_open, s_text_byte, s_text_reference, s_text_open, s_text_word_end, s_text_word_on}
use Rattle.xml.proofs.Laws.Transitions.{s_open_name, s_open_slash, s_end_byte, s_end_blank, s_end_close, s_epilog, step_is, forth}
use Rattle.xml.proofs.Laws.Transitions.{tag_no_name}
use Rattle.xml.specs.Laws.Complete.{Accepts}

abbrev config_at : Place → List Name → Config
config_at (unspaced n seen) ns = behind_part n ns seen
config_at (spaced n seen) ns = in_tag n ns seen
config_at (inside n) ns = content n ns
config_at (opened n) ns = behind_open n ns

module _ {u : Bool} where
  infixr 20 ◌▸◌
  pub ◌▸◌ : {c d : Config} {b : ℕ} {s : List ℕ} {v e : List Event} → Step u c b d v → Accepts u d s e → Accepts u c (b ∷ s) (v ++ e)
  s ▸ r = on (forth s) r

  over_blanks : {s t : List ℕ} {e : List Event} (c : Config) → ((b : ℕ) → blank b ≡ true → Step u c b c []) → Blanks s t → Accepts u c t e
      → Accepts u c s e
  over_blanks c f no_blank r = r
  over_blanks c f (blank_then h x) r = f _ h ▸ over_blanks c f x r

  -- words
  module _ (C : Words → Config) (d : Config) (v : ℕ → List Event)
      (go_on : (x y : Words) (a : ℕ) → follow x a ≡ begun y → Step u (C x) a (C y) [])
      (end : (x : Words) (a k : ℕ) → follow x a ≡ whole k → Step u (C x) a d (v k)) where
    read_first : {x : Words} {b k : ℕ} {s t : List ℕ} {e : List Event} → Accepts u d t e
        → ((y : Words) → Word y s t k → Accepts u (C y) s (v k ++ e))
        → First x (b ∷ s) t k → Accepts u (C x) (b ∷ s) (v k ++ e)
    read_first r f (first_whole h) = end _ _ _ h ▸ r
    read_first r f (first_begun h w) = go_on _ _ _ h ▸ f _ w

    read_word : (s : List ℕ) (x : Words) {t : List ℕ} {k : ℕ} {e : List Event} → Word x s t k → Accepts u d t e
        → Accepts u (C x) s (v k ++ e)
    read_word [] x w r = absurd (no_first (first w))
    read_word (b ∷ s) x w r = read_first r (λ y w'. read_word s y w' r) (first w)

  pub value_word : {n : Name} {ns seen : List Name} {q : Quote} {x : Words} {s t : List ℕ} {k : ℕ} {e : List Event} → Word x s t k
      → Accepts u (in_value n ns seen q) t e → Accepts u (value_reference n ns seen q x) s (byte k ∷ e)
  value_word {n} {ns} {seen} {q} {x} {s} w r =
      read_word (value_reference n ns seen q) (in_value n ns seen q) (λ k. byte k ∷ []) (λ x y b h. s_value_word_on h)
      (λ x b k h. s_value_word_end h) s x w r

  pub text_word : {n : Name} {ns : List Name} {x : Words} {s t : List ℕ} {k : ℕ} {e : List Event} → Word x s t k
      → Accepts u (in_text n ns 0) t e → Accepts u (text_reference n ns x) s (byte k ∷ e)
  text_word {n} {ns} {x} {s} w r =
      read_word (text_reference n ns) (in_text n ns 0) (λ k. byte k ∷ []) (λ x y b h. s_text_word_on h) (λ x b k h. s_text_word_end h) s x w
      r

  pub declaration_word : {x : Words} {s t : List ℕ} {k : ℕ} {e : List Event} → Word x s t k → Accepts u prolog t e
      → Accepts u (declaration x) s e
  declaration_word {x} {s} w r =
      read_word declaration prolog (λ k. []) (λ x y b h. s_declaration_on h) (λ x b k h. s_declaration_end k h) s x w r

  -- names; a name ends where what stands behind it takes its first step
  tag_name_end : {ns : List Name} {p : Name} {s : List ℕ} {e : List Event} → Accepts u (behind_part p ns []) s e
      → Accepts u (tag_name ns p) s e
  tag_name_end (on h r) = go (step_is h) ▸ r
    where
      go : {p : Name} {ns : List Name} {b : ℕ} {d : Config} {v : List Event} → Step u (behind_part p ns []) b d v
          → Step u (tag_name ns p) b d v
      go (s_behind t) = s_tag_name_end (tag_no_name t).0 t

  pub no_attribute : {n : Name} {ns seen : List Name} {s : List ℕ} {e : List Event} → Accepts u (behind_part n ns seen) s e
      → Accepts u (in_tag n ns seen) s e
  no_attribute (on h r) = go (step_is h) ▸ r
    where
      go : {n : Name} {ns seen : List Name} {b : ℕ} {d : Config} {v : List Event} → Step u (behind_part n ns seen) b d v
          → Step u (in_tag n ns seen) b d v
      go (s_behind t) = s_in_tag (tag_no_name t).1 t

  attribute_end : {n p : Name} {ns seen : List Name} {s : List ℕ} {e : List Event} → (u && used seen p) ≡ false
      → Accepts u (before_equals n ns (p ∷ seen)) s e
      → Accepts u (attribute_name n ns seen p) s e
  attribute_end k (on h r) = go k (step_is h) ▸ r
    where
      go : {n p : Name} {ns seen : List Name} {b : ℕ} {d : Config} {v : List Event} → (u && used seen p) ≡ false
          → Step u (before_equals n ns (p ∷ seen)) b d v
          → Step u (attribute_name n ns seen p) b d v
      go k (s_before_blank h) = s_attribute_blank k h
      go k s_before_equals = s_attribute_equals k

  pub read_tag_name : {ns : List Name} (p : Name) {r s t : List ℕ} {e : List Event} → NameBytes r s t
      → Accepts u (behind_part (p ++ r) ns []) t e
      → Accepts u (tag_name ns p) s (tell_bytes r e)
  unfolding tell_bytes
  read_tag_name {ns} p no_name_byte a = tag_name_end (rw append-nil at a)
  read_tag_name p (name_byte_then {b = b} {r = r} h l) a =
      s_tag_name h ▸ read_tag_name (p ++ (b ∷ [])) l (rw (← append_assoc p (b ∷ []) r) at a)

  pub read_attribute_name : {n : Name} {ns seen : List Name} (p : Name) {r s t : List ℕ} {e : List Event} → NameBytes r s t
      → (u && used seen (p ++ r)) ≡ false
      → Accepts u (before_equals n ns ((p ++ r) ∷ seen)) t e → Accepts u (attribute_name n ns seen p) s (tell_bytes r e)
  unfolding tell_bytes
  read_attribute_name {n} {ns} {seen} p no_name_byte k a = attribute_end (rw append-nil at k) (rw append-nil at a)
  read_attribute_name p (name_byte_then {b = b} {r = r} h l) k a =
      s_attribute h ▸ read_attribute_name (p ++ (b ∷ [])) l (rw (← append_assoc p (b ∷ []) r) at k) (rw (← append_assoc p (b ∷ []) r) at a)

  -- values and texts
  read_value : {n : Name} {ns seen : List Name} {q : Quote} {s t c : List ℕ} {e : List Event} → Value q s t c
      → Accepts u (behind_part n ns seen) t e
      → Accepts u (in_value n ns seen q) s (tell_bytes c e)
  unfolding tell_bytes
  read_value value_close a = s_value_end ▸ a
  read_value (value_byte h v) a = s_value_byte h ▸ read_value v a
  read_value (value_refers r v) a = s_value_reference ▸ value_word (reference_word r) (read_value v a)

  read_quote : {n : Name} {ns seen : List Name} {q : Quote} {s t c : List ℕ} {e : List Event} → Value q s t c
      → Accepts u (behind_part n ns seen) t e
      → Accepts u (behind_quote n ns seen q) s (tell (suc (depth (n ∷ ns))) (text_node c) e)
  unfolding tell_bytes tell
  read_quote value_close a = s_quote_end ▸ a
  read_quote (value_byte h v) a = s_quote_byte h ▸ read_value v a
  read_quote (value_refers r v) a = s_quote_reference ▸ value_word (reference_word r) (read_value v a)

  read_text : {n : Name} {ns : List Name} {k : ℕ} {s t c : List ℕ} {e : List Event} → Chars k s t c → Accepts u (behind_open n ns) t e
      → Accepts u (in_text n ns k) s (tell_bytes c e)
  unfolding tell_bytes
  read_text chars_end a = s_text_open ▸ a
  read_text (chars_byte h x) a = s_text_byte h ▸ read_text x a
  read_text (chars_refers r x) a = s_text_reference ▸ text_word (reference_word r) (read_text x a)

  read_content : {n : Name} {ns : List Name} {b : ℕ} {s t c : List ℕ} {e : List Event} → Chars 0 s t (b ∷ c)
      → Accepts u (behind_open n ns) t e
      → Accepts u (content n ns) s (born (depth (n ∷ ns)) text_kind ∷ byte b ∷ tell_bytes c e)
  read_content (chars_byte h x) a = s_content_byte h ▸ read_text x a
  read_content (chars_refers r x) a = s_content_reference ▸ text_word (reference_word r) (read_text x a)

  pub read_end : {n : Name} {ns : List Name} (w : List ℕ) {s t : List ℕ} {e : List Event} → Blanks s (greater_than ∷ t)
      → Accepts u (closed ns) t e
      → Accepts u (end_name n ns w) (w ++ s) e
  read_end {n} {ns} [] x a = over_blanks (end_name n ns []) (λ b h. s_end_blank h) x (s_end_close ▸ a)
  read_end (b ∷ w) x a = s_end_byte ▸ read_end w x a

  read_equals : {n : Name} {ns seen : List Name} (q : Quote) {s t v : List ℕ} {e : List Event} → Blanks s (equals_sign ∷ t)
      → Blanks t (quote_byte q ∷ v)
      → Accepts u (behind_quote n ns seen q) v e → Accepts u (before_equals n ns seen) s e
  read_equals {n} {ns} {seen} q x y a =
      over_blanks (before_equals n ns seen) (λ b h. s_before_blank h) x
      (s_before_equals ▸ over_blanks (behind_equals n ns seen) (λ b h. s_equals_blank h) y (s_equals_quote q ▸ a))

  read_part : {p : Place} {s t : List ℕ} {f : Shape} {e : List Event} (ns : List Name) → Derives u p s f t → Accepts u (closed ns) t e
      → Accepts u (config_at p ns) s (tell (suc (depth ns)) f e)
  unfolding tell tell_bytes depth
  read_part ns (spacing h p) a = s_behind (tag_blank h) ▸ read_part ns p a
  read_part ns empty a = s_behind tag_slash ▸ s_slash ▸ a
  read_part ns (full p) a = s_behind tag_close ▸ read_part ns p a
  read_part ns (more p) a = no_attribute (read_part ns p a)
  read_part ns (derive_attribute q (name {b = b} h l) k x y v p) a =
      s_in_tag_name h ▸ read_attribute_name (b ∷ []) l k (read_equals q x y (read_quote v (read_part ns p a)))
  read_part ns (derive_text x p) a = read_content x (read_part ns p a)
  read_part ns (markup p) a = s_content_open ▸ read_part ns p a
  read_part ns (derive_element {n = n} (name {b = b} h l) p i) a =
      s_open_name h ▸ read_tag_name (b ∷ []) l (read_part (n ∷ ns) p (read_part ns i a))
  read_part ns (end_tag {n = n} x) a = s_open_slash ▸ read_end n x a

  read_epilog : {s : List ℕ} → Blanks s [] → Accepts u epilog s []
  read_epilog x = over_blanks epilog (λ b h. s_epilog h) x stay

  read_root : {s : List ℕ} {f : Shape} → Root u s f → Accepts u prolog s (tell 1 f [])
  unfolding tell tell_bytes depth
  read_root (root x (name {b = b} h l) p y) =
      over_blanks prolog (λ b h. s_prolog_blank h) x (s_prolog_open ▸ s_root_name h ▸ read_tag_name (b ∷ []) l
      (read_part [] p (read_epilog y)))

  read_bare : {s : List ℕ} {f : Shape} → Root u s f → Accepts u at_start s (tell 1 f [])
  unfolding tell tell_bytes depth
  read_bare (root no_blank (name {b = b} h l) p y) =
      s_start_open ▸ s_first_name h ▸ read_tag_name (b ∷ []) l (read_part [] p (read_epilog y))
  read_bare (root (blank_then k x) m p y) = s_start_blank k ▸ read_root (root x m p y)

  -- COMPLETE
  pub complete : {s : List ℕ} {f : Shape} → Parses u s f → Accepts u at_start s (tell 1 f [])
  complete (bare r) = read_bare r
  complete (declared_short r) = s_start_open ▸ s_first_declaration ▸ declaration_word (short_word _) (read_root r)
  complete (declared_long r) = s_start_open ▸ s_first_declaration ▸ declaration_word (long_word _) (read_root r)
