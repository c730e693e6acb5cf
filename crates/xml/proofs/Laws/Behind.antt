-- What is read behind a name, a value or a text: no byte is told before a node.
use Prim.Native.Nat.{ℕ, suc, ◌+◌, ◌<◌}
use Rattle.std.specs.Prelude.{◌≡◌, refl, Bool, true, false, leb, length, take, drop, get_or}
use Rattle.std.proofs.Common.{sym, ◌∙◌, add-one, drop_of_length-le, leb-true, leb-false}
use Rattle.std.proofs.Math.Path.{ap}
use Rattle.std.proofs.lemmas.Bool.{false≢true}
use mathlib.Core.List.{List, [], ◌∷◌, ◌++◌}
use native.Mathlib.Omega.{arith}
use Rattle.std.proofs.Math.Seq.{drop-cons}
use Rattle.tree.specs.Forest.{nil, node}
use Rattle.tree.specs.Content.{name_byte}
use Rattle.xml.specs.Shape.{Shape}
use Rattle.xml.specs.Grammar.{Name, text_node}
use Rattle.xml.specs.Laws.Automaton.{Config, epilog, tag_name, behind_part, before_equals, attribute_name, behind_open}
use Rattle.xml.specs.Laws.Automaton.{Event, byte, closed, on, tell_bytes, tell}
use Rattle.xml.proofs.Laws.Transitions.{Step, s_tag_name, s_tag_name_end, s_behind, s_attribute, s_attribute_blank, s_attribute_equals}
use Rattle.xml.proofs.Laws.Transitions.{s_before_blank, s_before_equals, step_is, forth}
use Rattle.xml.proofs.Laws.Sound.{Rest, r_behind, r_before, r_equals, r_quote, r_content, r_open, r_epilog, rest_of}
use Rattle.xml.specs.Laws.Complete.{Accepts}
use Rattle.xml.proofs.Laws.Unique.{Fresh, fresh_end, fresh_node}
use Rattle.xml.specs.Laws.Phases.{phase, is_over}
use Rattle.xml.specs.Laws.Tokens.{span, name_at, Naming}
use Rattle.xml.proofs.Laws.Tokens.{span_go}
use Rattle.xml.proofs.Laws.Tells.{nothing_read, tells_name}

-- a tree and what comes behind it
fresh_tell : (d : ℕ) (f : Shape) {e : List Event} → Fresh e → Fresh (tell d f e)
unfolding tell
fresh_tell d nil h = h
fresh_tell d (node a g f) h = fresh_node

closed_rest : (ns : List Name) {s : List ℕ} {e : List Event} → Rest true (closed ns) s e → Fresh e
closed_rest [] (r_epilog b) = fresh_end
closed_rest (n ∷ ns) (r_content {f = f} p r) = fresh_tell _ f (closed_rest ns r)

part_rest : {n : Name} {ns seen : List Name} {s : List ℕ} {e : List Event} → Rest true (behind_part n ns seen) s e → Fresh e
part_rest {ns = ns} (r_behind {f = f} p r) = fresh_tell _ f (closed_rest ns r)

equals_rest : {n : Name} {ns seen : List Name} {s : List ℕ} {e : List Event} → Rest true (before_equals n ns seen) s e → Fresh e
equals_rest (r_before x (r_equals q y (r_quote {c = c} v r))) = fresh_tell _ (text_node c) (part_rest r)

open_rest : {n : Name} {ns : List Name} {s : List ℕ} {e : List Event} → Rest true (behind_open n ns) s e → Fresh e
open_rest {ns = ns} (r_open {f = f} p r) = fresh_tell _ f (closed_rest ns r)

end_rest : {s : List ℕ} {e : List Event} → Rest true epilog s e → e ≡ []
end_rest (r_epilog b) = refl

pub part_fresh : {n : Name} {ns seen : List Name} {s : List ℕ} {e : List Event} → Accepts true (behind_part n ns seen) s e → Fresh e
part_fresh r = part_rest (rest_of r refl)

pub equals_fresh : {n : Name} {ns seen : List Name} {s : List ℕ} {e : List Event} → Accepts true (before_equals n ns seen) s e → Fresh e
equals_fresh r = equals_rest (rest_of r refl)

pub open_fresh : {n : Name} {ns : List Name} {s : List ℕ} {e : List Event} → Accepts true (behind_open n ns) s e → Fresh e
open_fresh r = open_rest (rest_of r refl)

-- behind the root element nothing is told
pub nothing_told : {s : List ℕ} {e : List Event} → Accepts true epilog s e → e ≡ []
nothing_told r = end_rest (rest_of r refl)

-- names ----------------------------------------------------------------------------------

-- what is read on from a configuration inside a document is not empty
pub some_byte : (s : List ℕ) (c : Config) (i : ℕ) {e : List Event} → is_over (phase c) ≡ false → Accepts true c (drop i s) e → i < length s
some_byte s c i h r = go (leb (length s) i) refl
  where
    go : (t : Bool) → leb (length s) i ≡ t → i < length s
    go true q = absurd (nothing_read h (rw (drop_of_length-le s (leb-true (length s) i q)) at r))
    go false q = leb-false (length s) i q

pub told_behind : (c : List ℕ) (l : List Event) → tell_bytes c [] ++ l ≡ tell_bytes c l
unfolding tell_bytes
told_behind [] l = refl
told_behind (b ∷ c) l = ap (λ (t : List Event). byte b ∷ t) (told_behind c l)

-- a name, from behind its first byte
module _ (s : List ℕ) (C : Name → Config) (f : Naming C) (a : ℕ) (inside : a < length s) (first : name_byte (get_or s a 0) ≡ true) where
  pub name_told : {e : List Event} → Accepts true (C (get_or s a 0 ∷ [])) (drop (a + 1) s) e
      → (l : List Event) × (byte (get_or s a 0) ∷ e ≡ tell_bytes (name_at s a) l)
      × Accepts true (C (name_at s a)) (drop (a + span name_byte (drop a s)) s) l
  unfolding name_at tell_bytes
  name_told {e} r =
      let m = span name_byte (drop (suc a) s) in
      let n = span_go name_byte s a inside first in
      let x = (tells_name s C f m (suc a) (get_or s a 0 ∷ []) (omega arith)).told e (rw (add-one a) at r) in
      let p : a + suc m ≡ suc a + m = omega arith in
      rw (n, drop-cons s a 0 inside, p)
      (x.0, ap (λ (t : List Event). byte (get_or s a 0) ∷ t) (x.1 ∙ told_behind (take m (drop (suc a) s)) x.0), x.2)

-- behind the last byte of a name
module _ (s : List ℕ) (i : ℕ) (inside : i < length s) (ended : name_byte (get_or s i 0) ≡ false) where
  pub tag_name_ended : {ns : List Name} {p : Name} {e : List Event} → Accepts true (tag_name ns p) (drop i s) e
      → Accepts true (behind_part p ns []) (drop i s) e
  tag_name_ended r = rw (drop-cons s i 0 inside) (go ended (rw (drop-cons s i 0 inside) at r))
    where
      conv : {b : ℕ} {ns : List Name} {p : Name} {d : Config} {v : List Event} → name_byte b ≡ false → Step true (tag_name ns p) b d v
          → Step true (behind_part p ns []) b d v
      conv q (s_tag_name h) = absurd (false≢true (sym q ∙ h))
      conv q (s_tag_name_end h t) = s_behind t

      go : {b : ℕ} {t : List ℕ} {ns : List Name} {p : Name} {e : List Event} → name_byte b ≡ false → Accepts true (tag_name ns p) (b ∷ t) e
          → Accepts true (behind_part p ns []) (b ∷ t) e
      go q (on h r) = on (forth (conv q (step_is h))) r

  pub attribute_name_ended : {n p : Name} {ns seen : List Name} {e : List Event} → Accepts true (attribute_name n ns seen p) (drop i s) e
      → Accepts true (before_equals n ns (p ∷ seen)) (drop i s) e
  attribute_name_ended r = rw (drop-cons s i 0 inside) (go ended (rw (drop-cons s i 0 inside) at r))
    where
      conv : {b : ℕ} {n p : Name} {ns seen : List Name} {d : Config} {v : List Event} → name_byte b ≡ false
          → Step true (attribute_name n ns seen p) b d v → Step true (before_equals n ns (p ∷ seen)) b d v
      conv q (s_attribute h) = absurd (false≢true (sym q ∙ h))
      conv q (s_attribute_blank k h) = s_before_blank h
      conv q (s_attribute_equals k) = s_before_equals

      go : {b : ℕ} {t : List ℕ} {n p : Name} {ns seen : List Name} {e : List Event} → name_byte b ≡ false
          → Accepts true (attribute_name n ns seen p) (b ∷ t) e → Accepts true (before_equals n ns (p ∷ seen)) (b ∷ t) e
      go q (on h r) = on (forth (conv q (step_is h))) r
