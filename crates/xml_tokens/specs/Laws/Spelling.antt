-- Characters as a monitor sees them: the first byte of a content, bytes that are characters by themselves, whole characters of a text.
use Rattle.std.specs.Prelude.{ℕ, ◌<◌, ◌≡◌, refl, Bool, cond, List, [], ◌∷◌, eqb, ltb}
use Rattle.std.proofs.Common.{sym, ap, ◌∙◌, arith, ltb-true}
use Rattle.std.proofs.Math.Bool.{true, false}
use Rattle.std.proofs.lemmas.Bool.{false≢true}
use Rattle.tree.specs.Lists.{every}
use Rattle.tree.specs.Characters.{name_characters, text_characters}
use Rattle.tree.specs.Content.{text_kind, name_start, name_byte, text_byte}
use Rattle.tree.specs.Spelling.{Spelling, before, whole, Spelled, broken, spelling, spell, with_byte, first_part, possible, start_of}
use Rattle.tree.specs.Spelling.{faultless, later, fault_in}
use Rattle.tree.specs.Laws.Tests.{and_left, and_right}
use Rattle.tree.specs.Laws.Spelling.{spell_ascii, spell_behind, name_start_ascii, name_ascii, text_ascii}
use Rattle.xml.specs.Laws.Automaton.{Event, born, byte}
use Rattle.xml.specs.Laws.Monitor.{Monitor, off, on, seen, at_rest, is_on, seen_as, see_byte, content_of, then_see, see, monitor}
use Rattle.xml.specs.Laws.Monitor.{see_bytes}
use Rattle.xml.proofs.Laws.Monitor.{monitor_quiet, monitor_byte}
use Rattle.xml_tokens.specs.Classes.{ascii_name}
use Rattle.xml_tokens.specs.Steps.{text_monitor}

-- the first byte -----------------------------------------------------------------------------

module _ (text : Bool) (b : ℕ) where
  pub begins_none : possible (start_of text).here (first_part b) ≡ false → spell (start_of text) b ≡ broken
  unfolding spell with_byte
  begins_none h = go text h
    where
      go : (text : Bool) → possible (start_of text).here (first_part b) ≡ false → spell (start_of text) b ≡ broken
      go true h = rw h
      go false h = rw h

  pub begins_some : possible (start_of text).here (first_part b) ≡ true → (y : Spelling) × (spell (start_of text) b ≡ spelling y)
  unfolding spell with_byte
  begins_some h = go text h
    where
      some : (y : Spelling) (t : Bool) → t ≡ true → (z : Spelling) × (cond t (spelling y) broken ≡ spelling z)
      some y true h = (y, refl)
      some y false h = absurd (false≢true h)

      go : (text : Bool) → possible (start_of text).here (first_part b) ≡ true → (y : Spelling) × (spell (start_of text) b ≡ spelling y)
      go true h = some _ (possible (start_of true).here (first_part b)) h
      go false h = some _ (possible (start_of false).here (first_part b)) h

-- a node, told between two characters
pub monitor_born : (x : Monitor) → is_on x ≡ true → at_rest x ≡ true → (d k : ℕ) (v : List Event)
    → monitor x (born d k ∷ v) ≡ monitor (on (content_of k)) v
unfolding monitor see
monitor_born off o r d k v = absurd (false≢true o)
monitor_born (on y) o r d k [] = rw r (sym (monitor_quiet (on (content_of k)) (rests (eqb k text_kind))))
  where
    rests : (text : Bool) → whole (start_of text) ≡ true
    rests true = refl
    rests false = refl
monitor_born (on y) o r d k (a ∷ v) = rw r

-- with the first byte of a name
pub monitor_name : (x : Monitor) → is_on x ≡ true → at_rest x ≡ true → (d k b : ℕ) → content_of k ≡ start_of false
    → monitor x (born d k ∷ byte b ∷ []) ≡ seen_as (spell (start_of false) b)
monitor_name x o r d k b e = monitor_born x o r d k (byte b ∷ []) ∙ rw e (monitor_byte (on (start_of false)) b)

-- how bytes are spelled ----------------------------------------------------------------------

pub fault_first : (x y : Spelling) (b : ℕ) (l : List ℕ) → spell x b ≡ spelling y → fault_in x (b ∷ l) ≡ later (fault_in y l)
unfolding fault_in
fault_first x y b l e = rw e

-- characters of ASCII
name_next : (b : ℕ) → ascii_name b ≡ true
    → spell (before name_characters name_characters) b ≡ spelling (before name_characters name_characters)
unfolding ascii_name
name_next b h =
    let l = ltb-true b 128 (and_left (ltb b 128) (name_byte b) h) in
    spell_ascii (before name_characters name_characters) b refl l ∙ rw (name_ascii b l ∙ and_right (ltb b 128) (name_byte b) h)

plain_faultless : (l : List ℕ) → every ascii_name l ≡ true → fault_in (before name_characters name_characters) l ≡ faultless
unfolding fault_in
plain_faultless [] h = refl
plain_faultless (b ∷ l) h =
    rw (name_next b (and_left (ascii_name b) _ h)) (ap later (plain_faultless l (and_right (ascii_name b) _ h)))

pub ascii_faultless : (b : ℕ) (l : List ℕ) → name_start b ≡ true → b < 128 → every ascii_name l ≡ true
    → fault_in (start_of false) (b ∷ l) ≡ faultless
ascii_faultless b l s h e =
    fault_first (start_of false) (before name_characters name_characters) b l
    (spell_ascii (start_of false) b refl h ∙ rw (name_start_ascii b h ∙ s))
    ∙ ap later (plain_faultless l e)

-- texts --------------------------------------------------------------------------------------

pub text_seen : (b : ℕ) → text_byte b ≡ true → b < 128 → see_byte text_monitor b ≡ seen text_monitor
text_seen b t h =
    let p : spell (start_of true) b ≡ spelling (start_of true) = spell_ascii (start_of true) b refl h ∙ rw (text_ascii b h ∙ t) in
    ap seen_as p

-- behind whole characters of a text
whole_again : (l : List ℕ) (x : Spelling) (y : Monitor) → x.behind ≡ text_characters → (whole x ≡ true → x ≡ start_of true)
    → see_bytes (on x) l ≡ seen y → at_rest y ≡ true → y ≡ text_monitor
unfolding see_bytes
whole_again [] x y b w e r = let p : y ≡ on x = cc in p ∙ ap on (w (rw p at r))
whole_again (a ∷ l) x y b w e r = go (spell x a) refl e (λ z. whole_again l z y)
  where
    go : (q : Spelled) → spell x a ≡ q → then_see (seen_as q) (λ z. see_bytes z l) ≡ seen y
        → ((z : Spelling) → z.behind ≡ text_characters → (whole z ≡ true → z ≡ start_of true) → see_bytes (on z) l ≡ seen y
        → at_rest y ≡ true → y ≡ text_monitor)
        → y ≡ text_monitor
    go broken p e f = absurd (let z : ◌≡◌ {A = ℕ} 0 1 = cc in omega arith)
    go (spelling z) p e f = let k = spell_behind x z a p in f z (k.0 ∙ b) (λ h. k.1 h ∙ rw b) e r

pub text_again : (l : List ℕ) (y : Monitor) → see_bytes text_monitor l ≡ seen y → at_rest y ≡ true → y ≡ text_monitor
text_again l y e r = whole_again l (start_of true) y refl (λ h. refl) e r
