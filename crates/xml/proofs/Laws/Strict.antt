-- The reading with its monitor: what is read so is exactly what some document of the grammar begins with, inside a character too.
use Rattle.std.specs.Prelude.{ℕ, zero, suc, ◌≤◌, ◌≡◌, Bool, cond, ◌&&◌, ◌||◌, List, [], ◌∷◌, ◌++◌, ltb, replicate}
use Rattle.std.proofs.Math.Path.{refl}
use Rattle.std.proofs.Common.{sym, ap, ◌∙◌, subst, true≢false, append_assoc, arith}
use Rattle.std.proofs.Math.Bool.{true, false}
use Rattle.std.proofs.lemmas.Bool.{false≢true}
use Rattle.std.proofs.Math.Dec.{eqb, leb}
use borrow.Author.Tests.{leb-true, le-leb, lt-leb, ltb-true, ne_eqb}
use Rattle.tree.specs.Lists.{every}
use Rattle.tree.specs.Characters.{name_characters, text_characters}
use Rattle.tree.specs.Content.{name_start, name_byte, text_byte}
use Rattle.tree.specs.Spelling.{Spelling, Spelled, broken, spelling, before, whole, spell, possible, meets, breadth, with_byte, first_part}
use Rattle.tree.specs.Spelling.{start_of}
use Rattle.tree.specs.Laws.Tests.{and_left, and_right}
use Rattle.tree.specs.Laws.Reading.{spell_all}
use Rattle.tree.specs.Laws.Spelling.{spell_ascii, text_ascii, Completable, completable_before, spell_on, completing}
use Rattle.xml.specs.Bytes.{blank, Quote, double, single, value_literal, normalized, text_literal, brackets}
use Rattle.xml.specs.Reading.{Viable}
use Rattle.xml.specs.Laws.Automaton.{Config, at_start, behind_first, prolog, behind_root, epilog, declaration, tag_name, behind_part}
use Rattle.xml.specs.Laws.Automaton.{in_tag, before_equals, behind_equals, behind_slash, attribute_name, behind_quote, in_value}
use Rattle.xml.specs.Laws.Automaton.{value_reference, content, behind_open, in_text, text_reference, end_name, Event, byte}
use Rattle.xml.specs.Laws.Automaton.{move, step, Reads, stay, on, tell_bytes}
use Rattle.xml.proofs.Laws.Transitions.{Step, step_is}
use Rattle.xml.proofs.Laws.Sound.{sound}
use Rattle.xml.specs.Laws.Complete.{Accepts}
use Rattle.xml.proofs.Laws.Complete.{complete}
use Rattle.xml.proofs.Laws.Unique.{one_run}
use Rattle.xml.proofs.Laws.Completions.{Closing, closing_root, closing_nothing, closing_name, closing_value, closing_text, completion}
use Rattle.xml.proofs.Laws.Completions.{join}
use Rattle.xml.specs.Laws.Monitor as monitor
use Rattle.xml.specs.Laws.Monitor.{Monitor, Seen, unspelled, seen, at_rest, seen_as, then_see, see, monitor}
use Rattle.xml.proofs.Laws.Monitor.{monitor_byte}
use Rattle.xml.proofs.Laws.Monitored.{not_seen, see_append, seen_spelled, spelled_seen}
use Rattle.xml.proofs.Laws.Invariant.{plain, Invariant, step_invariant}
use Rattle.xml.proofs.Laws.Outer.{quiet_whole}

-- the bytes s are read from c to d and seen from x to y; e is what they tell
pub data Strict : (c : Config) (x : Spelling) (s : List ℕ) (e : List Event) (d : Config) (y : Spelling) → Type 0 where
  strict_stay : {c : Config} {x : Spelling} → Strict c x [] [] c x
  strict_on : {c d a : Config} {x y z : Spelling} {b : ℕ} {s : List ℕ} {v w : List Event} → step true c b ≡ move d v
      → monitor (monitor.on x) v ≡ seen (monitor.on y) → Strict d y s w a z → Strict c x (b ∷ s) (v ++ w) a z

pub strict_reads : {c d : Config} {x y : Spelling} {s : List ℕ} {e : List Event} → Strict c x s e d y → Reads true c s e d
strict_reads strict_stay = stay
strict_reads (strict_on h k r) = on h (strict_reads r)

monitor_see : (x : Monitor) (v : List Event) {y : Monitor} → monitor x v ≡ seen y → see x v ≡ seen y
unfolding monitor see
monitor_see x [] {y} h = go (at_rest x) h
  where
    go : (t : Bool) → cond t (seen x) unspelled ≡ seen y → seen x ≡ seen y
    go true h = h
    go false h = absurd (not_seen h)
monitor_see x (a ∷ v) h = h

pub strict_seen : {c d : Config} {x y : Spelling} {s : List ℕ} {e : List Event} → Strict c x s e d y
    → see (monitor.on x) e ≡ seen (monitor.on y)
unfolding see
strict_seen strict_stay = refl
strict_seen (strict_on {x = x} {v = v} {w = w} h k r) =
    see_append (monitor.on x) v w ∙ ap (λ (q : Seen). then_see q (λ y. see y w)) (monitor_see (monitor.on x) v k) ∙ strict_seen r

pub strict_invariant : {c d : Config} {x y : Spelling} {s : List ℕ} {e : List Event} → Strict c x s e d y → Invariant c x → Completable x
    → Invariant d y × Completable y
strict_invariant strict_stay h a = (h, a)
strict_invariant {c} {d} (strict_on {d = m} {x = x} {y = y} h k r) s a =
    let n = step_invariant (step_is h) x s k in
    let p : n.after ≡ y = cc_on n.is in
    strict_invariant r (subst (Invariant m) p n.invariant) (subst Completable p (n.completable a))
  where
    cc_on : {y z : Spelling} → monitor.on y ≡ monitor.on z → z ≡ y
    cc_on e = cc

pub strict_join : {c d a : Config} {x y z : Spelling} {s t : List ℕ} {v e : List Event} → Strict c x s v d y → Strict d y t e a z
    → Strict c x (s ++ t) (v ++ e) a z
strict_join strict_stay r = r
strict_join (strict_on {v = v} {w = w} h k q) r = rw (append_assoc v w) (strict_on h k (strict_join q r))

pub record StrictCut (c : Config) (x : Spelling) (s t : List ℕ) (e : List Event) (a : Config) (z : Spelling) : Type 0 where
  pub middle : Config
  pub so_far : Spelling
  pub told_before : List Event
  pub told_after : List Event
  pub first_part : Strict c x s told_before middle so_far
  pub second_part : Strict middle so_far t told_after a z
  pub events : e ≡ told_before ++ told_after

pub strict_cut : {c a : Config} {x z : Spelling} (s t : List ℕ) {e : List Event} → Strict c x (s ++ t) e a z → StrictCut c x s t e a z
strict_cut [] t {e} r =
    record { middle = _; so_far = _; told_before = []; told_after = e; first_part = strict_stay; second_part = r; events = refl }
strict_cut (b ∷ s) t (strict_on {v = v} {w = w} h k r) =
    let q = strict_cut s t r in
    record {
      middle = q.middle;
      so_far = q.so_far;
      told_before = v ++ q.told_before;
      told_after = q.told_after;
      first_part = strict_on h k q.first_part;
      second_part = q.second_part;
      events = ap (λ (l : List Event). v ++ l) q.events ∙ sym (append_assoc v q.told_before q.told_after);
    }

-- a reading that is seen to its end ------------------------------------------------------------

abbrev Ended : Config → Spelling → List ℕ → List Event → Type 0
Ended c x s e = (y : Spelling) × Strict c x s e epilog y

seen_first : (x : Monitor) (v w : List Event) {z : Monitor} → see x (v ++ w) ≡ seen z
    → (y : Monitor) × (see x v ≡ seen y) × (see y w ≡ seen z)
seen_first x v w {z} h = go (see x v) refl (sym (see_append x v w) ∙ h)
  where
    go : (r : Seen) → see x v ≡ r → then_see r (λ y. see y w) ≡ seen z → (y : Monitor) × (see x v ≡ seen y) × (see y w ≡ seen z)
    go unspelled e h = absurd (not_seen h)
    go (seen y) e h = (y, e, h)

monitored : (c : Config) {d : Config} {b : ℕ} {t : List ℕ} {w : List Event} (x : Spelling) (v : List Event) (y : Monitor) {z : Monitor}
    → Invariant c x
    → Step true c b d v → Accepts true d t w → see (monitor.on x) v ≡ seen y → see y w ≡ seen z → at_rest z ≡ true
    → monitor (monitor.on x) v ≡ seen y
unfolding monitor see
monitored c x [] y s g r e f o =
    let p : y ≡ monitor.on x = cc in
    rw (quiet_whole x c s g r (rw p at f) o) e
monitored c x (a ∷ v) y s g r e f o = e

strict_of : {c : Config} {s : List ℕ} {e : List Event} (x : Spelling) {z : Monitor} → Accepts true c s e → Invariant c x
    → see (monitor.on x) e ≡ seen z → at_rest z ≡ true → Ended c x s e
strict_of x stay s h o = (x, strict_stay)
strict_of {c} x {z} (on {d = d} {v = v} {w = w} h r) s k o =
    let q = seen_first (monitor.on x) v w k in
    let m = monitored c x v q.0 s (step_is h) r q.1 q.2 o in
    let n = step_invariant (step_is h) x s m in
    let i : see (monitor.on n.after) w ≡ seen z = rw n.is at q.2 in
    let j = strict_of n.after r n.invariant i o in
    (j.0, strict_on h (m ∙ ap seen n.is) j.1)

-- before the first byte
abbrev pub initial : Spelling
initial = start_of false

-- VIABLE, one way: what some document begins with is read
pub viable_strict : (p : List ℕ) → Viable p → (c : Config) × (v : List Event) × (x : Spelling) × Strict at_start initial p v c x
viable_strict p k =
    let parsed = k.2.0 in
    let j = spelled_seen parsed initial k.2.1 refl in
    let r = strict_of initial (complete parsed) refl j.2 j.1 in
    let q = strict_cut p k.0 r.1 in
    (q.middle, q.told_before, q.so_far, q.first_part)

-- a character that is begun is completed -----------------------------------------------------

-- where bytes stand for themselves
abbrev going : Config → Bool
going at_start = false
going behind_first = false
going prolog = false
going behind_root = false
going epilog = false
going (declaration w) = false
going (tag_name ns p) = true
going (behind_part n ns l) = false
going (in_tag n ns l) = false
going (before_equals n ns l) = false
going (behind_equals n ns l) = false
going (behind_slash ns) = false
going (attribute_name n ns l p) = true
going (behind_quote n ns l q) = false
going (in_value n ns l q) = true
going (value_reference n ns l q w) = false
going (content n ns) = false
going (behind_open n ns) = false
going (in_text n ns k) = true
going (text_reference n ns w) = false
going (end_name n ns w) = false

begun_going : (c : Config) (x : Spelling) → Invariant c x → whole x ≡ false → going c ≡ true
begun_going at_start x s h = absurd (true≢false (sym s ∙ h))
begun_going behind_first x s h = absurd (true≢false (sym s ∙ h))
begun_going prolog x s h = absurd (true≢false (sym s ∙ h))
begun_going behind_root x s h = absurd (true≢false (sym s ∙ h))
begun_going epilog x s h = absurd (true≢false (sym s ∙ h))
begun_going (declaration w) x s h = absurd (true≢false (sym s ∙ h))
begun_going (tag_name ns p) x s h = refl
begun_going (behind_part n ns l) x s h = absurd (true≢false (sym s ∙ h))
begun_going (in_tag n ns l) x s h = absurd (true≢false (sym s ∙ h))
begun_going (before_equals n ns l) x s h = absurd (true≢false (sym s ∙ h))
begun_going (behind_equals n ns l) x s h = absurd (true≢false (sym s ∙ h))
begun_going (behind_slash ns) x s h = absurd (true≢false (sym s ∙ h))
begun_going (attribute_name n ns l p) x s h = refl
begun_going (behind_quote n ns l q) x s h = absurd (true≢false (sym s ∙ h))
begun_going (in_value n ns l q) x s h = refl
begun_going (value_reference n ns l q w) x s h = absurd (true≢false (sym s.1 ∙ h))
begun_going (content n ns) x s h = absurd (true≢false (sym s ∙ h))
begun_going (behind_open n ns) x s h = absurd (true≢false (sym s ∙ h))
begun_going (in_text n ns k) x s h = refl
begun_going (text_reference n ns w) x s h = absurd (true≢false (sym s.1 ∙ h))
begun_going (end_name n ns w) x s h = absurd (true≢false (sym s ∙ h))

-- a byte from 128 on stands for itself there
module _ (b : ℕ) (h : 128 ≤ b) where
  high_name : name_byte b ≡ true
  unfolding name_byte name_start
  high_name = rw (le-leb 128 b h, lt-leb b 90 (omega arith), lt-leb b 122 (omega arith), ne_eqb b 95 (λ e. omega arith))
      (go (leb 65 b) (leb 97 b))
    where
      go : (x y : Bool) → (((x && false) || (y && false) || false || true) || (leb 48 b && leb b 57) || eqb b 45 || eqb b 46) ≡ true
      go true true = refl
      go true false = refl
      go false true = refl
      go false false = refl

  high_value : (q : Quote) → value_literal q b ≡ true
  unfolding value_literal text_byte
  high_value double =
      rw (
        ne_eqb b 9 (λ e. omega arith),
        ne_eqb b 10 (λ e. omega arith),
        le-leb 32 b (omega arith),
        ne_eqb b 60 (λ e. omega arith),
        ne_eqb b 38 (λ e. omega arith),
        ne_eqb b 34 (λ e. omega arith),
      )
  high_value single =
      rw (
        ne_eqb b 9 (λ e. omega arith),
        ne_eqb b 10 (λ e. omega arith),
        le-leb 32 b (omega arith),
        ne_eqb b 60 (λ e. omega arith),
        ne_eqb b 38 (λ e. omega arith),
        ne_eqb b 39 (λ e. omega arith),
      )

  high_text : (k : ℕ) → text_literal k b ≡ true
  unfolding text_literal text_byte
  high_text k =
      rw (
        ne_eqb b 9 (λ e. omega arith),
        ne_eqb b 10 (λ e. omega arith),
        le-leb 32 b (omega arith),
        ne_eqb b 60 (λ e. omega arith),
        ne_eqb b 38 (λ e. omega arith),
        ne_eqb b 62 (λ e. omega arith),
      )

  high_normalized : normalized b ≡ b
  unfolding normalized blank
  high_normalized = rw (ne_eqb b 9 (λ e. omega arith), ne_eqb b 10 (λ e. omega arith), ne_eqb b 32 (λ e. omega arith))

  high_step : (c : Config) → going c ≡ true → (d : Config) × (going d ≡ true) × (step true c b ≡ move d (byte b ∷ []))
  unfolding step
  high_step at_start g = absurd (false≢true g)
  high_step behind_first g = absurd (false≢true g)
  high_step prolog g = absurd (false≢true g)
  high_step behind_root g = absurd (false≢true g)
  high_step epilog g = absurd (false≢true g)
  high_step (declaration w) g = absurd (false≢true g)
  high_step (tag_name ns p) g = (tag_name ns (p ++ (b ∷ [])), refl, rw high_name)
  high_step (behind_part n ns l) g = absurd (false≢true g)
  high_step (in_tag n ns l) g = absurd (false≢true g)
  high_step (before_equals n ns l) g = absurd (false≢true g)
  high_step (behind_equals n ns l) g = absurd (false≢true g)
  high_step (behind_slash ns) g = absurd (false≢true g)
  high_step (attribute_name n ns l p) g = (attribute_name n ns l (p ++ (b ∷ [])), refl, rw high_name)
  high_step (behind_quote n ns l q) g = absurd (false≢true g)
  high_step (in_value n ns l q) g = (in_value n ns l q, refl, rw (high_value q, high_normalized))
  high_step (value_reference n ns l q w) g = absurd (false≢true g)
  high_step (content n ns) g = absurd (false≢true g)
  high_step (behind_open n ns) g = absurd (false≢true g)
  high_step (in_text n ns k) g = (in_text n ns (brackets k b), refl, rw (high_text k))
  high_step (text_reference n ns w) g = absurd (false≢true g)
  high_step (end_name n ns w) g = absurd (false≢true g)

-- so all of them are read
high_run : (c : Config) (x y : Spelling) (t : List ℕ) → going c ≡ true → every (λ b. leb 128 b) t ≡ true → spell_all x t ≡ spelling y
    → (d : Config) × (e : List Event) × Strict c x t e d y
unfolding spell_all
high_run c x y [] g h e = let p : x ≡ y = cc in (c, [], subst (λ (z : Spelling). Strict c x [] [] c z) p strict_stay)
high_run c x y (b ∷ t) g h e =
    let l = leb-true 128 b (and_left (leb 128 b) _ h) in
    let s = high_step b l c g in
    go (spell x b) refl e s.0 s.2 (λ z k. high_run s.0 z y t s.1 (and_right (leb 128 b) _ h) k)
  where
    go : (r : Spelled) → spell x b ≡ r → spell_on r (λ z. spell_all z t) ≡ spelling y
        → (m : Config) → step true c b ≡ move m (byte b ∷ [])
        → ((z : Spelling) → spell_all z t ≡ spelling y → (d : Config) × (e : List Event) × Strict m z t e d y)
        → (d : Config) × (e : List Event) × Strict c x (b ∷ t) e d y
    go broken e h m s f = absurd (let z : ◌≡◌ {A = ℕ} 0 1 = cc in omega arith)
    go (spelling z) e h m s f =
        let r = f z h in
        (r.0, byte b ∷ r.1, strict_on s (monitor_byte (monitor.on x) b ∙ ap seen_as e) r.2)

-- completions that are seen ------------------------------------------------------------------

-- the letter A goes on with any name, and begins one
letter_first : spell initial 65 ≡ spelling (before name_characters name_characters)
unfolding spell possible meets breadth with_byte first_part
letter_first = refl

letter_next : spell (before name_characters name_characters) 65 ≡ spelling (before name_characters name_characters)
unfolding spell possible meets breadth with_byte first_part
letter_next = refl

plain_next : (k : ℕ) → plain k ≡ true → spell (before text_characters text_characters) k ≡ spelling (before text_characters text_characters)
plain_next k h =
    let l = ltb-true k 128 (and_left (ltb k 128) _ h) in
    spell_ascii (before text_characters text_characters) k refl l
    ∙ rw (text_ascii k l ∙ and_right (ltb k 128) (text_byte k) h)

letters_seen : (m : ℕ) → see (monitor.on (before name_characters name_characters)) (tell_bytes (replicate m 65) [])
    ≡ seen (monitor.on (before name_characters name_characters))
unfolding see tell_bytes
letters_seen zero = refl
letters_seen (suc m) = rw letter_next (letters_seen m)

closing_seen : {c : Config} {e : List Event} (x : Spelling) → Closing c e → Invariant c x → whole x ≡ true
    → (z : Monitor) × (see (monitor.on x) e ≡ seen z) × (at_rest z ≡ true)
unfolding see
closing_seen x closing_root s w = (monitor.on (before name_characters name_characters), rw (w, letter_first) refl, refl)
closing_seen x closing_nothing s w = (monitor.on x, refl, w)
closing_seen x (closing_name m) s w =
    let p = s.resting w in (monitor.on (before name_characters name_characters), rw p (letters_seen m), refl)
closing_seen x (closing_value {s = a} {t = t} {k = k} r) s w =
    let p = s.0.resting w in (monitor.on (before text_characters text_characters), rw (p, plain_next k (s.2 a t k r)) refl, refl)
closing_seen x (closing_text {s = a} {t = t} {k = k} r) s w =
    let p = s.0.resting w in (monitor.on (before text_characters text_characters), rw (p, plain_next k (s.2 a t k r)) refl, refl)

-- VIABLE, the other way: what is read is the beginning of a document
between_viable : {p : List ℕ} {v : List Event} {c : Config} {x : Spelling} → Strict at_start initial p v c x → whole x ≡ true → Viable p
between_viable {p} {v} {c} {x} r w =
    let m = completion true c in
    let d = sound (join (strict_reads r) m.run) in
    let q = closing_seen x m.closing (strict_invariant r refl (completable_before _ _)).0 w in
    let k : see (monitor.on initial) (v ++ m.events) ≡ seen q.0 =
    see_append (monitor.on initial) v m.events ∙ ap (λ (i : Seen). then_see i (λ y. see y m.events)) (strict_seen r) ∙ q.1 in
    (m.bytes, d.0, (d.1, seen_spelled d.1 initial (rw d.2 at k) q.2))

pub strict_viable : {p : List ℕ} {v : List Event} {c : Config} {x : Spelling} → Strict at_start initial p v c x → Viable p
strict_viable {p} {v} {c} {x} r = go (whole x) refl
  where
    invariant : Invariant c x × Completable x
    invariant = strict_invariant r refl (completable_before _ _)

    go : (t : Bool) → whole x ≡ t → Viable p
    go true e = between_viable r e
    go false e =
        let q = completing x invariant.1 in
        let h = high_run c x q.2.0 q.0 (begun_going c x invariant.0 e) q.1 q.2.1 in
        let y = between_viable (strict_join r h.2) q.2.2 in
        (q.0 ++ y.0, y.1, rw append_assoc at y.2)

-- the reading is a function ------------------------------------------------------------------

pub strict_same : {c d d' : Config} {x y y' : Spelling} {s : List ℕ} {v v' : List Event} → Strict c x s v d y → Strict c x s v' d' y'
    → (d ≡ d') × (y ≡ y')
strict_same {c} {d} {d'} {x} {y} {y'} {s} {v} {v'} r q =
    let o = one_run (strict_reads r) (strict_reads q) in
    let p = o.0 in
    let h : see (monitor.on x) v ≡ seen (monitor.on y) = strict_seen r in
    let k : see (monitor.on x) v' ≡ seen (monitor.on y') = strict_seen q in
    let z : seen (monitor.on y) ≡ seen (monitor.on y') = sym h ∙ ap (see (monitor.on x)) p ∙ k in
    (o.1, (cc))
