-- Bytes that have to spell characters: a name, and bytes from 128 on in a value or a text.
use Rattle.std.specs.Prelude.{ℕ, suc, ◌+◌, ◌-◌, ◌≤◌, ◌<◌, Bool, true, false, cond, List, [], ◌∷◌, ◌++◌, leb, length, get_or, take, drop, Result, Ok}
use Rattle.std.proofs.Math.Path.{◌≡◌, refl}
use Rattle.std.proofs.Common.{sym, ap, ◌∙◌, subst, arith, take-append-drop, drop-cons, length-take-le, leb-true, leb-false}
use Rattle.std.proofs.Math.Numerals.{add-one}
use Rattle.std.proofs.Math.Seq.{take-length}
use Rattle.tree.specs.Content.{content_limit, name_start, name_byte}
use Rattle.tree.specs.Spelling.{Spelling, spelling, spell, start_of, Fault, faultless, fault, later, fault_in}
use Rattle.tree.specs.Values.{reading_of}
use Rattle.xml.specs.Grammar.{Name}
use Rattle.xml.specs.Laws.Automaton.{Config, Move, to, step}
use Rattle.xml.specs.Laws.Monitor.{Monitor, on, seen, at_rest, is_on, see_bytes, FaultAt, no_fault, at_byte}
use Rattle.xml.specs.Laws.Monitor.{at_end}
use Rattle.xml.proofs.Laws.Monitor.{fault_seen}
use Rattle.xml.specs.Laws.Phases.{phase, is_over}
use Rattle.xml.specs.Laws.Judge.{Verdict, bad}
use Rattle.xml.specs.Laws.Scan.{scan_at}
use Rattle.xml.proofs.Laws.Scan.{scan_end, scan_stuck}
use Rattle.xml.proofs.Laws.Goes.{scan_cut}
use Rattle.xml.specs.Laws.Tokens.{span, name_at}
use Rattle.xml.proofs.Laws.Tokens.{span_length, span_behind, span_go}
use Rattle.xml.proofs.Laws.Taken.{Follows, name_follows, taken_all, taken_long, taken_broken}
use Rattle.xml_tokens.specs.declared.Cursor.{Cursor}
use Rattle.xml_tokens.specs.declared.Piece.{Piece}
use Rattle.xml_tokens.specs.Steps.{Run, Fits, fits, too_long, late_fault, early_fault, Quiet, no_step, quiet_step, NamePlace}
use Rattle.xml_tokens.specs.Steps.{NameRead, name_taken, name_unfit}
use Rattle.xml_tokens.specs.Laws.Spelling.{fault_first}
use Rattle.xml_tokens.specs.Laws.Runs.{run_passes}
use Rattle.protocol.specs.CauseNumbers.{number_of}
use Rattle.protocol.specs.declared.causes.Cause.{Cause}
use Rattle.protocol.specs.declared.causes.Cause.TheVariants.{NotOfGrammar, ContentOverLimit}
use Rattle.std.specs.Prelude.{Err}
use Rattle.xml_tokens.specs.Values.{refusal, piece}
use Rattle.xml_tokens.specs.declared.Refusal.{Refusal}

-- bytes that are told as they are, from c to d, behind k bytes of the content
module _ (s : List ℕ) (n : ℕ) {c d : Config} (l t : List ℕ) (i k : ℕ) (x : Monitor) (f : Follows c l d) (q : drop i s ≡ l ++ t) where
  pub all_taken : {v : Verdict} → FaultAt x l faultless → k + length l ≤ content_limit
      → ((z : Monitor) → see_bytes x l ≡ seen z → at_rest z ≡ true → is_on z ≡ is_on x
      → scan_at s d z n (k + length l) (i + length l) ≡ v)
      → scan_at s c x n k i ≡ v
  all_taken (no_fault z e r o) m g = taken_all s n l t i k x z f q e m ∙ g z e r o

  module _ (m : k ≤ content_limit) where
    pub too_many : FaultAt x l faultless → content_limit < k + length l → scan_at s c x n k i ≡ bad 5 (i + (content_limit - k))
    too_many (no_fault z e r o) h = taken_long s n l t (length l) i k x z f q (rw (take-length l) e) (omega arith) m h

    pub too_late : {j : ℕ} → FaultAt x l (fault j) → content_limit < k + j → scan_at s c x n k i ≡ bad 5 (i + (content_limit - k))
    too_late {j} (at_byte z h e u) a = taken_long s n l t j i k x z f q e (omega arith) m a
    too_late {j} (at_end z h e u) a =
        taken_long s n l t (length l) i k x z f q (rw (take-length l) e) (omega arith) m (omega arith)

  -- a byte is not taken, or the last character is cut
  pub cut_off : {j : ℕ} → FaultAt x l (fault j) → k + j ≤ content_limit
      → ((z : Monitor) → at_rest z ≡ false → scan_at s d z n (k + length l) (i + length l) ≡ bad 4 (i + length l))
      → scan_at s c x n k i ≡ bad 4 (i + j)
  cut_off {j} (at_byte z h e u) m g = taken_broken s n l t j i k x z f q e u h m
  cut_off {j} (at_end z h e u) m g = taken_all s n l t i k x z f q e (omega arith) ∙ g z u ∙ ap (bad 4) (omega arith)

-- as far as they are spelled
module _ (at to count : ℕ) {f : Fault} {r : Result (Unit {0}) ℕ} (q : r ≡ reading_of f) where
  whole_there : (x : Unit {0}) → r ≡ Ok x → f ≡ faultless
  unfolding reading_of
  whole_there x e = go f (sym q ∙ e)
    where
      go : (f : Fault) → reading_of f ≡ Ok x → f ≡ faultless
      go faultless e = refl
      go (fault n) e = cc

  broken_there : (n : ℕ) → r ≡ Err n → f ≡ fault n
  unfolding reading_of
  broken_there n e = go f (sym q ∙ e)
    where
      go : (f : Fault) → reading_of f ≡ Err n → f ≡ fault n
      go faultless e = cc
      go (fault m) e = cc

  pub fit_all : (x : Unit {0}) → r ≡ Ok x → count ≤ content_limit → to - at ≤ content_limit - count → (c : Cursor) → c.at ≡ to
      → Fits at to count f (Ok (piece c (count + (to - at))))
  fit_all x e h l c p = rw (whole_there x e) (fits {c = c} p refl (omega arith))

  pub fit_long : (x : Unit {0}) → r ≡ Ok x → content_limit - count < to - at
      → Fits at to count f (Err (refusal ContentOverLimit (at + (content_limit - count))))
  fit_long x e l = rw (whole_there x e) (too_long (omega arith) refl)

  pub fit_late : (n : ℕ) → r ≡ Err n → content_limit - count < n
      → Fits at to count f (Err (refusal ContentOverLimit (at + (content_limit - count))))
  fit_late n e l = rw (broken_there n e) (late_fault {n = n} (omega arith) refl)

  pub fit_broken : (n : ℕ) → r ≡ Err n → count ≤ content_limit → n ≤ content_limit - count
      → Fits at to count f (Err (refusal NotOfGrammar (at + n)))
  fit_broken n e h l = rw (broken_there n e) (early_fault {n = n} (omega arith) refl)

-- names ------------------------------------------------------------------------------------

-- the bytes of a name
pub name_of : (s : List ℕ) (from to : ℕ) → Run name_byte s from to → take (to - from) (drop from s) ≡ name_at s from
unfolding name_at
name_of s from to r = let p : to - from ≡ span name_byte (drop from s) = omega (arith, r.ends) in rw p

pub length_name : (s : List ℕ) (from to : ℕ) → Run name_byte s from to → length (name_at s from) ≡ to - from
unfolding name_at
length_name s from to r =
    length-take-le (span name_byte (drop from s)) (drop from s) (span_length name_byte (drop from s)) ∙ omega (arith, r.ends)

-- the first byte of a name, and the others
first_and_rest : (s : List ℕ) (at : ℕ) → at < length s → name_byte (get_or s at 0) ≡ true → name_at s at ≡ get_or s at 0 ∷ name_at s (suc at)
unfolding name_at
first_and_rest s at h e = rw (span_go name_byte s at h e, drop-cons s at 0 h)

-- behind a name no character goes on
cut_name : (s : List ℕ) (c : Config) (n k i : ℕ) (z : Monitor) → (i < length s → Quiet (step true c (get_or s i 0)))
    → is_over (phase c) ≡ false → at_rest z ≡ false → scan_at s c z n k i ≡ bad 4 i
cut_name s c n k i z f o r = go (leb (length s) i) refl
  where
    next : (h : i < length s) (m : Move) → step true c (get_or s i 0) ≡ m → Quiet m → scan_at s c z n k i ≡ bad 4 i
    next h m e no_step = scan_stuck s c z n k i h e
    next h m e (quiet_step {c = d}) = scan_cut s c n i h d e z r k

    go : (t : Bool) → leb (length s) i ≡ t → scan_at s c z n k i ≡ bad 4 i
    go true e = scan_end s c z n k i (leb-true (length s) i e) ∙ rw o
    go false e = let h = leb-false (length s) i e in next h (step true c (get_or s i 0)) refl (f h)

-- a fault behind the first byte
later_none : (g : Fault) → later g ≡ faultless → g ≡ faultless
later_none faultless e = refl
later_none (fault n) e = absurd (let z : ◌≡◌ {A = ℕ} 0 1 = cc in omega arith)

later_some : (g : Fault) (n : ℕ) → later g ≡ fault n → (m : ℕ) × (g ≡ fault m) × (n ≡ suc m)
later_some faultless n e = absurd (let z : ◌≡◌ {A = ℕ} 0 1 = cc in omega arith)
later_some (fault m) n e = (m, refl, cc)

-- the byte behind a name is none of it
pub name_ended : {s : List ℕ} {at end : ℕ} → Run name_byte s at end → end < length s → name_byte (get_or s end 0) ≡ false
name_ended {s} {at} r h = rw r.ends (span_behind name_byte s at (omega (arith, r.ends)))

pub start_name : (b : ℕ) → name_start b ≡ true → name_byte b ≡ true
unfolding name_byte
start_name b h = rw h

module _ (s : List ℕ) (at : ℕ) (inside : at < length s) (start : name_start (get_or s at 0) ≡ true) (end : ℕ)
    (r : Run name_byte s at end) where
  abbrev b : ℕ
  b = get_or s at 0

  abbrev rest : List ℕ
  rest = name_at s (suc at)

  name_is : name_at s at ≡ b ∷ rest
  name_is = first_and_rest s at inside (start_name b start)

  rest_long : suc (length rest) ≡ end - at
  rest_long = sym (ap length name_is) ∙ length_name s at end r

  abbrev spelled : Fault
  spelled = fault_in (start_of false) (take (end - at) (drop at s))

  module _ (y : Spelling) (e : spell (start_of false) b ≡ spelling y) where
    spelled_rest : spelled ≡ later (fault_in y rest)
    spelled_rest = ap (fault_in (start_of false)) (name_of s at end r ∙ name_is) ∙ fault_first (start_of false) y b rest e

    no_fault_in : spelled ≡ faultless → FaultAt (on y) rest faultless
    no_fault_in q = subst (FaultAt (on y) rest) (later_none (fault_in y rest) (sym spelled_rest ∙ q)) (fault_seen y rest)

    fault_at : (n : ℕ) → spelled ≡ fault n → (m : ℕ) × FaultAt (on y) rest (fault m) × (n ≡ suc m)
    fault_at n q =
        let x = later_some (fault_in y rest) n (sym spelled_rest ∙ q) in
        (x.0, subst (FaultAt (on y) rest) x.1 (fault_seen y rest), x.2)

    module _ (C : Name → Config) (p : NamePlace C) where
      follows : Follows (C (b ∷ [])) rest (C (b ∷ rest))
      unfolding name_at
      follows = name_follows p.naming (b ∷ []) rest (run_passes name_byte (drop (suc at) s))

      rest_here : drop (at + 1) s ≡ rest ++ drop (span name_byte (drop (suc at) s)) (drop (suc at) s)
      unfolding name_at
      rest_here = rw add-one (sym (take-append-drop (span name_byte (drop (suc at) s)) (drop (suc at) s)))

      cut : (m : ℕ) (z : Monitor) → at_rest z ≡ false
          → scan_at s (C (b ∷ rest)) z m (1 + length rest) (at + 1 + length rest) ≡ bad 4 (at + 1 + length rest)
      cut m z h =
          let q : at + 1 + length rest ≡ end = omega (arith, rest_long, r.ends) in
          rw q (cut_name s (C (b ∷ rest)) m (1 + length rest) end z
          (λ l. p.quiet (b ∷ rest) (get_or s end 0) (name_ended r l)) (p.going (b ∷ rest)) h)

  pub name_fits : {x : Result Piece Refusal} (f : Fault) → spelled ≡ f → Fits at end 0 f x → NameRead s at x
  name_fits f q (fits {c = c} {n = n} e a l) =
      let k : c.at - at ≤ content_limit = omega arith in
      name_taken {c = c} {n = n} (rw e r) k (λ C p m y g v h.
      all_taken s m rest _ (at + 1) 1 (on y) (follows y g C p) (rest_here y g C p) (no_fault_in y g q) (omega (arith, rest_long))
      (λ z i j o.
      let u : c.at - at ≡ 1 + length rest = omega (arith, rest_long) in
      let w : c.at ≡ at + 1 + length rest = omega (arith, rest_long, r.ends) in
      rw (u, w, name_is) at (h z o j)))
  name_fits f q (too_long {j = j} l e) = name_unfit {x = ContentOverLimit} {j = j} (λ C p m y g.
      too_many s m rest _ (at + 1) 1 (on y) (follows y g C p) (rest_here y g C p) (omega arith) (no_fault_in y g q)
      (omega (arith, rest_long)) ∙ ap (bad 5) (omega arith))
  name_fits f q (late_fault {n = n} {j = j} l e) = name_unfit {x = ContentOverLimit} {j = j} (λ C p m y g.
      let x = fault_at y g n q in
      too_late s m rest _ (at + 1) 1 (on y) (follows y g C p) (rest_here y g C p) (omega arith) x.1 (omega (arith, x.2))
      ∙ ap (bad 5) (omega arith))
  name_fits f q (early_fault {n = n} {j = j} l e) = name_unfit {x = NotOfGrammar} {j = j} (λ C p m y g.
      let x = fault_at y g n q in
      cut_off s m rest _ (at + 1) 1 (on y) (follows y g C p) (rest_here y g C p) x.1 (omega (arith, x.2)) (cut y g C p m)
      ∙ ap (bad 4) (omega (arith, x.2)))

pub name_run : {s : List ℕ} {at n : ℕ} {c : Cursor} → NameRead s at (Ok (piece c n)) → Run name_byte s at c.at × (c.at - at ≤ content_limit)
name_run (name_taken r l f) = (r, l)

-- behind a name
pub name_scan : {s : List ℕ} {at n : ℕ} {c : Cursor} → NameRead s at (Ok (piece c n)) → {C : Name → Config} → NamePlace C → (m : ℕ)
    → {y : Spelling} → spell (start_of false) (get_or s at 0) ≡ spelling y → {v : Verdict}
    → ((z : Monitor) → is_on z ≡ true → at_rest z ≡ true → scan_at s (C (name_at s at)) z m (c.at - at) c.at ≡ v)
    → scan_at s (C (get_or s at 0 ∷ [])) (on y) m 1 (at + 1) ≡ v
name_scan (name_taken r l f) {C} p m {y} e {v} g = f C p m y e v g

pub name_stops : {s : List ℕ} {at j : ℕ} {x : Cause} → NameRead s at (Err (refusal x j)) → {C : Name → Config} → NamePlace C → (m : ℕ) {y : Spelling}
    → spell (start_of false) (get_or s at 0) ≡ spelling y → scan_at s (C (get_or s at 0 ∷ [])) (on y) m 1 (at + 1) ≡ bad (number_of x) j
name_stops (name_unfit f) {C} p m {y} e = f C p m y e

pub quiet_either : {x y : Move} (t : Bool) → Quiet x → Quiet y → Quiet (cond t x y)
quiet_either true p q = p
quiet_either false p q = q
