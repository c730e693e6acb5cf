-- What is told between two offsets of an input that is read to its end. Where nothing is told, one law serves judging an input and filling
-- a table with its nodes.
use Prim.Native.Nat.{ℕ, zero, suc, ◌+◌, ◌-◌, ◌≤◌, ◌<◌}
use Rattle.std.specs.Prelude.{◌≡◌, refl, false, take}
use Rattle.std.proofs.Math.Path.{sym, ap}
use Rattle.std.proofs.Common.{◌∙◌, subst, add-one, le-ltb}
use Rattle.std.proofs.Math.Bool.{true}
use Rattle.std.proofs.lemmas.Bool.{false≢true}
use mathlib.Core.List.{List, [], ◌∷◌, ◌++◌, append_assoc, append-nil}
use native.Mathlib.Omega.{arith}
use Rattle.std.proofs.Math.ListN.{length, drop, get_or, length-drop}
use Rattle.std.proofs.Math.Seq.{drop-cons}
use Rattle.tree.specs.Content.{content_limit, name_byte}
use Rattle.xml.specs.Bytes.{blank}
use Rattle.xml.specs.Grammar.{Name}
use Rattle.xml.specs.Laws.Words.{Words, Found, no_word, whole, begun, follow}
use Rattle.xml.specs.Laws.Automaton.{Config, Event, born, byte, stuck, move, to, word_step, step, stay, on, tell_bytes}
use Rattle.xml.specs.Laws.Counts.{births, tail, peak}
use Rattle.xml.proofs.Laws.Counts.{births_append, peak_append}
use Rattle.xml.specs.Laws.Phases.{phase, is_over, pending}
use Rattle.xml.proofs.Laws.Phases.{pending_told}
use Rattle.xml.proofs.Laws.Sound.{rest_of}
use Rattle.xml.specs.Laws.Complete.{Accepts}
use Rattle.xml.specs.Laws.Forces.{extent}
use Rattle.xml.specs.Laws.Monitor.{off}
use Rattle.xml.proofs.Laws.Monitor.{monitor_off}
use Rattle.xml.specs.Laws.Judge.{fine, bad}
use Rattle.xml.specs.Laws.Scan.{scan, scan_at}
use Rattle.xml.specs.Laws.Goes.{Leads}
use Rattle.xml.proofs.Laws.Goes.{goes_then, goes_same, goes_step}
use Rattle.xml.specs.Laws.Tokens.{span, Naming, Reach, got, lost, one_more, reached, reach, Wording}
use Rattle.xml.proofs.Laws.Tokens.{span_some, goes_blanks}
use Rattle.xml.specs.Laws.Tells.{Tells, Passes}

pub tells_same : (s : List ℕ) (c : Config) (i j : ℕ) → i ≡ j → Tells s c i [] c j
tells_same s c i j p = record { told = λ e r. (e, refl, subst (λ (k : ℕ). Accepts true c (drop k s) e) p r) }

pub tells_then : {s : List ℕ} {c d a : Config} {i j k : ℕ} (v : List Event) {w : List Event} → Tells s c i v d j → Tells s d j w a k
    → Tells s c i (v ++ w) a k
tells_then v {w} f g = record {
  told = λ e r.
      let x = f.told e r in
      let y = g.told x.0 x.2 in
      (y.0, x.1 ∙ ap (λ (l : List Event). v ++ l) y.1 ∙ sym (append_assoc v w y.0), y.2);
}

-- what is not read: nothing inside a document, and a byte with which it does not go on
pub nothing_read : {c : Config} {e : List Event} → is_over (phase c) ≡ false → Accepts true c [] e → ⊥
nothing_read h stay = false≢true (sym h)

pub no_step : {c : Config} {b : ℕ} {s : List ℕ} {e : List Event} → step true c b ≡ stuck → Accepts true c (b ∷ s) e → ⊥
no_step h (on k r) = let p = sym h ∙ k in let z : ◌≡◌ {A = ℕ} 0 1 = cc in omega arith

-- one byte
one_step : {c d : Config} {b : ℕ} {s : List ℕ} {v e : List Event} → step true c b ≡ move d v → Accepts true c (b ∷ s) e
    → (l : List Event) × (e ≡ v ++ l) × Accepts true d s l
one_step {c} {d} {b} {s} {v} h (on {d = x} {v = v'} {w = w} k r) =
    let e : move d v ≡ move x v' = sym h ∙ k in
    let p : d ≡ x = cc in
    let q : v ≡ v' = cc in
    (w, ap (λ (l : List Event). l ++ w) (sym q), subst (λ (a : Config). Accepts true a s w) (sym p) r)

module _ (s : List ℕ) (c : Config) (i : ℕ) where
  pub tells_step : i < length s → (d : Config) (v : List Event) → step true c (get_or s i 0) ≡ move d v → Tells s c i v d (i + 1)
  tells_step h d v e = record { told = λ l r. rw (add-one i) (one_step e (rw (drop-cons s i 0 h) at r)) }

  -- configurations that take the same step
  pub read_alike : (d : Config) → i < length s → step true c (get_or s i 0) ≡ step true d (get_or s i 0) → {l : List Event}
      → Accepts true c (drop i s) l → Accepts true d (drop i s) l
  read_alike d h e {l} r = rw (drop-cons s i 0 h) (go (rw (drop-cons s i 0 h) at r))
    where
      go : {t : List ℕ} {l : List Event} → Accepts true c (get_or s i 0 ∷ t) l → Accepts true d (get_or s i 0 ∷ t) l
      go (on k r) = on (sym e ∙ k) r

-- a step that tells of a node besides
pub tells_born : (s : List ℕ) (c d : Config) (i : ℕ) → i < length s → (a : Config) (x y : ℕ) (w : List Event)
    → step true c (get_or s i 0) ≡ move a (born x y ∷ w) → step true d (get_or s i 0) ≡ move a w → Tells s c i (born x y ∷ []) d i
tells_born s c d i h a x y w e f = record {
  told = λ l r.
      let z = one_step e (rw (drop-cons s i 0 h) at r) in
      (w ++ z.0, z.1, rw (drop-cons s i 0 h) (on f z.2));
}

-- the bytes of a name
module _ (s : List ℕ) (C : Name → Config) (f : Naming C) where
  pub tells_name : (m i : ℕ) (p : Name) → m ≤ span name_byte (drop i s)
      → Tells s (C p) i (tell_bytes (take m (drop i s)) []) (C (p ++ take m (drop i s))) (i + m)
  unfolding tell_bytes
  tells_name zero i p h = rw (append-nil p) (tells_same s (C p) i (i + 0) (omega arith))
  tells_name (suc m) i p h =
      let x = span_some name_byte s i m h in
      let b = get_or s i 0 in
      let one = tells_step s (C p) i x.0 (C (p ++ (b ∷ []))) (byte b ∷ []) (f.next p b x.1) in
      let more = tells_name m (suc i) (p ++ (b ∷ [])) x.2 in
      let v : i + suc m ≡ suc i + m = omega arith in
      rw (v, drop-cons s i 0 x.0, ← append_assoc p (b ∷ []) (take m (drop (suc i) s)))
      (tells_then (byte b ∷ []) (rw (add-one i) at one) more)

-- a word of a set
module _ (s : List ℕ) (C : Words → Config) (d : Config) (w : ℕ → List Event) (f : Wording C d w) where
  abbrev Word : Config → ℕ → Reach → Type 0
  Word c i (got b n) = Tells s c i (w b) d (i + n)
  Word c i (lost n) = (e : List Event) → Accepts true c (drop i s) e → ⊥

  word_more : (c a : Config) (i : ℕ) (r : Reach) → Tells s c i [] a (i + 1) → Word a (suc i) r → Word c i (one_more r)
  word_more c a i (got b n) t x =
      let p : suc i + n ≡ i + suc n = omega arith in
      tells_then [] (rw (add-one i) at t) (rw p at x)
  word_more c a i (lost n) t x = λ e r. let y = t.told e r in x y.0 (rw (add-one i) at y.2)

  word_told : (t : List ℕ) (x : Words) (i : ℕ) → drop i s ≡ t → Word (C x) i (reach x t)
  unfolding reach
  word_told [] x i q = λ e r. nothing_read (f.calm x) (rw q at r)
  word_told (b ∷ t) x i q =
      let h : i < length s = omega (arith, ap length q, length-drop i s) in
      let z : get_or s i 0 ∷ drop (suc i) s ≡ b ∷ t = sym (drop-cons s i 0 h) ∙ q in
      let u : get_or s i 0 ≡ b = cc in
      let v : drop (suc i) s ≡ t = cc in
      go h (follow x b) (ap (step true (C x)) u ∙ f.next x b) (λ y. word_told t y (suc i) v)
    where
      go : i < length s → (r : Found) → step true (C x) (get_or s i 0) ≡ word_step r (λ k. move d (w k)) (λ y. to (C y))
          → ((y : Words) → Word (C y) (suc i) (reach y t)) → Word (C x) i (reached r (λ y. reach y t))
      go h no_word a g = λ e r. no_step a (rw (drop-cons s i 0 h) at r)
      go h (whole v) a g = tells_step s (C x) i h d (w v) a
      go h (begun y) a g = word_more (C x) (C y) i (reach y t) (tells_step s (C x) i h (C y) [] a) (g y)

  pub tells_word : (x : Words) (i : ℕ) {b n : ℕ} → reach x (drop i s) ≡ got b n → Tells s (C x) i (w b) d (i + n)
  tells_word x i e = subst (Word (C x) i) e (word_told (drop i s) x i refl)

  pub no_word_read : (x : Words) (i : ℕ) {n : ℕ} {e : List Event} → reach x (drop i s) ≡ lost n → Accepts true (C x) (drop i s) e → ⊥
  no_word_read x i {n} {e} p r = subst (Word (C x) i) p (word_told (drop i s) x i refl) e r

-- ways on which nothing is told --------------------------------------------------------------

pub passes_then : {s : List ℕ} {c d a : Config} {i j k : ℕ} → Passes s c i d j → Passes s d j a k → Passes s c i a k
passes_then f g = record { goes = λ n. goes_then (f.goes n) (g.goes n); tells = tells_then [] f.tells g.tells }

module _ (s : List ℕ) (c : Config) (i : ℕ) where
  pub passes_same : (j : ℕ) → i ≡ j → Passes s c i c j
  passes_same j p = record { goes = λ n. goes_same s c n i j p; tells = tells_same s c i j p }

  pub passes_step : i < length s → (d : Config) → step true c (get_or s i 0) ≡ to d → pending (phase d) ≡ 0 → Passes s c i d (i + 1)
  passes_step h d e p = record { goes = λ n. goes_step s c n i h d e p; tells = tells_step s c i h d [] e }

module _ (s : List ℕ) (c : Config) (f : (b : ℕ) → blank b ≡ true → step true c b ≡ to c) (p : pending (phase c) ≡ 0) where
  tells_run : (m i : ℕ) → m ≤ span blank (drop i s) → Tells s c i [] c (i + m)
  tells_run zero i h = tells_same s c i (i + 0) (omega arith)
  tells_run (suc m) i h =
      let x = span_some blank s i m h in
      let v : i + suc m ≡ suc i + m = omega arith in
      rw v (tells_then [] (rw (add-one i) at (tells_step s c i x.0 c [] (f (get_or s i 0) x.1))) (tells_run m (suc i) x.2))

  pub passes_blanks : (i : ℕ) → Passes s c i c (i + span blank (drop i s))
  passes_blanks i = record { goes = λ n. goes_blanks s c n f p i; tells = tells_run (span blank (drop i s)) i (omega arith) }

-- an input that is read to its end, within the limits, is not refused where nobody asks for characters ------------------------

read_fine : (c : Config) (n k b i : ℕ) (s : List ℕ) {e : List Event} → Accepts true c s e → births e ≤ n → peak k e ≤ content_limit
    → scan c off n k b i s ≡ fine (n - births e)
unfolding scan births peak
read_fine c n k b i [] stay l m = ap fine (omega arith)
read_fine c n k b i (a ∷ s) (on {d = d} {v = v} {w = w} h r) l m =
    let p = births_append v w in
    let q = peak_append k v w in
    let t = pending_told d (rest_of r refl) (tail k v) in
    rw (h, monitor_off v, le-ltb n (births v) (omega arith), le-ltb content_limit (extent k v d) (omega arith))
    (read_fine d (n - births v) (tail k v) a (suc i) s r (omega arith) (omega arith) ∙ ap fine (omega arith))

pub not_refused_at : (s : List ℕ) (c : Config) (n k i : ℕ) {x j : ℕ} {e : List Event} → scan_at s c off n k i ≡ bad x j
    → Accepts true c (drop i s) e → births e ≤ n → peak k e ≤ content_limit → ⊥
unfolding scan_at
not_refused_at s c n k i {x} {j} {e} l r h m =
    let p : bad x j ≡ fine (n - births e) = sym l ∙ read_fine c n k _ i (drop i s) r h m in
    let z : ◌≡◌ {A = ℕ} 0 1 = cc in omega arith

pub not_refused : {s : List ℕ} {c : Config} {n i x j : ℕ} {e : List Event} → Leads false s c n i (bad x j) → Accepts true c (drop i s) e
    → births e ≤ n → peak 0 e ≤ content_limit → ⊥
not_refused {s} {c} {n} {i} l r h m = not_refused_at s c n 0 i (l.leads off refl refl 0 (omega arith)) r h m
