-- The operations of a transaction and its log by levels.
use Rattle.std.specs.Prelude.{ℕ, zero, suc, ◌<◌, ◌≡◌, refl, cond, ◌⊎◌, eqb}
use Rattle.std.proofs.Common.{sym, inl, inr, ⊎_elim, arith, eq-eqb, ne_eqb}
use mathlib.Core.List.Memᴰ
use mathlib.Core.List.{List, [], ◌∷◌, ◌++◌, map, Memᴰ}
use Rattle.std.proofs.Math.Logic.{⊎_map}
use Rattle.std.proofs.lemmas.Bool.{eqb-false}
use Rattle.tree.specs.Plain.{Operation, does, opens, closes, undoes, steps_in, told}
use Rattle.serializability.proofs.Laws.Tests.{by_test}
use Rattle.serializability.proofs.Laws.Parts.{Entry, Parts, end, did, undone, then, Of, here, LevelledLog, first_levels}
use Rattle.serializability.proofs.Laws.Runs.{then_end, then_assoc, not_of_end, of_then_left, of_then_right, of_then_cases}
use Rattle.serializability.proofs.Laws.Serial.{of_one, of_taken_back, of_untaken}

pub steps_told : {X E : Type 0} (g : X → E) (l : List (Operation X)) → steps_in (map (told g) l) ≡ map g (steps_in l)
steps_told g [] = refl
steps_told g (does x ∷ l) = rw (steps_told g l)
steps_told g (opens ∷ l) = steps_told g l
steps_told g (closes ∷ l) = steps_told g l
steps_told g (undoes ∷ l) = steps_told g l

-- levels -----------------------------------------------------------------------------------

-- l at level d
abbrev pub at_level : ℕ → Parts → LevelledLog → LevelledLog
at_level d l c e = cond (eqb e d) l (c e)

-- what was done at level d + 1 is l at level d
abbrev pub left_level : (Parts → Parts) → ℕ → LevelledLog → ℕ × LevelledLog
left_level f zero c = (zero, c)
left_level f (suc d) c = (d, at_level d (then (c d) (f (c (suc d)))) (at_level (suc d) end c))

-- one operation, with d parts open; without a part a close or an undo changes nothing
abbrev pub operate : Operation Entry → ℕ → LevelledLog → ℕ × LevelledLog
operate (does x) d c = (d, at_level d (then (c d) (did x end)) c)
operate opens d c = (suc d, c)
operate closes d c = left_level (λ k. k) d c
operate undoes d c = left_level (λ k. undone k end) d c

abbrev pub operate_all : ℕ → LevelledLog → List (Operation Entry) → ℕ × LevelledLog
operate_all d c [] = (d, c)
operate_all d c (o ∷ l) = operate_all (operate o d c).0 (operate o d c).1 l

-- how many parts are open after these operations, and what was done at each level
abbrev pub levels_of : List (Operation Entry) → ℕ × LevelledLog
levels_of l = operate_all 0 (λ e. end) l

pub operate_more : (d : ℕ) (c : LevelledLog) (l k : List (Operation Entry))
    → operate_all d c (l ++ k) ≡ operate_all (operate_all d c l).0 (operate_all d c l).1 k
operate_more d c [] k = refl
operate_more d c (o ∷ l) k = operate_more (operate o d c).0 (operate o d c).1 l k

pub levels_more : (l : List (Operation Entry)) (o : Operation Entry)
    → levels_of (l ++ (o ∷ [])) ≡ operate o (levels_of l).0 (levels_of l).1
levels_more l o = operate_more 0 (λ e. end) l (o ∷ [])

-- nothing was done at levels that are not open
abbrev pub Shallow : ℕ → LevelledLog → Type 0
Shallow d c = (e : ℕ) → d < e → c e ≡ end

left_shallow : (f : Parts → Parts) (d : ℕ) (c : LevelledLog) → Shallow d c → Shallow (left_level f d c).0 (left_level f d c).1
left_shallow f zero c s e h = s e h
left_shallow f (suc d) c s e h = rw (ne_eqb e d (λ q. omega arith)) (by_test (eqb e (suc d)) (λ q. rw q)
    (λ q. rw q (s e (omega (arith, eqb-false e (suc d) q)))))

pub operate_shallow : (o : Operation Entry) (d : ℕ) (c : LevelledLog) → Shallow d c → Shallow (operate o d c).0 (operate o d c).1
operate_shallow (does x) d c s e h = rw (ne_eqb e d (λ q. omega arith)) (s e h)
operate_shallow opens d c s e h = s e (omega arith)
operate_shallow closes d c s e h = left_shallow (λ k. k) d c s e h
operate_shallow undoes d c s e h = left_shallow (λ k. undone k end) d c s e h

all_shallow : (l : List (Operation Entry)) (d : ℕ) (c : LevelledLog) → Shallow d c → Shallow (operate_all d c l).0 (operate_all d c l).1
all_shallow [] d c s = s
all_shallow (o ∷ l) d c s = all_shallow l (operate o d c).0 (operate o d c).1 (operate_shallow o d c s)

pub levels_shallow : (l : List (Operation Entry)) → Shallow (levels_of l).0 (levels_of l).1
levels_shallow l = all_shallow l 0 (λ e. end) (λ e h. refl)

-- the whole log ------------------------------------------------------------------------------

abbrev pub whole_of : ℕ → LevelledLog → Parts
whole_of d c = first_levels (suc d) c

abbrev pub whole_log : List (Operation Entry) → Parts
whole_log l = whole_of (levels_of l).0 (levels_of l).1

pub first_levels_same : (n : ℕ) (c c' : LevelledLog) → ((e : ℕ) → e < n → c' e ≡ c e) → first_levels n c' ≡ first_levels n c
first_levels_same zero c c' h = refl
first_levels_same (suc n) c c' h = rw (first_levels_same n c c' (λ e i. h e (omega arith)), h n (omega arith))

-- more at the last level
whole_more : (d : ℕ) (c c' : LevelledLog) (l : Parts) → ((e : ℕ) → e < d → c' e ≡ c e) → c' d ≡ then (c d) l
    → whole_of d c' ≡ then (whole_of d c) l
whole_more d c c' l h q = rw (first_levels_same d c c' h, q) (sym (then_assoc (first_levels d c) (c d) l))

pub whole_does : (d : ℕ) (c : LevelledLog) (x : Entry) → whole_of d (operate (does x) d c).1 ≡ then (whole_of d c) (did x end)
whole_does d c x = whole_more d c (operate (does x) d c).1 (did x end) (λ e h. rw (ne_eqb e d (λ q. omega arith))) (rw (eq-eqb d d refl))

pub left_below : (f : Parts → Parts) (d : ℕ) (c : LevelledLog) (e : ℕ) → e < d → (left_level f (suc d) c).1 e ≡ c e
left_below f d c e h = rw (ne_eqb e d (λ q. omega arith), ne_eqb e (suc d) (λ q. omega arith))

pub whole_left : (f : Parts → Parts) (d : ℕ) (c : LevelledLog)
    → whole_of d (left_level f (suc d) c).1 ≡ then (whole_of d c) (f (c (suc d)))
whole_left f d c = whole_more d c (left_level f (suc d) c).1 (f (c (suc d))) (left_below f d c) (rw (eq-eqb d d refl))

pub whole_opens : (d : ℕ) (c : LevelledLog) → Shallow d c → whole_of (suc d) c ≡ whole_of d c
whole_opens d c s = rw (s (suc d) (omega arith)) (then_end (whole_of d c))

-- the entries of the log are those of the steps ------------------------------------------------

-- those of one operation
abbrev Told : Entry → Operation Entry → Type 0
Told y (does x) = y ≡ x
Told y opens = ⊥
Told y closes = ⊥
Told y undoes = ⊥

of_operated : (o : Operation Entry) (d : ℕ) (c : LevelledLog) → Shallow d c → {y : Entry}
    → Of y (whole_of (operate o d c).0 (operate o d c).1) → Of y (whole_of d c) ⊎ Told y o
of_operated (does x) d c s i = ⊎_map (λ j. j) of_one (of_then_cases (whole_of d c) (did x end) (rw (whole_does d c x) at i))
of_operated opens d c s i = inl (rw (whole_opens d c s) at i)
of_operated closes zero c s i = inl i
of_operated closes (suc d) c s i = inl (rw (whole_left (λ l. l) d c) at i)
of_operated undoes zero c s i = inl i
of_operated undoes (suc d) c s i = inl (of_taken_back (whole_of d c) (c (suc d)) (rw (whole_left (λ l. undone l end) d c) at i))

operated_of : (o : Operation Entry) (d : ℕ) (c : LevelledLog) → Shallow d c → {y : Entry}
    → Of y (whole_of d c) ⊎ Told y o → Of y (whole_of (operate o d c).0 (operate o d c).1)
operated_of (does x) d c s i = rw (whole_does d c x)
    (⊎_elim (of_then_left (whole_of d c) (did x end)) (λ e. of_then_right (whole_of d c) (did x end) (here e)) i)
operated_of opens d c s i = rw (whole_opens d c s) (⊎_elim (λ j. j) (λ e. absurd e) i)
operated_of closes zero c s i = ⊎_elim (λ j. j) (λ e. absurd e) i
operated_of closes (suc d) c s i = rw (whole_left (λ l. l) d c) (⊎_elim (λ j. j) (λ e. absurd e) i)
operated_of undoes zero c s i = ⊎_elim (λ j. j) (λ e. absurd e) i
operated_of undoes (suc d) c s i = rw (whole_left (λ l. undone l end) d c)
    (⊎_elim (of_untaken (whole_of d c) (c (suc d))) (λ e. absurd e) i)

step_told : (o : Operation Entry) (l : List (Operation Entry)) {y : Entry}
    → Told y o ⊎ Memᴰ y (steps_in l) → Memᴰ y (steps_in (o ∷ l))
step_told (does x) l i = ⊎_elim Memᴰ.head Memᴰ.tail i
step_told opens l i = ⊎_elim (λ e. absurd e) (λ j. j) i
step_told closes l i = ⊎_elim (λ e. absurd e) (λ j. j) i
step_told undoes l i = ⊎_elim (λ e. absurd e) (λ j. j) i

told_step : (o : Operation Entry) (l : List (Operation Entry)) {y : Entry}
    → Memᴰ y (steps_in (o ∷ l)) → Told y o ⊎ Memᴰ y (steps_in l)
told_step (does x) l (Memᴰ.head e) = inl e
told_step (does x) l (Memᴰ.tail j) = inr j
told_step opens l j = inr j
told_step closes l j = inr j
told_step undoes l j = inr j

of_all : (l : List (Operation Entry)) (d : ℕ) (c : LevelledLog) → Shallow d c → {y : Entry}
    → Of y (whole_of (operate_all d c l).0 (operate_all d c l).1) → Of y (whole_of d c) ⊎ Memᴰ y (steps_in l)
of_all [] d c s i = inl i
of_all (o ∷ l) d c s i = ⊎_elim
    (λ j. ⊎_map (λ k. k) (λ k. step_told o l (inl k)) (of_operated o d c s j)) (λ j. inr (step_told o l (inr j)))
    (of_all l (operate o d c).0 (operate o d c).1 (operate_shallow o d c s) i)

all_of_steps : (l : List (Operation Entry)) (d : ℕ) (c : LevelledLog) → Shallow d c → {y : Entry}
    → Of y (whole_of d c) ⊎ Memᴰ y (steps_in l) → Of y (whole_of (operate_all d c l).0 (operate_all d c l).1)
all_of_steps [] d c s i = ⊎_elim (λ j. j) (λ j. absurd (Memᴰ.not-nil j)) i
all_of_steps (o ∷ l) d c s i = all_of_steps l (operate o d c).0 (operate o d c).1 (operate_shallow o d c s)
    (⊎_elim (λ j. inl (operated_of o d c s (inl j))) (λ j. ⊎_map (λ k. operated_of o d c s (inr k)) (λ k. k) (told_step o l j)) i)

pub whole_in : (l : List (Operation Entry)) {y : Entry} → Of y (whole_log l) → Memᴰ y (steps_in l)
whole_in l i = ⊎_elim (λ j. absurd (not_of_end j)) (λ j. j) (of_all l 0 (λ e. end) (λ e h. refl) i)

pub in_whole : (l : List (Operation Entry)) {y : Entry} → Memᴰ y (steps_in l) → Of y (whole_log l)
in_whole l i = all_of_steps l 0 (λ e. end) (λ e h. refl) (inr i)
