-- Runs of logs by the plain rules: an undone part is run, its answers count, and what it leaves is dropped. Logs whose locks do not clash
-- may be run in either order.
use Rattle.std.specs.Prelude.{ℕ, ◌≡◌, refl, Bool, true, false, ◌||◌, [], ◌∷◌, ◌⊎◌}
use Rattle.std.proofs.Common.{sym, ap, ◌∙◌, true≢false, inl, inr, ⊎_elim}
use Rattle.std.proofs.lemmas.Bool.{false≢true}
use Rattle.std.proofs.Math.Bool.{or_assoc}
use mathlib.Core.List.Memᴰ
use Rattle.std.proofs.Math.Logic.{⊎_map}
use Rattle.tree.specs.Lists.{has, keep}
use Rattle.tree.specs.Document.{Document, lines, in_subtree, select, here, at, numbers}
use Rattle.tree.specs.Steps.{Step, T, C, R, U, D, I, TT, RR, UU, target, inserts, answer, fits, after, named}
use Rattle.tree.specs.Plain.{touches}
use Rattle.tree.specs.Laws.Tests.{or_cases}
use Rattle.tree.specs.Laws.Lists.{in_map, in_keep, has_in}
use Rattle.locks.specs.Needs.{needs}
use Rattle.locks.proofs.Laws.Compatible.{Compatible}
use Rattle.serializability.proofs.Laws.Tests.{by_test}
use Rattle.serializability.proofs.Laws.Parts as parts
use Rattle.serializability.proofs.Laws.Parts.{Entry, Parts, end, did, undone, then, Of, later, inside, beyond}
use Rattle.serializability.proofs.Laws.Lines.{line_number, of_lines, line_here, Unique}
use Rattle.serializability.specs.Laws.Views.{Same}
use Rattle.serializability.proofs.Laws.Classes.{Absent}
use Rattle.serializability.proofs.Laws.Kept.{fits_here}
use Rattle.serializability.proofs.Laws.Diamond.{swap, diamond}
use Rattle.serializability.proofs.Laws.Uniqueness.{unique_after, absent_after, inserts_apart}

-- the plain rules allow the step on d, give it this answer and these locks, and let it touch these nodes
pub record Valid (x : Entry) (d : Document) : Type 0 where
  pub fit : fits x.step d ≡ true
  pub says : answer x.step d ≡ x.value
  pub need : needs x.step d ≡ x.held
  pub touch : touches x.step d ≡ x.touched

pub valid_there : (x : Entry) (d e : Document) → Same x.step d e → Valid x d → Valid x e
valid_there x d e s v = record {
  fit = s.fit ∙ v.fit;
  says = s.says ∙ v.says;
  need = s.need ∙ v.need;
  touch = s.touched ∙ v.touch;
}

pub valid_back : (x : Entry) (d e : Document) → Same x.step d e → Valid x e → Valid x d
valid_back x d e s v = record {
  fit = sym s.fit ∙ v.fit;
  says = sym s.says ∙ v.says;
  need = sym s.need ∙ v.need;
  touch = sym s.touched ∙ v.touch;
}

-- the entries, run in order on d, are all valid and leave e
abbrev pub Run : Document → Parts → Document → Type 0
Run d end e = d ≡ e
Run d (did x l) e = Valid x d × Run (after x.step d) l e
Run d (undone k l) e = ((c : Document) × Run d k c) × Run d l e

pub run_split : (d : Document) (l k : Parts) (e : Document) → Run d (then l k) e → (c : Document) × Run d l c × Run c k e
run_split d end k e r = (d, refl, r)
run_split d (did x l) k e r = let g = run_split (after x.step d) l k e r.1 in (g.0, (r.0, g.1), g.2)
run_split d (undone j l) k e r = let g = run_split d l k e r.1 in (g.0, (r.0, g.1), g.2)

pub run_append : (d : Document) (l k : Parts) (c e : Document) → Run d l c → Run c k e → Run d (then l k) e
run_append d end k c e r s = rw r s
run_append d (did x l) k c e r s = (r.0, run_append (after x.step d) l k c e r.1 s)
run_append d (undone j l) k c e r s = (r.0, run_append d l k c e r.1 s)

-- a run ends in one document
pub run_one_end : (d : Document) (l : Parts) (e e' : Document) → Run d l e → Run d l e' → e ≡ e'
run_one_end d end e e' r r' = sym r ∙ r'
run_one_end d (did x l) e e' r r' = run_one_end (after x.step d) l e e' r.1 r'.1
run_one_end d (undone k l) e e' r r' = run_one_end d l e e' r.1 r'.1

pub unique_run : (d : Document) (l : Parts) (e : Document) → Unique d → Run d l e → Unique e
unique_run d end e u r = rw (← r) u
unique_run d (did x l) e u r = unique_run (after x.step d) l e (unique_after d u x.step r.0.fit) r.1
unique_run d (undone k l) e u r = unique_run d l e u r.1

-- every entry of a run is valid somewhere
pub run_valid : (d : Document) (l : Parts) (e : Document) → Run d l e → (y : Entry) → Of y l → (c : Document) × Valid y c
run_valid d end e r y m = elim m [ ]
run_valid d (did x l) e r y (parts.here q) = (d, rw q r.0)
run_valid d (did x l) e r y (later m) = run_valid (after x.step d) l e r.1 y m
run_valid d (undone k l) e r y (inside m) = run_valid d k r.0.0 r.0.1 y m
run_valid d (undone k l) e r y (beyond m) = run_valid d l e r.1 y m

-- one log behind another -------------------------------------------------------------------

pub then_end : (l : Parts) → then l end ≡ l
then_end end = refl
then_end (did x l) = rw (then_end l)
then_end (undone k l) = rw (then_end l)

pub then_assoc : (l k j : Parts) → then (then l k) j ≡ then l (then k j)
then_assoc end k j = refl
then_assoc (did x l) k j = rw (then_assoc l k j)
then_assoc (undone i l) k j = rw (then_assoc l k j)

pub not_of_end : {y : Entry} → Of y end → ⊥
not_of_end = elim [ ]

pub of_then_left : {y : Entry} (l k : Parts) → Of y l → Of y (then l k)
of_then_left end k m = elim m [ ]
of_then_left (did x l) k (parts.here q) = parts.here q
of_then_left (did x l) k (later m) = later (of_then_left l k m)
of_then_left (undone j l) k (inside m) = inside m
of_then_left (undone j l) k (beyond m) = beyond (of_then_left l k m)

pub of_then_right : {y : Entry} (l k : Parts) → Of y k → Of y (then l k)
of_then_right end k m = m
of_then_right (did x l) k m = later (of_then_right l k m)
of_then_right (undone j l) k m = beyond (of_then_right l k m)

pub of_then_cases : {y : Entry} (l k : Parts) → Of y (then l k) → Of y l ⊎ Of y k
of_then_cases end k m = inr m
of_then_cases (did x l) k (parts.here q) = inl (parts.here q)
of_then_cases (did x l) k (later m) = ⊎_map later (λ i. i) (of_then_cases l k m)
of_then_cases (undone j l) k (inside m) = inl (inside m)
of_then_cases (undone j l) k (beyond m) = ⊎_map beyond (λ i. i) (of_then_cases l k m)

-- the nodes that a log touched, undone parts left out
abbrev pub touched_in : Parts → ℕ → Bool
touched_in end m = false
touched_in (did x l) m = has m x.touched || touched_in l m
touched_in (undone k l) m = touched_in l m

pub touched_then : (l k : Parts) (m : ℕ) → touched_in (then l k) m ≡ (touched_in l m || touched_in k m)
touched_then end k m = refl
touched_then (did x l) k m = rw (touched_then l k m) (sym (or_assoc (has m x.touched) (touched_in l m) (touched_in k m)))
touched_then (undone j l) k m = touched_then l k m

-- what a step touches is there, or is what it inserts
touches_there : (s : Step) (d : Document) → here (target s) d ≡ true → (m : ℕ) → has m (touches s d) ≡ true
    → (here m d ≡ true) ⊎ (has m (inserts s) ≡ true)
unfolding select
touches_there (T n) d h m e = absurd (false≢true e)
touches_there (C n k) d h m e = absurd (false≢true e)
touches_there (R n) d h m e = absurd (false≢true e)
touches_there (U n b) d h m e = inl (rw (Memᴰ.eq_of_singleton (has_in m (n ∷ []) e)) h)
touches_there (D n) d h m e = absurd (false≢true e)
touches_there (I m' kind b n k) d h m e = inr e
touches_there (TT n) d h m e = absurd (false≢true e)
touches_there (RR n) d h m e = absurd (false≢true e)
touches_there (UU n a b) d h m e =
    let found = keep (named a) (select (in_subtree n) d) in
    let l = in_map line_number found (has_in m (numbers found) e) in
    let i = in_keep (in_subtree n) (lines d) (in_keep (named a) (select (in_subtree n) d) l.1).0 in
    inl (line_here m d l.0 (of_lines d l.0 i.0) (sym l.2))

-- what a run touches was there, or the run brings it in
pub run_there : (d : Document) (l : Parts) (e : Document) → Run d l e → (m : ℕ) → touched_in l m ≡ true
    → (here m d ≡ true) ⊎ ((y : Entry) × Of y l × (has m (inserts y.step) ≡ true))
run_there d end e r m h = absurd (false≢true h)
run_there d (did x l) e r m h = by_test (has m (inserts x.step)) (λ i. inr (x, parts.here refl, i)) (λ i. by_test (here m d) inl
    (λ j. ⊎_elim
    (λ k. absurd (⊎_elim (λ p. true≢false (sym p ∙ j)) (λ p. true≢false (sym p ∙ i))
    (touches_there x.step d (fits_here x.step d r.0.fit) m (rw r.0.touch k))))
    (λ k. ⊎_elim (λ p. absurd (true≢false (sym p ∙ absent_after m x.step d i j)))
    (λ p. inr (p.0, later p.1, p.2)) (run_there (after x.step d) l e r.1 m k))
    (or_cases (has m x.touched) (touched_in l m) h)))
run_there d (undone k l) e r m h = ⊎_map (λ p. p) (λ p. (p.0, beyond p.1, p.2)) (run_there d l e r.1 m h)

-- locks between entries --------------------------------------------------------------------

-- no lock of the one entry clashes with a lock of the other
abbrev pub Clear : Entry → Entry → Type 0
Clear x y = Compatible x.held y.held

-- all of l against all of k
abbrev pub AllClear : Parts → Parts → Type 0
AllClear l k = (x y : Entry) → Of x l → Of y k → Clear x y

-- what x inserts, y does not
abbrev pub OtherNumbers : Entry → Entry → Type 0
OtherNumbers x y = (m : ℕ) → has m (inserts x.step) ≡ true → has m (inserts y.step) ≡ false

pub clear_other_numbers : (x y : Entry) (d e : Document) → Valid x d → Valid y e → Clear x y → OtherNumbers x y
clear_other_numbers x y d e v w c = inserts_apart x.step y.step (at (target x.step) d).above (at (target y.step) e).above
    (rw (v.need, w.need) c)

-- no number is brought in twice on a way through a log; what an undone part brought in the rest of the log does not see
abbrev pub BringsOnce : Parts → Type 0
BringsOnce end = Unit {0}
BringsOnce (did x l) = ((y : Entry) → Of y l → OtherNumbers y x) × BringsOnce l
BringsOnce (undone k l) = BringsOnce k × BringsOnce l

-- nothing that the log inserts is there
abbrev pub AllAbsent : Parts → Document → Type 0
AllAbsent l d = (y : Entry) → Of y l → Absent y.step d

-- what is absent stays absent while entries run that do not clash with the one that inserts it
pub absent_run : (d : Document) (l : Parts) (e : Document) (y : Entry) (c : Document) → Run d l e → Valid y c
    → ((x : Entry) → Of x l → Clear y x) → Absent y.step d → Absent y.step e
absent_run d end e y c r v f a = rw (← r) a
absent_run d (did x l) e y c r v f a = absent_run (after x.step d) l e y c r.1 v (λ z m. f z (later m))
    (λ m i. absent_after m x.step d (clear_other_numbers y x c d v r.0 (f x (parts.here refl)) m i) (a m i))
absent_run d (undone k l) e y c r v f a = absent_run d l e y c r.1 v (λ z m. f z (beyond m)) a

-- either order -------------------------------------------------------------------------------

-- an entry that is valid before a run is valid behind it, and the run could go behind the entry
pub move_last : (d : Document) (l : Parts) (e : Document) (s : Entry) → Unique d → Run d l e → Valid s d
    → ((y : Entry) → Of y l → Clear s y) → Valid s e × Run (after s.step d) l (after s.step e)
move_last d end e s u r v f = (rw (← r) v, ap (after s.step) r)
move_last d (did x l) e s u r v f =
    let c : Clear s x = f x (parts.here refl) in
    let w = diamond d u x.step s.step r.0.fit v.fit (rw (v.need, r.0.need) c) in
    let rest = move_last (after x.step d) l e s (unique_after d u x.step r.0.fit) r.1
    (valid_there s d (after x.step d) w.first_same v) (λ y m. f y (later m)) in
    (rest.0, (valid_there x d (after s.step d) w.second_same r.0, rw w.one_document at rest.1))
move_last d (undone k l) e s u r v f =
    let a = move_last d k r.0.0 s u r.0.1 v (λ y m. f y (inside m)) in
    let b = move_last d l e s u r.1 v (λ y m. f y (beyond m)) in
    (b.0, ((after s.step r.0.0, a.1), b.1))

-- an entry that is valid behind a run could go before it
pub move_first : (d : Document) (l : Parts) (e : Document) (s : Entry) → Unique d → Run d l e → Valid s e
    → ((y : Entry) → Of y l → Clear s y) → Absent s.step d → Valid s d × Run (after s.step d) l (after s.step e)
move_first d end e s u r v f a = (rw r v, ap (after s.step) r)
move_first d (did y l) e s u r v f a =
    let c : Clear s y = f y (parts.here refl) in
    let rest = move_first (after y.step d) l e s (unique_after d u y.step r.0.fit) r.1 v (λ z m. f z (later m))
    (λ m i. absent_after m y.step d (clear_other_numbers s y e d v r.0 c m i) (a m i)) in
    let w = swap d u y.step s.step r.0.fit rest.0.fit a (rw (rest.0.need, r.0.need) c) in (
      valid_back s d (after y.step d) w.first_same rest.0,
      (valid_there y d (after s.step d) w.second_same r.0, rw w.one_document at rest.1),
    )
move_first d (undone k l) e s u r v f a =
    let b = move_first d l e s u r.1 v (λ y m. f y (beyond m)) a in
    let o = move_last d k r.0.0 s u r.0.1 b.0 (λ y m. f y (inside m)) in
    (b.0, ((after s.step r.0.0, o.1), b.1))

-- two logs, one behind the other, could change places
pub exchange : (d : Document) (l : Parts) (e : Document) (k : Parts) (h : Document) → Unique d → Run d l e → Run e k h
    → AllClear k l → BringsOnce k → AllAbsent k d → (c : Document) × Run d k c × Run c l h
exchange d l e end h u r s f o a = (d, refl, rw (← s) r)
exchange d l e (did x k) h u r s f o a =
    let g = move_first d l e x u r s.0 (λ y m. f x y (parts.here refl) m) (a x (parts.here refl)) in
    let b = exchange (after x.step d) l (after x.step e) k h (unique_after d u x.step g.0.fit) g.1 s.1
    (λ z y i j. f z y (later i) j) o.1
    (λ y i m j. absent_after m x.step d (o.0 y i m j) (a y (later i) m j)) in
    (b.0, (g.0, b.1), b.2)
exchange d l e (undone j k) h u r s f o a =
    let g = exchange d l e j s.0.0 u r s.0.1 (λ z y m n. f z y (inside m) n) o.0 (λ y m. a y (inside m)) in
    let b = exchange d l e k h u r s.1 (λ z y m n. f z y (beyond m) n) o.1 (λ y m. a y (beyond m)) in
    (b.0, ((g.0, g.1), b.1), b.2)
