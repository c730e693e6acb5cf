-- Where the whole log of a transaction's operations runs, the plain run of the operations leaves the same document, touches the same nodes,
-- gives the answers of the entries, and keeps as many openings as parts are open. So it is for transactions one after another.
use Rattle.std.specs.Prelude.{ℕ, zero, suc, ◌<◌, ◌≡◌, refl, length, eqb}
use Rattle.std.proofs.Common.{sym, ap, ◌∙◌, arith, ne_eqb}
use Rattle.std.proofs.Math.Bool.{or-false}
use mathlib.Core.List.{List, [], ◌∷◌, ◌++◌, map}
use Rattle.tree.specs.Lists.{has, joined}
use Rattle.tree.specs.Document.{Document}
use Rattle.tree.specs.Steps.{Step, plain_value, PlainAnswer, after}
use Rattle.tree.specs.Plain.{Operation, does, opens, closes, undoes, steps_in, told, Work, Progress, before_all, plain_operation}
use Rattle.tree.specs.Plain.{progress_after}
use Rattle.tree.specs.Plain.{answers_after, left_of, plain_document, plain_answers}
use Rattle.tree.specs.Laws.Lists.{any_append, map_append}
use Rattle.serializability.proofs.Laws.Parts.{Entry, Parts, end, did, undone, then, LevelledLog}
use Rattle.serializability.proofs.Laws.Runs.{Valid, Run, run_split, run_append, run_one_end, then_assoc, touched_in, touched_then}
use Rattle.serializability.proofs.Laws.Orders.{logs}
use Rattle.serializability.proofs.Laws.Levels.{steps_told, operate, operate_all, levels_of, Shallow, operate_shallow, whole_of}
use Rattle.serializability.proofs.Laws.Levels.{whole_log, first_levels_same, whole_does, left_below, whole_left, whole_opens}

-- a run of the log after some operations is one of the log before them, and more
run_before_one : (k : Document) (o : Operation Entry) (d : ℕ) (c : LevelledLog) (e : Document) → Shallow d c
    → Run k (whole_of (operate o d c).0 (operate o d c).1) e → (e' : Document) × Run k (whole_of d c) e'
run_before_one k (does x) d c e s r =
    let g = run_split k (whole_of d c) (did x end) e (rw (whole_does d c x) at r) in (g.0, g.1)
run_before_one k opens d c e s r = (e, rw (whole_opens d c s) at r)
run_before_one k closes zero c e s r = (e, r)
run_before_one k closes (suc d) c e s r = (e, rw (whole_left (λ l. l) d c) at r)
run_before_one k undoes zero c e s r = (e, r)
run_before_one k undoes (suc d) c e s r =
    let g = run_split k (whole_of d c) (undone (c (suc d)) end) e (rw (whole_left (λ l. undone l end) d c) at r) in
    let part = g.2.0 in
    (part.0, run_append k (whole_of d c) (c (suc d)) g.0 part.0 g.1 part.1)

run_before : (k : Document) (l : List (Operation Entry)) (d : ℕ) (c : LevelledLog) (e : Document) → Shallow d c
    → Run k (whole_of (operate_all d c l).0 (operate_all d c l).1) e → (e' : Document) × Run k (whole_of d c) e'
run_before k [] d c e s r = (e, r)
run_before k (o ∷ l) d c e s r =
    let g = run_before k l (operate o d c).0 (operate o d c).1 e (operate_shallow o d c s) r in
    run_before_one k o d c g.0 s g.1

-- one transaction ------------------------------------------------------------------------------

module _ (k : Document) where
  -- the work is that of the log l, run from k
  pub record Made (l : Parts) (w : Work) : Type 0 where
    pub run : Run k l w.document
    pub touched : (m : ℕ) → has m w.touched ≡ touched_in l m

  -- so is what was made at each opening
  abbrev Openings : ℕ → LevelledLog → List Work → Type 0
  Openings zero c [] = Unit {0}
  Openings zero c (w ∷ ws) = ⊥
  Openings (suc d) c [] = ⊥
  Openings (suc d) c (w ∷ ws) = Made (whole_of d c) w × Openings d c ws

  openings_same : (d : ℕ) (c c' : LevelledLog) (ws : List Work) → ((e : ℕ) → e < d → c' e ≡ c e) → Openings d c ws → Openings d c' ws
  openings_same zero c c' [] h o = o
  openings_same zero c c' (w ∷ ws) h o = o
  openings_same (suc d) c c' [] h o = o
  openings_same (suc d) c c' (w ∷ ws) h o =
      (rw (first_levels_same (suc d) c c' h) o.0, openings_same d c c' ws (λ e i. h e (omega arith)) o.1)

  openings_length : (d : ℕ) (c : LevelledLog) (ws : List Work) → Openings d c ws → length ws ≡ d
  openings_length zero c [] o = refl
  openings_length zero c (w ∷ ws) o = absurd o
  openings_length (suc d) c [] o = absurd o
  openings_length (suc d) c (w ∷ ws) o = let e = openings_length d c ws o.1 in omega arith

  record Matches (d : ℕ) (c : LevelledLog) (p : Progress) : Type 0 where
    now : Made (whole_of d c) p.now
    openings : Openings d c p.openings

  abbrev plain_of : Operation Entry → Operation Step
  plain_of o = told (λ x. x.step) o

  -- where the entry is valid, the plain rules do it
  made_more : (l : Parts) (x : Entry) (e : Document) (p : Progress) → Run k (then l (did x end)) e → Made l p.now
      → Made (then l (did x end)) (plain_operation (does x.step) p).now × Valid x p.now.document
  made_more l x e p r w =
      let g = run_split k l (did x end) e r in
      let v : Valid x p.now.document = rw (run_one_end k l g.0 p.now.document g.1 w.run) at g.2.0 in (
        record {
          run = rw v.fit (run_append k l (did x end) p.now.document (after x.step p.now.document) w.run (v, refl));
          touched = λ m. rw (
            v.fit,
            v.touch,
            any_append (λ q. eqb q m) p.now.touched x.touched,
            w.touched m,
            touched_then l (did x end) m,
            or-false (has m x.touched),
          );
        },
        v,
      )

  match_close : (d : ℕ) (c : LevelledLog) (now : Work) (os : List Work) → Made (whole_of d c) now → Openings d c os
      → Matches (operate closes d c).0 (operate closes d c).1 (plain_operation closes (record { now = now; openings = os }))
  match_close zero c now [] n o = record { now = n; openings = o }
  match_close zero c now (w ∷ ws) n o = absurd o
  match_close (suc d) c now [] n o = absurd o
  match_close (suc d) c now (w ∷ ws) n o = record {
    now = rw (whole_left (λ l. l) d c) n;
    openings = openings_same d c (operate closes (suc d) c).1 ws (left_below (λ l. l) d c) o.1;
  }

  -- the work at the opening is that of the log in which the part is undone
  made_undone : (l j : Parts) (w now : Work) → Made l w → Made (then l j) now → Made (then l (undone j end)) w
  made_undone l j w now o n =
      let g = run_split k l j now.document n.run in
      let r : Run w.document j now.document = rw (run_one_end k l g.0 w.document g.1 o.run) at g.2 in
      record {
        run = run_append k l (undone j end) w.document w.document o.run ((now.document, r), refl);
        touched = λ m. rw (o.touched m, touched_then l (undone j end) m, or-false (touched_in l m));
      }

  match_undo : (d : ℕ) (c : LevelledLog) (now : Work) (os : List Work) → Made (whole_of d c) now → Openings d c os
      → Matches (operate undoes d c).0 (operate undoes d c).1 (plain_operation undoes (record { now = now; openings = os }))
  match_undo zero c now [] n o = record { now = n; openings = o }
  match_undo zero c now (w ∷ ws) n o = absurd o
  match_undo (suc d) c now [] n o = absurd o
  match_undo (suc d) c now (w ∷ ws) n o = record {
    now = rw (whole_left (λ l. undone l end) d c) (made_undone (whole_of d c) (c (suc d)) w now o.0 n);
    openings = openings_same d c (operate undoes (suc d) c).1 ws (left_below (λ l. undone l end) d c) o.1;
  }

  match_one : (o : Operation Entry) (d : ℕ) (c : LevelledLog) (p : Progress) (e : Document) → Shallow d c → Matches d c p
      → Run k (whole_of (operate o d c).0 (operate o d c).1) e
      → Matches (operate o d c).0 (operate o d c).1 (plain_operation (plain_of o) p)
  match_one (does x) d c p e s m r = record {
    now = rw (whole_does d c x) (made_more (whole_of d c) x e p (rw (whole_does d c x) at r) m.now).0;
    openings = openings_same d c (operate (does x) d c).1 p.openings (λ i h. rw (ne_eqb i d (λ q. omega arith))) m.openings;
  }
  match_one opens d c p e s m r = record { now = rw (whole_opens d c s) m.now; openings = (m.now, m.openings) }
  match_one closes d c p e s m r = match_close d c p.now p.openings m.now m.openings
  match_one undoes d c p e s m r = match_undo d c p.now p.openings m.now m.openings

  -- the answers of the entries
  abbrev values : List (Operation Entry) → List PlainAnswer
  values l = map plain_value (map (λ x. x.value) (steps_in l))

  answer_one : (o : Operation Entry) (l : List (Operation Entry)) (d : ℕ) (c : LevelledLog) (p : Progress) (e : Document) → Matches d c p
      → Run k (whole_of (operate o d c).0 (operate o d c).1) e
      → answers_after (plain_operation (plain_of o) p) (map plain_of l) ≡ values l
      → answers_after p (plain_of o ∷ map plain_of l) ≡ values (o ∷ l)
  unfolding answers_after
  answer_one (does x) l d c p e m r a =
      let v = (made_more (whole_of d c) x e p (rw (whole_does d c x) at r) m.now).1 in
      rw (v.fit, v.says) (ap (λ (r : List PlainAnswer). plain_value x.value ∷ r) (rw v.fit at a))
  answer_one opens l d c p e m r a = a
  answer_one closes l d c p e m r a = a
  answer_one undoes l d c p e m r a = a

  match_all : (l : List (Operation Entry)) (d : ℕ) (c : LevelledLog) (p : Progress) (e : Document) → Shallow d c → Matches d c p
      → Run k (whole_of (operate_all d c l).0 (operate_all d c l).1) e
      → Matches (operate_all d c l).0 (operate_all d c l).1 (progress_after p (map plain_of l))
      × (answers_after p (map plain_of l) ≡ values l)
  unfolding progress_after answers_after
  match_all [] d c p e s m r = (m, refl)
  match_all (o ∷ l) d c p e s m r =
      let g = run_before k l (operate o d c).0 (operate o d c).1 e (operate_shallow o d c s) r in
      let a = match_all l (operate o d c).0 (operate o d c).1 (plain_operation (plain_of o) p) e (operate_shallow o d c s)
      (match_one o d c p g.0 s m g.1) r in
      (a.0, answer_one o l d c p g.0 m g.1 a.1)

-- the whole log of some operations runs from k to e: so does the plain run of them
pub record Follows (k : Document) (l : List (Operation Entry)) (e : Document) : Type 0 where
  pub document : (left_of k (map (told (λ x. x.step)) l)).document ≡ e
  pub touched : (m : ℕ) → has m (left_of k (map (told (λ x. x.step)) l)).touched ≡ touched_in (whole_log l) m
  pub answers : answers_after (before_all k) (map (told (λ x. x.step)) l) ≡ map plain_value (map (λ x. x.value) (steps_in l))
  pub openings : length (progress_after (before_all k) (map (told (λ x. x.step)) l)).openings ≡ (levels_of l).0

pub follows : (k : Document) (l : List (Operation Entry)) (e : Document) → Run k (whole_log l) e → Follows k l e
follows k l e r =
    let start : Matches k 0 (λ i. end) (before_all k) = record { now = record { run = refl; touched = λ m. refl }; openings = tt } in
    let a = match_all k l 0 (λ i. end) (before_all k) e (λ i h. refl) start r in
    record {
      document = run_one_end k (whole_log l) _ e a.0.now.run r;
      touched = a.0.now.touched;
      answers = a.1;
      openings = openings_length k (levels_of l).0 (levels_of l).1 _ a.0.openings;
    }

-- transactions one after another ---------------------------------------------------------------

-- the operations of each, as the plain run is fed them, and the values of its steps
abbrev pub steps_of_each : List (List (Operation Entry)) → List (List (Operation Step))
steps_of_each ls = map (map (told (λ x. x.step))) ls

abbrev pub whole_logs : List (List (Operation Entry)) → Parts
whole_logs [] = end
whole_logs (l ∷ ls) = then (whole_log l) (whole_logs ls)

pub whole_logs_append : (ls ks : List (List (Operation Entry))) → whole_logs (ls ++ ks) ≡ then (whole_logs ls) (whole_logs ks)
whole_logs_append [] ks = refl
whole_logs_append (l ∷ ls) ks = rw (whole_logs_append ls ks) (sym (then_assoc (whole_log l) (whole_logs ls) (whole_logs ks)))

-- those of the transactions b
pub whole_logs_of : (log : ℕ → List (Operation Entry)) (b : List ℕ) → whole_logs (map log b) ≡ logs (λ u. whole_log (log u)) b
whole_logs_of log [] = refl
whole_logs_of log (t ∷ b) = rw (whole_logs_of log b)

pub run_document : (d : Document) (ls : List (List (Operation Entry))) (e : Document) → Run d (whole_logs ls) e
    → plain_document d (steps_of_each ls) ≡ e
unfolding plain_document
run_document d [] e r = r
run_document d (l ∷ ls) e r =
    let g = run_split d (whole_log l) (whole_logs ls) e r in
    ap (λ (x : Document). plain_document x (steps_of_each ls)) (follows d l g.0 g.1).document ∙ run_document g.0 ls e g.2

pub run_answers : (d : Document) (ls : List (List (Operation Entry))) (e : Document) → Run d (whole_logs ls) e
    → plain_answers d (steps_of_each ls) ≡ map plain_value (joined (map steps_in (map (map (told (λ x. x.value))) ls)))
unfolding plain_answers
run_answers d [] e r = refl
run_answers d (l ∷ ls) e r =
    let g = run_split d (whole_log l) (whole_logs ls) e r in
    let f = follows d l g.0 g.1 in
    rw (f.document, f.answers, run_answers g.0 ls e g.2, steps_told (λ (x : Entry). x.value) l)
    (sym (map_append plain_value (map (λ (x : Entry). x.value) (steps_in l)) _))
