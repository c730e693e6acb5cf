-- Transactions run one after another, in any order; a granted step, commit and abort.
use Rattle.std.specs.Prelude.{ℕ, ◌≡◌, refl, false, cond, List, [], ◌∷◌, ◌++◌, ◌⊎◌, eqb}
use Rattle.std.proofs.Common.{sym, ◌∙◌, inl, inr, ⊎_elim, eqb-true, eq-eqb}
use Rattle.std.proofs.Math.Path.{fun_ext}
use Rattle.std.proofs.Math.Bool.{or-true}
use Rattle.std.proofs.Math.Logic.{⊎_map}
use Rattle.tree.specs.Lists.{has}
use Rattle.tree.specs.Document.{Document}
use Rattle.tree.specs.Steps.{after}
use Rattle.tree.specs.Laws.Tests.{or_left, or_right, or_cases}
use Rattle.locks.proofs.Laws.Compatible.{compatible_symmetric}
use Rattle.serializability.proofs.Laws.Tests.{by_test}
use Rattle.serializability.proofs.Laws.Lines.{Unique}
use Rattle.serializability.proofs.Laws.Classes.{Absent}
use Rattle.serializability.proofs.Laws.Parts.{Entry, Parts, end, did, undone, then, Of, here, later, inside, beyond}
use Rattle.serializability.proofs.Laws.Runs.{Valid, Run, run_split, run_append, run_one_end, unique_run, not_of_end, of_then_left}
use Rattle.serializability.proofs.Laws.Runs.{of_then_right, of_then_cases, Clear, AllClear, OtherNumbers, BringsOnce}
use Rattle.serializability.proofs.Laws.Orders.{Permutation, composed, permuted_has, permuted_distinct, permutation_back, to_front}
use Rattle.serializability.proofs.Laws.Orders.{to_back, Distinct, distinct_head, distinct_tail, distinct_cons, logs, logs_last, Apart}
use Rattle.serializability.proofs.Laws.Orders.{NoneThere, rest_not_there, any_order}

-- the transactions a, run one after another in this order on d, give every step its answer and its locks, and leave h
pub record Serial (d : Document) (a : List ℕ) (log : ℕ → Parts) (h : Document) : Type 0 where
  pub unique : Unique d
  pub distinct : Distinct a
  pub apart : Apart log
  pub none_there : NoneThere log a d
  pub run : Run d (logs log a) h

-- in any order they do the same
pub reorder : (d : Document) (a b : List ℕ) (log : ℕ → Parts) (h : Document) → Permutation a b → Serial d a log h → Serial d b log h
reorder d a b log h p s = record {
  unique = s.unique;
  distinct = permuted_distinct p s.distinct;
  apart = s.apart;
  none_there = λ t i. s.none_there t (sym (permuted_has p t) ∙ i);
  run = any_order log p d h s.apart s.unique s.distinct s.none_there s.run;
}

-- of each log nothing but what it is matters
pub serial_same : (d : Document) (a : List ℕ) (log log' : ℕ → Parts) (h : Document) → ((u : ℕ) → log u ≡ log' u) → Serial d a log h
    → Serial d a log' h
serial_same d a log log' h e s = rw (fun_ext e) at s

-- commit of the first: its log leads to a document from which the others run
pub commit : (d : Document) (t : ℕ) (a : List ℕ) (log : ℕ → Parts) (h : Document) → Serial d (t ∷ a) log h
    → (e : Document) × Run d (log t) e × Serial e a log h
commit d t a log h s =
    let g = run_split d (log t) (logs log a) h s.run in (
      g.0,
      g.1,
      record {
        unique = unique_run d (log t) g.0 s.unique g.1;
        distinct = distinct_tail t a s.distinct;
        apart = s.apart;
        none_there = rest_not_there log t a d g.0 h s.apart (distinct_head t a s.distinct) g.1 g.2 s.none_there;
        run = g.2;
      },
    )

-- abort of t: the others lead to a document from which t leads to h
pub abort : (d : Document) (t : ℕ) (a : List ℕ) (log : ℕ → Parts) (h : Document) → Serial d (t ∷ a) log h
    → (e : Document) × Run e (log t) h × Serial d a log e
abort d t a log h s =
    let r : Run d (logs log (a ++ (t ∷ []))) h = any_order log (to_back t a) d h s.apart s.unique s.distinct s.none_there
    s.run in
    let q : Run d (then (logs log a) (log t)) h = rw (logs_last log a t) at r in
    let g = run_split d (logs log a) (log t) h q in (
      g.0,
      g.2,
      record {
        unique = s.unique;
        distinct = distinct_tail t a s.distinct;
        apart = s.apart;
        none_there = λ v i. s.none_there v (rw (i, or-true (eqb t v)));
        run = g.1;
      },
    )

-- a log replaced ---------------------------------------------------------------------------------

-- the log of t is l
abbrev pub replaced : ℕ → Parts → (ℕ → Parts) → ℕ → Parts
replaced t l log v = cond (eqb v t) l (log v)

pub in_replaced : (t : ℕ) (l : Parts) (log : ℕ → Parts) (v : ℕ) {y : Entry} → Of y (replaced t l log v)
    → Of y (log v) ⊎ ((v ≡ t) × Of y l)
in_replaced t l log v m = by_test (eqb v t) (λ e. inr (eqb-true v t e, rw e at m)) (λ e. inl (rw e at m))

-- the log of a transaction that is not among them does not matter
logs_replaced : (t : ℕ) (l : Parts) (log : ℕ → Parts) (a : List ℕ) → has t a ≡ false → logs (replaced t l log) a ≡ logs log a
logs_replaced t l log [] h = refl
logs_replaced t l log (v ∷ a) h = rw (or_left (eqb v t) (has t a) h, logs_replaced t l log a (or_right (eqb v t) (has t a) h))

once_replaced : (t : ℕ) (l : Parts) (log : ℕ → Parts) → ((v : ℕ) → BringsOnce (log v)) → BringsOnce l → (v : ℕ)
    → BringsOnce (replaced t l log v)
once_replaced t l log s o v = by_test (eqb v t) (λ e. rw e o) (λ e. rw e (s v))

-- the log of t is emptied
abbrev pub emptied : ℕ → (ℕ → Parts) → ℕ → Parts
emptied t log = replaced t end log

pub in_emptied : (t : ℕ) (log : ℕ → Parts) (v : ℕ) {y : Entry} → Of y (emptied t log v) → Of y (log v)
in_emptied t log v m = ⊎_elim (λ i. i) (λ i. absurd (not_of_end i.1)) (in_replaced t end log v m)

pub forget : (d : Document) (t : ℕ) (a : List ℕ) (log : ℕ → Parts) (h : Document) → has t a ≡ false → Serial d a log h
    → Serial d a (emptied t log) h
forget d t a log h w s = record {
  unique = s.unique;
  distinct = s.distinct;
  apart = record {
    clear = λ u v ne y z i j. s.apart.clear u v ne y z (in_emptied t log u i) (in_emptied t log v j);
    once = once_replaced t end log s.apart.once tt;
  };
  none_there = λ v i y m. s.none_there v i y (in_emptied t log v m);
  run = rw (logs_replaced t end log a w) s.run;
}

-- a transaction with an empty log may stand among them
pub idle : (d : Document) (t : ℕ) (a : List ℕ) (log : ℕ → Parts) (h : Document) → has t a ≡ false → log t ≡ end → Serial d a log h
    → Serial d (t ∷ a) log h
idle d t a log h w e s = record {
  unique = s.unique;
  distinct = distinct_cons t a w s.distinct;
  apart = s.apart;
  none_there = λ v i y m. ⊎_elim (λ j. absurd (not_of_end (rw (← eqb-true t v j, e) at m))) (λ j. s.none_there v j y m)
      (or_cases (eqb t v) (has v a) i);
  run = rw e s.run;
}

-- a granted step ---------------------------------------------------------------------------------

pub of_one : {x y : Entry} → Of y (did x end) → y ≡ x
of_one (here e) = e
of_one (later i) = absurd (not_of_end i)

-- x behind the log of t
abbrev pub noted : ℕ → Entry → (ℕ → Parts) → ℕ → Parts
noted t x log = replaced t (then (log t) (did x end)) log

pub in_noted : (t : ℕ) (x : Entry) (log : ℕ → Parts) (v : ℕ) {y : Entry} → Of y (noted t x log v)
    → Of y (log v) ⊎ ((v ≡ t) × (y ≡ x))
in_noted t x log v m = ⊎_elim inl
    (λ i. ⊎_map (λ j. rw i.0 j) (λ j. (i.0, of_one j)) (of_then_cases (log t) (did x end) i.1))
    (in_replaced t (then (log t) (did x end)) log v m)

inserts_once_noted : (l : Parts) (x : Entry) → BringsOnce l → ((y : Entry) → Of y l → OtherNumbers x y)
    → BringsOnce (then l (did x end))
inserts_once_noted end x o n = (λ y i. absurd (not_of_end i), tt)
inserts_once_noted (did z l) x o n = (
  λ y i m h. ⊎_elim (λ j. o.0 y j m h) (λ j. n z (here refl) m (rw (of_one {x = x} {y = y} j) at h)) (of_then_cases l (did x end) i),
  inserts_once_noted l x o.1 (λ y i. n y (later i)),
)
inserts_once_noted (undone k l) x o n = (o.0, inserts_once_noted l x o.1 (λ y i. n y (beyond i)))

-- x may be granted to t: no lock of another transaction clashes with its locks, and what it inserts was not inserted before by t
pub record Grantable (t : ℕ) (log : ℕ → Parts) (x : Entry) : Type 0 where
  pub clear : (v : ℕ) → (v ≡ t → ⊥) → (y : Entry) → Of y (log v) → Clear x y
  pub new : (y : Entry) → Of y (log t) → OtherNumbers x y

apart_noted : (t : ℕ) (log : ℕ → Parts) (x : Entry) → Apart log → Grantable t log x → Apart (noted t x log)
apart_noted t log x s g = record {
  clear = clear;
  once = once_replaced t (then (log t) (did x end)) log s.once (inserts_once_noted (log t) x (s.once t) g.new);
}
  where
    clear : (u v : ℕ) → (u ≡ v → ⊥) → AllClear (noted t x log u) (noted t x log v)
    clear u v ne y z i j = go (in_noted t x log u i) (in_noted t x log v j)
      where
        go : Of y (log u) ⊎ ((u ≡ t) × (y ≡ x)) → Of z (log v) ⊎ ((v ≡ t) × (z ≡ x)) → Clear y z
        go (inl p) (inl r) = s.clear u v ne y z p r
        go (inl p) (inr r) = rw r.1 (compatible_symmetric x.held y.held (g.clear u (λ e. ne (e ∙ sym r.0)) y p))
        go (inr p) (inl r) = rw p.1 (g.clear v (λ e. ne (p.0 ∙ sym e)) z r)
        go (inr p) (inr r) = absurd (ne (p.0 ∙ sym r.0))

none_there_noted : (t : ℕ) (log : ℕ → Parts) (x : Entry) (a : List ℕ) (d : Document) → NoneThere log a d → Absent x.step d
    → NoneThere (noted t x log) a d
none_there_noted t log x a d w n v i y m = ⊎_elim (λ p. w v i y p) (λ p. rw p.1 n) (in_noted t x log v m)

-- x is granted to t, which is among the transactions: x is valid on what they leave, and is then done too
pub grant : (d : Document) (t : ℕ) (a : List ℕ) (log : ℕ → Parts) (h : Document) (x : Entry) → Serial d (t ∷ a) log h
    → Valid x h → Grantable t log x → Absent x.step d → Serial d (t ∷ a) (noted t x log) (after x.step h)
grant d t a log h x s v g n = reorder d (a ++ (t ∷ [])) (t ∷ a) (noted t x log) (after x.step h) (permutation_back (to_back t a))
    (record {
      unique = s.unique;
      distinct = permuted_distinct (to_back t a) s.distinct;
      apart = apart_noted t log x s.apart g;
      none_there = λ u i. none_there_noted t log x (t ∷ a) d s.none_there n u (sym (permuted_has (to_back t a) u) ∙ i);
      run = run;
    })
  where
    run : Run d (logs (noted t x log) (a ++ (t ∷ []))) (after x.step h)
    run =
        let g = abort d t a log h s in
        rw (
          logs_last (noted t x log) a t,
          logs_replaced t (then (log t) (did x end)) log a (distinct_head t a s.distinct),
          eq-eqb t t refl,
        )
        (run_append d (logs log a) (then (log t) (did x end)) g.0 (after x.step h) g.2.run
        (run_append g.0 (log t) (did x end) h (after x.step h) g.1 (v, refl)))

-- x is granted to t, which is not among them: nothing changes
pub grant_other : (d : Document) (t : ℕ) (a : List ℕ) (log : ℕ → Parts) (h : Document) (x : Entry) → has t a ≡ false → Serial d a log h
    → Grantable t log x → Absent x.step d → Serial d a (noted t x log) h
grant_other d t a log h x w s g n = record {
  unique = s.unique;
  distinct = s.distinct;
  apart = apart_noted t log x s.apart g;
  none_there = none_there_noted t log x a d s.none_there n;
  run = rw (logs_replaced t (then (log t) (did x end)) log a w) s.run;
}

-- an undone part ---------------------------------------------------------------------------------

-- q is undone behind p
module _ (p q : Parts) where
  -- its entries are those of the log in which it is not undone
  pub of_taken_back : {y : Entry} → Of y (then p (undone q end)) → Of y (then p q)
  of_taken_back i = ⊎_elim (of_then_left p q) (λ j. of_then_right p q (of_part j)) (of_then_cases p (undone q end) i)
    where
      of_part : {y : Entry} → Of y (undone q end) → Of y q
      of_part (inside j) = j
      of_part (beyond j) = absurd (not_of_end j)

  pub of_untaken : {y : Entry} → Of y (then p q) → Of y (then p (undone q end))
  of_untaken i = ⊎_elim (of_then_left p (undone q end)) (λ j. of_then_right p (undone q end) (inside j)) (of_then_cases p q i)

once_taken_back : (p q : Parts) → BringsOnce (then p q) → BringsOnce (then p (undone q end))
once_taken_back end q o = (o, tt)
once_taken_back (did x p) q o = (λ y i. o.0 y (of_taken_back p q i), once_taken_back p q o.1)
once_taken_back (undone k p) q o = (o.0, once_taken_back p q o.1)

run_taken_back : (d : Document) (l p q : Parts) (c c' h h' : Document) → Run d l c → Run c p h → Run d l c' → Run c' (then p q) h'
    → Run d (then l (then p (undone q end))) h
run_taken_back d l p q c c' h h' r o r' o' =
    let k = run_split c p q h' (rw (run_one_end d l c' c r' r) at o') in
    let j : Run h q h' = rw (run_one_end c p k.0 h k.1 o) at k.2 in
    run_append d l (then p (undone q end)) c h r (run_append c p (undone q end) h h o ((h', j), refl))

-- t did p and then the part q, which is undone: what is left is what was there before the part
module _ (d : Document) (t : ℕ) (a : List ℕ) (log : ℕ → Parts) (p q : Parts) (h h' : Document)
    (s : Serial d a (replaced t p log) h) (s' : Serial d a (replaced t (then p q) log) h') where
  in_undone : (v : ℕ) {y : Entry} → Of y (replaced t (then p (undone q end)) log v) → Of y (replaced t (then p q) log v)
  in_undone v i = by_test (eqb v t) (λ e. rw e (of_taken_back p q (rw e at i))) (λ e. rw e (rw e at i))

  undone_apart : Apart (replaced t (then p (undone q end)) log)
  undone_apart = record {
    clear = λ u v ne y z i j. s'.apart.clear u v ne y z (in_undone u i) (in_undone v j);
    once = λ v. by_test (eqb v t) (λ e. rw e (once_taken_back p q (rw e at (s'.apart.once v)))) (λ e. rw e (rw e at (s'.apart.once v)));
  }

  -- t behind the others b
  undone_last : (b : List ℕ) → Permutation a (t ∷ b) → Run d (logs (replaced t (then p (undone q end)) log) (b ++ (t ∷ []))) h
  undone_last b w =
      let g = abort d t b (replaced t p log) h (reorder d a (t ∷ b) (replaced t p log) h w s) in
      let g' = abort d t b (replaced t (then p q) log) h' (reorder d a (t ∷ b) (replaced t (then p q) log) h' w s') in
      let n : has t b ≡ false = distinct_head t b (permuted_distinct w s.distinct) in
      let r : Run d (logs log b) g.0 = rw (logs_replaced t p log b n) at g.2.run in
      let r' : Run d (logs log b) g'.0 = rw (logs_replaced t (then p q) log b n) at g'.2.run in
      rw (logs_last (replaced t (then p (undone q end)) log) b t, logs_replaced t (then p (undone q end)) log b n, eq-eqb t t refl)
      (run_taken_back d (logs log b) p q g.0 g'.0 h h' r (rw (eq-eqb t t refl) at g.1) r' (rw (eq-eqb t t refl) at g'.1))

  pub undo : Serial d a (replaced t (then p (undone q end)) log) h
  undo = record {
    unique = s.unique;
    distinct = s.distinct;
    apart = undone_apart;
    none_there = λ v i y m. s'.none_there v i y (in_undone v m);
    run = by_test (has t a)
        (λ e. let b = to_front t a e in
        let w = composed b.1 (to_back t b.0) in
        any_order (replaced t (then p (undone q end)) log) (permutation_back w) d h undone_apart s.unique
        (permuted_distinct w s.distinct) (λ v i y m. s'.none_there v (sym (permuted_has w v) ∙ i) y (in_undone v m))
        (undone_last b.0 b.1))
        (λ e. rw (logs_replaced t (then p (undone q end)) log a e) (rw (logs_replaced t p log a e) at s.run));
  }
