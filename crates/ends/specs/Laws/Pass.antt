-- The one pass of an end: what was passed and what is to come make what the two passes leave.
use Rattle.std.specs.Prelude.{◌≡◌, ℕ, zero, suc, ◌+◌, ◌≤◌, ◌<◌, Bool, false, cond, ◌&&◌, take, drop, eqb, ltb}
use Rattle.std.proofs.Math.Path.{refl, sym, ap}
use Rattle.std.proofs.Common.{◌∙◌, drop_of_length-le, drop-cons, ltb-true, eq-eqb, ne_eqb, eqb-true}
use Rattle.std.proofs.Math.Bool.{true}
use mathlib.Core.List.{List, [], ◌∷◌, ◌++◌, map, append-nil}
use native.Mathlib.Omega.{arith}
use Rattle.std.proofs.Math.Numerals.{add-one}
use Rattle.std.proofs.Math.ListN.{length, get_or}
use Rattle.std.proofs.Math.Seq.{take-suc, append_snoc}
use Rattle.std.proofs.Math.Dec.{leb}
use Rattle.std.proofs.lemmas.Bool.{eqb-false}
use Rattle.tree.specs.Laws.Tests.{and_left}
use Rattle.protocol.specs.State.{Marked, writer_of, released}
use Rattle.table.specs.Lists.{modify}
use Rattle.table.specs.Flat.{second, prune}
use Rattle.table.specs.Layout.{Entry, nodes, no_entry, Layout, Left, Kept, header}
use Rattle.table.specs.Outline.{next_below, exchange}
use Rattle.table.specs.Laws.Lists.{modify_same, length_modify, getD_modify}
use Rattle.table.specs.Laws.ListInsertion.{take_modify, drop_modify}
use Rattle.table.specs.Laws.Kept.{kept_same, left_kept, then_left, left_as}
use Rattle.ends.specs.declared.pass.Ending.{Ending}
use Rattle.ends.specs.declared.pass.Ending.TheVariants.{Lasting, Undone}
use Rattle.ends.specs.Marks.{stays, at_end, ended_marks, marks_sum}
use Rattle.ends.specs.Pass.{two_passes, IfKept, Moved}
use Rattle.ends.specs.Laws.Marks.{marks_whole, none_kept, both_marks}

-- one place further ------------------------------------------------------------------------------

module _ (shown : Marked → Bool) (g : Entry → Entry) (l : List Entry) (below j : ℕ) (h : j < length l) where
  turn : prune shown below (drop j l)
      ≡ cond (eqb (next_below shown below (get_or l j no_entry)) 0) (get_or l j no_entry ∷ prune shown 0 (drop (suc j) l))
      (prune shown (next_below shown below (get_or l j no_entry)) (drop (suc j) l))
  unfolding prune next_below
  turn = rw (drop-cons l j no_entry h) (go (ltb 0 below && leb below (get_or l j no_entry).0) refl (shown (get_or l j no_entry).1))
    where
      x : Entry
      x = get_or l j no_entry

      xs : List Entry
      xs = drop (suc j) l

      go : (u : Bool) → (ltb 0 below && leb below x.0) ≡ u → (v : Bool) →
          cond u (prune shown below xs) (cond v (x ∷ prune shown 0 xs) (prune shown (suc x.0) xs)) ≡
          cond (eqb (cond u below (cond v 0 (suc x.0))) 0) (x ∷ prune shown 0 xs) (prune shown (cond u below (cond v 0 (suc x.0))) xs)
      go true p v = rw (ne_eqb below 0 (λ z. omega (arith, ltb-true 0 below (and_left (ltb 0 below) _ p))))
      go false p true = refl
      go false p false = rw (ne_eqb (suc x.0) 0 (λ z. omega arith))

  module _ (m : List Entry) (k b : ℕ) (v : take k l ++ map g (prune shown below (drop j l)) ≡ m)
      (e : b ≡ next_below shown below (get_or l j no_entry)) (q : k ≤ j) where
    -- element j is left out, whatever became of it
    skip : (f : Entry → Entry) → (b ≡ 0 → ⊥)
        → take k (modify j f l) ++ map g (prune shown b (drop (j + 1) (modify j f l))) ≡ m
    skip f z =
        let ne : eqb (next_below shown below (get_or l j no_entry)) 0 ≡ false =
        ne_eqb (next_below shown below (get_or l j no_entry)) 0 (λ w. z (e ∙ w)) in
        let next : prune shown below (drop j l) ≡ prune shown b (drop (suc j) l) = turn ∙ rw (e, ne) in
        rw (take_modify j k f l q, add-one j, drop_modify j (suc j) f l (omega arith), ← next) v

    -- element j by g is kept, at place k
    keep : b ≡ 0
        → take (k + 1) (exchange k j (modify j g l)) ++ map g (prune shown b (drop (j + 1) (exchange k j (modify j g l)))) ≡ m
    unfolding exchange
    keep z =
        let y : next_below shown below (get_or l j no_entry) ≡ 0 = sym e ∙ z in
        let next : prune shown below (drop j l) ≡ get_or l j no_entry ∷ prune shown 0 (drop (suc j) l) = turn ∙ rw y in
        let l₁ : List Entry = modify j g l in
        let to : Entry → Entry = λ x. get_or l₁ j no_entry in
        let from : Entry → Entry = λ x. get_or l₁ k no_entry in
        let n : k < length (modify j from l₁) = rw (length_modify, length_modify) (omega arith) in
        let p : k < length (modify k to (modify j from l₁)) = rw (length_modify, length_modify, length_modify) (omega arith) in
        rw (
          z,
          add-one k,
          add-one j,
          take-suc (modify k to (modify j from l₁)) k no_entry p,
          take_modify k k to (modify j from l₁) (omega arith),
          take_modify j k from l₁ q,
          take_modify j k g l q,
          drop_modify k (suc j) to (modify j from l₁) (omega arith),
          drop_modify j (suc j) from l₁ (omega arith),
          drop_modify j (suc j) g l (omega arith),
          getD_modify k to (modify j from l₁) no_entry n,
          getD_modify j g l no_entry h,
          append_snoc,
        )
        (rw next at v)

-- the loop -----------------------------------------------------------------------------------------

-- the first k are what was passed; those from place j on are to come
abbrev pub Passed : Ending → ℕ → List Entry → ℕ → ℕ → ℕ → List Entry → Type 0
Passed end t l₀ k below j l =
    take k l ++ map (second (at_end end t)) (prune (stays end t) below (drop j l)) ≡ two_passes end t l₀

-- a visit: the marks, the lock, the place
pub passed_next : {s s₁ s₂ s₃ : List ℕ} (end : Ending) (t : ℕ) (l₀ : List Entry) (below k j b k' : ℕ) → j < length (nodes s) → k ≤ j
    → Passed end t l₀ k below j (nodes s)
    → IfKept end t below j s s₁ b → Kept s₁ s₂ (modify j (second (released t)) (nodes s₁)) → Moved k j b s₂ s₃ k'
    → Passed end t l₀ k' b (j + 1) (nodes s₃)
passed_next {s} {s₁} {s₂} {s₃} end t l₀ below k j b k' h q v ends lock moved = go (eqb b 0) refl
  where
    of : Bool → Marked → Marked
    of x a = released t (cond x (ended_marks end t a) a)

    rows : nodes s₂ ≡ modify j (second (of (eqb b 0))) (nodes s)
    rows = (both_marks j (λ a. cond (eqb b 0) (ended_marks end t a) a) (released t) ends.kept lock).nodes

    whole : modify j (second (of true)) (nodes s) ≡ modify j (second (at_end end t)) (nodes s)
    whole = modify_same j (second (of true)) (second (at_end end t)) (nodes s) no_entry
        (ap (λ (a : Marked). ((get_or (nodes s) j no_entry).0, a)) (marks_whole end t (get_or (nodes s) j no_entry).1))

    go : (x : Bool) → eqb b 0 ≡ x → Passed end t l₀ k' b (j + 1) (nodes s₃)
    go true p =
        rw (moved.count, moved.kept.nodes, p, rows, p, whole)
        (keep (stays end t) (second (at_end end t)) (nodes s) below j h (two_passes end t l₀) k b v ends.next q
        (eqb-true b 0 p))
    go false p =
        rw (moved.count, moved.kept.nodes, p, rows, p)
        (skip (stays end t) (second (at_end end t)) (nodes s) below j h (two_passes end t l₀) k b v ends.next q
        (second (of false)) (eqb-false b 0 p))

pub passed_start : (end : Ending) (t : ℕ) (l : List Entry) → Passed end t l 0 0 0 l
passed_start end t l = refl

module _ (end : Ending) (t : ℕ) (l₀ : List Entry) (k below j : ℕ) (l : List Entry) (v : Passed end t l₀ k below j l)
    (past : length l ≤ j) where
  -- nothing is to come
  passed_all : take k l ≡ two_passes end t l₀
  unfolding prune
  passed_all = sym (append-nil (take k l)) ∙ (rw (drop_of_length-le l past) at v)

  -- the first stays
  pub passed_some : 1 ≤ length l₀ → stays end t (get_or l₀ 0 no_entry).1 ≡ true → 1 ≤ k
  unfolding prune
  passed_some some first = go k passed_all
    where
      none : (l₀ : List Entry) → 1 ≤ length l₀ → stays end t (get_or l₀ 0 no_entry).1 ≡ true → [] ≡ two_passes end t l₀ → ⊥
      none [] h e w = omega arith
      none (x ∷ xs) h e w = omega (arith, ap length (rw e at w))

      go : (k : ℕ) → take k l ≡ two_passes end t l₀ → 1 ≤ k
      go zero w = absurd (none l₀ some first w)
      go (suc k) w = omega arith

-- and the count cut down
pub passed_left : {s s' s'' : List ℕ} (end : Ending) (t k below j : ℕ) → Kept s s' (nodes s')
    → Passed end t (nodes s) k below j (nodes s') → length (nodes s') ≤ j → Left s' s'' (header s') (take k (nodes s'))
    → Left s s'' (header s) (two_passes end t (nodes s))
passed_left {s} {s'} end t k below j a v past b =
    left_as _ _ (passed_all end t (nodes s) k below j (nodes s') v past) (then_left (nodes s') (take k) (left_kept a) b)

-- the parts of a visit -----------------------------------------------------------------------------

module _ {s : List ℕ} (end : Ending) (t below j b : ℕ) where
  pub left_out_then : Layout s → b ≡ next_below (stays end t) below (get_or (nodes s) j no_entry) → 0 < b
      → IfKept end t below j s s b
  left_out_then h e z = record { next = e; kept = rw (ne_eqb b 0 (λ q. omega arith)) (none_kept s j (λ a. a) refl h) }

  pub kept_then_ends : {s' : List ℕ} → b ≡ next_below (stays end t) below (get_or (nodes s) j no_entry) → b ≡ 0
      → Kept s s' (modify j (second (ended_marks end t)) (nodes s))
      → IfKept end t below j s s' b
  kept_then_ends e z k = record { next = e; kept = rw (eq-eqb b 0 z) k }

-- no mark
module _ (t : ℕ) (low : 1 ≤ t) (a : Marked) (h : marks_sum a ≡ 0) where
  writer : eqb (writer_of a.update) t ≡ false
  writer = ne_eqb (writer_of a.update) t (λ e. omega arith)

  inserter : eqb a.inserter t ≡ false
  inserter = ne_eqb a.inserter t (λ e. omega arith)

  deleter : eqb a.deleter t ≡ false
  deleter = ne_eqb a.deleter t (λ e. omega arith)

  stays_so : (end : Ending) → stays end t a ≡ true
  stays_so (Lasting n) = rw deleter
  stays_so Undone = rw inserter

  nothing_ends : (end : Ending) → ended_marks end t a ≡ a
  nothing_ends (Lasting n) = rw (writer, inserter)
  nothing_ends Undone = rw (writer, deleter)

pub unmarked_stays : {s : List ℕ} (end : Ending) (t below j : ℕ) → Layout s → 1 ≤ t
    → below + marks_sum (get_or (nodes s) j no_entry).1 ≡ 0
    → IfKept end t below j s s 0
unfolding next_below
unmarked_stays {s} end t below j h low m =
    let a : Marked = (get_or (nodes s) j no_entry).1 in
    let none : marks_sum a ≡ 0 = omega arith in
    let e : below ≡ 0 = omega arith in
    record {
      next = rw (e, stays_so t low a none end);
      kept = none_kept s j (ended_marks end t) (nothing_ends t low a none end) h;
    }

module _ {s : List ℕ} (k j next : ℕ) where
  pub moved_none : Layout s → 0 < next → Moved k j next s s k
  moved_none h z =
      let e = ne_eqb next 0 (λ q. omega arith) in
      record { kept = rw e (kept_same s h); count = rw e }

  pub moved_behind : {s' : List ℕ} → next ≤ 0 → Kept s s' (exchange k j (nodes s)) → Moved k j next s s' (k + 1)
  moved_behind z a =
      let e = eq-eqb next 0 (omega arith) in
      record { kept = rw e a; count = rw e }

-- of the places passed at most all are kept
pub moved_most : {s s' : List ℕ} {k j next r : ℕ} → k ≤ j → Moved k j next s s' r → r ≤ j + 1
moved_most {k = k} {j} {next} {r} h m = go (eqb next 0) m.count
  where
    go : (b : Bool) → r ≡ cond b (k + 1) k → r ≤ j + 1
    go true e = omega arith
    go false e = omega arith
