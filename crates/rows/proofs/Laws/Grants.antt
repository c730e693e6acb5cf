-- The locks of a step, granted along the way up from a place.
use Rattle.std.specs.Prelude.{◌≡◌, refl, ℕ, ◌<◌, Bool, true, false, cond, ◌||◌, length, eqb}
use Rattle.std.proofs.Common.{sym, ◌∙◌, eqb-true, eq-eqb, ne_eqb}
use Rattle.std.proofs.Math.Path.{ap, fun_ext}
use Rattle.std.proofs.Math.Bool.{or-false, or_assoc}
use mathlib.Core.List.Memᴰ
use mathlib.Core.List.{List, [], ◌∷◌, ◌++◌, map}
use Rattle.std.proofs.lemmas.Bool.{eqb-false}
use Rattle.tree.specs.Lists.{any, has, distinct}
use Rattle.tree.specs.Laws.Lists.{map_map, map_same, map_self, eqb_flip}
use Rattle.tree.specs.Laws.Tests.{or_left, or_right}
use Rattle.tree.specs.Steps.{Step, target, inserts}
use Rattle.locks.specs.Modes.{Mode, ModeSet, no_mode, same_mode, among, union}
use Rattle.locks.specs.Needs.{Need, need, Lock, each, every_one, locks}
use Rattle.protocol.specs.State.{Marked, Tree, has_number, modes_on, granted_to, grant, with_held}
use Rattle.table.specs.Lists.{modify}
use Rattle.table.specs.Flat.{flat, second}
use Rattle.table.specs.Layout.{Entry}
use Rattle.table.specs.Laws.Lists.{length_modify}
use Rattle.rows.specs.Places.{items, unique}
use Rattle.rows.proofs.Laws.Along.{locks_along, locks_way}
use Rattle.rows.specs.Rows.{Lacks, Inside, all_granted, row_number, row_numbers, number_at, granted_modes, granted_along}
use Rattle.rows.proofs.Laws.Unique.{same_numbers, by_number, by_number_none, by_number_one}
use Rattle.rows.proofs.Laws.Updates.{flat_amend, numbers_modify, number_same}

-- sets of modes --------------------------------------------------------------------------

pub modes_append : (ls ks : List Lock) (n : ℕ) (m : Mode) → modes_on (ls ++ ks) n m ≡ (modes_on ls n m || modes_on ks n m)
modes_append [] ks n m = refl
modes_append (l ∷ ls) ks n m = go (eqb l.0 n) (modes_append ls ks n m)
  where
    go : (b : Bool) → modes_on (ls ++ ks) n m ≡ (modes_on ls n m || modes_on ks n m)
        → cond b (union (among (l.1 ∷ [])) (modes_on (ls ++ ks) n)) (modes_on (ls ++ ks) n) m
        ≡ (cond b (union (among (l.1 ∷ [])) (modes_on ls n)) (modes_on ls n) m || modes_on ks n m)
    go true e = rw e (sym (or_assoc (among (l.1 ∷ []) m) (modes_on ls n m) (modes_on ks n m)))
    go false e = e

pub modes_each : (ms : List Mode) (q n : ℕ) (m : Mode) → modes_on (each ms q) n m ≡ cond (eqb q n) (among ms m) false
modes_each [] q n m = go (eqb q n)
  where
    go : (b : Bool) → false ≡ cond b false false
    go true = refl
    go false = refl
modes_each (x ∷ ms) q n m = go (eqb q n) (modes_each ms q n m)
  where
    go : (b : Bool) → modes_on (each ms q) n m ≡ cond b (among ms m) false
        → cond b (union (among (x ∷ [])) (modes_on (each ms q) n)) (modes_on (each ms q) n) m ≡ cond b (same_mode m x || among ms m) false
    go true e = rw (e, or-false (same_mode m x))
    go false e = e

-- one node -------------------------------------------------------------------------------

same_held : (a : Marked) (h k : ℕ → ModeSet) → ((u : ℕ) (m : Mode) → h u m ≡ k u m) → with_held h a ≡ with_held k a
same_held a h k e = ap (λ (f : ℕ → ModeSet). with_held f a) (fun_ext (λ u. fun_ext (λ m. e u m)))

module _ (t : ℕ) where
  pub granted_append : (ls ks : List Lock) (a : Marked) → granted_to t (ls ++ ks) a ≡ granted_to t ks (granted_to t ls a)
  granted_append ls ks a = same_held a _ _ (λ u m. go u m (eqb u t))
    where
      n : ℕ
      n = a.now.number

      go : (u : ℕ) (m : Mode) (b : Bool) → cond b (union (a.held u) (modes_on (ls ++ ks) n)) (a.held u) m
          ≡ cond b (union (cond b (union (a.held u) (modes_on ls n)) (a.held u)) (modes_on ks n))
          (cond b (union (a.held u) (modes_on ls n)) (a.held u)) m
      go u m true = rw (modes_append ls ks n m) (sym (or_assoc (a.held u m) (modes_on ls n m) (modes_on ks n m)))
      go u m false = refl

  -- a set of modes more
  abbrev granted_set : ModeSet → Marked → Marked
  granted_set p a = with_held (λ u. cond (eqb u t) (union (a.held u) p) (a.held u)) a

  granted_none : (a : Marked) → granted_set no_mode a ≡ a
  granted_none a = same_held a (λ u. cond (eqb u t) (union (a.held u) no_mode) (a.held u)) a.held (λ u m. go u m (eqb u t))
    where
      go : (u : ℕ) (m : Mode) (b : Bool) → cond b (union (a.held u) no_mode) (a.held u) m ≡ a.held u m
      go u m true = or-false (a.held u m)
      go u m false = refl

  -- locks on one number
  pub granted_each : (ms : List Mode) (q : ℕ) (a : Marked) → granted_to t (each ms q) a ≡ cond (has_number q a) (granted_modes t ms a) a
  granted_each ms q a = ap (λ p. granted_set p a) (fun_ext (λ m. modes_each ms q a.now.number m)) ∙ go (has_number q a) refl
    where
      go : (b : Bool) → eqb a.now.number q ≡ b
          → granted_set (λ m. cond (eqb q a.now.number) (among ms m) false) a ≡ cond b (granted_modes t ms a) a
      go true e = rw (eq-eqb q a.now.number (sym (eqb-true a.now.number q e)))
      go false e = rw (ne_eqb q a.now.number (λ h. eqb-false a.now.number q e (sym h))) (granted_none a)

  -- rows -----------------------------------------------------------------------------------

  pub grant_rows : (ls : List Lock) (f : Tree) → flat 0 (grant t ls f) ≡ all_granted t ls (flat 0 f)
  unfolding grant
  grant_rows ls f = flat_amend (λ a. a) (granted_to t ls) [] 0 f

  rows_append : (ls ks : List Lock) (l : List Entry) → all_granted t (ls ++ ks) l ≡ all_granted t ks (all_granted t ls l)
  rows_append ls ks l =
      sym (map_map (second (granted_to t ks)) (second (granted_to t ls)) (second (granted_to t (ls ++ ks))) l
      (λ x m. ap (λ a. (x.0, a)) (sym (granted_append ls ks x.1))))

  rows_each : (ms : List Mode) (q : ℕ) (l : List Entry) → all_granted t (each ms q) l ≡ map (by_number (second (granted_modes t ms)) q) l
  rows_each ms q l = map_same _ _ l (λ x m. ap (λ a. (x.0, a)) (granted_each ms q x.1) ∙ inside (has_number q x.1) x)
    where
      inside : (b : Bool) (x : Entry) → (x.0, cond b (granted_modes t ms x.1) x.1) ≡ cond b (second (granted_modes t ms) x) x
      inside true x = refl
      inside false x = refl

  -- locks on the row at a place, and on a number that no row has
  pub rows_at : (ms : List Mode) (q : ℕ) (l : List Entry) (i : ℕ) → unique l ≡ true → i < length l → number_at l i ≡ q
      → all_granted t (each ms q) l ≡ modify i (second (granted_modes t ms)) l
  rows_at ms q l i u h e = rows_each ms q l ∙ by_number_one (second (granted_modes t ms)) q l i u h e

  pub rows_absent : (ms : List Mode) (q : ℕ) (l : List Entry) → Lacks q l → all_granted t (each ms q) l ≡ l
  rows_absent ms q l h = rows_each ms q l ∙ by_number_none (second (granted_modes t ms)) q l h

  rows_nil : (l : List Entry) → all_granted t [] l ≡ l
  rows_nil l = map_self (second (granted_to t [])) l (λ x m. ap (λ a. (x.0, a)) (granted_none x.1))

  -- along the places, one after another
  rows_along : (ms ms' ms'' : List Mode) (is : List ℕ) (l : List Entry) → unique l ≡ true → Inside is l
      → all_granted t (locks_along ms ms' ms'' (map (number_at l) is)) l ≡ granted_along t ms ms' ms'' is l
  unfolding granted_along
  rows_along ms ms' ms'' [] l u b = rows_nil l
  rows_along ms ms' ms'' (i ∷ is) l u b =
      let k : List Entry = modify i (second (granted_modes t ms)) l in
      let e : row_numbers k ≡ row_numbers l = numbers_modify (granted_modes t ms) (λ a. refl) i l in
      let same : map (number_at l) is ≡ map (number_at k) is = map_same (number_at l) (number_at k) is (λ j m. number_same l k j (sym e)) in
      rows_append (each ms (number_at l i)) (locks_along ms' ms'' ms'' (map (number_at l) is)) l
      ∙ ap (all_granted t (locks_along ms' ms'' ms'' (map (number_at l) is)))
      (rows_at ms (number_at l i) l i u (b i (Memᴰ.head refl)) refl)
      ∙ ap (λ (ns : List ℕ). all_granted t (locks_along ms' ms'' ms'' ns) k) same
      ∙ rows_along ms' ms'' ms'' is k (ap distinct e ∙ u) (λ j m. rw (length_modify i (second (granted_modes t ms)) l)
      (b j (Memᴰ.tail m)))

  -- on numbers that no row has
  rows_new : (ms : List Mode) (qs : List ℕ) (l : List Entry) → any (λ q. any (has_number q) (items l)) qs ≡ false
      → all_granted t (every_one ms qs) l ≡ l
  rows_new ms [] l h = rows_nil l
  rows_new ms (q ∷ qs) l h =
      rows_append (each ms q) (every_one ms qs) l
      ∙ rw (rows_absent ms q l (or_left _ _ h)) (rows_new ms qs l (or_right (any (has_number q) (items l)) _ h))

  -- THE LAW: the locks of a step, along the places of the node and its proper ancestors
  module _ (s : Step) (l : List Entry) (i : ℕ) (is : List ℕ) (u : unique l ≡ true) (e : number_at l i ≡ target s) (b : Inside (i ∷ is) l)
      (new : any (λ q. any (has_number q) (items l)) (inserts s) ≡ false) where
    pub rows_locks : all_granted t (locks s (map (number_at l) is)) l
        ≡ granted_along t (need s).node (need s).parent (need s).above (i ∷ is) l
    rows_locks =
        let w : Need = need s in
        let ks : List Lock = locks_along w.node w.parent w.above (map (number_at l) (i ∷ is)) in
        let f : row_numbers (all_granted t ks l) ≡ row_numbers l =
        map_map row_number (second (granted_to t ks)) row_number l (λ x m. refl) in
        ap (λ (ls : List Lock). all_granted t ls l) (locks_way s (map (number_at l) is) (number_at l i) (sym e))
        ∙ rows_append ks (every_one w.new (inserts s)) l
        ∙ rows_new w.new (inserts s) (all_granted t ks l) (ap (λ (z : ℕ → Bool). any z (inserts s))
        (fun_ext (same_numbers (all_granted t ks l) l f)) ∙ new)
        ∙ rows_along w.node w.parent w.above (i ∷ is) l u b

  -- the new node of an insertion: only the locks on its own number
  granted_absent : (ms ms' ms'' : List Mode) (qs : List ℕ) (a : Marked) → has a.now.number qs ≡ false
      → granted_to t (locks_along ms ms' ms'' qs) a ≡ a
  granted_absent ms ms' ms'' [] a h = granted_none a
  granted_absent ms ms' ms'' (q ∷ qs) a h =
      let none : granted_to t (each ms q) a ≡ a = granted_each ms q a ∙ rw (eqb_flip q a.now.number (or_left _ _ h)) in
      granted_append (each ms q) (locks_along ms' ms'' ms'' qs) a
      ∙ ap (granted_to t (locks_along ms' ms'' ms'' qs)) none
      ∙ granted_absent ms' ms'' ms'' qs a (or_right (eqb q a.now.number) _ h)

  pub granted_new : (s : Step) (ns : List ℕ) (a : Marked) → inserts s ≡ a.now.number ∷ [] → has a.now.number (target s ∷ ns) ≡ false
      → granted_to t (locks s ns) a ≡ granted_modes t (need s).new a
  granted_new s ns a e h =
      let w : Need = need s in
      let m : ℕ = a.now.number in
      let ks : List Lock = locks_along w.node w.parent w.above (target s ∷ ns) in
      ap (λ (ls : List Lock). granted_to t ls a) (locks_way s ns (target s) refl)
      ∙ granted_append ks (every_one w.new (inserts s)) a
      ∙ ap (granted_to t (every_one w.new (inserts s))) (granted_absent w.node w.parent w.above (target s ∷ ns) a h)
      ∙ ap (λ (qs : List ℕ). granted_to t (every_one w.new qs) a) e
      ∙ granted_append (each w.new m) [] a
      ∙ granted_none (granted_to t (each w.new m) a)
      ∙ granted_each w.new m a
      ∙ rw (eq-eqb m m refl)
