-- A granted step, on the rows: its locks along the way up, then what it does.
use Rattle.std.specs.Prelude.{◌≡◌, ℕ, zero, suc, ◌<◌, Bool, length, take, drop, ltb}
use Rattle.std.proofs.Math.Path.{refl, ap}
use Rattle.std.proofs.Common.{sym, ◌∙◌, arith, ne_eqb}
use Rattle.std.proofs.Math.Bool.{true, false, cond}
use mathlib.Core.List.Memᴰ
use mathlib.Core.List.{List, [], ◌∷◌, ◌++◌, map}
use Rattle.std.proofs.Math.ListN.{get_or}
use Rattle.tree.specs.Lists.{any, has}
use Rattle.tree.specs.Steps.{Step, T, C, R, U, D, I, TT, RR, UU, target, inserts, is_named}
use Rattle.tree.specs.Laws.Tests.{or_left}
use Rattle.tree.specs.Laws.Lists.{map_map, map_append}
use Rattle.locks.specs.Needs.{Lock, need, locks}
use Rattle.protocol.specs.State.{Marked, Tree, has_number, number_held, mark_node, seen_by, inserted_by, written_by, deleted_by, granted_to}
use Rattle.protocol.specs.State.{grant, act}
use Rattle.table.specs.Lists.{modify, insert}
use Rattle.table.specs.Flat.{flat, second}
use Rattle.table.specs.Layout.{Entry, no_entry}
use Rattle.rows.specs.Places.{depth, item, items, number_of, unique, above_places, ups, numbers_above, seen_at}
use Rattle.rows.proofs.Laws.Up.{above_inside}
use Rattle.rows.proofs.Laws.Find.{nodes_held, lacks_at}
use Rattle.rows.specs.Rows.{Lacks, number_at, Inside, left_out, all_granted, granted_up, changed_below, renamed_by, renamed_rows}
use Rattle.rows.specs.Rows.{new_place, stepped}
use Rattle.rows.proofs.Laws.Lists.{map_modify, map_insert, map_take, map_drop}
use Rattle.rows.proofs.Laws.Updates.{mark_node_rows}
use Rattle.rows.proofs.Laws.Grants.{grant_rows, rows_locks, granted_new}
use Rattle.rows.proofs.Laws.Rename.{rename_rows}
use Rattle.rows.proofs.Laws.Insertion.{insert_rows}

-- a change of all rows, and one of those below a node
module _ {A : Type 0} (shown : A → Bool) (g h : A → A) (same : (a : A) → shown (h a) ≡ shown a) (swap : (a : A) → h (g a) ≡ g (h a)) where
  changed_map : (top hidden : ℕ) (l : List (ℕ × A)) → map (second h) (changed_below shown g top hidden l)
      ≡ changed_below shown g top hidden (map (second h) l)
  unfolding changed_below
  changed_map top hidden [] = refl
  changed_map top hidden (x ∷ l) =
      rw (same x.1) (go (ltb top x.0) (left_out hidden x.0) (shown x.1)
      (changed_below shown g top hidden l) (changed_below shown g top 0 l) (changed_below shown g top (suc x.0) l)
      (changed_map top hidden l) (changed_map top 0 l) (changed_map top (suc x.0) l))
    where
      go : (b c e : Bool) (u v w : List (ℕ × A)) {u' v' w' : List (ℕ × A)} → map (second h) u ≡ u' → map (second h) v ≡ v'
          → map (second h) w ≡ w'
          → map (second h) (cond b (cond c (x ∷ u) (cond e (second g x ∷ v) (x ∷ w))) (x ∷ l))
          ≡ cond b (cond c (second h x ∷ u') (cond e (second g (second h x) ∷ v') (second h x ∷ w'))) (second h x ∷ map (second h) l)
      go true true e u v w p q r = rw p
      go true false true u v w p q r = rw (q, swap x.1)
      go true false false u v w p q r = rw r
      go false c e u v w p q r = refl

-- a change of all rows that leaves a place's depth
map_at : {A B : Type 0} (g : A → B) (l : List A) (i : ℕ) (d : A) (d' : B) → i < length l → get_or (map g l) i d' ≡ g (get_or l i d)
map_at g [] i d d' h = absurd (omega arith)
map_at g (x ∷ l) zero d d' h = refl
map_at g (x ∷ l) (suc i) d d' h = map_at g l i d d' (omega arith)

module _ (t level : ℕ) (ls : List Lock) where
  rename_swap : (a b : List ℕ) (x : Marked) → granted_to t ls (renamed_by t level a b x) ≡ renamed_by t level a b (granted_to t ls x)
  rename_swap a b x = go (is_named a x.now)
    where
      go : (c : Bool) → granted_to t ls (cond c (written_by t level b x) x)
          ≡ cond c (written_by t level b (granted_to t ls x)) (granted_to t ls x)
      go true = refl
      go false = refl

  renamed_granted : (a b : List ℕ) (p : ℕ) (l : List Entry) → p < length l
      → all_granted t ls (renamed_rows t level a b p l) ≡ renamed_rows t level a b p (all_granted t ls l)
  unfolding renamed_rows
  renamed_granted a b p l h =
      let g : Marked → Marked = renamed_by t level a b in
      let k : List Entry = all_granted t ls l in
      let e : get_or k p no_entry ≡ second (granted_to t ls) (get_or l p no_entry) =
      map_at (second (granted_to t ls)) l p no_entry no_entry h in
      let d : depth l p ≡ depth k p = ap (λ x. x.0) (sym e) in
      let head : granted_to t ls (g (item l p)) ≡ g (item k p) = rename_swap a b (item l p) ∙ ap (λ x. g x.1) (sym e) in
      let tail : all_granted t ls (changed_below (seen_by t) g (depth l p) 0 (drop (suc p) l))
      ≡ changed_below (seen_by t) g (depth k p) 0 (drop (suc p) k) =
      changed_map (seen_by t) g (granted_to t ls) (λ x. refl) (rename_swap a b) (depth l p) 0 (drop (suc p) l)
      ∙ (λ j. changed_below (seen_by t) g (d j) 0 (map_drop (second (granted_to t ls)) (suc p) l j)) in
      map_append (second (granted_to t ls)) (take p l) (second g (get_or l p no_entry) ∷ changed_below (seen_by t) g (depth l p) 0
      (drop (suc p) l))
      ∙ (λ j. map_take (second (granted_to t ls)) p l j ++ ((d j, head j) ∷ tail j))

numbers_at_places : (l : List Entry) (p : ℕ) → numbers_above l p ≡ map (number_at l) (above_places l p)
unfolding ups
numbers_at_places l p = map_map number_of (item l) (number_at l) (above_places l p) (λ i m. refl)

-- a number that no row has is at no place
lacks_places : (n : ℕ) (l : List Entry) (is : List ℕ) → Lacks n l → Inside is l → has n (map (number_at l) is) ≡ false
lacks_places n l [] k b = refl
lacks_places n l (i ∷ is) k b =
    rw (ne_eqb (number_at l i) n (λ e. lacks_at n l i k (b i (Memᴰ.head refl)) e))
    (lacks_places n l is k (λ j m. b j (Memᴰ.tail m)))

module _ (t level : ℕ) (f : Tree) (p : ℕ) (u : unique (flat 0 f) ≡ true) (h : p < length (flat 0 f)) where
  -- the locks of a step, as they are granted along the way up
  module _ (s : Step) (e : number_at (flat 0 f) p ≡ target s) (new : any (λ m. number_held m f) (inserts s) ≡ false) where
    abbrev lock_list : List Lock
    lock_list = locks s (numbers_above (flat 0 f) p)

    none_held : any (λ q. any (has_number q) (items (flat 0 f))) (inserts s) ≡ false
    none_held = ap (λ (ns : List Marked). any (λ q. any (has_number q) ns) (inserts s)) (sym (nodes_held f)) ∙ new

    way : all_granted t lock_list (flat 0 f) ≡ granted_up t (need s) p (flat 0 f)
    way =
        ap (λ (ns : List ℕ). all_granted t (locks s ns) (flat 0 f)) (numbers_at_places (flat 0 f) p)
        ∙ rows_locks t s (flat 0 f) p (above_places (flat 0 f) p) u e (above_inside (flat 0 f) p h) none_held

    reads : flat 0 (grant t lock_list f) ≡ granted_up t (need s) p (flat 0 f)
    reads = grant_rows t lock_list f ∙ way

    marks : (g : Marked → Marked) → ((a : Marked) → granted_to t lock_list (g a) ≡ g (granted_to t lock_list a))
        → flat 0 (grant t lock_list (mark_node (target s) g f)) ≡ modify p (second g) (granted_up t (need s) p (flat 0 f))
    marks g swap =
        grant_rows t lock_list (mark_node (target s) g f)
        ∙ ap (all_granted t lock_list) (mark_node_rows (target s) g f p u h e)
        ∙ map_modify (second (granted_to t lock_list)) (second g) (second g) p (flat 0 f) (λ x. ap (λ a. (x.0, a)) (swap x.1))
        ∙ ap (modify p (second g)) way

  -- THE LAW: the locks along the way up, then the step
  pub step_rows : (s : Step) → number_at (flat 0 f) p ≡ target s → seen_at t (flat 0 f) p ≡ true
      → any (λ m. number_held m f) (inserts s) ≡ false
      → flat 0 (grant t (locks s (numbers_above (flat 0 f) p)) (act t level s f)) ≡ stepped t level s p (flat 0 f)
  unfolding stepped
  step_rows (T n) e s new = reads (T n) e new
  step_rows (C n k) e s new = reads (C n k) e new
  step_rows (R n) e s new = reads (R n) e new
  step_rows (U n b) e s new = marks (U n b) e new (written_by t level b) (λ a. refl)
  step_rows (D n) e s new = marks (D n) e new (deleted_by t level) (λ a. refl)
  step_rows (I m kind b n k) e s new =
      let x : Marked = inserted_by t level (record { number = m; kind = kind; content = b }) in
      let w : Step = I m kind b n k in
      let ls : List Lock = lock_list w e new in
      let z : Lacks m (flat 0 f) = or_left _ _ (none_held w e new) in
      let o : has m (n ∷ numbers_above (flat 0 f) p) ≡ false =
      rw (ne_eqb n m (λ q. lacks_at m (flat 0 f) p z h (e ∙ q)), numbers_at_places (flat 0 f) p)
      (lacks_places m (flat 0 f) (above_places (flat 0 f) p) z (λ i o. above_inside (flat 0 f) p h i (Memᴰ.tail o))) in
      grant_rows t ls (act t level w f)
      ∙ ap (all_granted t ls) (insert_rows t n k x f p u h e)
      ∙ map_insert (second (granted_to t ls)) (new_place t k p (flat 0 f)) (suc (depth (flat 0 f) p), x) (flat 0 f)
      ∙ (λ j. insert (new_place t k p (flat 0 f)) (suc (depth (flat 0 f) p), granted_new t w (numbers_above (flat 0 f) p) x refl o j)
      (way w e new j))
  step_rows (TT n) e s new = reads (TT n) e new
  step_rows (RR n) e s new = reads (RR n) e new
  step_rows (UU n a b) e s new =
      let ls : List Lock = lock_list (UU n a b) e new in
      grant_rows t ls (act t level (UU n a b) f)
      ∙ ap (all_granted t ls) (rename_rows t level n a b f p u h e s)
      ∙ renamed_granted t level ls a b p (flat 0 f) h
      ∙ ap (renamed_rows t level a b p) (way (UU n a b) e new)
