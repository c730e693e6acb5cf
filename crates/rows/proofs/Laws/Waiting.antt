-- Waiting: the locks of a step meet the nodes on its way up, and no others; the wait set as a word.
use Rattle.std.specs.Prelude.{◌≡◌, Bool, true, false, cond, not, ◌&&◌, ◌||◌, length, eqb}
use Rattle.std.proofs.Math.Path.{refl, ap, fun_ext}
use Rattle.std.proofs.Common.{sym, ◌∙◌, arith, eq-eqb, ne_eqb}
use Prim.Native.Nat.{ℕ, zero, suc, ◌+◌, ◌*◌, ◌-◌, ◌^◌, ◌<◌}
use Rattle.std.proofs.Math.Bool.{or-false}
use mathlib.Core.List.{List, [], ◌∷◌, ◌++◌, map, Memᴰ}
use Rattle.std.proofs.Math.Nat.{pow-succ'}
use Rattle.tree.specs.Lists.{any}
use Rattle.tree.specs.Steps.{Step, target, inserts}
use Rattle.tree.specs.Laws.Tests.{or_left, or_right}
use Rattle.tree.specs.Laws.Lists.{any_append, any_map, any_same}
use Rattle.locks.specs.Modes.{Mode, against}
use Rattle.locks.specs.Needs.{Need, need, Lock, each, every_one, locks}
use Rattle.locks.specs.Words.{word}
use Rattle.protocol.specs.State.{Marked, State, transactions, nodes, has_number, number_held}
use Rattle.protocol.specs.Calls.{clashes, blocks, sum_of_bits, wait_set}
use Rattle.table.specs.Flat.{flat}
use Rattle.table.specs.Layout.{Entry}
use Rattle.rows.specs.Places.{item, items, number_of, unique, above_places, ups, numbers_above}
use Rattle.rows.specs.Found.{blocks_node, blocks_way, wait_word}
use Rattle.rows.proofs.Laws.Up.{above_inside}
use Rattle.rows.proofs.Laws.Along.{locks_along, locks_way}
use Rattle.rows.proofs.Laws.Find.{nodes_held, unique_head, lacks_at}

-- tests of two lists in either order ---------------------------------------------------

pub any_never : {A : Type 0} (l : List A) → any (λ a. false) l ≡ false
any_never [] = refl
any_never (x ∷ l) = any_never l

pub any_or : {A : Type 0} (t s : A → Bool) (l : List A) → any (λ a. t a || s a) l ≡ (any t l || any s l)
any_or t s [] = refl
any_or t s (x ∷ l) = rw (any_or t s l) (go (t x) (s x) (any t l) (any s l))
  where
    go : (a b c d : Bool) → ((a || b) || (c || d)) ≡ ((a || c) || (b || d))
    go true b c d = refl
    go false true true d = refl
    go false true false d = refl
    go false false c d = refl

pub any_any : {A B : Type 0} (t : A → B → Bool) (l : List A) (k : List B) → any (λ a. any (t a) k) l ≡ any (λ b. any (λ a. t a b) l) k
any_any t [] k = sym (any_never k)
any_any t (x ∷ l) k = rw (any_any t l k) (sym (any_or (t x) (λ b. any (λ a. t a b) l) k))

-- the one node with a number -----------------------------------------------------------

none_with : (n : ℕ) (q : Marked → Bool) (l : List Marked) → any (has_number n) l ≡ false → any (λ a. has_number n a && q a) l ≡ false
none_with n q [] h = refl
none_with n q (a ∷ l) h = rw (or_left (has_number n a) _ h) (none_with n q l (or_right (has_number n a) _ h))

one_node : (q : Marked → Bool) (l : List Entry) (i : ℕ) → unique l ≡ true → i < length l
    → any (λ a. has_number (number_of (item l i)) a && q a) (items l) ≡ q (item l i)
one_node q [] i u h = absurd (omega arith)
one_node q (x ∷ l) zero u h =
    rw (eq-eqb (number_of x.1) (number_of x.1) refl, none_with (number_of x.1) q (items l) (unique_head x l u).0)
    (or-false (q x.1))
one_node q (x ∷ l) (suc i) u h =
    let g = unique_head x l u in
    let k : i < length l = omega arith in
    rw (ne_eqb (number_of x.1) (number_of (item l i)) (λ e. lacks_at (number_of x.1) l i g.0 k (sym e))) (one_node q l i g.1 k)

-- the way up ------------------------------------------------------------------------------

-- transaction t holds, on some node, a mode that clashes with one of these locks
meets : List Entry → ℕ → List Lock → Bool
meets l t ls = any (λ x. any (λ a. has_number x.0 a && against (a.held t) x.1) (items l)) ls

module _ (l : List Entry) (t : ℕ) where
  any_clashes : (ls : List Lock) → any (clashes ls t) (items l) ≡ meets l t ls
  unfolding meets
  any_clashes ls = any_any (λ (a : Marked) (x : Lock). has_number x.0 a && against (a.held t) x.1) (items l) ls

  meets_append : (ls ks : List Lock) → meets l t (ls ++ ks) ≡ (meets l t ls || meets l t ks)
  unfolding meets
  meets_append ls ks = any_append (λ (x : Lock). any (λ a. has_number x.0 a && against (a.held t) x.1) (items l)) ls ks

  meets_each : (ms : List Mode) (n : ℕ) → meets l t (each ms n) ≡ any (λ m. any (λ a. has_number n a && against (a.held t) m) (items l)) ms
  unfolding meets
  meets_each ms n = any_map (λ (x : Lock). any (λ a. has_number x.0 a && against (a.held t) x.1) (items l)) (λ m. (n, m)) ms

  meets_nothing : meets l t [] ≡ false
  unfolding meets
  meets_nothing = refl

  -- numbers that no node has
  meets_new : (ms : List Mode) (ns : List ℕ) → any (λ m. any (has_number m) (items l)) ns ≡ false → meets l t (every_one ms ns) ≡ false
  meets_new ms [] h = meets_nothing
  meets_new ms (n ∷ ns) h =
      rw (
        meets_append (each ms n) (every_one ms ns),
        meets_new ms ns (or_right (any (has_number n) (items l)) _ h),
        meets_each ms n,
        any_same (λ m. any (λ a. has_number n a && against (a.held t) m) (items l)) (λ m. false) ms
            (λ m x. none_with n (λ a. against (a.held t) m) (items l) (or_left _ _ h)),
        any_never ms,
      )

  module _ (u : unique l ≡ true) where
    meets_node : (ms : List Mode) (i : ℕ) → i < length l → meets l t (each ms (number_of (item l i))) ≡ blocks_node ms t (item l i)
    meets_node ms i h =
        meets_each ms (number_of (item l i))
        ∙ any_same (λ m. any (λ a. has_number (number_of (item l i)) a && against (a.held t) m) (items l)) (against ((item l i).held t)) ms
        (λ m x. one_node (λ a. against (a.held t) m) l i u h)

    meets_along : (ms ms' ms'' : List Mode) (ps : List ℕ) → ((i : ℕ) → Memᴰ i ps → i < length l)
        → meets l t (locks_along ms ms' ms'' (map number_of (map (item l) ps))) ≡ blocks_way ms ms' ms'' t (map (item l) ps)
    unfolding blocks_way
    meets_along ms ms' ms'' [] h = meets_nothing
    meets_along ms ms' ms'' (p ∷ ps) h =
        rw (
          meets_append (each ms (number_of (item l p))) (locks_along ms' ms'' ms'' (map number_of (map (item l) ps))),
          meets_node ms p (h p (Memᴰ.head refl)),
          meets_along ms' ms'' ms'' ps (λ i m. h i (Memᴰ.tail m)),
        )

    -- the locks of a step on the node at p: the numbers that it inserts are held by no node
    pub way_blocks : (s : Step) (p : ℕ) → p < length l → number_of (item l p) ≡ target s
        → any (λ m. any (has_number m) (items l)) (inserts s) ≡ false
        → any (clashes (locks s (numbers_above l p)) t) (items l)
        ≡ blocks_way (need s).node (need s).parent (need s).above t (item l p ∷ ups l p)
    unfolding ups
    way_blocks s p h e b =
        let w : Need = need s in
        let ps : List ℕ = p ∷ above_places l p in
        let ls : List Lock = locks_along w.node w.parent w.above (map number_of (map (item l) ps)) in
        any_clashes (locks s (numbers_above l p))
        ∙ ap (meets l t) (locks_way s (numbers_above l p) (number_of (item l p)) (sym e))
        ∙ rw (meets_append ls (every_one w.new (inserts s)), meets_new w.new (inserts s) b, or-false (meets l t ls))
        (meets_along w.node w.parent w.above ps (above_inside l p h))

-- the wait set as a word ------------------------------------------------------------------

-- n numbers behind k
numbers_behind : ℕ → ℕ → List ℕ
numbers_behind zero k = []
numbers_behind (suc n) k = suc k ∷ numbers_behind n (suc k)

bits_word : (q : ℕ → Bool) (n k : ℕ) → sum_of_bits q (numbers_behind n k) ≡ 2 ^ k * word (λ i. q (suc i)) n k
unfolding word numbers_behind
bits_word q zero k = omega arith
bits_word q (suc n) k =
    let e : suc k - 1 ≡ k = omega arith in
    rw (e, bits_word q n (suc k), pow-succ' 2 k) (go (q (suc k)) (2 ^ k) (word (λ i. q (suc i)) n (suc k)))
  where
    go : (b : Bool) (x w : ℕ) → cond b x 0 + 2 * x * w ≡ x * (cond b 1 0 + 2 * w)
    go true x w = omega arith
    go false x w = omega arith

pub bits_transactions : (q : ℕ → Bool) → sum_of_bits q transactions ≡ word (λ i. q (suc i)) 16 0
unfolding numbers_behind
bits_transactions q = bits_word q 16 0 ∙ once (word (λ i. q (suc i)) 16 0)
  where
    once : (w : ℕ) → 2 ^ 0 * w ≡ w
    once w = omega arith

-- the wait set of a step's locks on the way up from p
pub wait_set_at : (t : ℕ) (s : Step) (M : State) (l : List Entry) (p : ℕ) → flat 0 M.tree ≡ l → unique l ≡ true → p < length l
    → number_of (item l p) ≡ target s
    → any (λ m. number_held m M.tree) (inserts s) ≡ false
    → wait_set t (locks s (numbers_above l p)) M ≡ wait_word t (need s) M.header.is_open (item l p ∷ ups l p)
unfolding wait_set wait_word
wait_set_at t s M l p e u h n b =
    let g : nodes M.tree ≡ items l = nodes_held M.tree ∙ ap items e in
    let k : any (λ m. any (has_number m) (items l)) (inserts s) ≡ false =
    sym (ap (λ z. any (λ m. any (has_number m) z) (inserts s)) g) ∙ b in
    bits_transactions (blocks t (locks s (numbers_above l p)) M)
    ∙ ap (λ (q : ℕ → Bool). word q 16 0)
    (fun_ext (λ i. ap (λ c. M.header.is_open (suc i) && not (eqb (suc i) t) && c)
    (ap (any (clashes (locks s (numbers_above l p)) (suc i))) g ∙ way_blocks l (suc i) u s p h n k)))
