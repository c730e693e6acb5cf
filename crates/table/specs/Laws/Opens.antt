-- The word of open transactions, stored.
use Rattle.std.specs.Prelude.{◌≡◌, refl, ℕ, ◌-◌, ◌^◌, ◌≤◌, Bool, true, false, cond, not, ◌&&◌, ◌||◌, List, eqb}
use Rattle.std.proofs.Common.{◌∙◌, subst, arith}
use Rattle.std.proofs.Math.Path.{fun_ext}
use Rattle.std.specs.Int.Bits.{bit_xor}
use Rattle.protocol.specs.State.{with_open, with_depth, with_depths, struck_header, ended}
use Rattle.table.specs.Layout.{open_at, word, slot, is_open, header, nodes, Layout, Left}
use Rattle.table.specs.Laws.Bytes.{Only, only_word, put_word, word_put}
use Rattle.table.specs.Laws.Nodes.{header_is, same_cell, same_held, same_remembered, same_commits, left_none}
use Rattle.table.specs.Laws.Kept.{left_on}
use Rattle.table.specs.Laws.Sets.{turned_set}
use Rattle.table.specs.Sets.{Struck}

-- t opened, if it was not open, or closed; w is the word that was read, v the one stored
pub turned_left : (s s' : List ℕ) (t w v : ℕ) → s' ≡ put_word s open_at v → w ≡ word s open_at → v ≡ bit_xor w (2 ^ (t - 1)) → Layout s
    → 1 ≤ t → t ≤ 16
    → Left s s' (with_open (λ u. cond (eqb u t) (not (is_open s t)) (is_open s u)) (header s)) (nodes s)
unfolding is_open
turned_left s s' t w v e x y h a b =
    let z : s' ≡ put_word s open_at (bit_xor (word s open_at) (2 ^ (t - 1))) = e ∙ rw (y, x) in
    let o : Only open_at 2 s s' = rw z (only_word s open_at _) in
    let is : word s' open_at ≡ bit_xor (word s open_at) (2 ^ (t - 1)) = rw z (word_put s open_at _ (omega (arith, h.size))) in
    left_none o h (omega arith) (omega arith) (λ q. omega arith) (λ q. omega arith)
    (header_is s' (fun_ext (λ u. rw is (turned_set (word s open_at) t u a b))) (same_remembered o (omega arith))
    (same_commits o (λ q. omega arith)))
    (λ j q. (same_cell o (slot s j) (λ r. omega arith), same_held o (omega arith) (slot s j)))

-- no part of t is open anyway
no_parts : {s s' : List ℕ} (t : ℕ) (f : ℕ → Bool) → Left s s' (with_open f (header s)) (nodes s)
    → Left s s' (with_depth t 0 (with_open f (header s))) (nodes s)
no_parts {s} {s'} t f l =
    subst (λ (g : ℕ → ℕ). Left s s' (with_depths g (with_open f (header s))) (nodes s)) (fun_ext (λ u. go (eqb u t))) l
  where
    go : (x : Bool) → ◌≡◌ {A = ℕ} 0 (cond x 0 0)
    go true = refl
    go false = refl

-- the two cases
module _ {s s' : List ℕ} (t : ℕ)
    (l : Left s s' (with_open (λ u. cond (eqb u t) (not (is_open s t)) (is_open s u)) (header s)) (nodes s)) where
  flags : (f : ℕ → Bool) → ((u : ℕ) → cond (eqb u t) (not (is_open s t)) (is_open s u) ≡ f u) → Left s s' (with_open f (header s)) (nodes s)
  flags f e = subst (λ (g : ℕ → Bool). Left s s' (with_open g (header s)) (nodes s)) (fun_ext e) l

  pub opened_left : is_open s t ≡ false → Left s s' (with_open (λ u. eqb u t || is_open s u) (header s)) (nodes s)
  opened_left e = flags _ (λ u. rw e (go (eqb u t) (is_open s u)))
    where
      go : (x y : Bool) → cond x true y ≡ (x || y)
      go true y = refl
      go false y = refl

  -- and then struck from all sets
  pub ended_left : {s'' : List ℕ} → is_open s t ≡ true → Struck s' s'' t → Left s s'' (ended t (header s)) (nodes s)
  ended_left e k = left_on (nodes s) (struck_header t) (λ ns. ns)
      (no_parts t (λ u. not (eqb u t) && is_open s u) (flags _ (λ u. rw e (go (eqb u t) (is_open s u))))) k
    where
      go : (x y : Bool) → cond x false y ≡ (not x && y)
      go true y = refl
      go false y = refl
