-- A new node with the locks of its transaction on it.
use Rattle.std.specs.Prelude.{◌≡◌, refl, ℕ, ◌+◌, ◌≤◌, Bool, true, false, cond, List, length, eqb}
use Rattle.std.proofs.Common.{sym, ap, ◌∙◌, add-one}
use Rattle.std.proofs.Math.Path.{fun_ext}
use Rattle.tree.specs.Document.{Node}
use Rattle.locks.specs.Modes.{Mode, ModeSet, no_mode, union, among, in_word}
use Rattle.locks.specs.Words.{word_of}
use Rattle.protocol.specs.State.{inserted_by, Header, with_held}
use Rattle.table.specs.Lists.{modify, insert}
use Rattle.table.specs.Flat.{second}
use Rattle.table.specs.Layout.{Entry, nodes, Left, Kept, header}
use Rattle.table.specs.Fields.{with_modes}
use Rattle.table.specs.Laws.Kept.{left_then, left_as}
use Rattle.rows.proofs.Laws.Placing.{length_insert}
use Rattle.table.specs.Laws.ListInsertion.{modify_insert}
use Rattle.rows.specs.Rows.{granted_modes}

-- nobody held anything there
new_modes : (t : ℕ) (ms : List Mode) (x : Node) → ((m : Mode) → in_word (word_of ms) m ≡ among ms m)
    → with_modes t (word_of ms) (inserted_by t 0 x) ≡ granted_modes t ms (inserted_by t 0 x)
new_modes t ms x h = let e : in_word (word_of ms) ≡ among ms = fun_ext h in ap (λ (f : ℕ
    → ModeSet). with_held f (inserted_by t 0 x)) (fun_ext (λ u. go e (eqb u t)))
  where
    go : in_word (word_of ms) ≡ among ms → (b : Bool) → cond b (in_word (word_of ms)) no_mode ≡ cond b (union no_mode (among ms)) no_mode
    go e true = e
    go e false = refl

pub put_left : {s s₁ s₂ : List ℕ} (q d t : ℕ) (x : Node) (ms : List Mode) → ((m : Mode) → in_word (word_of ms) m ≡ among ms m) → (w : ℕ)
    → w ≡ word_of ms → q ≤ length (nodes s)
    → Left s s₁ (header s) (insert q (d, inserted_by t 0 x) (nodes s)) → Kept s₁ s₂ (modify q (second (with_modes t w)) (nodes s₁))
    → Left s s₂ (header s) (insert q (d, granted_modes t ms (inserted_by t 0 x)) (nodes s))
put_left {s} q d t x ms h w e l a b =
    left_as _ _ (modify_insert q (second (with_modes t w)) (d, inserted_by t 0 x) (nodes s) l ∙ rw (e, new_modes t ms x h))
    (left_then (insert q (d, inserted_by t 0 x) (nodes s)) (modify q (second (with_modes t w))) a b)

pub put_long : {s s₁ : List ℕ} {k : Header} (q : ℕ) (x : Entry) → Left s s₁ k (insert q x (nodes s))
    → length (nodes s₁) ≡ length (nodes s) + 1
unfolding insert
put_long {s} q x a = ap length a.nodes ∙ length_insert q x (nodes s) ∙ sym (add-one (length (nodes s)))
