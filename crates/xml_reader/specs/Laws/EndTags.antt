-- An end tag, compared with the name of its element.
use Prim.Native.Nat.{ℕ, suc, ◌+◌, ◌-◌, ◌≤◌, ◌<◌}
use Rattle.std.specs.Prelude.{◌≡◌, Bool, cond, get_or, take, drop, Result, Err}
use Rattle.std.proofs.Math.Path.{refl}
use Rattle.std.proofs.Common.{sym, ap, ◌∙◌, add-one, drop_of_length-le, drop-cons}
use Rattle.std.proofs.Math.Bool.{true, false}
use mathlib.Core.List.{List, [], ◌∷◌}
use native.Mathlib.Omega.{arith}
use Rattle.std.proofs.Math.Dec.{eqb, leb}
use Rattle.std.proofs.Math.ListN.{length}
use borrow.Author.Tests.{leb-true, leb-false}
use Rattle.tree.specs.Content.{name_byte}
use Rattle.xml.specs.Grammar.{Name}
use Rattle.xml.specs.Laws.Automaton.{end_name, step}
use Rattle.xml.specs.Laws.Judge.{bad}
use Rattle.xml.specs.Laws.Goes.{Leads, Goes}
use Rattle.xml.proofs.Laws.Goes.{goes_then, goes_same, goes_step, stops_end, stops_stuck}
use Rattle.xml.specs.Laws.Tokens.{name_at}
use Rattle.xml.specs.Laws.Fixed.{agree}
use Rattle.byte_strings.specs.Agreement.{Agreement}
use Rattle.xml_tokens.specs.Steps.{Run, CloseRead, close_behind, close_wrong}
use Rattle.xml_tokens.specs.Laws.Letters.{name_of, length_name}
use Rattle.xml_reader.specs.Elements.{EndRead, end_behind, end_mismatch}
use Rattle.xml_tokens.specs.Values.{mismatch}
use Rattle.xml_tokens.specs.declared.Cursor.{Cursor}
use Rattle.xml_tokens.specs.declared.Mismatch.{Mismatch}

module _ (s : List ℕ) (n : Name) (ns : List Name) (m : ℕ) where
  -- a byte of the name
  agree_here : (x : ℕ) (w : List ℕ) (at : ℕ) → at < length s
      → agree (x ∷ w) (drop at s) ≡ cond (eqb (get_or s at 0) x) (suc (agree w (drop (suc at) s))) 0
  unfolding agree
  agree_here x w at h = rw (drop-cons s at 0 h)

  agree_over : (x : ℕ) (w : List ℕ) (at : ℕ) → length s ≤ at → agree (x ∷ w) (drop at s) ≡ 0
  unfolding agree
  agree_over x w at h = rw (drop_of_length-le s h)

  whole_name : (w : List ℕ) (at : ℕ) → agree w (drop at s) ≡ length w
      → Goes true s (end_name n ns w) m at (end_name n ns []) m (at + length w)
  unfolding step
  whole_name [] at e = goes_same s (end_name n ns []) m at (at + 0) (omega arith)
  whole_name (x ∷ w) at e = go (leb (length s) at) refl (whole_name w (suc at))
    where
      go : (t : Bool) → leb (length s) at ≡ t
          → (agree w (drop (suc at) s) ≡ length w → Goes true s (end_name n ns w) m (suc at) (end_name n ns []) m (suc at + length w))
          → Goes true s (end_name n ns (x ∷ w)) m at (end_name n ns []) m (at + suc (length w))
      go true q f = absurd (omega (arith, agree_over x w at (leb-true (length s) at q)))
      go false q f = next (leb-false (length s) at q) (eqb (get_or s at 0) x) refl
        where
          next : at < length s → (y : Bool) → eqb (get_or s at 0) x ≡ y
              → Goes true s (end_name n ns (x ∷ w)) m at (end_name n ns []) m (at + suc (length w))
          next h true y =
              let a : agree (x ∷ w) (drop at s) ≡ suc (agree w (drop (suc at) s)) = agree_here x w at h ∙ rw y in
              goes_then (goes_step s (end_name n ns (x ∷ w)) m at h (end_name n ns w) (rw y) refl)
              (goes_then (goes_same s (end_name n ns w) m (at + 1) (suc at) (add-one at))
              (goes_then (f (omega arith)) (goes_same s (end_name n ns []) m (suc at + length w) (at + suc (length w)) (omega arith))))
          next h false y = let a : agree (x ∷ w) (drop at s) ≡ 0 = agree_here x w at h ∙ rw y in absurd (omega arith)

  part_name : (w : List ℕ) (at : ℕ) → (agree w (drop at s) ≡ length w → ⊥)
      → Leads true s (end_name n ns w) m at (bad 4 (at + agree w (drop at s)))
  unfolding step agree
  part_name [] at e = absurd (e refl)
  part_name (x ∷ w) at e = go (leb (length s) at) refl (part_name w (suc at))
    where
      go : (t : Bool) → leb (length s) at ≡ t
          → ((agree w (drop (suc at) s) ≡ length w → ⊥)
          → Leads true s (end_name n ns w) m (suc at) (bad 4 (suc at + agree w (drop (suc at) s))))
          → Leads true s (end_name n ns (x ∷ w)) m at (bad 4 (at + agree (x ∷ w) (drop at s)))
      go true q f =
          let h = leb-true (length s) at q in
          let p : at + agree (x ∷ w) (drop at s) ≡ at = omega (arith, agree_over x w at h) in
          rw p (stops_end s (end_name n ns (x ∷ w)) m at h refl)
      go false q f = next (leb-false (length s) at q) (eqb (get_or s at 0) x) refl
        where
          next : at < length s → (y : Bool) → eqb (get_or s at 0) x ≡ y
              → Leads true s (end_name n ns (x ∷ w)) m at (bad 4 (at + agree (x ∷ w) (drop at s)))
          next h true y =
              let a : agree (x ∷ w) (drop at s) ≡ suc (agree w (drop (suc at) s)) = agree_here x w at h ∙ rw y in
              let p : at + agree (x ∷ w) (drop at s) ≡ suc at + agree w (drop (suc at) s) = omega arith in
              rw p ((goes_then (goes_step s (end_name n ns (x ∷ w)) m at h (end_name n ns w) (rw y) refl)
              (goes_same s (end_name n ns w) m (at + 1) (suc at) (add-one at))
              ).back _ (f (λ z. e (omega arith))))
          next h false y =
              let a : agree (x ∷ w) (drop at s) ≡ 0 = agree_here x w at h ∙ rw y in
              let p : at + agree (x ∷ w) (drop at s) ≡ at = omega arith in
              rw p (stops_stuck s (end_name n ns (x ∷ w)) m at h (rw y))

module _ (s : List ℕ) (at from to : ℕ) (r : Run name_byte s from to) (k : ℕ) (a : Agreement (take (to - from) (drop from s)) s at k) where
  -- the bytes that agree with the name
  agreed : k ≡ agree (name_at s from) (drop at s)
  agreed = a.agrees ∙ ap (λ (w : List ℕ). agree w (drop at s)) (name_of s from to r)

  pub end_differs : (k ≡ to - from → ⊥) → EndRead s (name_at s from) at (Err (mismatch (at + k)))
  end_differs h =
      end_mismatch {j = at + k}
      (λ ns m. rw agreed (part_name s (name_at s from) ns m (name_at s from) at (λ e. h (agreed ∙ e ∙ length_name s from to r))))

  module _ (h : k ≡ to - from) where
    to_close : (ns : List Name) (m : ℕ)
        → Goes true s (end_name (name_at s from) ns (name_at s from)) m at (end_name (name_at s from) ns []) m (at + k)
    to_close ns m =
        let n = name_at s from in
        let e : k ≡ length n = h ∙ sym (length_name s from to r) in
        goes_then (whole_name s n ns m n at (sym agreed ∙ e)) (goes_same s (end_name n ns []) m (at + length n) (at + k) (omega arith))

    -- and what is read behind the name
    pub end_rest : {x : Result Cursor Mismatch} → CloseRead s (at + k) x → EndRead s (name_at s from) at x
    end_rest (close_behind {c = c} f g d w) =
        end_behind {c = c} (omega arith) g d (λ ns m. goes_then (to_close ns m) ((w (name_at s from) ns).goes m))
    end_rest (close_wrong {j = j} f) = end_mismatch {j = j} (λ ns m. (to_close ns m).back _ (f true (name_at s from) ns m))
