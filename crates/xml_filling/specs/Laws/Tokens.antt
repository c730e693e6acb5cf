-- An end tag whose name is passed over, and a node put behind the last.
use Rattle.std.specs.Prelude.{ℕ, ◌≡◌, true, false, List, [], ◌∷◌, ◌++◌, length, drop, Result}
use Rattle.std.proofs.Math.Path.{refl}
use Rattle.std.proofs.Common.{sym, ap, ◌∙◌, arith, drop-drop}
use Rattle.std.proofs.Math.Seq.{take-length, drop-length}
use Rattle.tree.specs.Lists.{every}
use Rattle.tree.specs.Content.{name_start, name_byte}
use Rattle.tree.specs.Laws.Tests.{and_left, and_right}
use Rattle.protocol.specs.State.{inserted_by}
use Rattle.table.specs.Lists.{insert}
use Rattle.table.specs.Layout.{nodes, Left, header}
use Rattle.table.specs.Laws.Kept.{left_as}
use Rattle.xml.specs.Grammar.{Name}
use Rattle.xml.specs.Laws.Automaton.{Config, end_name, Event, on}
use Rattle.xml.proofs.Laws.Transitions.{Step, s_end_byte, s_end_blank, s_end_close, step_is, blank_no_name}
use Rattle.xml.specs.Laws.Complete.{Accepts}
use Rattle.xml.specs.Laws.Counts.{births}
use Rattle.xml.specs.Laws.Tokens.{span}
use Rattle.xml.proofs.Laws.Tells.{not_refused}
use Rattle.xml_tokens.specs.declared.Cursor.{Cursor}
use Rattle.xml_tokens.specs.Steps.{Run, CloseRead, close_behind, close_wrong}
use Rattle.std.specs.Result.{result_unwrap_or}
use Rattle.xml_filling.specs.Fill.{entries, with_rows, Put, EndsAt}
use Rattle.xml_tokens.specs.declared.Mismatch.{Mismatch}

-- the name in an end tag ---------------------------------------------------------------------

module _ {n : Name} {ns : List Name} where
  -- behind the bytes w of the name that remain
  behind_name : (w : List ℕ) {s : List ℕ} {e : List Event} → Accepts true (end_name n ns w) s e
      → (t : List ℕ) × (s ≡ w ++ t) × Accepts true (end_name n ns []) t e
  behind_name [] {s} r = (s, refl, r)
  behind_name (a ∷ w) (on {b = b} {s = s} h r) = go (step_is h) r (λ q. behind_name w q)
    where
      go : {b : ℕ} {d : Config} {v l : List Event} → Step true (end_name n ns (a ∷ w)) b d v → Accepts true d s l
          → (Accepts true (end_name n ns w) s l → (t : List ℕ) × (s ≡ w ++ t) × Accepts true (end_name n ns []) t l)
          → (t : List ℕ) × (b ∷ s ≡ (a ∷ w) ++ t) × Accepts true (end_name n ns []) t (v ++ l)
      go s_end_byte r f = let x = f r in (x.0, ap (λ (t : List ℕ). a ∷ t) x.1, x.2)

  end_byte : {b : ℕ} {d : Config} {v : List Event} → Step true (end_name n ns []) b d v → name_byte b ≡ false
  unfolding name_byte name_start
  end_byte (s_end_blank {b = b} h) = (blank_no_name b h).0
  end_byte s_end_close = refl

  no_name_byte : {s : List ℕ} {e : List Event} → Accepts true (end_name n ns []) s e → span name_byte s ≡ 0
  unfolding span
  no_name_byte (on h r) = rw (end_byte (step_is h))

over_spelled : (n u : List ℕ) → every name_byte n ≡ true → span name_byte u ≡ 0 → drop (span name_byte (n ++ u)) (n ++ u) ≡ u
unfolding span
over_spelled [] u e h = rw h
over_spelled (b ∷ n) u e h = rw (and_left (name_byte b) _ e) (over_spelled n u (and_right (name_byte b) _ e) h)

-- the name is passed over as a run of a name's bytes
module _ (x : List ℕ) (at to : ℕ) (r : Run name_byte x at to) where
  name_passed : (n : Name) (ns : List Name) → every name_byte n ≡ true → {e : List Event} → Accepts true (end_name n ns n) (drop at x) e
      → Accepts true (end_name n ns []) (drop to x) e
  name_passed n ns h a =
      let y = behind_name n a in
      let p : drop to x ≡ y.0 = ap (λ (i : ℕ). drop i x) r.ends ∙ sym (drop-drop (span name_byte (drop at x)) at x)
      ∙ ap (λ (l : List ℕ). drop (span name_byte l) l) y.1 ∙ over_spelled n y.0 h (no_name_byte y.2) in
      rw p y.2

  -- where there is no end, what is said of an accepted input holds of every cursor
  pub ends_at : {r : Result Cursor Mismatch} → CloseRead x to r → (c : Cursor) → EndsAt x at (result_unwrap_or r c)
  ends_at (close_behind f g d w) c = record {
    closes = λ n ns h m a. let y = (w n ns).tells.told _ (name_passed n ns h a) in (omega (arith, r.ends), g, rw y.1 y.2);
  }
  ends_at (close_wrong f) c = record {
    closes = λ n ns h {e} m a. absurd (not_refused (f false n ns (births e)) (name_passed n ns h a) (omega arith) m);
  }

-- a node put behind the last
pub put_last : {s s' : List ℕ} (p d kind : ℕ) (b : List ℕ) → p ≡ length (nodes s)
    → Left s s' (header s) (insert p (d, inserted_by 0 0 (record { number = p; kind = kind; content = b })) (nodes s))
    → Put s s' ((d, record { kind = kind; content = b }) ∷ [])
unfolding insert entries
put_last {s} {s'} p d kind b e l =
    left_as (insert p (d, inserted_by 0 0 (record { number = p; kind = kind; content = b })) (nodes s))
    (with_rows s ((d, record { kind = kind; content = b }) ∷ []))
    (rw (e, take-length (nodes s), drop-length (nodes s))) l
