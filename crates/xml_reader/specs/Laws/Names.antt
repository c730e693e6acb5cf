-- Names in the input compared with each other.
use Rattle.std.specs.Prelude.{ℕ, suc, ◌+◌, ◌-◌, ◌≤◌, ◌<◌, ◌≡◌, refl, Bool, true, false, cond, ◌&&◌, eqb, leb, ltb, length, get_or, take, drop}
use Rattle.std.proofs.Math.Path.{sym, ap}
use Rattle.std.proofs.Common.{◌∙◌, arith, eqb-true, ltb-true, ltb-false, leb-true, leb-false}
use Rattle.std.proofs.lemmas.Bool.{false≢true}
use mathlib.Core.List.{List, [], ◌∷◌}
use Rattle.std.proofs.Math.ListN.{get_or-eq_default}
use Rattle.std.proofs.Math.Seq.{length-take-le, get_or-drop, get_or-take}
use Rattle.tree.specs.Lists.{every}
use Rattle.tree.specs.Content.{name_start, name_byte}
use Rattle.xml.specs.Laws.Tokens.{span, name_at}
use Rattle.xml.proofs.Laws.Tokens.{span_length, span_byte, span_behind}
use Rattle.xml.specs.Laws.Fixed.{agree}
use Rattle.std.specs.declared.cmp.Ordering.TheVariants.{Less, Equal, Greater}
use Rattle.std.specs.Ordering.{nat_cmp}
use Rattle.byte_strings.specs.Agreement.{Agreement}
use Rattle.byte_strings.specs.Order.{Ordered}
use Rattle.byte_strings.specs.Laws.Agreeing.{agree_most}
use Rattle.byte_strings.specs.Laws.Order.{order_same, order_shorter, order_longer, order_differ}
use Rattle.byte_strings.specs.Sorted.{Increasing, Between, Inserted}
use Rattle.byte_strings.specs.Laws.Entries.{each_entry, entry_added}
use Rattle.xml_tokens.specs.Steps.{Run}
use Rattle.xml_tokens.specs.Laws.Runs.{run_passes}
use Rattle.xml_tokens.specs.Laws.Letters.{name_of, length_name}
use Rattle.xml_reader.specs.Elements.{Placed, Attributed, Kept, name_behind, attribute_names, EnterRead, is_entered}

-- behind the end no name goes on
beyond : (s : List ℕ) (i : ℕ) → length s ≤ i → name_byte (get_or s i 0) ≡ false
unfolding name_byte name_start
beyond s i h = rw (get_or-eq_default s 0 h)

-- a name agrees with what stands at an offset as far as with the name there
agree_name : (w l : List ℕ) → every name_byte w ≡ true → agree w (take (span name_byte l) l) ≡ agree w l
unfolding agree span
agree_name [] l h = refl
agree_name (x ∷ w) [] h = refl
agree_name (x ∷ w) (b ∷ l) h = go (name_byte x) refl h (name_byte b) refl (eqb b x) refl (agree_name w l)
  where
    go : (u : Bool) → name_byte x ≡ u → (u && every name_byte w) ≡ true → (t : Bool) → name_byte b ≡ t → (e : Bool) → eqb b x ≡ e
        → (every name_byte w ≡ true → agree w (take (span name_byte l) l) ≡ agree w l)
        → agree (x ∷ w) (take (cond t (suc (span name_byte l)) 0) (b ∷ l)) ≡ cond e (suc (agree w l)) 0
    go false p h t q e r f = absurd (false≢true h)
    go true p h true q true r f = rw r (ap suc (f h))
    go true p h true q false r f = rw r
    go true p h false q true r f = absurd (false≢true (sym q ∙ ap name_byte (eqb-true b x r) ∙ p))
    go true p h false q false r f = refl

module _ (s : List ℕ) (from to other n : ℕ) (a : Run name_byte s from to) (g : Agreement (take (to - from) (drop from s)) s other n) where
  agrees_to : n ≡ agree (name_at s from) (name_at s other)
  unfolding name_at
  agrees_to = g.agrees ∙ ap (λ (x : List ℕ). agree x (drop other s)) (name_of s from to a)
      ∙ sym (agree_name (name_at s from) (drop other s) (run_passes name_byte (drop from s)))

  length_there : length (name_at s other) ≡ span name_byte (drop other s)
  unfolding name_at
  length_there = length-take-le (span name_byte (drop other s)) (drop other s) (span_length name_byte (drop other s))

  length_here : length (name_at s from) ≡ to - from
  length_here = length_name s from to a

  -- the next byte there is one of the name, or the name ends
  goes_on : name_byte (get_or s (other + n) 0) ≡ true → n < length (name_at s other)
  goes_on e = go (ltb n (span name_byte (drop other s))) refl
    where
      m : n ≤ length (name_at s other)
      m = rw (← agrees_to) at (agree_most (name_at s from) (name_at s other))

      behind : span name_byte (drop other s) ≡ n → (t : Bool) → leb (length s) (other + n) ≡ t → ⊥
      behind q true l = false≢true (sym (beyond s (other + n) (leb-true _ _ l)) ∙ e)
      behind q false l =
          false≢true (sym (rw q at (span_behind name_byte s other (omega (arith, q, leb-false (length s) (other + n) l)))) ∙ e)

      go : (t : Bool) → ltb n (span name_byte (drop other s)) ≡ t → n < length (name_at s other)
      go true l = omega (arith, ltb-true n (span name_byte (drop other s)) l, length_there)
      go false l =
          absurd (behind (omega (arith, ltb-false n (span name_byte (drop other s)) l, length_there, m)) (leb (length s) (other + n)) refl)

  ends_there : name_byte (get_or s (other + n) 0) ≡ false → length (name_at s other) ≤ n
  ends_there e = go (ltb n (span name_byte (drop other s))) refl
    where
      go : (t : Bool) → ltb n (span name_byte (drop other s)) ≡ t → length (name_at s other) ≤ n
      go true l = absurd (false≢true (sym e ∙ (span_byte name_byte s n other (ltb-true n (span name_byte (drop other s)) l)).1))
      go false l = omega (arith, ltb-false n (span name_byte (drop other s)) l, length_there)

  pub name_longer : n ≡ to - from → name_byte (get_or s (other + n) 0) ≡ true → Ordered (name_at s other) (name_at s from) Greater
  name_longer h e = order_longer (name_at s from) (name_at s other) agrees_to (omega (arith, length_here)) (goes_on e)

  pub name_same : n ≡ to - from → name_byte (get_or s (other + n) 0) ≡ false → Ordered (name_at s other) (name_at s from) Equal
  name_same h e = order_same (name_at s from) (name_at s other) agrees_to (omega (arith, length_here)) (ends_there e)

  module _ (h : n < to - from) where
    left : n < length (name_at s from)
    left = omega (arith, h, length_here)

    pub name_shorter : name_byte (get_or s (other + n) 0) ≡ false → Ordered (name_at s other) (name_at s from) Less
    name_shorter e = order_shorter (name_at s from) (name_at s other) agrees_to left (ends_there e)

    module _ (e : name_byte (get_or s (other + n) 0) ≡ true) where
      byte_here : get_or (name_at s from) n 0 ≡ get_or (take (to - from) (drop from s)) n 0
      unfolding name_at
      byte_here = ap (λ (w : List ℕ). get_or w n 0) (sym (name_of s from to a))

      byte_there : get_or (name_at s other) n 0 ≡ get_or s (other + n) 0
      unfolding name_at
      byte_there =
          get_or-take (span name_byte (drop other s)) (drop other s) n 0 (omega (arith, goes_on e, length_there)) ∙ get_or-drop other s n 0

      pub name_differs : Ordered (name_at s other) (name_at s from) (nat_cmp (get_or s (other + n) 0) (get_or (take (to - from) (drop from s)) n 0))
      name_differs = rw (← byte_here, ← byte_there) (order_differ (name_at s from) (name_at s other) agrees_to left (goes_on e))

-- a name put among the others ------------------------------------------------------------------

pub enter_new : {s os os' : List ℕ} {lo count k at : ℕ} → Inserted os os' (lo + k) (lo + count) (at - 1)
    → Increasing (attribute_names s os lo) count
    → Between (attribute_names s os lo) count k k (name_at s at) → Placed s os (lo + count) → Attributed s at
    → EnterRead s os os' lo count at true
enter_new {s} {lo = lo} {at = at} x i b p h =
    let e : at - 1 + 1 ≡ at = omega (arith, h.not_first) in
    is_entered (record {
      placed = record { short = p.short; placed = each_entry x (λ o. o + 1 ≤ length s) p.placed (omega (arith, h.inside)) };
      added = rw e at (entry_added (name_behind s) lo refl refl x i (rw e b));
    })

pub enter_kept : {os os' : List ℕ} {lo at end p : ℕ} → lo ≤ at → Inserted os os' at end p → Kept lo os os'
enter_kept h x = record { as_long = x.as_long; kept = λ i k. x.ahead i (omega arith) }
