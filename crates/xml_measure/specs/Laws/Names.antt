-- Names of attributes: which rows have one, and those that are kept behind a node.
use Rattle.std.specs.Prelude.{◌≡◌, refl, ℕ, ◌+◌, ◌<◌, false, List, Option, Some, length}
use Rattle.std.proofs.Common.{◌∙◌, arith}
use borrow.Author.Tests.{ne_eqb}
use Rattle.tree.specs.Content.{attribute_kind, text_kind}
use Rattle.xml.specs.Bytes.{used}
use Rattle.table.specs.Layout.{Entry}
use Rattle.std.specs.declared.cmp.Ordering.{Ordering}
use Rattle.std.specs.Ordering.{nat_cmp}
use Rattle.std.specs.Cmp.Lexicographic.{slice_cmp}
use Rattle.byte_strings.specs.Order.{Ordered}
use Rattle.byte_strings.specs.Sorted.{Increasing, Between, Inserted}
use Rattle.byte_strings.specs.Laws.Order.{ordered_cmp}
use Rattle.byte_strings.specs.Laws.Sorted.{lists_none, increasing_none}
use Rattle.byte_strings.specs.Laws.Entries.{each_entry, entry_added}
use Rattle.xml_text.specs.Rows.{Line, names_before, repeated}
use Rattle.xml_measure.specs.Lines.{label_at, Inside}
use Rattle.xml_measure.specs.Names.{tag_names, names_at, Entered, is_repeated, is_entered, Followed, is_again, is_followed}

pub not_attribute : (pre : List Line) (x : Line) → (x.1.kind ≡ 3 → ⊥) → false ≡ repeated pre x
unfolding repeated
not_attribute pre x h = rw (ne_eqb x.1.kind 3 h)

pub is_attribute : (pre : List Line) (x : Line) → x.1.kind ≡ 3 → repeated pre x ≡ used (names_before x.0 pre) x.1.content
unfolding repeated
is_attribute pre x e = rw e

-- the names behind a node -----------------------------------------------------------------------------

pub inside_none : {l : List Entry} {os : List ℕ} → length os ≡ 1024 → Inside l os 0
inside_none h = record { long = h; room = omega arith; inside = λ j k. absurd (omega arith) }

-- contents compared are names compared
pub ordered_by : {a b x y : List ℕ} {r : Ordering} → a ≡ x → b ≡ y → r ≡ slice_cmp nat_cmp a b → Ordered x y r
ordered_by {a} {b} e f g = rw (← e, ← f, g) (ordered_cmp a b)

-- a name put at place k
pub entered : {l : List Entry} {os os' : List ℕ} {n k p : ℕ} → Inserted os os' k n p → n < 1024 → Inside l os n
    → Increasing (names_at l os) n
    → Between (names_at l os) n k k (label_at l p).content → p < length l → Entered l os os' n p (Some (n + 1))
entered {l} x h v i b q = is_entered refl
    (record { long = x.as_long ∙ v.long; room = omega arith; inside = each_entry x (λ o. o < length l) v.inside q })
    (entry_added (λ o. (label_at l o).content) 0 (omega arith) (omega arith) x i b)

module _ {l : List Entry} {os : List ℕ} {n p : ℕ} where
  pub follow_attribute : {os' : List ℕ} {r : Option ℕ} → (label_at l p).kind ≡ attribute_kind → Entered l os os' n p r
      → Followed l os os' n p r
  unfolding tag_names
  follow_attribute e (is_repeated a) = is_again e a
  follow_attribute e (is_entered {m = m} z i a) = is_followed {m = m} (record {
    few = omega (arith, z);
    inside = i;
    sorted = rw z a.sorted;
    lists = λ d h pre x. rw (z, ne_eqb d 0 (λ y. omega arith), e) (a.lists (tag_names pre) x);
    unseen = λ k pre x. a.unseen (tag_names pre) x;
  })

  module _ (v : Inside l os n) (i : Increasing (names_at l os) n) where
    pub follow_text : (label_at l p).kind ≡ text_kind → Followed l os os n p (Some n)
    unfolding tag_names
    follow_text e = is_followed {m = n} (record {
      few = omega arith;
      inside = v;
      sorted = i;
      lists = λ d h pre x. rw (ne_eqb d 0 (λ y. omega arith), e) x;
      unseen = λ k pre x. absurd (omega (arith, e, k));
    })

    pub follow_other : ((label_at l p).kind ≡ attribute_kind → ⊥) → ((label_at l p).kind ≡ text_kind → ⊥) → Followed l os os n p (Some 0)
    unfolding tag_names
    follow_other h k = is_followed {m = 0} (record {
      few = omega arith;
      inside = inside_none v.long;
      sorted = increasing_none (names_at l os);
      lists = λ d low pre x.
          rw (ne_eqb d 0 (λ y. omega arith), ne_eqb (label_at l p).kind attribute_kind h, ne_eqb (label_at l p).kind text_kind k)
          (lists_none (names_at l os));
      unseen = λ e pre x. absurd (h e);
    })
