-- Whether an element has a name, and the renaming of one node.
use Rattle.std.specs.Prelude.{◌≡◌, ℕ, true, false, List, get_or}
use Rattle.std.proofs.Common.{sym, ap, eq-eqb, ne_eqb}
use Rattle.tree.specs.Lists.{same}
use Rattle.tree.specs.Content.{element_kind}
use Rattle.tree.specs.Steps.{is_named}
use Rattle.protocol.specs.State.{Marked, written_by}
use Rattle.table.specs.Lists.{modify}
use Rattle.table.specs.Flat.{second}
use Rattle.table.specs.Layout.{Entry, nodes, no_entry, Layout, Kept}
use Rattle.table.specs.Laws.Lists.{modify_same, modify_none}
use Rattle.table.specs.Laws.Kept.{kept_same, kept_as}
use Rattle.rows.specs.Places.{item}
use Rattle.rows.specs.Rows.{renamed_by}
use Rattle.node_writing.specs.Writing.{Renamed}

-- another kind
pub named_other : (a : List ℕ) (x : Marked) → (x.now.kind ≡ element_kind → ⊥) → is_named a x.now ≡ false
named_other a x n = rw (ne_eqb x.now.kind element_kind n)

pub named_element : (a : List ℕ) (x : Marked) → x.now.kind ≡ element_kind → is_named a x.now ≡ same a x.now.content
named_element a x e = rw (eq-eqb x.now.kind element_kind e)

-- one node
module _ {s : List ℕ} (p t : ℕ) (a b : List ℕ) where
  pub renamed_none : Layout s → is_named a (item (nodes s) p).now ≡ false → Renamed s s false p t a b
  renamed_none h n =
      let e : renamed_by t 0 a b (item (nodes s) p) ≡ item (nodes s) p = rw n in
      let row = ap {B = Entry} (λ (z : Marked). ((get_or (nodes s) p no_entry).0, z)) e in
      record {
        kept = kept_as _ _ (sym (modify_none p (second (renamed_by t 0 a b)) (nodes s) no_entry row)) (kept_same s h);
        hit = sym n;
      }

  pub renamed_one : {s' : List ℕ} → is_named a (item (nodes s) p).now ≡ true → Kept s s' (modify p (second (written_by t 0 b)) (nodes s))
      → Renamed s s' true p t a b
  renamed_one n k =
      let e : renamed_by t 0 a b (item (nodes s) p) ≡ written_by t 0 b (item (nodes s) p) = rw n in
      let row = ap {B = Entry} (λ (z : Marked). ((get_or (nodes s) p no_entry).0, z)) e in
      record {
        kept = kept_as _ _ (sym (modify_same p (second (renamed_by t 0 a b)) (second (written_by t 0 b)) (nodes s) no_entry row)) k;
        hit = sym n;
      }
