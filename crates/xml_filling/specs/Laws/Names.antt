-- Elements and attributes put by their names.
use Prim.Native.Nat.{ℕ, suc, ◌+◌, ◌-◌, ◌≤◌, ◌<◌}
use Rattle.std.specs.Prelude.{◌≡◌, Bool, true, false, cond, length, take, drop}
use Rattle.std.proofs.Math.Path.{refl, ap}
use Rattle.std.proofs.Common.{sym, ◌∙◌, arith}
use mathlib.Core.List.{List, [], ◌∷◌}
use Rattle.std.proofs.Math.Numerals.{add-one}
use Rattle.std.proofs.Math.ListN.{get_or}
use Rattle.tree.specs.Lists.{every}
use Rattle.tree.specs.Content.{content_limit, element_kind, attribute_kind, name_byte}
use Rattle.protocol.specs.Calls.{node_limit}
use Rattle.table.specs.Layout.{nodes}
use Rattle.xml.specs.Shape.{element, attribute}
use Rattle.xml.specs.Grammar.{Name}
use Rattle.xml.specs.Laws.Automaton.{behind_part, in_tag, before_equals, attribute_name, tag_name, Event, born, byte, depth, step}
use Rattle.xml.specs.Laws.Automaton.{tell_bytes}
use Rattle.xml.specs.Laws.Complete.{Accepts}
use Rattle.xml.specs.Laws.Tokens.{span, name_at}
use Rattle.xml.proofs.Laws.Tokens.{span_behind}
use Rattle.xml.proofs.Laws.Tells.{tells_step}
use Rattle.xml.proofs.Laws.Behind.{part_fresh, equals_fresh, some_byte, name_told, tag_name_ended, attribute_name_ended}
use Rattle.xml_tokens.specs.Steps.{Run}
use Rattle.xml_tokens.specs.Laws.Letters.{start_name}
use Rattle.xml_reader.specs.Laws.Attributes.{naming}
use Rattle.xml_reader.specs.Laws.StartTags.{tag_naming}
use Rattle.xml_filling.specs.Fill.{Row, told, Short, Spelled, InTag, AtAttribute, AtEquals, AtElement, Filling, Put}
use Rattle.xml_filling.specs.Laws.Rows.{split_rows}
use Rattle.xml_filling.specs.Laws.Texts.{filled_by}

-- a name's bytes
spelled_run : (t : ℕ → Bool) (l : List ℕ) → every t (take (span t l) l) ≡ true
unfolding span
spelled_run t [] = refl
spelled_run t (b ∷ l) = go (t b) refl (spelled_run t l)
  where
    go : (y : Bool) → t b ≡ y → every t (take (span t l) l) ≡ true → every t (take (cond y (suc (span t l)) 0) (b ∷ l)) ≡ true
    go true e h = rw (e, h)
    go false e h = refl

module _ (x : List ℕ) (at to : ℕ) (r : Run name_byte x at to) where
  -- the slice is the name
  slice_name : take (to - at) (drop at x) ≡ name_at x at
  unfolding name_at
  slice_name = let e : to - at ≡ span name_byte (drop at x) = omega (arith, r.ends) in rw e

  name_spelled : every name_byte (name_at x at) ≡ true
  unfolding name_at
  name_spelled = spelled_run name_byte (drop at x)

  name_ended : to < length x → name_byte (get_or x to 0) ≡ false
  name_ended h = rw r.ends (span_behind name_byte x at (omega (arith, r.ends)))

-- the first row
short_first : (r : Row) (l k : List Row) → k ≡ r ∷ l → Short k → length r.1.content ≤ content_limit
unfolding Short
short_first r l k e h = let y : Short (r ∷ l) = rw e at h in y.0

-- start tags of elements ---------------------------------------------------------------------

module _ {x s : List ℕ} {at d : ℕ} (F : Filling AtElement x s at d) (to : ℕ) (r : Run name_byte x at to) where
  abbrev E : AtElement x at d (told F.rows [])
  E = F.rest

  abbrev n : Name
  n = name_at x at

  -- what is told behind the name
  behind_name : (l : List Event) × (told F.rows [] ≡ told ((d, element n) ∷ []) l)
      × Accepts true (behind_part n E.names []) (drop to x) l
  unfolding told
  behind_name =
      let y = name_told x (tag_name E.names) (tag_naming E.names) at E.inside (start_name (get_or x at 0) E.starts) E.rest in
      let z = rw (← r.ends) at y.2 in
      let h = some_byte x (tag_name E.names n) to refl z in
      (y.0, E.tells ∙ ap (λ (l : List Event). born d element_kind ∷ l) y.1, tag_name_ended x to h (name_ended x at to r h) z)

  first_row : (m : List Row) × (F.rows ≡ (d, element n) ∷ m) × (told m [] ≡ behind_name.0)
  first_row = split_rows ((d, element n) ∷ []) F.rows (part_fresh behind_name.2) behind_name.1

  pub element_room : length (nodes s) < node_limit
  element_room = omega (arith, F.room, ap length first_row.1)

  pub element_short : length (take (to - at) (drop at x)) ≤ content_limit
  element_short = rw (slice_name x at to r) (short_first (d, element n) first_row.0 F.rows first_row.1 F.short)

  pub element_put : {s' : List ℕ} → Put s s' ((d, record { kind = element_kind; content = take (to - at) (drop at x) }) ∷ [])
      → Filling InTag x s' to (d + 1)
  unfolding Spelled depth
  element_put p =
      let q = rw (slice_name x at to r) at p in
      filled_by F ((d, element n) ∷ []) behind_name.0 behind_name.1 (part_fresh behind_name.2) q to (d + 1)
      (record {
        name = n;
        names = E.names;
        seen = [];
        spelled = (name_spelled x at to r, E.spelled);
        deep = rw add-one (ap suc E.deep);
        rest = behind_name.2;
      })
      r.inside (omega (arith, F.deep))

-- attributes -----------------------------------------------------------------------------------

module _ {x s : List ℕ} {at d : ℕ} (F : Filling AtAttribute x s at d) (to : ℕ) (r : Run name_byte x at to) where
  abbrev A : AtAttribute x at d (told F.rows [])
  A = F.rest

  abbrev a : Name
  a = name_at x at

  behind_attribute : (l : List Event) × (told F.rows [] ≡ told ((d, attribute a) ∷ []) l)
      × Accepts true (before_equals A.name A.names (a ∷ A.seen)) (drop to x) l
  unfolding told step
  behind_attribute =
      let b = get_or x at 0 in
      let v : List Event = born (depth (A.name ∷ A.names)) attribute_kind ∷ byte b ∷ [] in
      let w = (tells_step x (in_tag A.name A.names A.seen) at A.inside
      (attribute_name A.name A.names A.seen (b ∷ [])) v (rw A.starts)).told _ A.rest in
      let y = name_told x (attribute_name A.name A.names A.seen) (naming A.name A.names A.seen) at A.inside
      (start_name b A.starts) w.2 in
      let z = rw (← r.ends) at y.2 in
      let h = some_byte x (attribute_name A.name A.names A.seen a) to refl z in (
        y.0,
        w.1 ∙ ap (λ (l : List Event). born (depth (A.name ∷ A.names)) attribute_kind ∷ l) y.1
            ∙ ap (λ (i : ℕ). born i attribute_kind ∷ tell_bytes a y.0) (sym A.deep),
        attribute_name_ended x to h (name_ended x at to r h) z,
      )

  attribute_row : (m : List Row) × (F.rows ≡ (d, attribute a) ∷ m) × (told m [] ≡ behind_attribute.0)
  attribute_row = split_rows ((d, attribute a) ∷ []) F.rows (equals_fresh behind_attribute.2) behind_attribute.1

  pub attribute_room : length (nodes s) < node_limit
  attribute_room = omega (arith, F.room, ap length attribute_row.1)

  pub attribute_short : length (take (to - at) (drop at x)) ≤ content_limit
  attribute_short = rw (slice_name x at to r) (short_first (d, attribute a) attribute_row.0 F.rows attribute_row.1 F.short)

  pub attribute_put : {s' : List ℕ} → Put s s' ((d, record { kind = attribute_kind; content = take (to - at) (drop at x) }) ∷ [])
      → Filling AtEquals x s' to d
  attribute_put p =
      let q = rw (slice_name x at to r) at p in
      filled_by F ((d, attribute a) ∷ []) behind_attribute.0 behind_attribute.1 (equals_fresh behind_attribute.2) q to d
      (record {
        name = A.name;
        names = A.names;
        seen = a ∷ A.seen;
        spelled = A.spelled;
        deep = A.deep;
        rest = behind_attribute.2;
      })
      r.inside (omega (arith, F.deep))
