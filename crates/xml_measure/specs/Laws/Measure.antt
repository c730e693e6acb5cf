-- The loop that measures.
use Rattle.std.specs.Prelude.{◌≡◌, refl, ℕ, suc, ◌+◌, ◌-◌, ◌*◌, ◌≤◌, ◌<◌, Bool, true, false, cond, List, [], ◌∷◌, Option, None, Some, get_or, drop, set, eqb, leb}
use Rattle.std.proofs.Math.Path.{sym}
use Rattle.std.proofs.Common.{ap, ◌∙◌, subst, arith, drop_of_length-le, get_or-set_same, le-leb, eqb-true}
use Rattle.std.proofs.Math.Numerals.{add-one}
use Rattle.std.proofs.Math.ListN.{length}
use Rattle.std.proofs.lemmas.Bool.{lt-leb, eqb-false}
use Rattle.tree.specs.Content.{attribute_kind}
use Rattle.xml.specs.Bytes.{used}
use Rattle.table.specs.Layout.{Entry}
use Rattle.rows.specs.Places.{depth}
use Rattle.xml_text.specs.Rows.{Line, parent_of, previous_of, fits, cost, repeated, judge, prolog, measured}
use Rattle.byte_strings.specs.Sorted.{Increasing, Among, Lists}
use Rattle.byte_strings.specs.Laws.Sorted.{lists_none, increasing_none, among_seen}
use Rattle.xml_measure.specs.Lines.{label_at, line_at, lines, Inside, Listed, Measured, is_none, is_length}
use Rattle.xml_measure.specs.Laws.Lines.{length_lines, lines_from}
use Rattle.xml_measure.specs.Walk.{open_labels, before_lines, previous_kind, Walk}
use Rattle.xml_measure.specs.Names.{tag_names, names_at, Follows, Followed, is_again, is_followed, Admitted, is_unfit, is_fit}
use Rattle.xml_measure.specs.Laws.Walk.{parent_is, opened_is, previous_is, walk_start, walk_below, walk_steps, walk_deep, walk_kind}
use Rattle.xml_measure.specs.Laws.Walk.{walk_on}
use Rattle.xml_measure.specs.Laws.Tags.{Tagged, tagged_start, tagged_names, tagged_on}
use Rattle.xml_measure.specs.Laws.Names.{not_attribute, is_attribute, inside_none}

-- before the i-th row; the names of the attributes of the start tag opened last are the first `kept` ones
pub record Measuring (l : List Entry) (places : List ℕ) (count : ℕ) (path kinds : List ℕ) (top : ℕ) (names : List ℕ) (kept i sum : ℕ)
    : Type 0 where
  pub walk : Walk l places path kinds top i
  pub behind : i ≤ count
  pub some : 1 ≤ sum
  pub small : sum ≤ 39 + 256 * i
  pub whole : measured (lines l places count)
      ≡ judge (open_labels l path (suc top)) 0 (before_lines l places i) sum (drop i (lines l places count))
  pub tags : Tagged kinds top (before_lines l places i)
  pub fewer : kept < i
  pub inside : Inside l names kept
  pub sorted : Increasing (names_at l names) kept
  pub lists : Lists (names_at l names) kept (tag_names (before_lines l places i))

pub measuring_start : {l : List Entry} {places : List ℕ} {count : ℕ} (path kinds names : List ℕ) → Listed l places count → 2 ≤ count
    → length path ≡ 1024 → length kinds ≡ 1024 → length names ≡ 1024 → {k : ℕ} → k ≡ (label_at l (get_or places 0 0)).kind
    → Measuring l places count (set path 0 (get_or places 0 0)) (set kinds 0 k) 0 names 0 1 39
unfolding measured prolog open_labels before_lines tag_names
measuring_start {l} {places} {count} path kinds names c m n o q {k} g =
    let e : lines l places count ≡ line_at l (get_or places 0 0) ∷ drop 1 (lines l places count) = lines_from l places count
    (omega (arith, c.long, c.room)) 0 (omega arith) in
    let f : drop 1 (lines l places count)
    ≡ line_at l (get_or places 1 0) ∷ drop 2 (lines l places count) = lines_from l places count (omega (arith, c.long, c.room)) 1
    (omega arith) in
    record {
      walk = walk_start path kinds c n o g;
      behind = omega arith;
      some = omega arith;
      small = omega arith;
      whole =
          ap measured (e ∙ ap (λ (k : List Line). line_at l (get_or places 0 0) ∷ k) f)
          ∙ rw (f, get_or-set_same path 0 (get_or places 0 0) 0 (omega arith));
      tags = rw c.first (tagged_start (set kinds 0 k) (label_at l (get_or places 0 0)));
      fewer = omega arith;
      inside = inside_none q;
      sorted = increasing_none (names_at l names);
      lists = rw c.first (lists_none (names_at l names));
    }

pub too_few : (l : List Entry) (places : List ℕ) (count : ℕ) → Listed l places count → count < 2 → Measured (lines l places count) None
unfolding measured
too_few l places count c m =
    let h : count ≤ length places = omega (arith, c.long, c.room) in
    let e : lines l places count ≡ line_at l (get_or places 0 0) ∷ drop 1 (lines l places count) = lines_from l places count h 0 c.some in
    let f : drop 1 (lines l places count)
    ≡ [] = drop_of_length-le (lines l places count) {i = 1} (omega (arith, length_lines l places count h)) in
    is_none (ap measured (e ∙ ap (λ (k : List Line). line_at l (get_or places 0 0) ∷ k) f))

module _ {l : List Entry} {places path kinds names : List ℕ} {count top kept i sum : ℕ} (c : Listed l places count)
    (v : Measuring l places count path kinds top names kept i sum) where
  -- all rows are measured
  module _ (h : count ≤ i) where
    last : measured (lines l places count) ≡ cond (leb sum 65536) sum 0
    unfolding judge
    last =
        let n : count ≤ length places = omega (arith, c.long, c.room) in
        v.whole ∙ rw (drop_of_length-le (lines l places count) {i = i} (omega (arith, length_lines l places count n)))

    pub measured_long : 65536 < sum → Measured (lines l places count) None
    measured_long k = is_none (last ∙ rw (lt-leb sum 65536 k))

    pub measured_sum : sum ≤ 65536 → Measured (lines l places count) (Some sum)
    measured_sum k = is_length (sym (last ∙ rw (le-leb sum 65536 k))) v.some k

  -- the i-th row: p is its place, d its depth, b its kind, a the kind of its parent, and k the kind of its previous sibling
  module _ (h : i < count) {d p a b k : ℕ} (ep : p ≡ get_or places i 0) (ed : d ≡ depth l p) (ea : a ≡ get_or kinds (d - 1) 0)
      (eb : b ≡ (label_at l p).kind)
      (ek : k ≡ previous_kind kinds top d) where
    depth_is : d ≡ depth l (get_or places i 0)
    depth_is = ed ∙ ap (depth l) ep

    low : 1 ≤ d
    low = omega (arith, depth_is, walk_below c v.walk h)

    deep : d ≤ suc top
    deep = omega (arith, depth_is, walk_steps c v.walk h)

    row : drop i (lines l places count) ≡ (d, label_at l p) ∷ drop (suc i) (lines l places count)
    row = lines_from l places count (omega (arith, c.long, c.room)) i h ∙ rw (depth_is, ep)

    parent_label : parent_of (open_labels l path (suc top)) d ≡ label_at l (get_or path (d - 1) 0)
    parent_label = parent_is l path (suc top) d low deep

    sibling : previous_of (open_labels l path (suc top)) 0 d ≡ k
    sibling = sym (ek ∙ previous_is l path d v.walk.of_kinds)

    fits_is : fits (label_at l (get_or path (d - 1) 0)).kind k (label_at l p).kind ≡ fits a k (label_at l p).kind
    fits_is = rw (ea ∙ walk_kind c v.walk h depth_is)

    unfit : fits a k (label_at l p).kind ≡ false → measured (lines l places count) ≡ 0
    unfolding judge
    unfit e = v.whole ∙ rw (row, parent_label, sibling, fits_is, e)

    module _ (f : fits a k (label_at l p).kind ≡ true) where
      fits_here : fits (get_or kinds (d - 1) 0) (previous_kind kinds top d) (label_at l p).kind ≡ true
      fits_here = rw (← ea, ← ek) f

      -- among the attributes before it there is one of its name, or none
      seen_before : (label_at l p).kind ≡ attribute_kind
          → repeated (before_lines l places i) (d, label_at l p) ≡ used (tag_names (before_lines l places i)) (label_at l p).content
      seen_before e =
          is_attribute (before_lines l places i) (d, label_at l p) e
          ∙ ap (λ (ns : List (List ℕ)). used ns (label_at l p).content) (tagged_names v.tags low deep (label_at l p) fits_here e)

      again : (label_at l p).kind ≡ attribute_kind → Among (names_at l names) kept (label_at l p).content
          → measured (lines l places count) ≡ 0
      unfolding judge
      again e x = v.whole ∙ rw (row, parent_label, sibling, fits_is, f, seen_before e ∙ among_seen v.lists x)

      module _ {names' : List ℕ} {m : ℕ} (w : Follows l names names' kept p m) where
        unrepeated : repeated (before_lines l places i) (d, label_at l p) ≡ false
        unrepeated = go (eqb (label_at l p).kind attribute_kind) refl
          where
            go : (t : Bool) → eqb (label_at l p).kind attribute_kind ≡ t → repeated (before_lines l places i) (d, label_at l p) ≡ false
            go true e =
                let z : (label_at l p).kind ≡ attribute_kind = eqb-true (label_at l p).kind attribute_kind e in
                seen_before z ∙ w.unseen z (before_lines l places i) v.lists
            go false e = sym (not_attribute (before_lines l places i) (d, label_at l p) (eqb-false (label_at l p).kind attribute_kind e))

        same_line : (d, label_at l p) ≡ line_at l (get_or places i 0)
        same_line = rw (depth_is, ep)

        on : {n : ℕ} → n ≡ cost (label_at l (get_or path (d - 1) 0)) k (label_at l p) → n ≤ 256
            → Measuring l places count (set path d p) (set kinds d b) d names' m (i + 1) (sum + n)
        unfolding judge before_lines
        on {n} g small = record {
          walk = walk_on c v.walk h depth_is ep eb;
          behind = omega arith;
          some = omega (arith, v.some);
          small = omega (arith, v.small);
          whole = v.whole
              ∙ rw (
                row,
                parent_label,
                sibling,
                fits_is,
                f,
                unrepeated,
                ← g,
                opened_is l path (suc top) d p deep (omega (arith, depth_is, walk_deep c v.walk h, v.walk.on_path.long)),
                add-one i,
              )
              (ap (λ (x : Line). judge (open_labels l (set path d p) (suc d)) 0 (x ∷ before_lines l places i) (sum + n)
              (drop (suc i) (lines l places count))) same_line);
          tags = rw (add-one i, ← same_line, eb)
              (tagged_on v.tags low deep (label_at l p) fits_here
              (omega (arith, depth_is, walk_deep c v.walk h, v.walk.of_kinds.long)));
          fewer = omega (arith, v.fewer, w.few);
          inside = w.inside;
          sorted = w.sorted;
          lists = rw (add-one i, ← same_line) (w.lists d low (before_lines l places i) v.lists);
        }

    module _ {names' : List ℕ} {r : Option ℕ} (y : Admitted l names names' kept a k p r) where
      pub measured_refused : r ≡ None → Measured (lines l places count) None
      measured_refused e = is_none (go (subst (Admitted l names names' kept a k p) e y))
        where
          under : fits a k (label_at l p).kind ≡ true → Followed l names names' kept p None → measured (lines l places count) ≡ 0
          under f (is_again e x) = again f e x

          go : Admitted l names names' kept a k p None → measured (lines l places count) ≡ 0
          go (is_unfit e) = unfit e
          go (is_fit f x) = under f x

      pub measured_on : {m : ℕ} → r ≡ Some m → {n : ℕ} → n ≡ cost (label_at l (get_or path (d - 1) 0)) k (label_at l p) → n ≤ 256
          → Measuring l places count (set path d p) (set kinds d b) d names' m (i + 1) (sum + n)
      measured_on {m} e {n} g small = go (subst (Admitted l names names' kept a k p) e y)
        where
          under : fits a k (label_at l p).kind ≡ true → Followed l names names' kept p (Some m)
              → Measuring l places count (set path d p) (set kinds d b) d names' m (i + 1) (sum + n)
          under f (is_followed w) = on f w g small

          go : Admitted l names names' kept a k p (Some m)
              → Measuring l places count (set path d p) (set kinds d b) d names' m (i + 1) (sum + n)
          go (is_fit f x) = under f x
