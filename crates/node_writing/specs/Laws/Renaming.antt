-- The loop of UU: rows changed and counted.
use Rattle.std.specs.Prelude.{◌≡◌, refl, ℕ, suc, ◌+◌, ◌≤◌, ◌<◌, Bool, true, false, cond, List, length, get_or}
use Rattle.std.specs.Int.{from_bool}
use Rattle.std.proofs.Common.{◌∙◌, sym, ap, arith, add-one, add-zero}
use Rattle.tree.specs.Steps.{is_named}
use Rattle.protocol.specs.State.{Marked, seen_by}
use Rattle.table.specs.Lists.{modify}
use Rattle.table.specs.Flat.{second}
use Rattle.table.specs.Layout.{Entry, nodes, no_entry, Layout, Kept}
use Rattle.table.specs.Laws.Lists.{getD_modify}
use Rattle.table.specs.Laws.Kept.{kept_same, kept_then, kept_as}
use Rattle.rows.specs.Places.{depth, item}
use Rattle.rows.specs.Rows.{left_out, renamed_by}
use Rattle.table.specs.Outline.{next_below}
use Rattle.rows.proofs.Laws.Passes.{left_out_parts}
use Rattle.rows.proofs.Laws.Lists.{drop_modify}
use Rattle.rows.proofs.Laws.Loops.{Changing, changed_end, changed_out, changed_hidden, changed_unseen, changed_row, changed_start, Counting}
use Rattle.rows.proofs.Laws.Loops.{counted_end, counted_out, counted_hidden, counted_unseen, counted_other, counted_hit, counted_start}
use Rattle.node_writing.specs.Writing.{rest_renamed, rest_named, Renamed, RenamedRest, RenamedBelow}

-- a hit counts once
pub hit_few : (r : Bool) → from_bool r ≤ 1
hit_few true = omega arith
hit_few false = omega arith

hit_count : (r : Bool) → from_bool r ≡ cond r 1 0
hit_count true = refl
hit_count false = refl

-- s₀ are the bytes before the loop; the rows before i are done, with these hits
pub record Renaming (s₀ s : List ℕ) (p t : ℕ) (a b : List ℕ) (i hidden hits : ℕ) : Type 0 where
  pub kept : Kept s₀ s (nodes s)
  pub few : hits ≤ i
  pub changing : Changing (seen_by t) (renamed_by t 0 a b) (depth (nodes s₀) p) (rest_renamed t a b p (nodes s₀)) (nodes s) i hidden
  pub counting : Counting t a (depth (nodes s₀) p) (rest_named t a p (nodes s₀)) (nodes s) i hidden hits

pub renaming_start : {s₀ : List ℕ} (p t : ℕ) (a b : List ℕ) → Layout s₀ → Renaming s₀ s₀ p t a b (p + 1) 0 0
unfolding rest_renamed rest_named
renaming_start {s₀} p t a b h = record { kept = kept_same s₀ h; few = omega arith; changing = refl; counting = omega arith }

module _ {s₀ s : List ℕ} {p t : ℕ} {a b : List ℕ} {i hidden hits : ℕ} (v : Renaming s₀ s p t a b i hidden hits) where
  abbrev top : ℕ
  top = depth (nodes s₀) p

  abbrev wanted : List Entry
  wanted = rest_renamed t a b p (nodes s₀)

  abbrev total : ℕ
  total = rest_named t a p (nodes s₀)

  abbrev g : Marked → Marked
  g = renamed_by t 0 a b

  -- at the end of the rows, or of the subtree
  pub renaming_end : length (nodes s) ≤ i → hits ≤ 1024 → RenamedRest s₀ s hits p t a b
  renaming_end h few = record {
    kept = kept_as _ _ (changed_end (seen_by t) g top wanted (nodes s) i hidden no_entry v.changing h) v.kept;
    hits = sym (counted_end t a top total (nodes s) i hidden hits v.counting h);
    few = few;
  }

  module _ (h : i < length (nodes s)) where
    pub renaming_out : depth (nodes s) i ≤ top → RenamedRest s₀ s hits p t a b
    renaming_out k = record {
      kept = kept_as _ _ (changed_out (seen_by t) g top wanted (nodes s) i hidden no_entry v.changing h k) v.kept;
      hits = sym (counted_out t a top total (nodes s) i hidden hits v.counting h k);
      few = omega (arith, v.few, v.kept.layout.room, v.kept.layout.many);
    }

    module _ (k : top < depth (nodes s) i) where
      hidden_row : left_out hidden (depth (nodes s) i) ≡ true → Renaming s₀ s p t a b (i + 1) hidden hits
      hidden_row e = record {
        kept = v.kept;
        few = omega (arith, v.few);
        changing = changed_hidden (seen_by t) g top wanted (nodes s) i hidden no_entry v.changing h k e;
        counting = counted_hidden t a top total (nodes s) i hidden hits v.counting h k e;
      }

      module _ (e : left_out hidden (depth (nodes s) i) ≡ false) where
        unseen_row : seen_by t (item (nodes s) i) ≡ false → Renaming s₀ s p t a b (i + 1) (suc (depth (nodes s) i)) hits
        unseen_row n =
            rw (← add-one (depth (nodes s) i)) (record {
              kept = v.kept;
              few = omega (arith, v.few);
              changing = changed_unseen (seen_by t) g top wanted (nodes s) i hidden no_entry v.changing h k e n;
              counting = counted_unseen t a top total (nodes s) i hidden hits v.counting h k e n;
            })

        counted_more : seen_by t (item (nodes s) i) ≡ true → (c : Bool) → is_named a (item (nodes s) i).now ≡ c
            → Counting t a top total (modify i (second g) (nodes s)) (i + 1) 0 (hits + from_bool c)
        counted_more n true c = counted_hit t a top total (nodes s) i hidden hits v.counting h k e (second g) n c
        counted_more n false c =
            rw (add-zero hits, add-one i, drop_modify i (second g) (nodes s), ← add-one i)
            (counted_other t a top total (nodes s) i hidden hits v.counting h k e n c)

        seen_row : {s' : List ℕ} {r : Bool} → seen_by t (item (nodes s) i) ≡ true → Renamed s s' r i t a b
            → Renaming s₀ s' p t a b (i + 1) 0 (hits + from_bool r)
        seen_row {s'} {r} n m = record {
          kept = kept_as _ _ (sym m.kept.nodes) (kept_then (nodes s) (modify i (second g)) v.kept m.kept);
          few = omega (arith, v.few, hit_few r);
          changing = rw m.kept.nodes (changed_row (seen_by t) g top wanted (nodes s) i hidden no_entry v.changing h k e n);
          counting = rw (m.kept.nodes, m.hit) (counted_more n (is_named a (item (nodes s) i).now) refl);
        }

      -- c is the least depth that is left out behind the row
      module _ {c : ℕ} (q : c ≡ next_below (seen_by t) hidden (get_or (nodes s) i no_entry)) where
        -- it is below a node that t deleted, or is one
        pub renaming_passed : (c ≡ 0 → ⊥) → Renaming s₀ s p t a b (i + 1) c hits
        unfolding next_below
        renaming_passed z =
            go (left_out hidden (depth (nodes s) i)) refl (seen_by t (item (nodes s) i)) refl
          where
            go : (x : Bool) → left_out hidden (depth (nodes s) i) ≡ x → (y : Bool) → seen_by t (item (nodes s) i) ≡ y
                → Renaming s₀ s p t a b (i + 1) c hits
            go true e y n = rw (q, e) (hidden_row e)
            go false e true n = absurd (z (q ∙ rw (e, n)))
            go false e false n = rw (q, e, n) (unseen_row e n)

        pub renaming_seen : {s' : List ℕ} {r : Bool} → c ≡ 0 → Renamed s s' r i t a b
            → Renaming s₀ s' p t a b (i + 1) c (hits + from_bool r)
        unfolding next_below
        renaming_seen {s'} {r} z m =
            rw z (go (left_out hidden (depth (nodes s) i)) refl (seen_by t (item (nodes s) i)) refl)
          where
            go : (x : Bool) → left_out hidden (depth (nodes s) i) ≡ x → (y : Bool) → seen_by t (item (nodes s) i) ≡ y
                → Renaming s₀ s' p t a b (i + 1) 0 (hits + from_bool r)
            go true e y n =
                let w : hidden ≡ 0 = rw (q, e) at z in
                absurd (omega (arith, w, (left_out_parts hidden (depth (nodes s) i) e).0))
            go false e true n = seen_row e n m
            go false e false n = let w : suc (depth (nodes s) i) ≡ 0 = rw (q, e, n) at z in absurd (omega arith)

-- the node itself, then those below it
pub renamed_whole : {s s₁ s₂ : List ℕ} {q : Bool} {r p t : ℕ} {a b : List ℕ} → p < length (nodes s) → Renamed s s₁ q p t a b
    → RenamedRest s₁ s₂ r p t a b
    → RenamedBelow s s₂ (from_bool q + r) p t a b
unfolding rest_renamed rest_named
renamed_whole {s} {s₁} {s₂} {q} {r} {p} {t} {a} {b} h m n =
    let g : Entry → Entry = second (renamed_by t 0 a b) in
    let l : List Entry = nodes s in
    let d : depth (modify p g l) p ≡ depth l p = ap (λ (x : Entry). x.0) (getD_modify p g l no_entry h) in
    record {
      kept = kept_as _ _ (rw d (changed_start t p l a 0 b h)) (kept_then (modify p g l) (rest_renamed t a b p) m.kept n.kept);
      hits = rw (m.hit, n.hits, m.kept.nodes, d, hit_count) (sym (counted_start t p l a g));
      few = omega (arith, hit_few q, n.few);
    }
