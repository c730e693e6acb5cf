-- A value or a text put behind the last node; places with rows put, or none.
use Rattle.std.specs.Prelude.{ℕ, ◌+◌, ◌≤◌, ◌<◌, ◌≡◌, refl, true, false, length, get_or, drop}
use Rattle.std.proofs.Common.{sym, subst, ◌∙◌, length-append, length-take-le}
use Rattle.std.proofs.Math.Path.{ap}
use mathlib.Core.List.{List, [], ◌∷◌}
use native.Mathlib.Omega.{arith}
use Rattle.std.proofs.Math.ListN.{take}
use Rattle.tree.specs.Content.{content_limit, text_kind}
use Rattle.protocol.specs.Calls.{node_limit}
use Rattle.table.specs.Layout.{nodes, Layout}
use Rattle.xml.specs.Laws.Automaton.{Config, Event, born, tell_bytes}
use Rattle.xml.specs.Laws.Complete.{Accepts}
use Rattle.xml.specs.Laws.Counts.{births, peak}
use Rattle.xml.specs.Laws.Judge.{bad}
use Rattle.xml.specs.Laws.Goes.{Leads}
use Rattle.xml.proofs.Laws.Unique.{Fresh}
use Rattle.xml.proofs.Laws.Tells.{not_refused}
use Rattle.xml_tokens.specs.declared.Cursor.{Cursor}
use Rattle.xml_filling.specs.Fill.{Row, told, with_rows, Put, Same, Decodes, Fits, TextPut, Filling}
use Rattle.xml_filling.specs.Laws.Decoding.{content_inside, none_told, born_told}
use Rattle.xml_filling.specs.Laws.Rows.{rows_done, rows_behind, many_put, short_behind, births_told, peak_told, split_rows}

-- the function `text` ------------------------------------------------------------------------

put_none : {s : List ℕ} → Layout s → Put s s []
put_none {s} h = record { layout = h; long = refl; behind = refl; header = refl; nodes = sym (rows_done s) }

module _ {x s : List ℕ} {stop at d : ℕ} where
  -- an empty one
  pub text_none : (c : Cursor) → get_or x at 0 ≡ stop → c.at ≡ at + 1 → Layout s → TextPut x stop at d s s c
  unfolding told
  text_none c e p h = record {
    put = λ v m r. (
      omega arith,
      omega (arith, content_inside x at v.contents r),
      record { rows = []; later = _; tells = refl; put = put_none h; rest = rw p (none_told x at v.contents r e) },
    );
  }

  pub text_inside : Fits x s stop at d → at < length x
  text_inside f = content_inside x at f.valued.contents f.rest

  module _ (other : get_or x at 0 ≡ stop → ⊥) where
    -- a node is born, so there is room for it
    pub text_room : Fits x s stop at d → length (nodes s) < node_limit
    unfolding births
    text_room f = omega (arith, f.room, ap births (born_told x at f.valued.contents f.rest other).1)

    pub text_some : {b : List ℕ} {n : ℕ} {c : Cursor} {s' : List ℕ} → Decodes x stop at b n c
        → Put s s' ((d, record { kind = text_kind; content = take n b }) ∷ []) → TextPut x stop at d s s' c
    unfolding told peak
    text_some {b} {n} {c} g p = record {
      put = λ v {e} m r.
          let y = born_told x at v.contents r other in
          let q = ap (peak 0) y.1 in
          let z = g.tells v.characters v.references _ v.contents.inner (omega arith) y.2 in (
            z.0,
            z.1,
            record {
              rows = (d, record { kind = text_kind; content = take n b }) ∷ [];
              later = z.2.0;
              tells = y.1 ∙ ap (λ (l : List Event). born v.contents.depth text_kind ∷ l) z.2.1
                  ∙ ap (λ (i : ℕ). born i text_kind ∷ tell_bytes (take n b) z.2.0) v.at_depth;
              put = p;
              rest = z.2.2;
            },
          );
    }

pub taken_length : (n : ℕ) (b : List ℕ) → n ≤ content_limit → length b ≡ content_limit → n ≡ length (take n b)
taken_length n b h e = sym (length-take-le n b (omega arith))

pub taken_short : (n : ℕ) (b : List ℕ) → n ≤ content_limit → length b ≡ content_limit → length (take n b) ≤ content_limit
taken_short n b h e = omega (arith, taken_length n b h e)

-- places -------------------------------------------------------------------------------------

pub put_same : {s s' : List ℕ} (k : List Row) → Put s s' k → Same s s'
put_same k p = record { long = p.long; behind = p.behind; header = p.header }

pub same_then : {s s' s'' : List ℕ} → Same s s' → Same s' s'' → Same s s''
same_then a b = record { long = b.long ∙ a.long; behind = b.behind ∙ a.behind; header = b.header ∙ a.header }

pub same_same : (s : List ℕ) → Same s s
same_same s = record { long = refl; behind = refl; header = refl }

module _ {P Q : List ℕ → ℕ → ℕ → List Event → Type 0} {x s : List ℕ} {at d : ℕ} (F : Filling P x s at d) where
  -- the rows k put, which are told first, and the place behind them
  pub filled_by : {s' : List ℕ} (k : List Row) (e : List Event) → told F.rows [] ≡ told k e → Fresh e → Put s s' k
      → (at' d' : ℕ) → Q x at' d' e → at' ≤ length x → d' ≤ length (nodes s) + length k → Filling Q x s' at' d'
  filled_by {s'} k e t h p at' d' q i l =
      let m = split_rows k F.rows h t in record {
        shape = F.shape;
        spelled = F.spelled;
        rows = m.0;
        rest = subst (Q x at' d') (sym m.2) q;
        filled = rows_behind k p m.0 ∙ ap (with_rows s) (sym m.1) ∙ F.filled;
        room = omega (arith, F.room, ap length m.1, length-append k m.0, many_put k p);
        short = short_behind k m.0 (rw m.1 at F.short);
        layout = p.layout;
        deep = omega (arith, many_put k p);
        inside = i;
      }

  -- another place, nothing put
  pub moved : (at' d' : ℕ) → Q x at' d' (told F.rows []) → at' ≤ length x → d' ≤ length (nodes s) → Filling Q x s at' d'
  moved at' d' q i h = record {
    shape = F.shape;
    spelled = F.spelled;
    rows = F.rows;
    rest = q;
    filled = F.filled;
    room = F.room;
    short = F.short;
    layout = F.layout;
    deep = h;
    inside = i;
  }

-- what is told is within the limits
module _ {P : List ℕ → ℕ → ℕ → List Event → Type 0} {x s : List ℕ} {at d : ℕ} (F : Filling P x s at d) where
  pub few : length (nodes s) + births (told F.rows []) ≤ node_limit
  few = omega (arith, F.room, births_told F.rows)

  pub short_told : peak 0 (told F.rows []) ≤ content_limit
  short_told = peak_told 0 F.rows (omega arith) F.short

  pub never : {c : Config} {y j : ℕ} → ((n : ℕ) → Leads false x c n at (bad y j)) → Accepts true c (drop at x) (told F.rows []) → ⊥
  never f r = not_refused (f (births (told F.rows []))) r (omega arith) short_told
