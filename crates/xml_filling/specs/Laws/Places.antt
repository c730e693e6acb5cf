-- From one place of the reading to the next.
use Prim.Native.Nat.{ℕ, suc, ◌+◌, ◌-◌, ◌≤◌, ◌<◌}
use Rattle.std.specs.Prelude.{◌≡◌, refl, false, length, drop, Ok, IsOk, Result}
use Rattle.std.proofs.Math.Path.{sym, ap, subst}
use Rattle.std.proofs.Common.{◌∙◌, arith, add-one}
use Rattle.std.proofs.Math.Bool.{true}
use mathlib.Core.List.{List, [], ◌∷◌}
use Rattle.std.proofs.Math.ListN.{get_or}
use Rattle.tree.specs.Content.{element_kind}
use Rattle.protocol.specs.State.{tree_of}
use Rattle.table.specs.Flat.{flat}
use Rattle.table.specs.Layout.{nodes}
use Rattle.xml.specs.Bytes.{less_than}
use Rattle.xml.specs.Shape.{Shape, document}
use Rattle.xml.specs.Grammar.{Name}
use Rattle.xml.specs.Laws.Automaton.{Config, at_start, behind_part, behind_quote, in_value, value_reference, tag_name, content, behind_open}
use Rattle.xml.specs.Laws.Automaton.{end_name, in_text, text_reference, closed, Event, born, byte, depth, step, tell}
use Rattle.xml.specs.Laws.Complete.{Accepts}
use Rattle.xml.proofs.Laws.Complete.{complete}
use Rattle.xml.proofs.Laws.Unique.{Fresh, one_tree}
use Rattle.xml.proofs.Laws.Tells.{tells_step, not_refused}
use Rattle.xml.proofs.Laws.Behind.{part_fresh, open_fresh, nothing_told}
use Rattle.xml_tokens.specs.declared.Cursor.{Cursor}
use Rattle.xml_tokens.specs.declared.Item.TheVariants.{Open, Empty, Attribute}
use Rattle.xml_tokens.specs.declared.Markup.TheVariants.{StartTag, EndTag}
use Rattle.xml_tokens.specs.Steps.{EqualsRead, quoted, no_quote, ItemRead, tag_open, tag_empty, tag_attribute, tag_wrong}
use Rattle.xml_tokens.specs.Steps.{MarkupRead, markup_start, markup_end, markup_wrong}
use Rattle.xml_reader.specs.Prolog.{RootRead, root_at, no_root}
use Rattle.xml_reader.specs.Laws.Configurations.{text_contents, text_depth, value_contents, value_depth}
use Rattle.xml_filling.specs.Fill.{Row, listed, told, Short, Spelled, Behind, InTag, AtAttribute, AtEquals, AtTag, AtElement, Filling}
use Rattle.xml_filling.specs.Fill.{Same}
use Rattle.xml_filling.specs.Fill.{Valued, Fits, Putting, TextPut, EndsAt, Begun, Filled}
use Rattle.xml_filling.specs.Laws.Rows.{rows_done, told_listed, births_told, peak_told, length_listed, short_listed, document_rows}
use Rattle.xml_filling.specs.Laws.Rows.{one_node}
use Rattle.xml_filling.specs.Laws.Texts.{filled_by, moved, few, short_told, never, put_same, same_then}
use Rattle.xml_tokens.specs.Values.{opening}
use Rattle.xml_tokens.specs.declared.Item.{Item}
use Rattle.xml_tokens.specs.declared.Markup.{Markup}
use Rattle.xml_tokens.specs.declared.Mismatch.{Mismatch}
use Rattle.xml_tokens.specs.declared.Opening.{Opening}

-- values and texts ---------------------------------------------------------------------------

-- a value or a text was put, and the place behind it
module _ {P Q : List ℕ → ℕ → ℕ → List Event → Type 0} {x s s' : List ℕ} {at d : ℕ} (F : Filling P x s at d) (D : Config) (c : Cursor)
    (p : Putting x s s' D c.at (told F.rows [])) where
  pub behind_text : Fresh p.later → (d' : ℕ) → Q x c.at d' p.later → c.at ≤ length x → d' ≤ length (nodes s)
      → Filling Q x s' c.at d' × Same s s'
  behind_text h d' q i l =
      (filled_by F p.rows p.later p.tells h p.put c.at d' q i (omega arith), put_same p.rows p.put)

-- the value of an attribute
module _ {x s : List ℕ} {at d : ℕ} (F : Filling AtEquals x s at d) where
  abbrev B : AtEquals x at d (told F.rows [])
  B = F.rest

  pub quote_there : {r : Result Opening Mismatch} → EqualsRead x at r → IsOk r
  quote_there (quoted q a b e f) = refl
  quote_there (no_quote f) = absurd (never F (f false B.name B.names B.seen) B.rest)

  -- what is read behind the quote
  record AtQuote (stop i : ℕ) : Type 0 where
    before : Config
    valued : Valued stop (d + 1) before (behind_part B.name B.names B.seen)
    rest : Accepts true before (drop i x) (told F.rows [])
    further : at < i

  at_quote : {stop : ℕ} {c : Cursor} → EqualsRead x at (Ok (opening stop c)) → AtQuote stop c.at
  unfolding depth
  at_quote (quoted {c = c} q a b e f) =
      let y = (f B.name B.names B.seen).tells.told _ B.rest in record {
        before = behind_quote B.name B.names B.seen q;
        valued = record {
          characters = λ k. in_value B.name B.names B.seen q;
          references = value_reference B.name B.names B.seen q;
          contents = value_contents B.name B.names B.seen q;
          at_depth = value_depth B.name B.names B.seen q ∙ ap suc (sym B.deep) ∙ sym (add-one d);
        };
        rest = rw y.1 y.2;
        further = a;
      }

  module _ {stop : ℕ} {c : Cursor} (q : EqualsRead x at (Ok (opening stop c))) where
    pub value_fits : Fits x s stop c.at (d + 1)
    value_fits = let y = at_quote q in record {
      before = y.before;
      behind = behind_part B.name B.names B.seen;
      valued = y.valued;
      events = told F.rows [];
      rest = y.rest;
      room = few F;
      short = short_told F;
    }

    pub value_put : {s' : List ℕ} {c' : Cursor} → TextPut x stop c.at (d + 1) s s' c'
        → (Filling InTag x s' c'.at d × Same s s') × (at < c'.at)
    value_put {s'} {c'} t =
        let y = at_quote q in
        let w = t.put y.valued (short_told F) y.rest in
        let p = w.2 in (
          behind_text F (behind_part B.name B.names B.seen) c' p (part_fresh p.rest) d
              (record { name = B.name; names = B.names; seen = B.seen; spelled = B.spelled; deep = B.deep; rest = p.rest })
              w.1 (omega (arith, F.deep)),
          omega (arith, y.further, w.0),
        )

-- what comes next in a start tag ------------------------------------------------------------------

module _ {x s : List ℕ} {at d : ℕ} (F : Filling InTag x s at d) where
  abbrev T : InTag x at d (told F.rows [])
  T = F.rest

  pub item_there : {r : Result Item Mismatch} → ItemRead x at r → IsOk r
  item_there (tag_open a i e f) = refl
  item_there (tag_empty a i e f) = refl
  item_there (tag_attribute a i e h f) = refl
  item_there (tag_wrong f) = absurd (never F (f false T.name T.names T.seen) T.rest)

  pub tag_opened : {c : Cursor} → ItemRead x at (Ok (Open c)) → Filling Behind x s c.at d × (at < c.at)
  tag_opened {c} (tag_open a i e f) =
      let y = (f T.name T.names T.seen).tells.told _ T.rest in (
        moved F c.at d (record { names = T.name ∷ T.names; spelled = T.spelled; deep = T.deep; rest = rw y.1 y.2 }) i
            F.deep,
        a,
      )

  pub tag_emptied : {c : Cursor} → ItemRead x at (Ok (Empty c)) → Filling Behind x s c.at (d - 1) × (at < c.at)
  unfolding Spelled depth
  tag_emptied {c} (tag_empty a i e f) =
      let y = (f T.name T.names T.seen).tells.told _ T.rest in (
        moved F c.at (d - 1)
            (record { names = T.names; spelled = T.spelled.1; deep = omega (arith, T.deep); rest = rw y.1 y.2 }) i
            (omega (arith, F.deep)),
        a,
      )

  pub tag_deep : 1 ≤ d
  unfolding depth
  tag_deep = omega (arith, T.deep)

  pub tag_attributed : {c : Cursor} → ItemRead x at (Ok (Attribute c)) → Filling AtAttribute x s c.at d × (at < c.at)
  tag_attributed {c} (tag_attribute a i e h f) =
      let y = (f T.name T.names T.seen).tells.told _ T.rest in (
        moved F c.at d (record {
          name = T.name;
          names = T.names;
          seen = T.seen;
          spelled = T.spelled;
          deep = T.deep;
          inside = i;
          starts = h;
          rest = rw y.1 y.2;
        }) (omega arith) F.deep,
        a,
      )

-- content ------------------------------------------------------------------------------------------

-- in an element
record Within (x s : List ℕ) (at d : ℕ) (e : List Event) : Type 0 where
  name : Name
  names : List Name
  spelled : Spelled (name ∷ names)
  deep : d ≡ depth (name ∷ names)
  rest : Accepts true (content name names) (drop at x) e

within : {x s : List ℕ} {at d : ℕ} {e : List Event} → 1 < d → Behind x at d e → Within x s at d e
unfolding depth
within {x} {s} {at} {d} {e} h b = go b.names b.spelled b.deep b.rest
  where
    go : (ns : List Name) → Spelled ns → d ≡ depth ns → Accepts true (closed ns) (drop at x) e → Within x s at d e
    go [] k p r = absurd (omega arith)
    go (n ∷ ns) k p r = record { name = n; names = ns; spelled = k; deep = p; rest = r }

module _ {x s : List ℕ} {at d : ℕ} (F : Filling Behind x s at d) (h : 1 < d) where
  abbrev W : Within x s at d (told F.rows [])
  W = within h F.rest

  valued : Valued less_than d (content W.name W.names) (behind_open W.name W.names)
  valued = record {
    characters = in_text W.name W.names;
    references = text_reference W.name W.names;
    contents = text_contents W.name W.names;
    at_depth = text_depth W.name W.names ∙ sym W.deep;
  }

  pub child_fits : Fits x s less_than at d
  child_fits = record {
    before = content W.name W.names;
    behind = behind_open W.name W.names;
    valued = valued;
    events = told F.rows [];
    rest = W.rest;
    room = few F;
    short = short_told F;
  }

  pub child_text : {s' : List ℕ} {c : Cursor} → TextPut x less_than at d s s' c
      → (Filling AtTag x s' c.at d × Same s s') × (at ≤ c.at) × (c.at ≤ length x)
  child_text {c = c} t =
      let w = t.put valued (short_told F) W.rest in
      let p = w.2 in (
        behind_text F (behind_open W.name W.names) c p (open_fresh p.rest) d
            (record { name = W.name; names = W.names; spelled = W.spelled; deep = W.deep; rest = p.rest }) w.1 F.deep,
        w.0,
        w.1,
      )

-- behind a <
module _ {x s : List ℕ} {at d : ℕ} (F : Filling AtTag x s at d) where
  abbrev G : AtTag x at d (told F.rows [])
  G = F.rest

  pub markup_there : {r : Result Markup Mismatch} → MarkupRead x at r → IsOk r
  markup_there (markup_start e h f) = refl
  markup_there (markup_end e h f) = refl
  markup_there (markup_wrong f) = absurd (never F (f false G.name G.names) G.rest)

  pub open_deep : 1 ≤ d
  unfolding depth
  open_deep = omega (arith, G.deep)

  pub tag_started : {c : Cursor} → MarkupRead x at (Ok (StartTag c)) → Filling AtElement x s c.at d × (c.at ≡ at)
  unfolding step
  tag_started {c} (markup_start e h f) =
      let b = get_or x at 0 in
      let v : List Event = born (depth (G.name ∷ G.names)) element_kind ∷ byte b ∷ [] in
      let y = (tells_step x (behind_open G.name G.names) at h (tag_name (G.name ∷ G.names) (b ∷ [])) v (rw f)).told _ G.rest in (
        moved F c.at d (rw e (record {
          names = G.name ∷ G.names;
          later = y.0;
          spelled = G.spelled;
          deep = G.deep;
          inside = h;
          starts = f;
          tells = y.1 ∙ ap (λ (i : ℕ). born i element_kind ∷ byte b ∷ y.0) (sym G.deep);
          rest = y.2;
        })) (omega arith) F.deep,
        e,
      )

  pub tag_ended : {c c' : Cursor} → MarkupRead x at (Ok (EndTag c)) → EndsAt x c.at c' → Filling Behind x s c'.at (d - 1) × (at < c'.at)
  unfolding Spelled depth
  tag_ended {c} {c'} (markup_end e h f) t =
      let y = (f G.name G.names).tells.told _ G.rest in
      let r = subst (λ (l : List Event). Accepts true (end_name G.name G.names G.name) (drop c.at x) l) (sym y.1) y.2 in
      let z = t.closes G.name G.names G.spelled.0 (short_told F) r in (
        moved F c'.at (d - 1) (record { names = G.names; spelled = G.spelled.1; deep = omega (arith, G.deep); rest = z.2 }) z.1
            (omega (arith, F.deep)),
        omega (arith, z.0),
      )

-- the end --------------------------------------------------------------------------------------------

pub filled_done : {x s s' : List ℕ} {at d : ℕ} → Filling Behind x s' at d → d ≤ 1 → Same s s' → Filled x s s'
unfolding depth told
filled_done {x} {s} {s'} {at} {d} F h k =
    let e = go F.rows F.rest.names F.rest.deep F.rest.rest in
    let w = rw e at F.filled in
    record {
      same = k;
      layout = F.layout;
      nodes = λ f y. sym (rows_done s') ∙ w ∙ ap (λ (g : Shape). flat 0 (tree_of (document g))) (one_tree F.spelled.0 y.0);
    }
  where
    go : (l : List Row) (ns : List Name) → d ≡ depth ns → Accepts true (closed ns) (drop at x) (told l []) → l ≡ []
    go [] ns p r = refl
    go (y ∷ l) [] p r = absurd (let q = nothing_told r in let z : ◌≡◌ {A = ℕ} 0 1 = cc in omega arith)
    go (y ∷ l) (n ∷ []) p r = absurd (omega arith)
    go (y ∷ l) (n ∷ m ∷ ns) p r = absurd (omega arith)

-- the beginning --------------------------------------------------------------------------------------

module _ {x s : List ℕ} (b : Begun x s) where
  rows_told : tell 1 b.shape [] ≡ told (listed 1 b.shape []) []
  unfolding told
  rows_told = sym (told_listed 1 b.shape [] [])

  started : Accepts true at_start (drop 0 x) (told (listed 1 b.shape []) [])
  started = rw (← rows_told) (complete b.spelled.0)

  short_rows : Short (listed 1 b.shape [])
  unfolding Short
  short_rows = short_listed 1 b.shape [] b.short tt

  pub root_there : {r : Result Cursor Mismatch} → RootRead x at_start 0 r → IsOk r
  root_there (root_at n f g t) = refl
  root_there (no_root f) =
      absurd (not_refused (f false (length (listed 1 b.shape []))) started (omega (arith, births_told (listed 1 b.shape [])))
      (peak_told 0 (listed 1 b.shape []) (omega arith) short_rows))

  pub begin_filling : {c : Cursor} → RootRead x at_start 0 (Ok c) → Filling AtElement x s c.at 1
  unfolding Spelled depth
  begin_filling {c} (root_at n f g t) =
      let y = t.told _ started in record {
        shape = b.shape;
        spelled = b.spelled;
        rows = listed 1 b.shape [];
        rest = record {
          names = [];
          later = y.0;
          spelled = tt;
          deep = refl;
          inside = n.inside;
          starts = n.starts;
          tells = y.1;
          rest = y.2;
        };
        filled = document_rows s b.shape b.alone;
        room = omega (arith, b.few, one_node s b.alone, length_listed 1 b.shape []);
        short = short_rows;
        layout = b.layout;
        deep = omega (arith, one_node s b.alone);
        inside = omega (arith, n.inside);
      }

pub filled_then : {x s s' s'' : List ℕ} → Same s s' → Filled x s' s'' → Filled x s s''
filled_then a f = record { same = same_then a f.same; layout = f.layout; nodes = f.nodes }
