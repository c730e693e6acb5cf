-- Parts of a start tag: its end, the way to an attribute's name, the way from the name to the opening quote. Behind a <: which tag it is.
-- The end of an end tag.
use Rattle.std.specs.Prelude.{ℕ, suc, ◌+◌, ◌-◌, ◌≤◌, ◌<◌, ◌≡◌, Bool, false, eqb, nat_lt, leb, length, get_or, drop, Result, Ok, Err}
use Rattle.std.proofs.Math.Path.{refl, subst}
use Rattle.std.proofs.Common.{sym, ap, ◌∙◌, add-one}
use Rattle.std.proofs.Math.Bool.{true}
use Rattle.std.proofs.lemmas.Grind.{get_or_default_zero}
use mathlib.Core.List.{List, [], ◌∷◌}
use native.Mathlib.Omega.{arith}
use borrow.Author.Tests.{ne_eqb, eqb-true, eqb-false, ltb-true, leb-true, leb-false}
use Rattle.tree.specs.Content.{name_start}
use Rattle.xml.specs.Bytes.{blank, slash, greater_than, equals_sign, quotation_mark, apostrophe, Quote, double, single, quote_byte}
use Rattle.xml.specs.Grammar.{Name}
use Rattle.xml.specs.Reading.{opener, node_offset}
use Rattle.xml.specs.Laws.Automaton.{Config, behind_part, in_tag, before_equals, behind_equals, behind_slash, behind_quote, content, closed}
use Rattle.xml.specs.Laws.Automaton.{behind_open, end_name}
use Rattle.xml.specs.Laws.Automaton.{to, tag_step, step}
use Rattle.xml.proofs.Laws.Transitions.{for_blanks, blank_no_name}
use Rattle.xml.specs.Laws.Phases.{phase, pending}
use Rattle.xml.proofs.Laws.Judge.{offset_before, offset_at}
use Rattle.xml.proofs.Laws.Goes.{stops_end, stops_stuck}
use Rattle.xml.specs.Laws.Tokens.{span}
use Rattle.xml.proofs.Laws.Tokens.{span_go, span_some, span_byte, span_behind}
use Rattle.xml.specs.Laws.Tells.{Passes}
use Rattle.xml.proofs.Laws.Tells.{passes_then, passes_same, passes_step, passes_blanks}
use Rattle.xml_tokens.specs.declared.Cursor.{Cursor}
use Rattle.xml_tokens.specs.declared.Markup.TheVariants.{EndTag}
use Rattle.xml_tokens.specs.declared.Item.{Item}
use Rattle.xml_tokens.specs.declared.Item.TheVariants.{Open, Empty, Attribute}
use Rattle.xml_tokens.specs.Steps.{Run, ByteRead, byte_there, byte_missing, EqualsRead, quoted, no_quote}
use Rattle.xml_tokens.specs.Steps.{TagRead, tag_open, tag_empty, tag_attribute, tag_wrong}
use Rattle.xml_tokens.specs.Steps.{TagPlace, SlashRead, MarkupRead, markup_end, markup_wrong, CloseRead, close_behind, close_wrong}
use Rattle.xml_tokens.specs.Values.{mismatch, opening}
use Rattle.xml_tokens.specs.declared.Mismatch.{Mismatch}

pub behind_place : TagPlace behind_part
unfolding step
behind_place = record { alike = λ n ns seen b h. refl; calm = λ n ns seen. refl }

pub in_place : TagPlace in_tag
unfolding step
in_place = record { alike = λ n ns seen b h. rw h; calm = λ n ns seen. refl }

pub calm_closed : (ns : List Name) → pending (phase (closed ns)) ≡ 0
calm_closed [] = refl
calm_closed (n ∷ ns) = refl

-- a node does not begin before a byte whose predecessor is no opener
pub no_opener : (s : List ℕ) (i : ℕ) → opener (get_or s i 0) ≡ false → node_offset s (i + 1) ≡ i + 1
no_opener s i h = rw add-one (offset_at s (suc i) h)

blank_no_opener : (b : ℕ) → blank b ≡ true → opener b ≡ false
blank_no_opener b h = for_blanks (λ b. opener b ≡ false) refl refl refl b h

-- one byte ----------------------------------------------------------------------------------

-- what looking up a byte finds
pub found : (s : List ℕ) (i b : ℕ) → true ≡ nat_lt i (length s) → b ≡ get_or s i b → (i < length s) × (get_or s i 0 ≡ b)
found s i b e f = let h : i < length s = ltb-true i (length s) (sym e) in (h, sym (f ∙ get_or_default_zero s i b h))

pub byte_found : {s : List ℕ} {i b : ℕ} {c : Cursor} → ByteRead s i b (Ok c) → (c.at ≡ i + 1) × (i < length s) × (get_or s i 0 ≡ b)
byte_found (byte_there p h e) = (p, h, e)

-- the end of a start tag ---------------------------------------------------------------------

module _ (s : List ℕ) (i : ℕ) (F : Name → List Name → List Name → Config) (place : TagPlace F) where
  pub place_end : length s ≤ i → TagRead s F i (Err (mismatch i))
  place_end h = tag_wrong {j = i} (λ w n ns seen m. stops_end s (F n ns seen) m i h (place.calm n ns seen))

  module _ (h : i < length s) where
    pub place_close : (c : Cursor) → get_or s i 0 ≡ greater_than → c.at ≡ i + 1 → TagRead s F i (Ok (Open c))
    unfolding tag_step blank name_start
    place_close c e p =
        tag_open {c = c} (omega arith) (omega arith) (rw p (no_opener s i (rw e)))
        (λ n ns seen. rw p (passes_step s (F n ns seen) i h (content n ns) (rw e (place.alike n ns seen greater_than refl)) refl))

    place_slash : (n : Name) (ns seen : List Name) → get_or s i 0 ≡ slash → Passes s (F n ns seen) i (behind_slash ns) (i + 1)
    unfolding tag_step blank name_start
    place_slash n ns seen e = passes_step s (F n ns seen) i h (behind_slash ns) (rw e (place.alike n ns seen slash refl)) refl

    module _ (e : get_or s i 0 ≡ slash) where
      pub slash_end : length s ≤ i + 1 → TagRead s F i (Err (mismatch (i + 1)))
      slash_end k =
          tag_wrong {j = i + 1} (λ w n ns seen m. ((place_slash n ns seen e).goes m).back _ (stops_end s (behind_slash ns) m (i + 1) k refl))

      pub slash_wrong : i + 1 < length s → (get_or s (i + 1) 0 ≡ greater_than → ⊥) → TagRead s F i (Err (mismatch (i + 1)))
      unfolding step
      slash_wrong k o = tag_wrong {j = i + 1} (λ w n ns seen m. ((place_slash n ns seen e).goes m).back _
          (stops_stuck s (behind_slash ns) m (i + 1) k (rw (ne_eqb (get_or s (i + 1) 0) greater_than o))))

      pub slash_close : (c : Cursor) → i + 1 < length s → get_or s (i + 1) 0 ≡ greater_than → c.at ≡ i + 1 + 1 → TagRead s F i (Ok (Empty c))
      unfolding step
      slash_close c k o p =
          tag_empty {c = c} (omega arith) (omega arith) (rw p (no_opener s (i + 1) (rw o)))
          (λ n ns seen. passes_then (place_slash n ns seen e) (rw p (passes_step s (behind_slash ns) (i + 1) k (closed ns) (rw o)
          (calm_closed ns))))

    -- no such byte
    pub place_wrong : blank (get_or s i 0) ≡ false → (get_or s i 0 ≡ slash → ⊥) → (get_or s i 0 ≡ greater_than → ⊥)
        → name_start (get_or s i 0) ≡ false
        → TagRead s F i (Err (mismatch i))
    unfolding tag_step
    place_wrong a b d e = tag_wrong {j = i} (λ w n ns seen m. stops_stuck s (F n ns seen) m i h
        (place.alike n ns seen (get_or s i 0) e ∙ rw (a, ne_eqb (get_or s i 0) slash b, ne_eqb (get_or s i 0) greater_than d)))

-- an empty-element tag from its slash on
module _ (s : List ℕ) (i : ℕ) (h : i < length s) (e : get_or s i 0 ≡ slash) where
  pub slash_closed : {c : Cursor} → ByteRead s (i + 1) greater_than (Ok c) → SlashRead s i (Ok (Empty c))
  slash_closed (byte_there {c = c} p k o) = record { reads = λ F q. slash_close s i F q h e c k o p }

  pub slash_lost : {j : ℕ} → ByteRead s (i + 1) greater_than (Err (mismatch j)) → SlashRead s i (Err (mismatch j))
  slash_lost (byte_missing p n) = record { reads = λ F q. rw p (go F q (leb (length s) (i + 1)) refl) }
    where
      go : (F : Name → List Name → List Name → Config) → TagPlace F → (t : Bool) → leb (length s) (i + 1) ≡ t
          → TagRead s F i (Err (mismatch (i + 1)))
      go F q true x = slash_end s i F q h e (leb-true (length s) (i + 1) x)
      go F q false x = let k = leb-false (length s) (i + 1) x in slash_wrong s i F q h e k (n k)

-- behind a name or a value, with the blanks there --------------------------------------------

module _ (s : List ℕ) (at i : ℕ) (r : Run blank s at i) where
  -- over blanks
  spaces : at < i → (n : Name) (ns seen : List Name) → Passes s (behind_part n ns seen) at (in_tag n ns seen) i
  unfolding step tag_step
  spaces h n ns seen =
      let x = span_some blank s at 0 (omega (arith, r.ends)) in
      passes_then (passes_step s (behind_part n ns seen) at x.0 (in_tag n ns seen) (rw x.1) refl)
      (passes_then (passes_same s (in_tag n ns seen) (at + 1) (suc at) (add-one at))
      (passes_then (passes_blanks s (in_tag n ns seen) (λ b e. stay b e) refl (suc at))
      (passes_same s (in_tag n ns seen) _ i (last x.0 x.1))))
    where
      stay : (b : ℕ) → blank b ≡ true → step true (in_tag n ns seen) b ≡ to (in_tag n ns seen)
      stay b e = rw ((blank_no_name b e).1, e)

      last : at < length s → blank (get_or s at 0) ≡ true → suc at + span blank (drop (suc at) s) ≡ i
      last a b = omega (arith, r.ends, span_go blank s at a b)

  -- what is read behind them
  behind_spaces : {x : Result Item Mismatch} → at < i → TagRead s in_tag i x → TagRead s behind_part at x
  behind_spaces h (tag_open {c = c} a b d f) =
      tag_open {c = c} (omega arith) b d (λ n ns seen. passes_then (spaces h n ns seen) (f n ns seen))
  behind_spaces h (tag_empty {c = c} a b d f) =
      tag_empty {c = c} (omega arith) b d (λ n ns seen. passes_then (spaces h n ns seen) (f n ns seen))
  behind_spaces h (tag_attribute {c = c} a b d e f) =
      tag_attribute {c = c} (omega arith) b d e (λ n ns seen. passes_then (spaces h n ns seen) (f n ns seen))
  behind_spaces h (tag_wrong {j = j} f) = tag_wrong {j = j} (λ w n ns seen m. ((spaces h n ns seen).goes m).back _ (f w n ns seen m))

  pub part_any : {x : Result Item Mismatch} → SlashRead s i x → TagRead s behind_part at x
  part_any {x} f = go (eqb i at) refl
    where
      go : (y : Bool) → eqb i at ≡ y → TagRead s behind_part at x
      go true e = subst (λ (j : ℕ). TagRead s behind_part j x) (eqb-true i at e) (f.reads behind_part behind_place)
      go false e = let n : i ≡ at → ⊥ = eqb-false i at e in behind_spaces (omega (arith, r.ends)) (f.reads in_tag in_place)

  module _ (h : i < length s) where
    -- the byte behind the blanks is none
    pub no_blank_here : blank (get_or s i 0) ≡ false
    no_blank_here = rw r.ends (span_behind blank s at (omega (arith, r.ends)))

    -- no blank before a name
    pub part_joined : i ≡ at → (get_or s i 0 ≡ slash → ⊥) → (get_or s i 0 ≡ greater_than → ⊥) → TagRead s behind_part at (Err (mismatch i))
    unfolding step tag_step
    part_joined p b d = subst (λ (j : ℕ). TagRead s behind_part j (Err (mismatch i))) p
        (tag_wrong {j = i} (λ w n ns seen m. stops_stuck s (behind_part n ns seen) m i h
        (rw (no_blank_here, ne_eqb (get_or s i 0) slash b, ne_eqb (get_or s i 0) greater_than d))))

    pub part_attribute : (i ≡ at → ⊥) → name_start (get_or s i 0) ≡ true → (c : Cursor) → c.at ≡ i → TagRead s behind_part at (Ok (Attribute c))
    part_attribute p e c q =
        let x = span_byte blank s (i - at - 1) at (omega (arith, r.ends)) in
        let u : at + (i - at - 1) ≡ i - 1 = omega (arith, r.ends) in
        let v : i - 1 + 1 ≡ i = omega (arith, r.ends) in
        let w : node_offset s i ≡ i = rw v at (no_opener s (i - 1) (blank_no_opener (get_or s (i - 1) 0) (rw u at x.1))) in
        let l : at < i = omega (arith, r.ends) in
        tag_attribute {c = c} (omega arith) (omega arith) (rw q w) (rw q e)
        (λ n ns seen. passes_then (spaces l n ns seen) (passes_same s (in_tag n ns seen) i c.at (sym q)))

    pub part_wrong : (i ≡ at → ⊥) → (get_or s i 0 ≡ slash → ⊥) → (get_or s i 0 ≡ greater_than → ⊥) → name_start (get_or s i 0) ≡ false
        → TagRead s behind_part at (Err (mismatch i))
    part_wrong p b d e = behind_spaces (omega (arith, r.ends)) (place_wrong s i in_tag in_place h no_blank_here b d e)

-- from behind an attribute's name to its value -------------------------------------------------

module _ (s : List ℕ) (at i : ℕ) (r : Run blank s at i) where
  to_sign : (n : Name) (ns seen : List Name) → Passes s (before_equals n ns seen) at (before_equals n ns seen) i
  unfolding step
  to_sign n ns seen =
      passes_then (passes_blanks s (before_equals n ns seen) (λ b e. rw e) refl at)
      (passes_same s (before_equals n ns seen) _ i (sym r.ends))

  pub sign_end : length s ≤ i → EqualsRead s at (Err (mismatch i))
  sign_end h = no_quote {j = i} (λ w n ns seen m. ((to_sign n ns seen).goes m).back _ (stops_end s (before_equals n ns seen) m i h refl))

  module _ (h : i < length s) where
    pub sign_wrong : (get_or s i 0 ≡ equals_sign → ⊥) → EqualsRead s at (Err (mismatch i))
    unfolding step
    sign_wrong e = no_quote {j = i} (λ w n ns seen m. ((to_sign n ns seen).goes m).back _
        (stops_stuck s (before_equals n ns seen) m i h (rw (no_blank_here s at i r h, ne_eqb (get_or s i 0) equals_sign e))))

    module _ (e : get_or s i 0 ≡ equals_sign) (j : ℕ) (q : Run blank s (i + 1) j) where
      to_quote : (n : Name) (ns seen : List Name) → Passes s (before_equals n ns seen) at (behind_equals n ns seen) j
      unfolding step blank
      to_quote n ns seen =
          passes_then (to_sign n ns seen)
          (passes_then (passes_step s (before_equals n ns seen) i h (behind_equals n ns seen) (rw e) refl)
          (passes_then (passes_blanks s (behind_equals n ns seen) (λ b z. rw z) refl (i + 1))
          (passes_same s (behind_equals n ns seen) _ j (sym q.ends))))

      pub quote_end : length s ≤ j → EqualsRead s at (Err (mismatch j))
      quote_end k =
          no_quote {j = j} (λ w n ns seen m. ((to_quote n ns seen).goes m).back _ (stops_end s (behind_equals n ns seen) m j k refl))

      module _ (k : j < length s) where
        pub quote_wrong : (get_or s j 0 ≡ quotation_mark → ⊥) → (get_or s j 0 ≡ apostrophe → ⊥) → EqualsRead s at (Err (mismatch j))
        unfolding step
        quote_wrong a b = no_quote {j = j} (λ w n ns seen m. ((to_quote n ns seen).goes m).back _
            (stops_stuck s (behind_equals n ns seen) m j k
            (rw (no_blank_here s (i + 1) j q k, ne_eqb (get_or s j 0) quotation_mark a, ne_eqb (get_or s j 0) apostrophe b))))

        pub quote_read : (x : Quote) (c : Cursor) → get_or s j 0 ≡ quote_byte x → c.at ≡ j + 1 → EqualsRead s at (Ok (opening (quote_byte x) c))
        unfolding step blank
        quote_read x c o p =
            let u : j + 1 - 1 ≡ j = omega arith in
            quoted {c = c} x (omega (arith, r.ends, q.ends)) (omega arith) (rw (p, u) (before x o))
            (λ n ns seen. passes_then (to_quote n ns seen)
            (rw p (passes_step s (behind_equals n ns seen) j k (behind_quote n ns seen x)
            (ap (step true (behind_equals n ns seen)) o ∙ opens x n ns seen) refl)))
          where
            opens : (x : Quote) (n : Name) (ns seen : List Name)
                → step true (behind_equals n ns seen) (quote_byte x) ≡ to (behind_quote n ns seen x)
            opens double n ns seen = refl
            opens single n ns seen = refl

            is_opener : (x : Quote) → opener (quote_byte x) ≡ true
            is_opener double = refl
            is_opener single = refl

            before : (x : Quote) → get_or s j 0 ≡ quote_byte x → node_offset s (j + 1) ≡ j
            before x o = let z = (offset_before s (suc j) (ap opener o ∙ is_opener x)).0 in rw add-one (z ∙ omega arith)

module _ (s : List ℕ) (at i : ℕ) (r : Run blank s at i) where
  pub sign_lost : {j : ℕ} → ByteRead s i equals_sign (Err (mismatch j)) → EqualsRead s at (Err (mismatch j))
  sign_lost (byte_missing p n) = rw p (go (leb (length s) i) refl)
    where
      go : (t : Bool) → leb (length s) i ≡ t → EqualsRead s at (Err (mismatch i))
      go true x = sign_end s at i r (leb-true (length s) i x)
      go false x = let h = leb-false (length s) i x in sign_wrong s at i r h (n h)

-- which tag it is, behind a < --------------------------------------------------------------------

module _ (s : List ℕ) (at : ℕ) where
  pub markup_over : length s ≤ at → MarkupRead s at (Err (mismatch at))
  markup_over h = markup_wrong {j = at} (λ w n ns m. stops_end s (behind_open n ns) m at h refl)

  module _ (h : at < length s) where
    pub markup_slash : (c : Cursor) → get_or s at 0 ≡ slash → c.at ≡ at + 1 → MarkupRead s at (Ok (EndTag c))
    unfolding step name_start
    markup_slash c e p = markup_end {c = c} p h (λ n ns. rw p (passes_step s (behind_open n ns) at h (end_name n ns n) (rw e) refl))

    pub markup_other : (get_or s at 0 ≡ slash → ⊥) → name_start (get_or s at 0) ≡ false → MarkupRead s at (Err (mismatch at))
    unfolding step
    markup_other e f =
        markup_wrong {j = at} (λ w n ns m. stops_stuck s (behind_open n ns) m at h (rw (f, ne_eqb (get_or s at 0) slash e)))

-- from behind the name of an end tag -------------------------------------------------------------

module _ (s : List ℕ) (at i : ℕ) (r : Run blank s at i) where
  to_close : (n : Name) (ns : List Name) → Passes s (end_name n ns []) at (end_name n ns []) i
  unfolding step
  to_close n ns =
      passes_then (passes_blanks s (end_name n ns []) (λ b e. rw e) refl at) (passes_same s (end_name n ns []) _ i (sym r.ends))

  pub close_over : length s ≤ i → CloseRead s at (Err (mismatch i))
  close_over h = close_wrong {j = i} (λ w n ns m. ((to_close n ns).goes m).back _ (stops_end s (end_name n ns []) m i h refl))

  module _ (h : i < length s) where
    pub close_other : (get_or s i 0 ≡ greater_than → ⊥) → CloseRead s at (Err (mismatch i))
    unfolding step
    close_other e = close_wrong {j = i} (λ w n ns m. ((to_close n ns).goes m).back _
        (stops_stuck s (end_name n ns []) m i h (rw (no_blank_here s at i r h, ne_eqb (get_or s i 0) greater_than e))))

    pub close_here : (c : Cursor) → get_or s i 0 ≡ greater_than → c.at ≡ i + 1 → CloseRead s at (Ok c)
    unfolding step blank
    close_here c e p =
        close_behind {c = c} (omega (arith, r.ends)) (omega arith) (rw p (no_opener s i (rw e)))
        (λ n ns. passes_then (to_close n ns) (rw p (passes_step s (end_name n ns []) i h (closed ns) (rw e) (calm_closed ns))))

  pub close_read : {x : Result Cursor Mismatch} → ByteRead s i greater_than x → CloseRead s at x
  close_read (byte_there {c = c} p h e) = close_here h c e p
  close_read (byte_missing p n) = rw p (go (leb (length s) i) refl)
    where
      go : (t : Bool) → leb (length s) i ≡ t → CloseRead s at (Err (mismatch i))
      go true x = close_over (leb-true (length s) i x)
      go false x = let h = leb-false (length s) i x in close_other h (n h)
