-- Start tags: names kept as offsets, the loop over the attributes, the tag from the first byte of its name.
use Rattle.std.specs.Prelude.{ℕ, zero, suc, ◌+◌, ◌-◌, ◌≤◌, ◌<◌, ◌≡◌, Bool, true, false, List, [], ◌∷◌, eqb, length, get_or, set, Result, Ok, Err}
use Rattle.std.proofs.Math.Path.{refl}
use Rattle.std.proofs.Common.{◌∙◌, subst, arith, length-set, get_or-set_same, get_or-set_other, eqb-true}
use Rattle.std.proofs.lemmas.Bool.{eqb-false}
use Rattle.tree.specs.Spelling.{Spelling, spelling, spell, start_of}
use Rattle.xml.specs.Bytes.{blank, slash, greater_than}
use Rattle.xml.specs.Grammar.{Name}
use Rattle.xml.specs.Reading.{input_limit}
use Rattle.xml.specs.Laws.Automaton.{behind_part, tag_name, tag_step, step}
use Rattle.xml.specs.Laws.Monitor.{on}
use Rattle.xml.specs.Laws.Judge.{Verdict}
use Rattle.xml.specs.Laws.Scan.{scan_at}
use Rattle.xml.proofs.Laws.Scan.{scan_alike}
use Rattle.xml.specs.Laws.Goes.{Leads, Goes}
use Rattle.xml.proofs.Laws.Goes.{goes_then, goes_same}
use Rattle.xml.specs.Laws.Tokens.{name_at, Naming}
use Rattle.xml_tokens.specs.declared.Cursor.{Cursor}
use Rattle.xml_tokens.specs.declared.Item.TheVariants.{Open, Empty, Attribute}
use Rattle.xml_tokens.specs.Steps.{no_step, quiet_step, NamePlace, NameRead, TagRead, tag_open, tag_empty, tag_attribute, tag_wrong}
use Rattle.xml_tokens.specs.Laws.Letters.{name_run, name_scan, name_stops, name_ended, quiet_either}
use Rattle.xml_reader.specs.declared.Tag.{Tag}
use Rattle.xml_reader.specs.declared.Tag.TheVariants.{Opened, Emptied}
use Rattle.byte_strings.specs.Sorted.{Lists}
use Rattle.byte_strings.specs.Laws.Sorted.{lists_none}
use Rattle.xml_reader.specs.Elements.{stack, Placed, Attributed, AttributeRead, attribute_past, attribute_refused, Kept}
use Rattle.xml_reader.specs.Elements.{attribute_names, Entered, NamesRead, names_past, AttributeEnters, AttributesRead}
use Rattle.xml_reader.specs.Elements.{attributes_opened, attributes_emptied, attributes_broken, Onward, ElementRead, element_opened}
use Rattle.xml_reader.specs.Elements.{element_emptied, element_broken}
use Rattle.protocol.specs.declared.causes.Cause.{Cause}
use Rattle.protocol.specs.declared.causes.Cause.TheVariants.{NotOfGrammar}
use Rattle.xml_tokens.specs.Values.{refusal, mismatch, read, piece}
use Rattle.xml_tokens.specs.declared.Refusal.{Refusal}

-- offsets --------------------------------------------------------------------------------------

pub stack_same : (s os os' : List ℕ) (n : ℕ) → Kept n os os' → stack s os' 0 n ≡ stack s os 0 n
unfolding stack
stack_same s os os' zero k = refl
stack_same s os os' (suc n) k =
    rw (k.kept (0 + n) (omega arith), stack_same s os os' n (record { as_long = k.as_long; kept = λ i h. k.kept i (omega arith) }))

pub placed_push : (s os : List ℕ) (n v : ℕ) → Placed s os n → v + 1 ≤ length s → n < length os → Placed s (set os n v) (n + 1)
placed_push s os n v p h l = record { short = p.short; placed = λ i m. go i m (eqb i n) refl }
  where
    go : (i : ℕ) → i < n + 1 → (t : Bool) → eqb i n ≡ t → get_or (set os n v) i 0 + 1 ≤ length s
    go i m true e = rw (eqb-true i n e, get_or-set_same os n v 0 l) h
    go i m false e = let x : i ≡ n → ⊥ = eqb-false i n e in rw (get_or-set_other os n i v 0 x) (p.placed i (omega arith))

pub kept_same : (n : ℕ) (os : List ℕ) → Kept n os os
kept_same n os = record { as_long = refl; kept = λ i h. refl }

pub kept_set : (n : ℕ) (os os' : List ℕ) (k v : ℕ) → Kept n os os' → n ≤ k → Kept n os (set os' k v)
kept_set n os os' k v x h =
    record { as_long = length-set os' k v ∙ x.as_long; kept = λ i m. get_or-set_other os' k i v 0 (λ e. omega arith) ∙ x.kept i m }

pub kept_less : (n m : ℕ) (os os' os'' : List ℕ) → Kept n os os' → Kept m os' os'' → n ≤ m → Kept n os os''
kept_less n m os os' os'' x y h = record { as_long = y.as_long ∙ x.as_long; kept = λ i l. y.kept i (omega arith) ∙ x.kept i l }

pub placed_kept : (s os os' : List ℕ) (n : ℕ) → Placed s os n → Kept n os os' → Placed s os' n
placed_kept s os os' n p k = record { short = p.short; placed = λ i h. rw (k.kept i h) (p.placed i h) }

pub placed_short : {s os : List ℕ} {n : ℕ} → Placed s os n → (i : ℕ) → i < n → get_or os i 0 ≤ input_limit
placed_short p i h = omega (arith, p.short, p.placed i h)

-- the loop over the attributes -------------------------------------------------------------------

pub attribute_here : {s : List ℕ} {i : ℕ} {c : Cursor} → TagRead s behind_part i (Ok (Attribute c)) → Attributed s c.at × (i < c.at)
attribute_here (tag_attribute d e g h f) = (record { not_first = omega arith; inside = e; starts = h; begins_here = g }, d)

-- the attributes so far lead here; the names that were seen are those from place lo on
pub record AttributesTo (s os : List ℕ) (lo count at spare i n : ℕ) : Type 0 where
  pub seen : List Name
  pub lists : Lists (attribute_names s os lo) count seen
  pub comes : (m : Name) (ns : List Name) → Goes true s (behind_part m ns []) spare at (behind_part m ns seen) n i

pub attributes_start : (s os : List ℕ) (lo at spare : ℕ) → AttributesTo s os lo 0 at spare at spare
attributes_start s os lo at spare = record {
  seen = [];
  lists = lists_none (attribute_names s os lo);
  comes = λ m ns. goes_same s (behind_part m ns []) spare at at refl;
}

module _ (s os : List ℕ) (lo count at spare i n : ℕ) (t : AttributesTo s os lo count at spare i n) (a : at ≤ i) (b : n ≤ spare) where
  pub attributes_wrong : {j : ℕ} → TagRead s behind_part i (Err (mismatch j)) → AttributesRead s at spare (Err (refusal NotOfGrammar j))
  attributes_wrong {j} (tag_wrong f) = attributes_broken {x = NotOfGrammar} {j = j} (λ m ns. (t.comes m ns).back _ (f true m ns t.seen n))

  pub attributes_open : {c : Cursor} → TagRead s behind_part i (Ok (Open c)) → AttributesRead s at spare (Ok (Opened (read c n)))
  attributes_open {c} (tag_open d e g f) =
      attributes_opened {c = c} {m = n} (record { further = omega arith; inside = e; begins_here = g; fewer = b })
      (λ m ns. goes_then (t.comes m ns) ((f m ns t.seen).goes n))

  pub attributes_empty : {c : Cursor} → TagRead s behind_part i (Ok (Empty c)) → AttributesRead s at spare (Ok (Emptied (read c n)))
  attributes_empty {c} (tag_empty d e g f) =
      attributes_emptied {c = c} {m = n} (record { further = omega arith; inside = e; begins_here = g; fewer = b })
      (λ m ns. goes_then (t.comes m ns) ((f m ns t.seen).goes n))

  -- an attribute at c, and what is read of it
  module _ {os' : List ℕ} {c : Cursor} (z : TagRead s behind_part i (Ok (Attribute c))) where
    pub attributes_bad : {x : Cause} {j : ℕ} → AttributeEnters s os os' lo count c.at n (Err (refusal x j))
        → AttributesRead s at spare (Err (refusal x j))
    attributes_bad {x} {j} y = go z (y.reads t.seen t.lists)
      where
        go : TagRead s behind_part i (Ok (Attribute c)) → AttributeRead s t.seen c.at n (Err (refusal x j))
            → AttributesRead s at spare (Err (refusal x j))
        go (tag_attribute d e g h f) (attribute_refused u) =
            attributes_broken {x = x} {j = j} (λ m ns. (t.comes m ns).back _ (((f m ns t.seen).goes n).back _ (u m ns)))

    module _ {d : Cursor} {m : ℕ} (y : AttributeEnters s os os' lo count c.at n (Ok (read d m))) where
      pub attribute_entered : Entered s os os' lo count c.at
      attribute_entered = go y.names
        where
          go : NamesRead s os os' lo count c.at (Ok (read d m)) → Entered s os os' lo count c.at
          go (names_past x) = x

      pub attributes_turn : AttributesTo s os' lo (count + 1) at spare d.at m
      attributes_turn = go z (y.reads t.seen t.lists)
        where
          go : TagRead s behind_part i (Ok (Attribute c)) → AttributeRead s t.seen c.at n (Ok (read d m))
              → AttributesTo s os' lo (count + 1) at spare d.at m
          go (tag_attribute p e g h f) (attribute_past q r w u) = record {
            seen = name_at s c.at ∷ t.seen;
            lists = attribute_entered.added.lists t.seen t.lists;
            comes = λ nm ns. goes_then (t.comes nm ns) (goes_then ((f nm ns t.seen).goes n) (u nm ns));
          }

      pub attribute_behind : (i < c.at) × (c.at < d.at) × (d.at ≤ length s) × (m < n)
      attribute_behind = go (y.reads t.seen t.lists)
        where
          go : AttributeRead s t.seen c.at n (Ok (read d m)) → (i < c.at) × (c.at < d.at) × (d.at ≤ length s) × (m < n)
          go (attribute_past a b g u) = ((attribute_here z).1, a, b, g)

-- from the first byte of the name ------------------------------------------------------------------

pub tag_naming : (ns : List Name) → Naming (tag_name ns)
unfolding step
tag_naming ns = record { next = λ p b e. rw e; calm = λ p. refl }

tag_place : (ns : List Name) → NamePlace (tag_name ns)
unfolding step tag_step
tag_place ns = record {
  naming = tag_naming ns;
  quiet = λ p b e. rw e
      (quiet_either (blank b) quiet_step (quiet_either (eqb b slash) quiet_step (quiet_either (eqb b greater_than) quiet_step no_step)));
  going = λ p. refl;
}

module _ (s : List ℕ) (at spare : ℕ) where
  pub element_unfit : {x : Cause} {j : ℕ} → NameRead s at (Err (refusal x j)) → ElementRead s at spare (Err (refusal x j))
  element_unfit {x} {j} f = element_broken {x = x} {j = j} (λ ns y e. name_stops f (tag_place ns) spare e)

  module _ {end : Cursor} {n : ℕ} (f : NameRead s at (Ok (piece end n))) where
    -- behind the name
    to_part : (ns : List Name) {y : Spelling} → spell (start_of false) (get_or s at 0) ≡ spelling y → {v : Verdict}
        → Leads true s (behind_part (name_at s at) ns []) spare end.at v
        → scan_at s (tag_name ns (get_or s at 0 ∷ [])) (on y) spare 1 (at + 1) ≡ v
    unfolding step
    to_part ns e g = name_scan f (tag_place ns) spare e (λ z o r.
        scan_alike s (tag_name ns (name_at s at)) (behind_part (name_at s at) ns []) z spare (end.at - at) end.at
        (λ h. rw (name_ended (name_run f).0 h)) refl
        ∙ g.leads z o r (end.at - at) (name_run f).1)

    onward : {c : Cursor} {m : ℕ} → Onward s end.at spare c m → Onward s at spare c m
    onward o = record {
      further = omega (arith, o.further, (name_run f).0.ends);
      inside = o.inside;
      begins_here = o.begins_here;
      fewer = o.fewer;
    }

    pub element_rest : {y : Result Tag Refusal} → AttributesRead s end.at spare y → ElementRead s at spare y
    element_rest (attributes_opened {c = c} {m = m} o g) =
        element_opened {c = c} {m = m} (onward o) (λ ns y e v l. to_part ns e ((g (name_at s at) ns).back v l))
    element_rest (attributes_emptied {c = c} {m = m} o g) =
        element_emptied {c = c} {m = m} (onward o) (λ ns y e v l. to_part ns e ((g (name_at s at) ns).back v l))
    element_rest (attributes_broken {x = x} {j = j} g) =
        element_broken {x = x} {j = j} (λ ns y e. to_part ns e (g (name_at s at) ns))

pub placed_at : (s os : List ℕ) (n m : ℕ) → n ≡ m → Placed s os n → Placed s os m
placed_at s os n m e p = subst (Placed s os) e p
