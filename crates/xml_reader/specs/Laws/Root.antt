-- The way to the root element: blanks, a <, the first byte of a name.
use Rattle.std.specs.Prelude.{ℕ, ◌+◌, ◌≤◌, ◌<◌, ◌≡◌, true, false, length, Ok, Err, leb, Bool}
use Rattle.std.proofs.Math.Path.{refl, ap}
use Rattle.std.proofs.Common.{sym, ◌∙◌, arith, leb-true, leb-false}
use mathlib.Core.List.{List, [], ◌∷◌}
use Rattle.std.proofs.Math.ListN.{get_or}
use borrow.Author.Tests.{ne_eqb}
use Rattle.tree.specs.Content.{element_kind, name_start}
use Rattle.xml.specs.Bytes.{blank, less_than}
use Rattle.xml.specs.Laws.Automaton.{prolog, behind_root, tag_name, born, byte, step}
use Rattle.xml.specs.Laws.Counts.{births, tail, peak}
use Rattle.xml.specs.Laws.Monitor.{on, seen_as}
use Rattle.xml.proofs.Laws.Scan.{scan_unspelled}
use Rattle.xml.proofs.Laws.Goes.{stops_end, stops_stuck, scan_born}
use Rattle.xml.specs.Laws.Tells.{Passes}
use Rattle.xml.proofs.Laws.Tells.{tells_then, tells_step, passes_then, passes_same, passes_step, passes_blanks}
use Rattle.xml_tokens.specs.declared.Cursor.{Cursor}
use Rattle.xml_tokens.specs.Steps.{Run, ByteRead, byte_missing}
use Rattle.xml_tokens.specs.Laws.Spelling.{monitor_name}
use Rattle.xml_tokens.specs.Laws.Tags.{no_blank_here}
use Rattle.xml_reader.specs.Prolog.{RootRead, root_at, no_root}
use Rattle.xml_tokens.specs.Values.{mismatch}

module _ (s : List ℕ) (at i : ℕ) (r : Run blank s at i) where
  to_root : Passes s prolog at prolog i
  unfolding step
  to_root = passes_then (passes_blanks s prolog (λ b e. rw e) refl at) (passes_same s prolog _ i (sym r.ends))

  pub root_over : length s ≤ i → RootRead s prolog at (Err (mismatch i))
  root_over h = no_root {j = i} (λ w m. (to_root.goes m).back _ (stops_end s prolog m i h refl))

  module _ (h : i < length s) where
    pub root_wrong : (get_or s i 0 ≡ less_than → ⊥) → RootRead s prolog at (Err (mismatch i))
    unfolding step
    root_wrong e =
        no_root {j = i} (λ w m. (to_root.goes m).back _ (stops_stuck s prolog m i h
        (rw (no_blank_here s at i r h, ne_eqb (get_or s i 0) less_than e))))

    module _ (e : get_or s i 0 ≡ less_than) where
      to_name : Passes s prolog at behind_root (i + 1)
      unfolding step blank
      to_name = passes_then to_root (passes_step s prolog i h behind_root (rw e) refl)

      pub name_over : length s ≤ i + 1 → RootRead s prolog at (Err (mismatch (i + 1)))
      name_over k = no_root {j = i + 1} (λ w m. (to_name.goes m).back _ (stops_end s behind_root m (i + 1) k refl))

      module _ (k : i + 1 < length s) where
        pub name_wrong : name_start (get_or s (i + 1) 0) ≡ false → RootRead s prolog at (Err (mismatch (i + 1)))
        unfolding step
        name_wrong f = no_root {j = i + 1} (λ w m. (to_name.goes m).back _ (stops_stuck s behind_root m (i + 1) k (rw f)))

        pub name_right : (c : Cursor) → name_start (get_or s (i + 1) 0) ≡ true → c.at ≡ i + 1 → RootRead s prolog at (Ok c)
        unfolding step births tail peak
        name_right c f p = root_at {c = c} (record { not_first = omega arith; inside = rw p k; starts = rw p f })
            (λ m l y e v g. (to_name.goes m).back v (record {
              leads = λ x o r j h.
                  let b = get_or s (i + 1) 0 in
                  scan_born s behind_root m (i + 1) k (tag_name [] (b ∷ [])) 1 element_kind (byte b ∷ []) (rw f) x (on y)
                  (monitor_name x o r 1 element_kind b refl ∙ ap seen_as (rw p at e)) refl l j h (omega arith) ∙ (rw p at g);
            }))
            (λ m e. rw p ((to_name.goes m).back _ (record {
              leads = λ x o r j h.
                  let b = get_or s (i + 1) 0 in
                  scan_unspelled s behind_root x m j (i + 1) k (tag_name [] (b ∷ [])) (born 1 element_kind ∷ byte b ∷ []) (rw f)
                  (monitor_name x o r 1 element_kind b refl ∙ ap seen_as (rw p at e));
            })))
            (rw p (tells_then [] to_name.tells (tells_step s behind_root (i + 1) k (tag_name [] (get_or s (i + 1) 0 ∷ []))
            (born 1 element_kind ∷ byte (get_or s (i + 1) 0) ∷ []) (rw f))))

  pub root_lost : {j : ℕ} → ByteRead s i less_than (Err (mismatch j)) → RootRead s prolog at (Err (mismatch j))
  root_lost (byte_missing p n) = rw p (go (leb (length s) i) refl)
    where
      go : (t : Bool) → leb (length s) i ≡ t → RootRead s prolog at (Err (mismatch i))
      go true x = root_over (leb-true (length s) i x)
      go false x = let h = leb-false (length s) i x in root_wrong h (n h)
