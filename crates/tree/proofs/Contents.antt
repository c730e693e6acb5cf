-- Names and texts by their lengths, the first byte, and the reading of their characters. Assumes nothing.
use Prim.Native.Nat.{ℕ, ◌≤◌, ◌<◌}
use mathlib.Core.Path.{◌≡◌, refl, sym, ◌∙◌}
use mathlib.Core.Bool.{Bool, true, false, cond, and-false, false≢true, true≢false}
use mathlib.Core.List.{List, [], ◌∷◌}
use native.Mathlib.Omega.{arith}
use lib.ListN.{length, get_or}
use borrow.Author.Tests.{le-leb, lt-leb}
use Rattle.tree.specs.Lists.{every}
use Rattle.tree.specs.Content.{name_start, spells_name, is_name, is_text}
use Rattle.tree.specs.Spelling.{start_of, is_faultless, fault_in}
use Rattle.tree.specs.Values.{plain}
use Rattle.tree.specs.Laws.Tests.{refuted}
use Rattle.tree.specs.Laws.Spelling.{name_spelled, text_spelled, no_empty, name_bytes}
use Rattle.tree.proofs.Reading.{plain_whole}

-- a text, or else a name
abbrev pub content : (text : Bool) → List ℕ → Bool
content text b = cond text (is_text b) (is_name b)

pub content_long : (t : Bool) (b : List ℕ) → 32 < length b → false ≡ content t b
unfolding is_text is_name
content_long true b h = rw (lt-leb (length b) 32 h)
content_long false b h = rw (lt-leb (length b) 32 h)

pub content_empty : (t : Bool) (b : List ℕ) → length b ≡ 0 → false ≡ content t b
unfolding is_text is_name
content_empty true [] h = sym no_empty.1
content_empty false [] h = sym no_empty.0
content_empty t (x ∷ b) h = absurd (omega arith)

pub content_is : (t : Bool) (b : List ℕ) → (length b ≡ 0 → ⊥) → length b ≤ 32 → is_faultless (fault_in (start_of t) b) ≡ content t b
unfolding is_text is_name
content_is t [] n h = absurd (n refl)
content_is true (x ∷ b) n h = rw (le-leb (length (x ∷ b)) 32 h) (sym (text_spelled x b))
content_is false (x ∷ b) n h = rw (le-leb (length (x ∷ b)) 32 h) (sym (name_spelled x b))

-- a content of ASCII
pub content_plain : (t : Bool) (b : List ℕ) → (length b ≡ 0 → ⊥) → length b ≤ 32 → every (plain t) b ≡ true
    → (t ≡ false → name_start (get_or b 0 0) ≡ true) → true ≡ content t b
content_plain t b n h e f = sym (plain_whole t b e f) ∙ content_is t b n h

-- a name that begins with none of its bytes
pub name_other : (t : Bool) (b : List ℕ) → t ≡ false → (length b ≡ 0 → ⊥) → name_start (get_or b 0 0) ≡ false → false ≡ content t b
unfolding is_name
name_other true b z n h = absurd (true≢false z)
name_other false [] z n h = absurd (n refl)
name_other false (x ∷ b) z n h = rw (refuted (spells_name (x ∷ b)) (λ e. false≢true (sym h ∙ (name_bytes x b e).0)), and-false)
