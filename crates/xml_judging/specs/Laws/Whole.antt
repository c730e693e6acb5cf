-- The whole input and the limit on its length.
use Rattle.std.specs.Prelude.{ℕ, suc, ◌+◌, ◌-◌, ◌≤◌, ◌<◌, ◌≡◌, List, [], ◌∷◌, length, get_or, take, Ok, Err}
use Rattle.std.proofs.Math.Path.{refl}
use Rattle.std.proofs.Common.{sym, ap, ◌∙◌, take_all, length-take-le, lt-ltb, le-ltb}
use Rattle.std.proofs.Math.Bool.{true, false}
use native.Mathlib.Omega.{arith}
use Rattle.tree.specs.Spelling.{first_part, possible, Spelling, spelling, spell, start_of}
use Rattle.xml.specs.Reading.{input_limit}
use Rattle.xml.specs.Laws.Automaton.{at_start, tag_name}
use Rattle.xml.specs.Laws.Monitor.{on, monitoring}
use Rattle.xml.specs.Laws.Judge.{Verdict, bad, judgement}
use Rattle.xml.specs.Laws.Scan.{scan, scan_at, limited}
use Rattle.xml.proofs.Laws.Scan.{judgement_scan}
use Rattle.xml_tokens.specs.declared.Cursor.{Cursor}
use Rattle.xml_tokens.specs.Laws.Spelling.{begins_none, begins_some}
use Rattle.xml_reader.specs.Elements.{Named}
use Rattle.xml_reader.specs.Prolog.{RootRead, root_at, no_root}
use Rattle.xml_tokens.specs.Values.{mismatch}

-- from the root element on
module _ (s : List ℕ) (limit : ℕ) where
  pub no_root_is : {j : ℕ} → RootRead s at_start 0 (Err (mismatch j)) → scan at_start monitoring (limit - 1) 0 0 0 s ≡ bad 4 j
  unfolding scan_at
  no_root_is (no_root f) = (f true (limit - 1)).leads monitoring refl refl 0 (omega arith)

  -- the first byte of its name begins no character that names begin with
  pub root_unspelled : {c : Cursor} → RootRead s at_start 0 (Ok c)
      → possible (start_of false).here (first_part (get_or s c.at 0)) ≡ false
      → scan at_start monitoring (limit - 1) 0 0 0 s ≡ bad 4 c.at
  unfolding scan_at
  root_unspelled {c} (root_at n f g t) e =
      (g (limit - 1) (begins_none false (get_or s c.at 0) e)).leads monitoring refl refl 0 (omega arith)

  pub root_is : {c : Cursor} (v : Verdict) → 2 ≤ limit → RootRead s at_start 0 (Ok c)
      → possible (start_of false).here (first_part (get_or s c.at 0)) ≡ true
      → ((y : Spelling) → spell (start_of false) (get_or s c.at 0) ≡ spelling y
      → scan_at s (tag_name [] (get_or s c.at 0 ∷ [])) (on y) (limit - 2) 1 (c.at + 1) ≡ v)
      → scan at_start monitoring (limit - 1) 0 0 0 s ≡ v
  unfolding scan_at
  root_is {c} v h (root_at n f g t) e k =
      let p : limit - 1 - 1 ≡ limit - 2 = omega arith in
      let y = begins_some false (get_or s c.at 0) e in
      (f (limit - 1) (omega arith) y.0 y.1 v (rw p (k y.0 y.1))).leads monitoring refl refl 0 (omega arith)

pub root_named : {s : List ℕ} {c : Cursor} → RootRead s at_start 0 (Ok c) → Named s c.at
root_named (root_at n f g t) = n

-- so many of the first bytes
pub taken_length : (n : ℕ) (s : List ℕ) → n ≤ length s → n ≡ length (take n s)
taken_length n s h = sym (length-take-le n s h)

module _ (limit : ℕ) (s : List ℕ) (u v : Verdict) where
  pub judged_long : input_limit < length s → scan at_start monitoring (limit - 1) 0 0 0 (take 65537 s) ≡ u → limited true u ≡ v
      → judgement limit s ≡ v
  judged_long h e f = rw (lt-ltb input_limit (length s) h) at (judgement_scan limit s) ∙ ap (limited true) e ∙ f

  pub judged_short : length s ≤ input_limit → scan at_start monitoring (limit - 1) 0 0 0 s ≡ u → limited false u ≡ v → judgement limit s ≡ v
  judged_short h e f =
      rw (le-ltb input_limit (length s) h, take_all (suc input_limit) s (omega arith)) at (judgement_scan limit s) ∙ ap (limited false) e
      ∙ f
