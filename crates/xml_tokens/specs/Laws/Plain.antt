-- Names of ASCII, which need no second reading, and the ASCII beginning of others.
use Rattle.std.specs.Prelude.{ℕ, zero, suc, ◌+◌, ◌-◌, ◌≤◌, ◌<◌, ◌≡◌, refl, Bool, true, false, List, leb, ltb, length, get_or, take, drop, Ok, Err}
use Rattle.std.proofs.Math.Path.{sym}
use Rattle.std.proofs.Common.{◌∙◌, arith, drop-cons, leb-true, leb-false, ltb-true}
use Rattle.tree.specs.Content.{content_limit, name_start, name_byte}
use Rattle.tree.specs.Spelling.{start_of, faultless, fault_in}
use Rattle.tree.specs.Laws.Tests.{and_left, and_right}
use Rattle.xml.specs.Laws.Tokens.{span}
use Rattle.xml.proofs.Laws.Tokens.{span_go, span_stop, span_some, span_behind}
use Rattle.xml_tokens.specs.declared.Cursor.{Cursor}
use Rattle.xml_tokens.specs.Classes.{ascii_name}
use Rattle.xml_tokens.specs.Steps.{Run, fits, too_long, NameRead}
use Rattle.xml_tokens.specs.Laws.Classes.{name_ascii_byte}
use Rattle.xml_tokens.specs.Laws.Runs.{Running, run_stop, run_end, run_passes}
use Rattle.xml_tokens.specs.Laws.Spelling.{ascii_faultless}
use Rattle.xml_tokens.specs.Laws.Letters.{start_name, name_fits}
use Rattle.protocol.specs.declared.causes.Cause.TheVariants.{ContentOverLimit}
use Rattle.xml_tokens.specs.Values.{refusal, piece}

ascii_parts : (b : ℕ) → ascii_name b ≡ true → (b < 128) × (name_byte b ≡ true)
unfolding ascii_name
ascii_parts b h = (ltb-true b 128 (and_left (ltb b 128) (name_byte b) h), and_right (ltb b 128) (name_byte b) h)

-- the first m bytes of a run are bytes of a name
running : (s : List ℕ) (m at : ℕ) → m ≤ span ascii_name (drop at s) → Running name_byte s at (at + m)
unfolding Running
running s zero at h = let p : at + 0 ≡ at = omega arith in rw p
running s (suc m) at h =
    let x = span_some ascii_name s at m h in
    let y = running s m (suc at) x.2 in
    let p : at + suc m ≡ suc at + m = omega arith in
    rw p (omega (arith, y, span_go name_byte s at x.0 (ascii_parts (get_or s at 0) x.1).1))

module _ (s : List ℕ) (at i : ℕ) (r : Run ascii_name s at i) where
  so_far : Running name_byte s at i
  so_far = let p : at + (i - at) ≡ i = omega (arith, r.ends) in rw p at (running s (i - at) at (omega (arith, r.ends)))

  -- a name goes on behind it
  pub name_further : {to : ℕ} → Run name_byte s i to → Run name_byte s at to
  unfolding Running
  name_further q = record { ends = q.ends ∙ sym so_far; inside = q.inside }

  module _ (inside : at < length s) (start : name_start (get_or s at 0) ≡ true) (low : get_or s i 0 < 128) where
    -- it ends there
    ends_there : Run name_byte s at i
    ends_there = go (leb (length s) i) refl
      where
        go : (t : Bool) → leb (length s) i ≡ t → Run name_byte s at i
        go true e = run_end name_byte s at i so_far r.inside (leb-true (length s) i e)
        go false e =
            let h = leb-false (length s) i e in
            run_stop name_byte s at i so_far h
            (name_ascii_byte (get_or s i 0) low ∙ rw r.ends (span_behind ascii_name s at (omega (arith, r.ends))))

    first_ascii : ascii_name (get_or s at 0) ≡ true
    first_ascii = go (ascii_name (get_or s at 0)) refl
      where
        go : (t : Bool) → ascii_name (get_or s at 0) ≡ t → t ≡ true
        go true e = refl
        go false e =
            let p : i ≡ at = omega (arith, r.ends, span_stop ascii_name s at inside e) in
            sym e ∙ sym (name_ascii_byte (get_or s at 0) (rw p at low)) ∙ start_name (get_or s at 0) start

    spelled : fault_in (start_of false) (take (i - at) (drop at s)) ≡ faultless
    spelled =
        let p : i - at ≡ suc (span ascii_name (drop (suc at) s)) = omega (arith, r.ends, span_go ascii_name s at inside first_ascii) in
        rw (p, drop-cons s at 0 inside)
        (ascii_faultless (get_or s at 0) (take (span ascii_name (drop (suc at) s)) (drop (suc at) s)) start
        (ascii_parts (get_or s at 0) first_ascii).0 (run_passes ascii_name (drop (suc at) s)))

    pub plain_long : content_limit < i - at → NameRead s at (Err (refusal ContentOverLimit (at + 32)))
    plain_long h = name_fits s at inside start i ends_there faultless spelled (too_long (omega arith) refl)

    pub plain_short : i - at ≤ content_limit → (c : Cursor) → c.at ≡ i → NameRead s at (Ok (piece c (i - at)))
    plain_short h c e = name_fits s at inside start i ends_there faultless spelled (fits {c = c} e (omega arith) h)
