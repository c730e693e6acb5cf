-- From the first byte of the input: with or without a declaration.
use Prim.Native.Nat.{ℕ, suc, ◌+◌, ◌≤◌, ◌<◌}
use Rattle.std.proofs.Math.Path.{◌≡◌, refl, sym, ap}
use Rattle.std.proofs.Common.{◌∙◌, subst, drop-cons}
use Rattle.tree.specs.Laws.Tests.{and_left, and_right}
use Rattle.std.specs.List.{starts_with}
use Rattle.std.proofs.lemmas.Bool.{false≢true}
use Rattle.std.specs.Prelude.{nat_eq, Bool, leb, get_or, Result, Err}
use Rattle.std.proofs.Math.Bool.{true, false}
use mathlib.Core.List.{List, [], ◌∷◌}
use native.Mathlib.Omega.{arith}
use Rattle.std.proofs.Math.Dec.{eqb}
use Rattle.std.proofs.Math.ListN.{length, drop, get_or-eq_default}
use borrow.Author.Tests.{ne_eqb, eq-eqb, eqb-true, leb-true, leb-false}
use Rattle.tree.specs.Content.{name_start, content_limit}
use Rattle.xml.specs.Bytes.{blank, less_than, short_declaration, long_declaration}
use Rattle.xml.specs.Laws.Words.{Words, declarations}
use Rattle.xml.specs.Laws.Automaton.{at_start, behind_first, prolog, behind_root, declaration, Event, to, step, on}
use Rattle.xml.specs.Laws.Counts.{births, tail, peak}
use Rattle.xml.specs.Laws.Phases.{phase, pending}
use Rattle.xml.specs.Laws.Forces.{extent}
use Rattle.xml.specs.Laws.Monitor.{Monitor, at_rest}
use Rattle.xml.proofs.Laws.Monitor.{monitor_quiet}
use Rattle.xml.specs.Laws.Judge.{bad}
use Rattle.xml.specs.Laws.Scan.{scan_at}
use Rattle.xml.proofs.Laws.Scan.{scan_alike}
use Rattle.xml.proofs.Laws.Goes.{scan_quiet}
use Rattle.xml.specs.Laws.Tokens.{Reach, got, lost, one_more, reach, Wording, Landed}
use Rattle.xml.proofs.Laws.Tokens.{landed_more, word_scan}
use Rattle.xml.specs.Laws.Complete.{Accepts}
use Rattle.xml.specs.Laws.Tells.{Tells}
use Rattle.xml.proofs.Laws.Tells.{tells_then, tells_step, read_alike, tells_word}
use Rattle.xml.specs.Laws.Fixed.{word_at, agree, declaration_at}
use Rattle.xml.proofs.Laws.Fixed.{declarations_at}
use Rattle.byte_strings.specs.Agreement.{Agreement}
use Rattle.xml_reader.specs.Prolog.{RootRead, root_at, no_root, DeclaredRead, behind_it, short_of_it}
use Rattle.xml_tokens.specs.Values.{mismatch}
use Rattle.xml_tokens.specs.declared.Cursor.{Cursor}
use Rattle.xml_tokens.specs.declared.Mismatch.{Mismatch}

-- a byte that is not 0 is inside
there : (s : List ℕ) (i b : ℕ) → get_or s i 0 ≡ b → 0 < b → i < length s
there s i b e h = go (leb (length s) i) refl
  where
    go : (t : Bool) → leb (length s) i ≡ t → i < length s
    go true q = absurd (let z = get_or-eq_default s 0 (leb-true (length s) i q) in omega arith)
    go false q = leb-false (length s) i q

module _ (s : List ℕ) where
  -- no declaration
  plain_start : (get_or s 0 0 ≡ less_than → get_or s 1 0 ≡ 63 → ⊥) → (x : Monitor) → at_rest x ≡ true → (m k : ℕ)
      → k ≤ content_limit
      → scan_at s at_start x m k 0 ≡ scan_at s prolog x m k 0
  unfolding step blank
  plain_start f x r m k l = go (eqb (get_or s 0 0) less_than) refl
    where
      go : (t : Bool) → eqb (get_or s 0 0) less_than ≡ t → scan_at s at_start x m k 0 ≡ scan_at s prolog x m k 0
      go false e = scan_alike s at_start prolog x m k 0 (λ h. rw e) refl
      go true e =
          let b = eqb-true (get_or s 0 0) less_than e in
          let h = there s 0 less_than b (omega arith) in
          scan_quiet s at_start m 0 h behind_first (rw b) x r k (omega arith)
          ∙ scan_alike s behind_first behind_root x m k (0 + 1) (λ h. rw (ne_eqb (get_or s 1 0) 63 (f b))) refl
          ∙ sym (scan_quiet s prolog m 0 h behind_root (rw b) x r k (omega arith))

  -- what is told
  plain_tells : (get_or s 0 0 ≡ less_than → get_or s 1 0 ≡ 63 → ⊥) → 0 < length s → 1 < length s → Tells s at_start 0 [] prolog 0
  unfolding step blank
  plain_tells f h₀ h₁ = record { told = λ e r. (e, refl, go (eqb (get_or s 0 0) less_than) refl e r) }
    where
      go : (t : Bool) → eqb (get_or s 0 0) less_than ≡ t → (e : List Event) → Accepts true at_start (drop 0 s) e
          → Accepts true prolog (drop 0 s) e
      go false q e r = read_alike s at_start 0 prolog h₀ (rw q) r
      go true q e r =
          let b = eqb-true (get_or s 0 0) less_than q in
          let x = (tells_step s at_start 0 h₀ behind_first [] (rw b)).told e r in
          let y = read_alike s behind_first 1 behind_root h₁ (rw (ne_eqb (get_or s 1 0) 63 (f b))) x.2 in
          let p : step true prolog (get_or s 0 0) ≡ to behind_root = rw b in
          rw (drop-cons s 0 0 h₀) (subst (λ (l : List Event). Accepts true prolog (get_or s 0 0 ∷ drop 1 s) l) (sym x.1) (on p y))

  pub start_plain : {r : Result Cursor Mismatch} → (get_or s 0 0 ≡ less_than → get_or s 1 0 ≡ 63 → ⊥) → RootRead s prolog 0 r
      → RootRead s at_start 0 r
  start_plain f (root_at {c = c} a g u w) = root_at {c = c} a
      (λ m h y e v p. record { leads = λ x o r k l. plain_start f x r m k l ∙ (g m h y e v p).leads x o r k l })
      (λ m e. record { leads = λ x o r k l. plain_start f x r m k l ∙ (u m e).leads x o r k l })
      (tells_then [] (plain_tells f (omega (arith, a.inside)) (omega (arith, a.inside, a.not_first))) w)
  start_plain f (no_root {j = j} g) =
      no_root {j = j} (λ w m. record { leads = λ x o r k l. plain_start f x r m k l ∙ (g w m).leads x o r k l })

  -- a declaration
  declaring : Wording declaration prolog (λ x. [])
  unfolding step births
  declaring = record { next = λ x b. refl; calm = λ x. refl; no_node = λ k. refl }

  split : (l : List ℕ) → get_or l 0 0 ≡ less_than → get_or l 1 0 ≡ 63 → less_than ∷ 63 ∷ drop 2 l ≡ l
  split [] a b = absurd (omega arith)
  split (x ∷ []) a b = absurd (omega arith)
  split (x ∷ y ∷ l) a b = rw (a, b)

  module _ (a : get_or s 0 0 ≡ less_than) (b : get_or s 1 0 ≡ 63) where
    declared_start : (x : Monitor) → at_rest x ≡ true → (m k : ℕ) → k ≤ content_limit
        → scan_at s at_start x m k 0 ≡ Landed s prolog (λ y. []) (λ y. x) m k 0 (declaration_at s)
    unfolding step blank name_start births tail peak
    declared_start x h m k l =
        let o : (y : Words) → k + pending (phase (declaration y)) ≤ content_limit = λ y. omega arith in
        let e : ℕ → extent k [] prolog ≤ content_limit = λ y. omega arith in
        let r = reach declarations (drop 2 s) in
        let more = landed_more s declaration prolog (λ y. []) m k declaring x (λ y. x) h o e in
        scan_quiet s at_start m 0 (there s 0 less_than a (omega arith)) behind_first (rw a) x h k (omega arith)
        ∙ scan_quiet s behind_first m 1 (there s 1 63 b (omega arith)) (declaration declarations) (rw b) x h k (omega arith)
        ∙ go o e r refl
        ∙ more 1 r ∙ more 0 (one_more r)
        ∙ ap (Landed s prolog (λ y. []) (λ y. x) m k 0) (declarations_at (drop 2 s) ∙ ap declaration_at (split s a b))
      where
        go : ((y : Words) → k + pending (phase (declaration y)) ≤ content_limit) → (ℕ → extent k [] prolog ≤ content_limit) → (r : Reach)
            → reach declarations (drop 2 s) ≡ r
            → scan_at s (declaration declarations) x m k 2 ≡ Landed s prolog (λ y. []) (λ y. x) m k 2 (reach declarations (drop 2 s))
        go o e (got v n) q =
            word_scan s declaration prolog (λ y. []) m k declaring x (λ y. x) h o e (drop 2 s) declarations 2 refl (rw q
            (monitor_quiet x h))
        go o e (lost n) q =
            word_scan s declaration prolog (λ y. []) m k declaring x (λ y. x) h o e (drop 2 s) declarations 2 refl (rw q tt)

    declared_tells : {x n : ℕ} → declaration_at s ≡ got x n → Tells s at_start 0 [] prolog n
    unfolding step blank name_start
    declared_tells {x} {n} e =
        let two : one_more (one_more (reach declarations (drop 2 s))) ≡ got x n =
        declarations_at (drop 2 s) ∙ ap declaration_at (split s a b) ∙ e in
        let y = tells_step s at_start 0 (there s 0 less_than a (omega arith)) behind_first [] (rw a) in
        let z = tells_step s behind_first 1 (there s 1 63 b (omega arith)) (declaration declarations) [] (rw b) in
        tells_then [] y (tells_then [] z (go (reach declarations (drop 2 s)) refl two))
      where
        go : (r : Reach) → reach declarations (drop 2 s) ≡ r → one_more (one_more r) ≡ got x n
            → Tells s (declaration declarations) 2 [] prolog n
        go (got k m) p q =
            let u : suc (suc m) ≡ n = cc in
            let v : 2 + m ≡ n = omega arith in
            rw v at (tells_word s declaration prolog (λ x. []) declaring declarations 2 p)
        go (lost m) p q = absurd (let z : ◌≡◌ {A = ℕ} 0 1 = cc in omega arith)

    -- behind it, or where it goes wrong
    behind_whole : {v n : ℕ} → declaration_at s ≡ got v n → (x : Monitor) → at_rest x ≡ true → (m k : ℕ) → k ≤ content_limit
        → scan_at s at_start x m k 0 ≡ scan_at s prolog x m k n
    unfolding tail
    behind_whole {v} {n} e x r m k l = let p : 0 + n ≡ n = omega arith in declared_start x r m k l ∙ rw (e, p)

    behind_part : {n : ℕ} → declaration_at s ≡ lost n → (x : Monitor) → at_rest x ≡ true → (m k : ℕ) → k ≤ content_limit
        → scan_at s at_start x m k 0 ≡ bad 4 n
    behind_part {n} e x r m k l = let p : 0 + n ≡ n = omega arith in declared_start x r m k l ∙ rw (e, p)

    pub start_declared : {r : Result Cursor Mismatch} (q : Reach) → declaration_at s ≡ q → DeclaredRead s q r → RootRead s at_start 0 r
    start_declared q e (behind_it (root_at {c = c} d g u w)) = root_at {c = c} d
        (λ m h y f v q. record { leads = λ x o r k l. behind_whole e x r m k l ∙ (g m h y f v q).leads x o r k l })
        (λ m f. record { leads = λ x o r k l. behind_whole e x r m k l ∙ (u m f).leads x o r k l })
        (tells_then [] (declared_tells e) w)
    start_declared q e (behind_it (no_root {j = j} g)) =
        no_root {j = j} (λ w m. record { leads = λ x o r k l. behind_whole e x r m k l ∙ (g w m).leads x o r k l })
    start_declared q e (short_of_it {n = n}) =
        no_root {j = n} (λ w m. record { leads = λ x o r k l. behind_part e x r m k l })

    pub start_short : {r : Result Cursor Mismatch} → get_or s 19 0 ≡ 63 → DeclaredRead s (word_at short_declaration 0 s) r → RootRead s at_start 0 r
    unfolding declaration_at
    start_short e d = start_declared (word_at short_declaration 0 s) (rw e) d

    pub start_long : {r : Result Cursor Mismatch} → (get_or s 19 0 ≡ 63 → ⊥) → DeclaredRead s (word_at long_declaration 0 s) r
        → RootRead s at_start 0 r
    unfolding declaration_at
    start_long e d = start_declared (word_at long_declaration 0 s) (rw (ne_eqb (get_or s 19 0) 63 e)) d

-- how far a declaration agrees
module _ (w s : List ℕ) (n : ℕ) (a : Agreement w s 0 n) where
  pub declared_whole : {r : Result Cursor Mismatch} → n ≡ length w → RootRead s prolog n r → DeclaredRead s (word_at w 0 s) r
  unfolding word_at
  declared_whole {r} h d =
      let p : agree w s ≡ length w = sym a.agrees ∙ h in
      rw (p, eq-eqb (length w) (length w) refl) (behind_it (subst (λ (i : ℕ). RootRead s prolog i r) h d))

  pub declared_part : (n ≡ length w → ⊥) → DeclaredRead s (word_at w 0 s) (Err (mismatch n))
  unfolding word_at
  declared_part h = let p : agree w s ≡ n = sym a.agrees in rw (p, ne_eqb n (length w) h) short_of_it

-- the first two bytes
module _ (s : List ℕ) where
  abbrev two : List ℕ
  two = less_than ∷ 63 ∷ []

  pub two_there : starts_with nat_eq s two ≡ true → (get_or s 0 0 ≡ less_than) × (get_or s 1 0 ≡ 63)
  two_there e = go s e
    where
      go : (s : List ℕ) → starts_with nat_eq s two ≡ true → (get_or s 0 0 ≡ less_than) × (get_or s 1 0 ≡ 63)
      go [] e = absurd (false≢true e)
      go (x ∷ []) e = absurd (false≢true (and_right (eqb less_than x) false e))
      go (x ∷ y ∷ s) e = (
        sym (eqb-true less_than x (and_left (eqb less_than x) _ e)),
        sym (eqb-true 63 y (and_left (eqb 63 y) _ (and_right (eqb less_than x) _ e))),
      )

  pub two_missing : starts_with nat_eq s two ≡ false → get_or s 0 0 ≡ less_than → get_or s 1 0 ≡ 63 → ⊥
  two_missing e f g = go s e f g
    where
      go : (s : List ℕ) → starts_with nat_eq s two ≡ false → get_or s 0 0 ≡ less_than → get_or s 1 0 ≡ 63 → ⊥
      go [] e f g = omega arith
      go (x ∷ []) e f g = omega arith
      go (x ∷ y ∷ s) e f g = absurd (false≢true (sym (rw (f, g) at e)))
