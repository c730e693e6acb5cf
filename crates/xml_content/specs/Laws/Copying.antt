-- Two windows of one width, over a piece that is at most twice as long.
use Rattle.std.specs.Prelude.{◌≡◌, List, ◌++◌, ℕ, ◌+◌, ◌-◌, ◌≤◌, length, take, drop}
use Rattle.std.proofs.Common.{sym, ap, ◌∙◌, arith, length-append, length-drop, take-append-drop, length-take-le, take_all, take-take, drop-drop}
use Rattle.std.proofs.lemmas.List.{take-append-le}
use Rattle.std.proofs.Math.Seq.{drop-append-add}
use borrow.Rule.Slice.PartMut.{put_mid}
use Rattle.xml_text.specs.Lending.{Wrote, wrote_as, behind}

-- p[at..]
abbrev pub ending : ℕ → List ℕ → List ℕ
ending at p = take (length p - at) (drop at p)

-- a window of W bytes is written at the start of a piece p; another one, at its end, begins at length p - W
module _ (p o₀ o : List ℕ) (W r : ℕ) (w : Wrote (take W p) o₀ o r) (low : W ≤ length p) (high : length p ≤ W + W) (h : length p ≤ length o₀)
  where
    wide : length (take W p) ≡ W
    wide = length-take-le W p low

    long : length o ≡ length o₀
    long = ap length w.bytes ∙ simp (length-append, length-drop) (omega (arith, wide))

    -- what stands before the second window
    front : take (length p - W) o ≡ take (length p - W) p
    front =
        ap (take (length p - W)) w.bytes ∙ take-append-le (length p - W) (take W p) _ (omega (arith, wide))
        ∙ take-take (length p - W) W p (omega arith)

    fronted : Wrote (take (length p - W) p) o o (length p - W)
    fronted =
        let n : length (take (length p - W) p) ≡ length p - W = length-take-le (length p - W) p (omega arith) in
        record { count = sym n; bytes = sym (rw (n, ← front) (take-append-drop (length p - W) o)) }

    all : take (length p - W) p ++ drop (length p - W) p ≡ p
    all = take-append-drop (length p - W) p

    enough : length (take (length p - W) p ++ drop (length p - W) p) ≤ length o
    enough = omega (arith, ap length all, long)

    last : take W (ending (length p - W) p) ≡ drop (length p - W) p
    last =
        take-take W (length p - (length p - W)) (drop (length p - W) p) (omega arith)
        ∙ take_all W (drop (length p - W) p) (simp length-drop (omega arith))

    -- what stands behind both
    kept : drop (length p) o ≡ drop (length p) o₀
    kept =
        let e : length (take W p) + (length p - W) ≡ length p = omega (arith, wide) in
        ap (drop (length p)) w.bytes
        ∙ ap (λ n. drop n (take W p ++ drop (length (take W p)) o₀)) (sym e)
        ∙ drop-append-add (take W p) (drop (length (take W p)) o₀) (length p - W)
        ∙ drop-drop (length p - W) (length (take W p)) o₀
        ∙ ap (λ n. drop n o₀) e

    pub windows : (rest : List ℕ) (q : ℕ)
        → Wrote (take W (ending (length p - W) p)) (take (length o - (length p - W)) (drop (length p - W) o)) rest q
        → Wrote p o₀ (put_mid (length p - W) (length o - (length p - W)) o rest) ((length p - W) + q)
    windows rest q v =
        let x = wrote_as all (behind (take (length p - W) p) (drop (length p - W) p) o o (length p - W) fronted enough rest q
        (wrote_as last v)) in
        record { count = x.count; bytes = rw (← kept) x.bytes }

-- the windows are the arrays a and b
pub copied : {p a b o₀ o y : List ℕ} {r q : ℕ} (W : ℕ) → a ≡ take W p → b ≡ take W (ending (length p - W) p) → Wrote a o₀ o r
    → Wrote b (take (length o - (length p - W)) (drop (length p - W) o)) y q → W ≤ length p → length p ≤ W + W → length p ≤ length o₀
    → Wrote p o₀ (put_mid (length p - W) (length o - (length p - W)) o y) ((length p - W) + q)
copied {p} {o₀ = o₀} {o = o} {y = y} {r = r} {q = q} W e f w v low high h = windows p o₀ o W r (wrote_as e w) low high h y q (wrote_as f v)
