-- How many nodes events tell of, and how long contents become.
use Rattle.std.specs.Prelude.{ℕ, suc, ◌+◌, ◌≤◌, max, ◌≡◌, refl, List, [], ◌∷◌, ◌++◌, length}
use Rattle.std.proofs.Common.{ap, ◌∙◌, arith}
use Rattle.tree.specs.Forest.{nil, node}
use Rattle.xml.specs.Shape.{Shape, size, longest}
use Rattle.xml.specs.Laws.Automaton.{Event, born, byte, tell_bytes, tell}
use Rattle.xml.specs.Laws.Counts.{births, tail, peak}

pub births_append : (v e : List Event) → births (v ++ e) ≡ births v + births e
unfolding births
births_append [] e = omega arith
births_append (born d k ∷ v) e = ap suc (births_append v e) ∙ omega arith
births_append (byte b ∷ v) e = births_append v e

pub tail_append : (k : ℕ) (v e : List Event) → tail k (v ++ e) ≡ tail (tail k v) e
unfolding tail
tail_append k [] e = refl
tail_append k (born d m ∷ v) e = tail_append 0 v e
tail_append k (byte b ∷ v) e = tail_append (suc k) v e

pub peak_least : (k : ℕ) (e : List Event) → k ≤ peak k e
unfolding peak
peak_least k [] = omega arith
peak_least k (born d m ∷ e) = omega arith
peak_least k (byte b ∷ e) = omega (arith, peak_least (suc k) e)

pub peak_append : (k : ℕ) (v e : List Event) → peak k (v ++ e) ≡ max (peak k v) (peak (tail k v) e)
unfolding peak tail
peak_append k [] e = omega (arith, peak_least k e)
peak_append k (born d m ∷ v) e = omega (arith, peak_append 0 v e)
peak_append k (byte b ∷ v) e = peak_append (suc k) v e

-- the counts of a tree ------------------------------------------------------------------

pub births_bytes : (c : List ℕ) (e : List Event) → births (tell_bytes c e) ≡ births e
unfolding births tell_bytes
births_bytes [] e = refl
births_bytes (b ∷ c) e = births_bytes c e

births_tell : (d : ℕ) (f : Shape) (e : List Event) → births (tell d f e) ≡ size f + births e
unfolding births tell size
births_tell d nil e = omega arith
births_tell d (node a g f) e =
    omega (arith, births_bytes a.content (tell (suc d) g (tell d f e)), births_tell (suc d) g (tell d f e), births_tell d f e)

pub size_told : (f : Shape) → births (tell 1 f []) ≡ size f
unfolding births
size_told f = births_tell 1 f [] ∙ omega arith

pub peak_bytes : (k : ℕ) (c : List ℕ) (e : List Event) → peak k (tell_bytes c e) ≡ peak (k + length c) e
unfolding peak tell_bytes
peak_bytes k [] e = ap (λ (n : ℕ). peak n e) (omega arith)
peak_bytes k (b ∷ c) e = peak_bytes (suc k) c e ∙ ap (λ (n : ℕ). peak n e) (omega arith)

-- at most m, if all that comes is
peak_most : (m k d : ℕ) (f : Shape) (e : List Event) → k ≤ m → longest f ≤ m → ((j : ℕ) → j ≤ m → peak j e ≤ m) → peak k (tell d f e) ≤ m
unfolding peak tell longest
peak_most m k d nil e h l r = r k h
peak_most m k d (node a g f) e h l r =
    let p = peak_bytes 0 a.content (tell (suc d) g (tell d f e)) in
    let q = peak_most m (0 + length a.content) (suc d) g (tell d f e) (omega arith) (omega arith)
    (λ j i. peak_most m j d f e i (omega arith) r) in
    omega arith

-- at least the content of each node
peak_more : (k d : ℕ) (f : Shape) (e : List Event) → (longest f ≤ peak k (tell d f e)) × ((j : ℕ) × (peak j e ≤ peak k (tell d f e)))
unfolding peak tell longest
peak_more k d nil e = (omega arith, (k, omega arith))
peak_more k d (node a g f) e =
    let c = a.content in
    let p = peak_bytes 0 c (tell (suc d) g (tell d f e)) in
    let x = peak_more (0 + length c) (suc d) g (tell d f e) in
    let y = peak_more x.1.0 d f e in
    let l = peak_least (0 + length c) (tell (suc d) g (tell d f e)) in
    let x0 = x.0 in let x1 = x.1.1 in let y0 = y.0 in let y1 = y.1.1 in
    (omega arith, (y.1.0, omega arith))

pub longest_told : (f : Shape) → peak 0 (tell 1 f []) ≡ longest f
unfolding peak
longest_told f =
    let l = (peak_more 0 1 f []).0 in
    let m = peak_most (longest f) 0 1 f [] (omega arith) (omega arith) (λ j h. h) in
    omega arith
