-- The judgement is what the definitions say: the earliest fault, or none.
use Prim.Native.Nat.{ℕ, zero, suc, ◌+◌, ◌-◌, ◌≤◌, ◌<◌, max}
use Rattle.std.specs.Prelude.{◌≡◌, Bool, false, cond, ◌&&◌, eqb, leb, ltb, take}
use Rattle.std.proofs.Math.Path.{refl, sym, ap}
use Rattle.std.proofs.Common.{◌∙◌, subst, take_all, take-suc, leb-true, leb-false, ltb-true, ltb-false, eqb-true}
use Rattle.std.proofs.Math.Bool.{true}
use Rattle.std.proofs.lemmas.Bool.{false≢true, eqb-false}
use mathlib.Core.List.{List, [], ◌∷◌, ◌++◌, append-nil}
use native.Mathlib.Omega.{arith}
use Rattle.std.proofs.Math.ListN.{length, drop, get_or, length-drop}
use Rattle.std.proofs.Math.Seq.{drop-cons}
use Rattle.tree.specs.Content.{content_limit}
use Rattle.tree.specs.Spelling.{Spelling, whole}
use Rattle.tree.specs.Laws.Spelling.{completable_before}
use Rattle.xml.specs.Shape.{Shape, size, longest}
use Rattle.xml.specs.Grammar.{Spells}
use Rattle.xml.specs.Reading.{input_limit, Viable, LongContent, ManyNodes, FirstForced, opener, node_offset, FaultWithin, wrong_byte}
use Rattle.xml.specs.Reading.{too_soon, too_long, long_content, many_nodes, Earlier}
use Rattle.xml.specs.Laws.Automaton.{Config, at_start, epilog, Event, Move, stuck, move, step, Reads, tell}
use Rattle.xml.proofs.Laws.Transitions.{step_is}
use Rattle.xml.proofs.Laws.Sound.{sound}
use Rattle.xml.proofs.Laws.Complete.{complete}
use Rattle.xml.proofs.Laws.Unique.{one_run}
use Rattle.xml.specs.Laws.Counts.{births, tail, peak}
use Rattle.xml.proofs.Laws.Counts.{births_append, tail_append, peak_append, size_told, longest_told}
use Rattle.xml.specs.Laws.Phases.{phase, is_over}
use Rattle.xml.proofs.Laws.Phases.{over_epilog}
use Rattle.xml.specs.Laws.Monitor as monitor
use Rattle.xml.specs.Laws.Monitor.{Monitor, Seen, unspelled, seen, monitor}
use Rattle.xml.proofs.Laws.Monitored.{not_seen, seen_spelled}
use Rattle.xml.proofs.Laws.Invariant.{step_invariant}
use Rattle.xml.proofs.Laws.Strict.{Strict, strict_stay, strict_on, strict_reads, strict_seen, strict_invariant, strict_join}
use Rattle.xml.proofs.Laws.Strict.{strict_cut}
use Rattle.xml.proofs.Laws.Strict.{initial, viable_strict, strict_viable, strict_same}
use Rattle.xml.specs.Laws.Forces.{extent}
use Rattle.xml.proofs.Laws.Forces.{many_forced, long_forced, few_free, short_free}
use Rattle.xml.specs.Laws.Judge.{Verdict, fine, bad, weighed, if_seen, judge_move, judge, byte_before}
use Rattle.xml.proofs.Laws.Judge.{offset_before, offset_at}
use Rattle.xml.specs.Laws.Judge.{judgement}

data Order (a b : ℕ) : Type 0 where
  less : a < b → Order a b
  equal : a ≡ b → Order a b
  greater : b < a → Order a b

order : (a b : ℕ) → Order a b
order a b = go (ltb a b) refl (eqb a b) refl
  where
    go : (x : Bool) → ltb a b ≡ x → (y : Bool) → eqb a b ≡ y → Order a b
    go true e y e₁ = less (ltb-true a b e)
    go false e true e₁ = equal (eqb-true a b e₁)
    go false e false e₁ = greater (let n : a ≡ b → ⊥ = eqb-false a b e₁ in omega (arith, ltb-false a b e))

offset_least : (s : List ℕ) (i j : ℕ) → i < j → i ≤ node_offset s j
offset_least s i zero h = omega arith
offset_least s i (suc j) h = go (opener (get_or s j 0))
  where
    go : (t : Bool) → i ≤ cond t j (suc j)
    go true = omega arith
    go false = omega arith

module _ (limit : ℕ) where
  -- the first i bytes are read, within the limits
  record Within (s : List ℕ) (i : ℕ) (c : Config) (x : Spelling) (v : List Event) : Type 0 where
    strictly : Strict at_start initial (take i s) v c x
    few : suc (births v) ≤ limit
    short : extent 0 v c ≤ content_limit

  abbrev Clean : List ℕ → ℕ → Type 0
  Clean s i = (j : ℕ) → j ≤ i → (c : Config) × (x : Spelling) × (v : List Event) × Within s j c x v

  -- a fault of an input whose first i bytes are within the limits
  data Later (s : List ℕ) (i : ℕ) : ℕ → ℕ → Type 0 where
    after : {c j : ℕ} → 4 ≤ c → i < j → Later s i c j
    at_wrong : ¬ (Viable (take (suc i) s)) → Later s i 4 i
    at_limit : (i < length s → i < input_limit → ⊥) → Later s i 4 i
    at_long : FirstForced LongContent s i → Later s i 5 i
    at_many : FirstForced (ManyNodes limit) s i → Later s i 6 (node_offset s i)
    not_before : {j : ℕ} → i ≤ j → Later s i 6 j

  module _ (s : List ℕ) (i : ℕ) (l : i ≤ length s) (m : i ≤ input_limit) (clean : Clean s i) (some : 2 ≤ limit) where
    later : {c j : ℕ} → FaultWithin limit s c j → Later s i c j
    later (wrong_byte {i = j} h a b) = go (order i j)
      where
        go : Order i j → Later s i 4 j
        go (less k) = after {c = 4} (omega arith) k
        go (equal k) = subst (λ (n : ℕ). Later s i 4 n) k (at_wrong (subst (λ (n : ℕ). ¬ (Viable (take (suc n) s))) (sym k) b))
        go (greater k) = absurd (b (strict_viable (clean (suc j) k).3.strictly))
    later (too_soon a b) = go (order i (length s))
      where
        go : Order i (length s) → Later s i 4 (length s)
        go (less k) = after {c = 4} (omega arith) k
        go (equal k) = subst (λ (n : ℕ). Later s i 4 n) k (at_limit (λ x y. omega arith))
        go (greater k) = absurd (omega arith)
    later (too_long h) = go (order i input_limit)
      where
        go : Order i input_limit → Later s i 4 input_limit
        go (less k) = after {c = 4} (omega arith) k
        go (equal k) = subst (λ (n : ℕ). Later s i 4 n) k (at_limit (λ x y. omega arith))
        go (greater k) = absurd (omega arith)
    later (long_content {i = j} h) = go (order i j)
      where
        go : Order i j → Later s i 5 j
        go (less k) = after {c = 5} (omega arith) k
        go (equal k) = subst (λ (n : ℕ). Later s i 5 n) k (at_long (subst (FirstForced LongContent s) (sym k) h))
        go (greater k) = let x = (clean (suc j) k).3 in absurd (short_free (strict_reads x.strictly) x.short h.forced)
    later (many_nodes {i = j} h) = go (order i j)
      where
        go : Order i j → Later s i 6 (node_offset s j)
        go (less k) = not_before (offset_least s i j k)
        go (equal k) = subst (λ (n : ℕ). Later s i 6 (node_offset s n)) k (at_many (subst (FirstForced (ManyNodes limit) s) (sym k) h))
        go (greater k) = let x = (clean (suc j) k).3 in absurd (few_free (strict_reads x.strictly) some x.few h.forced)

  -- a fault that no other comes before
  abbrev pub Reported : List ℕ → ℕ → ℕ → Type 0
  Reported s c i = FaultWithin limit s c i × ((c' i' : ℕ) → FaultWithin limit s c' i' → Earlier c i c' i')

  -- a document within the limits, and no fault; so many nodes more could be held
  pub record Faultless (s : List ℕ) (left : ℕ) : Type 0 where
    pub shape : Shape
    pub spelled : Spells s shape
    pub no_fault : (c i : ℕ) → ¬ (FaultWithin limit s c i)
    pub nodes : left + suc (size shape) ≡ limit
    pub short_contents : longest shape ≤ content_limit
    pub short_input : length s ≤ input_limit

  -- what a verdict says of the input
  abbrev pub Means : List ℕ → Verdict → Type 0
  Means s (fine n) = Faultless s n
  Means s (bad c i) = Reported s c i

  -- no fault comes before ----------------------------------------------------------------

  module _ {s : List ℕ} {i : ℕ} where
    four_first : {c j : ℕ} → Later s i c j → (FirstForced (ManyNodes limit) s i → i ≤ node_offset s i) → Earlier 4 i c j
    four_first (after h k) f = record { offsets = omega arith; causes = λ e. omega arith }
    four_first (at_wrong h) f = record { offsets = omega arith; causes = λ e. omega arith }
    four_first (at_limit h) f = record { offsets = omega arith; causes = λ e. omega arith }
    four_first (at_long h) f = record { offsets = omega arith; causes = λ e. omega arith }
    four_first (at_many h) f = record { offsets = f h; causes = λ e. omega arith }
    four_first (not_before h) f = record { offsets = omega arith; causes = λ e. omega arith }

    module _ (viable : Viable (take (suc i) s)) (inside : i < length s) (below : i < input_limit) where
      five_first : {c j : ℕ} → Later s i c j → (FirstForced (ManyNodes limit) s i → i ≤ node_offset s i) → Earlier 5 i c j
      five_first (after h k) f = record { offsets = omega arith; causes = λ e. omega arith }
      five_first (at_wrong h) f = absurd (h viable)
      five_first (at_limit h) f = absurd (h inside below)
      five_first (at_long h) f = record { offsets = omega arith; causes = λ e. omega arith }
      five_first (at_many h) f = record { offsets = f h; causes = λ e. omega arith }
      five_first (not_before h) f = record { offsets = omega arith; causes = λ e. omega arith }

      six_first : {c j : ℕ} → Later s i c j → ¬ (FirstForced LongContent s i) → (FirstForced (ManyNodes limit) s i → i ≤ node_offset s i)
          → Earlier 6 i c j
      six_first (after h k) g f = record { offsets = omega arith; causes = λ e. omega arith }
      six_first (at_wrong h) g f = absurd (h viable)
      six_first (at_limit h) g f = absurd (h inside below)
      six_first (at_long h) g f = absurd (g h)
      six_first (at_many h) g f = record { offsets = f h; causes = λ e. omega arith }
      six_first (not_before h) g f = record { offsets = omega arith; causes = λ e. omega arith }

  -- a node that begins one byte before
  six_before : {s : List ℕ} (i : ℕ) {c j : ℕ} → 1 ≤ i → Later s i c j → Earlier 6 (i - 1) c j
  six_before i l (after h k) = record { offsets = omega arith; causes = λ e. omega arith }
  six_before i l (at_wrong h) = record { offsets = omega arith; causes = λ e. omega arith }
  six_before i l (at_limit h) = record { offsets = omega arith; causes = λ e. omega arith }
  six_before i l (at_long h) = record { offsets = omega arith; causes = λ e. omega arith }
  six_before {s} i l (at_many h) = record { offsets = offset_least s (i - 1) i (omega arith); causes = λ e. omega arith }
  six_before i l (not_before h) = record { offsets = omega arith; causes = λ e. omega arith }

  -- the end of the input -----------------------------------------------------------------

  module _ (s : List ℕ) (i : ℕ) (l : i ≤ length s) (m : i ≤ input_limit) (clean : Clean s i) (some : 2 ≤ limit) where
    none_before : {c j : ℕ} → length s ≤ i → (f : Shape) → Spells s f → FaultWithin limit s c j → ⊥
    none_before h f x (wrong_byte {i = j} k a b) = b (strict_viable (clean (suc j) (omega arith)).3.strictly)
    none_before h f x (too_soon a b) = b f x
    none_before h f x (too_long k) = omega arith
    none_before h f x (long_content {i = j} k) =
        let y = (clean (suc j) (omega (arith, k.inside))).3 in short_free (strict_reads y.strictly) y.short k.forced
    none_before h f x (many_nodes {i = j} k) =
        let y = (clean (suc j) (omega (arith, k.inside))).3 in few_free (strict_reads y.strictly) some y.few k.forced

    module _ (c : Config) (x : Spelling) (v : List Event) (w : Within s i c x v) where
      ended : length s ≤ i → Means s (cond (is_over (phase c)) (fine (limit - suc (births v))) (bad 4 i))
      ended h = go (is_over (phase c)) refl
        where
          run : Strict at_start initial s v c x
          run = subst (λ (p : List ℕ). Strict at_start initial p v c x) (take_all i s h) w.strictly

          spelled : c ≡ epilog → (f : Shape) × Spells s f × (v ≡ tell 1 f [])
          spelled e =
              let r = subst (λ (d : Config). Strict at_start initial s v d x) e run in
              let y = sound (strict_reads r) in
              let rest : whole x ≡ true = (strict_invariant r refl (completable_before _ _)).0 in
              (y.0, (y.1, seen_spelled y.1 initial (rw y.2 at (strict_seen run)) rest), y.2)

          not_spelled : is_over (phase c) ≡ false → (f : Shape) → Spells s f → ⊥
          not_spelled e f y =
              false≢true (sym e ∙ ap (λ (d : Config). is_over (phase d)) (one_run (strict_reads run) (complete y.0)).1)

          go : (t : Bool) → is_over (phase c) ≡ t → Means s (cond t (fine (limit - suc (births v))) (bad 4 i))
          go true e =
              let x = spelled (over_epilog c e) in
              record {
                shape = x.0;
                spelled = x.1;
                no_fault = λ c' i'. none_before h x.0 x.1;
                nodes = omega (arith, w.few, ap births x.2, size_told x.0);
                short_contents = omega (arith, w.short, ap (peak 0) x.2, longest_told x.0);
                short_input = omega arith;
              }
          go false e =
              let p : length s ≡ i = omega arith in (
                subst (FaultWithin limit s 4) p (too_soon (strict_viable run) (not_spelled e)),
                λ c' i' x. four_first (later s i l m clean some x) (λ y. absurd (omega (arith, y.inside))),
              )

      -- a byte ---------------------------------------------------------------------------------

      module _ (inside : i < length s) where
        abbrev here : ℕ
        here = get_or s i 0

        next_take : take (suc i) s ≡ take i s ++ (here ∷ [])
        next_take = take-suc s i 0 inside

        -- no transition, or no character that goes on so
        abbrev Taken : Type 0
        Taken = (d : Config) × (e : List Event) × (y : Spelling) × (step true c here ≡ move d e)
            × (monitor (monitor.on x) e ≡ seen (monitor.on y))

        no_step : (Taken → ⊥) → Reported s 4 i
        no_step h = (
          wrong_byte inside (strict_viable w.strictly) dead,
          λ c' i' z. four_first (later s i l m clean some z)
              (λ y. absurd (dead y.viable)),
        )
          where
            moves : {d a : Config} {y z : Spelling} {v' : List Event} → c ≡ d → x ≡ y → Strict d y (here ∷ []) v' a z → ⊥
            moves {d = d} {y = y} e f (strict_on {d = b} {y = z} {v = u} k o r) =
                h (b, u, z, ap (λ (q : Config). step true q here) e ∙ k, ap (λ (q : Spelling). monitor (monitor.on q) u) f ∙ o)

            dead : ¬ (Viable (take (suc i) s))
            dead n =
                let y = viable_strict (take (suc i) s) n in
                let z = strict_cut (take i s) (here ∷ [])
                (subst (λ (p : List ℕ). Strict at_start initial p y.1 y.0 y.2) next_take y.3) in
                let o = strict_same w.strictly z.first_part in
                moves o.0 o.1 z.second_part

        module _ (d : Config) (e : List Event) (z : Spelling) (h : step true c here ≡ move d e)
            (k : monitor (monitor.on x) e ≡ seen (monitor.on z)) where
          strict_next : Strict at_start initial (take (suc i) s) (v ++ e) d z
          strict_next =
              let q : e ++ [] ≡ e = append-nil e in
              subst (λ (p : List ℕ). Strict at_start initial p (v ++ e) d z) (sym next_take)
              (subst (λ (y : List Event). Strict at_start initial (take i s ++ (here ∷ [])) (v ++ y) d z) q
              (strict_join w.strictly (strict_on h k strict_stay)))

          reads_next : Reads true at_start (take (suc i) s) (v ++ e) d
          reads_next = strict_reads strict_next

          abbrev nodes : ℕ
          nodes = suc (births v) + births e

          -- how many may still come
          abbrev left : ℕ
          left = limit - suc (births v)

          nodes_next : suc (births (v ++ e)) ≡ nodes
          nodes_next = omega (arith, births_append v e)

          left_next : limit - suc (births (v ++ e)) ≡ left - births e
          left_next = omega (arith, births_append v e)

          extent_next : extent 0 (v ++ e) d ≡ max (peak 0 v) (extent (tail 0 v) e d)
          extent_next = omega (arith, peak_append 0 v e, tail_append 0 v e)

          within_next : nodes ≤ limit → extent (tail 0 v) e d ≤ content_limit → Within s (suc i) d z (v ++ e)
          within_next a b = record { strictly = strict_next; few = omega (arith, nodes_next); short = omega (arith, extent_next, w.short) }

          first_many : limit < nodes → FirstForced (ManyNodes limit) s i
          first_many k = record {
            inside = inside;
            viable = strict_viable strict_next;
            forced = many_forced reads_next (omega (arith, nodes_next));
            not_before = few_free (strict_reads w.strictly) some w.few;
          }

          first_long : content_limit < extent (tail 0 v) e d → FirstForced LongContent s i
          first_long k = record {
            inside = inside;
            viable = strict_viable strict_next;
            forced = long_forced reads_next (omega (arith, extent_next));
            not_before = short_free (strict_reads w.strictly) w.short;
          }

          -- a node too many is not certain, or begins here
          many_here : (o q : Bool) → ltb left (births e) ≡ o → opener (byte_before s i) ≡ q → (o && q) ≡ false
              → FirstForced (ManyNodes limit) s i → i ≤ node_offset s i
          many_here false q a b x y =
              absurd (few_free reads_next some (omega (arith, nodes_next, w.few, ltb-false left (births e) a)) y.forced)
          many_here true false a b x y = omega (arith, offset_at s i b)
          many_here true true a b x y = absurd (false≢true (sym x))

          long_input : input_limit ≤ i → (FirstForced (ManyNodes limit) s i → i ≤ node_offset s i) → Reported s 4 i
          long_input k f =
              let p : input_limit ≡ i = omega arith in
              (subst (FaultWithin limit s 4) p (too_long (omega arith)), λ c' i' z. four_first (later s i l m clean some z) f)

          long_here : ltb content_limit (extent (tail 0 v) e d) ≡ true → i < input_limit
              → (FirstForced (ManyNodes limit) s i → i ≤ node_offset s i) → Reported s 5 i
          long_here k x f = (
            long_content (first_long (ltb-true content_limit (extent (tail 0 v) e d) k)),
            λ c' i' z. five_first (strict_viable strict_next) inside x (later s i l m clean some z) f,
          )

          stepped : (further : Verdict) → (Within s (suc i) d z (v ++ e) → i < input_limit → Means s further)
              → Means s (weighed (byte_before s i) i (ltb left (births e)) (extent (tail 0 v) e d) further)
          stepped further f =
              go (ltb left (births e)) refl (opener (byte_before s i)) refl (leb input_limit i) refl
              (ltb content_limit (extent (tail 0 v) e d)) refl
            where
              go : (o : Bool) → ltb left (births e) ≡ o → (q : Bool) → opener (byte_before s i) ≡ q → (x : Bool) → leb input_limit i ≡ x
                  → (y : Bool) → ltb content_limit (extent (tail 0 v) e d) ≡ y
                  → Means s (cond (o && q) (bad 6 (i - 1)) (cond x (bad 4 i) (cond y (bad 5 i) (cond o (bad 6 i) further))))
              go true a true b x g y k =
                  let p = offset_before s i b in (
                    subst (FaultWithin limit s 6) p.0 (many_nodes (first_many (omega (arith, ltb-true left (births e) a)))),
                    λ c' i' z. six_before i p.1 (later s i l m clean some z),
                  )
              go true a false b true g y k = long_input (leb-true input_limit i g) (many_here true false a b refl)
              go true a false b false g true k = long_here k (leb-false input_limit i g) (many_here true false a b refl)
              go true a false b false g false k = (
                subst (FaultWithin limit s 6) (offset_at s i b) (many_nodes (first_many (omega (arith, ltb-true left (births e) a)))),
                λ c' i' z. six_first (strict_viable strict_next) inside (leb-false input_limit i g) (later s i l m clean some z)
                    (λ x. short_free reads_next (omega (arith, extent_next, ltb-false content_limit (extent (tail 0 v) e d) k, w.short))
                    x.forced)
                    (many_here true false a b refl),
              )
              go false a q b true g y k = long_input (leb-true input_limit i g) (many_here false q a b refl)
              go false a q b false g true k = long_here k (leb-false input_limit i g) (many_here false q a b refl)
              go false a q b false g false k =
                  f (within_next (omega (arith, w.few, ltb-false left (births e) a)) (ltb-false content_limit (extent (tail 0 v) e d) k))
                  (leb-false input_limit i g)

  -- the whole ------------------------------------------------------------------------------

  stuck_moves : {d : Config} {e : List Event} → stuck ≡ move d e → ⊥
  stuck_moves h = let z : ◌≡◌ {A = ℕ} 0 1 = cc in omega arith

  same_events : {c d : Config} {u v : List Event} → move c u ≡ move d v → u ≡ v
  same_events h = cc

  clean_next : (s : List ℕ) (i : ℕ) (c : Config) (x : Spelling) (v : List Event) → Clean s i → Within s (suc i) c x v → Clean s (suc i)
  clean_next s i c x v clean w j h = go (order j (suc i))
    where
      go : Order j (suc i) → (c : Config) × (x : Spelling) × (v : List Event) × Within s j c x v
      go (less k) = clean j (omega arith)
      go (equal k) = (c, x, v, rw k w)
      go (greater k) = absurd (omega arith)

  module _ (some : 2 ≤ limit) where
    judged : (s l : List ℕ) (i : ℕ) → drop i s ≡ l → i ≤ length s → i ≤ input_limit → Clean s i
        → (c : Config) (x : Spelling) (v : List Event)
        → Within s i c x v
        → Means s (judge c (monitor.on x) (limit - suc (births v)) (tail 0 v) (byte_before s i) i l)
    unfolding judge
    judged s [] i p a m clean c x v w = ended s i a m clean some c x v w (omega (arith, ap length p, length-drop i s))
    judged s (b ∷ l) i p a m clean c x v w =
        let inside : i < length s = omega (arith, ap length p, length-drop i s) in
        let q : b ∷ l ≡ get_or s i 0 ∷ drop (suc i) s = sym p ∙ drop-cons s i 0 inside in
        let e : b ≡ get_or s i 0 = cc in
        let r : drop (suc i) s ≡ l = cc in
        rw e (go inside (step true c (get_or s i 0)) refl
        (λ d y v' w' m'. judged s l (suc i) r (omega arith) m' (clean_next s i d y v' clean w') d y v' w'))
      where
        -- what a byte leads to
        On : Type 0
        On = (d : Config) (y : Spelling) (v' : List Event) → Within s (suc i) d y v' → suc i ≤ input_limit
            → Means s (judge d (monitor.on y) (limit - suc (births v')) (tail 0 v') (get_or s i 0) (suc i) l)

        further : Config → List Event → Monitor → Verdict
        further d e y = judge d y (limit - suc (births v) - births e) (tail (tail 0 v) e) (get_or s i 0) (suc i) l

        taken : i < length s → (d : Config) (e : List Event) → step true c (get_or s i 0) ≡ move d e → (q : Seen)
            → monitor (monitor.on x) e ≡ q → On
            → Means s (if_seen q i (λ y. weighed (byte_before s i) i (ltb (limit - suc (births v)) (births e)) (extent (tail 0 v) e d)
            (further d e y)))
        taken inside d e h unspelled k f =
            no_step s i a m clean some c x v w inside
            (λ t. let o = same_events (sym h ∙ t.3) in not_seen (sym k ∙ ap (monitor (monitor.on x)) o ∙ t.4))
        taken inside d e h (seen y) k f =
            let n = step_invariant (step_is h) x (strict_invariant w.strictly refl (completable_before _ _)).0 k in
            let z = n.after in
            let o : monitor (monitor.on x) e ≡ seen (monitor.on z) = k ∙ ap seen n.is in
            rw n.is
            (stepped s i a m clean some c x v w inside d e z h o (further d e (monitor.on z))
            (λ w' m'. rw (left_next s i a m clean some c x v w inside d e z h o, tail_append 0 v e) at (f d z (v ++ e) w' m')))

        go : i < length s → (q : Move) → step true c (get_or s i 0) ≡ q → On
            → Means s (judge_move q (monitor.on x) (limit - suc (births v)) (tail 0 v) (byte_before s i) i
            (λ d y n j. judge d y n j (get_or s i 0) (suc i) l))
        go inside stuck h f = no_step s i a m clean some c x v w inside (λ t. stuck_moves (sym h ∙ t.3))
        go inside (move d e) h f = taken inside d e h (monitor (monitor.on x) e) refl f

    -- THE THEOREM: what is judged is the earliest fault, or that there is none
    pub judgement_means : (s : List ℕ) → Means s (judgement limit s)
    unfolding judgement births tail peak
    judgement_means s =
        let w : Within s 0 at_start initial [] = record { strictly = strict_stay; few = omega arith; short = omega arith } in
        judged s s 0 refl (omega arith) (omega arith) (λ j h. let z : j ≡ 0 = omega arith in
        (at_start, initial, [], rw z w)) at_start initial [] w
