-- What the judgement of an input says of load's input.
use Rattle.std.specs.Prelude.{ℕ, zero, suc, ◌≤◌, ◌<◌, ◌≡◌, refl, Bool, true, false, cond, List, leb, length, get_or, Result, Ok, Err}
use Rattle.std.proofs.Common.{subst, arith, leb-true, leb-false}
use Rattle.protocol.specs.Calls.{node_limit}
use Rattle.xml.specs.Reading.{input_limit, opener, node_offset, FaultWithin, wrong_byte, too_soon, too_long, long_content, many_nodes}
use Rattle.xml.specs.Reading.{accepted, refused}
use Rattle.xml.specs.Laws.Judge.{judgement}
use Rattle.xml.proofs.Laws.Verdicts.{Means, judgement_means}
use Rattle.xml.proofs.Laws.Loadable.{lines_length}
use Rattle.xml.proofs.Laws.Readings.{faultless_loadable, one_reading}
use Rattle.xml_judging.specs.Judged.{verdict}
use Rattle.xml_load.specs.Load.{Stands, Fails}
use Rattle.protocol.specs.CauseNumbers.{number_of}
use Rattle.xml_tokens.specs.declared.Refusal.{Refusal}

module _ (limit : ℕ) (some : 2 ≤ limit) (few : limit ≤ node_limit) (x : List ℕ) where
  pub stands : (left : ℕ) (r : Result ℕ Refusal) → r ≡ Ok left → judgement limit x ≡ verdict r → Stands limit x left
  stands left r p e =
      let m = subst (Means limit x) (rw p at e) (judgement_means limit some x) in
      let h = faultless_loadable limit some few x m in
      record {
        shape = m.shape;
        spelled = m.spelled;
        few = omega (arith, m.nodes);
        short = m.short_contents;
        fits = h;
        nodes = omega (arith, m.nodes, lines_length m.shape);
        only = λ i r. one_reading r (accepted m.spelled m.no_fault h);
      }

-- an offset is at most the length, and at most the limit -------------------------------------

node_offset_most : (s : List ℕ) (i : ℕ) → node_offset s i ≤ i
node_offset_most s zero = omega arith
node_offset_most s (suc i) = go (opener (get_or s i 0))
  where
    go : (b : Bool) → cond b i (suc i) ≤ suc i
    go true = omega arith
    go false = omega arith

fault_inside : {limit : ℕ} {s : List ℕ} {c o : ℕ} → FaultWithin limit s c o → o ≤ length s
fault_inside (wrong_byte h a b) = omega arith
fault_inside (too_soon a b) = omega arith
fault_inside (too_long h) = omega arith
fault_inside (long_content h) = omega (arith, h.inside)
fault_inside {s} (many_nodes {i = i} h) = omega (arith, h.inside, node_offset_most s i)

pub fails : (limit : ℕ) → 2 ≤ limit → (x : List ℕ) (q : Refusal) (r : Result ℕ Refusal) → r ≡ Err q → judgement limit x ≡ verdict r
    → Fails limit x (number_of q.cause) q.offset
fails limit some x q r p e =
    let m = subst (Means limit x) (rw p at e) (judgement_means limit some x) in
    record {
      most = go m.0 (λ h. (m.1 4 input_limit (too_long h)).offsets) (leb (length x) input_limit) refl;
      only = λ i r. one_reading r (refused m.0 m.1);
    }
  where
    go : FaultWithin limit x (number_of q.cause) q.offset → (input_limit < length x → q.offset ≤ input_limit) → (b : Bool)
        → leb (length x) input_limit ≡ b → q.offset ≤ input_limit
    go f h true p = omega (arith, leb-true (length x) input_limit p, fault_inside f)
    go f h false p = h (leb-false (length x) input_limit p)
