-- Every input reads as one thing, and is accepted exactly if it is spelled within the limits.
use Rattle.std.specs.Prelude.{ℕ, suc, ◌≤◌, ◌≡◌, refl, true, false, List, ◌++◌, ◌↔◌, length, take, drop}
use Rattle.std.proofs.Common.{sym, ap, ap₂, subst, arith, take-append-drop}
use Rattle.std.proofs.Math.Path.{path_j}
use Rattle.std.proofs.Math.Bool.{Bool-set}
use Rattle.tree.specs.Content.{content_limit}
use Rattle.tree.specs.Document.{Document}
use Rattle.protocol.specs.Calls.{node_limit, loadable, Input, unreadable, stands_for}
use Rattle.xml.specs.Shape.{Shape, size, longest, document}
use Rattle.xml.specs.Grammar.{Parses, Spells}
use Rattle.xml.specs.Reading.{input_limit, FaultWithin, wrong_byte, too_soon, too_long, long_content, many_nodes, ReadsWithin}
use Rattle.xml.specs.Reading.{ReadsAs, accepted, refused}
use Rattle.xml.proofs.Laws.Sound.{sound}
use Rattle.xml.proofs.Laws.Complete.{complete}
use Rattle.xml.proofs.Laws.Unique.{tell_unique, one_tree}
use Rattle.xml.proofs.Laws.Phases.{loose}
use Rattle.xml.specs.Laws.Judge.{Verdict, fine, bad, judgement}
use Rattle.xml.proofs.Laws.Verdicts.{Means, Faultless, judgement_means}
use Rattle.xml.proofs.Laws.Loadable.{spelled_loadable}

-- a document of the grammar is one without Unique Att Spec too
loosely : {s : List ℕ} {f : Shape} → Spells s f → Parses false s f
loosely {s} {f} x = let y = sound (loose (complete x.0)) in subst (Parses false s) (sym (tell_unique f y.0 y.2)) y.1

-- an input that is accepted where so many nodes may be held, and what it stands for
pub record Accepted (limit : ℕ) (s : List ℕ) (d : Document) : Type 0 where
  pub shape : Shape
  pub spelled : Spells s shape
  pub stands : d ≡ document shape
  pub short_input : length s ≤ input_limit
  pub few_nodes : suc (size shape) ≤ limit
  pub short_contents : longest shape ≤ content_limit

-- no cause applies to it
module _ {limit : ℕ} {s : List ℕ} {d : Document} (x : Accepted limit s d) where
  parsed : (i : ℕ) → Parses false (take i s ++ drop i s) x.shape
  parsed i = rw (take-append-drop i s) (loosely x.spelled)

  pub no_fault : {c i : ℕ} → FaultWithin limit s c i → ⊥
  no_fault (wrong_byte {i = i} h a b) = b (drop (suc i) s, x.shape, rw (take-append-drop (suc i) s) x.spelled)
  no_fault (too_soon a b) = b x.shape x.spelled
  no_fault (too_long h) = omega (arith, x.short_input)
  no_fault (long_content {i = i} h) = let k = h.forced (drop (suc i) s) x.shape (parsed (suc i)) in omega (arith, x.short_contents)
  no_fault (many_nodes {i = i} h) = let k = h.forced (drop (suc i) s) x.shape (parsed (suc i)) in omega (arith, x.few_nodes)

same_input : {d e : Document} (h : loadable node_limit d ≡ true) (k : loadable node_limit e ≡ true) → d ≡ e
    → stands_for d h ≡ stands_for e k
same_input {d} {e} h k p =
    path_j (λ e p. (k : loadable node_limit e ≡ true) → stands_for d h ≡ stands_for e k)
    (λ k. ap (stands_for d) (Bool-set (loadable node_limit d) true h k)) p k

-- NO INPUT reads as two things
pub one_reading : {limit : ℕ} {s : List ℕ} {x y : Input} → ReadsWithin limit s x → ReadsWithin limit s y → x ≡ y
one_reading (accepted {f = f} a b h) (accepted {f = g} c d k) = same_input h k (ap document (one_tree a.0 c.0))
one_reading (accepted a b h) (refused {cause = c} {offset = i} f g) = absurd (b c i f)
one_reading (refused {cause = c} {offset = i} f g) (accepted a b h) = absurd (b c i f)
one_reading (refused {cause = c} {offset = i} f g) (refused {cause = d} {offset = j} h k) =
    let x = g d j h in
    let y = k c i f in
    let p : i ≡ j = omega (arith, x.offsets, y.offsets) in
    let q : c ≡ d = omega (arith, x.causes p, y.causes (sym p)) in
    ap₂ unreadable q p

-- a limit that leaves room for a root element, within what a state holds
module _ (limit : ℕ) (some : 2 ≤ limit) (few : limit ≤ node_limit) (s : List ℕ) where
  -- the document of a verdict
  pub faultless_loadable : {left : ℕ} (m : Faultless limit s left) → loadable node_limit (document m.shape) ≡ true
  faultless_loadable m = spelled_loadable m.spelled (omega (arith, m.nodes)) m.short_contents

  reading_by : (v : Verdict) → Means limit s v → (x : Input) × ReadsWithin limit s x
  reading_by (fine n) m = (_, accepted m.spelled m.no_fault (faultless_loadable m))
  reading_by (bad c i) m = (unreadable c i, refused m.0 m.1)

  -- EVERY INPUT reads as something
  pub reading_within : (x : Input) × ReadsWithin limit s x
  reading_within = reading_by (judgement limit s) (judgement_means limit some s)

  abbrev Taken : Input → Type 0
  Taken (stands_for d h) = Accepted limit s d
  Taken (unreadable c i) = Unit {0}

  taken : {x : Input} (v : Verdict) → Means limit s v → ReadsWithin limit s x → Taken x
  taken (fine n) m (accepted {f = f} a b k) =
      let p = one_tree m.spelled.0 a.0 in
      record {
        shape = f;
        spelled = a;
        stands = refl;
        short_input = m.short_input;
        few_nodes = rw (← p) (omega (arith, m.nodes));
        short_contents = rw (← p) m.short_contents;
      }
  taken (bad c i) m (accepted a b k) = absurd (b c i m.0)
  taken v m (refused f g) = tt

  -- ACCEPTED exactly if spelled within the limits
  pub accepted_iff : (d : Document) (h : loadable node_limit d ≡ true) → ReadsWithin limit s (stands_for d h) ↔ Accepted limit s d
  accepted_iff d h = (taken (judgement limit s) (judgement_means limit some s), back)
    where
      back : Accepted limit s d → ReadsWithin limit s (stands_for d h)
      back x =
          let k : loadable node_limit (document x.shape) ≡ true = subst (λ (e : Document). loadable node_limit e ≡ true) x.stands h in
          subst (ReadsWithin limit s) (same_input k h (sym x.stands)) (accepted x.spelled (λ c i. no_fault x) k)

-- where 1,024 may be held
pub reading : (s : List ℕ) → (x : Input) × ReadsAs s x
reading s = reading_within node_limit (omega arith) (omega arith) s
