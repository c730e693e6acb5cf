-- The nodes of a granted step stand in the tree, with its locks in their sets, until its transaction ends.
use Rattle.std.specs.Prelude.{ℕ, ◌≡◌, refl, Bool, true, false, not, ◌&&◌, eqb}
use Rattle.std.proofs.Common.{sym, ap, ap₂, ◌∙◌, true≢false, ⊎_elim, eqb-true, eq-eqb, ne_eqb}
use Rattle.std.proofs.lemmas.Bool.{false≢true, not-true}
use Rattle.std.proofs.Math.Bool.{or-true}
use mathlib.Core.List.{List, [], ◌∷◌, Memᴰ}
use Rattle.tree.specs.Lists.{any, has}
use Rattle.tree.specs.Forest.{row}
use Rattle.tree.specs.Steps.{Step, target, inserts}
use Rattle.tree.specs.Laws.Tests.{or_cases, refuted}
use Rattle.tree.specs.Laws.Lists.{at_any, every_not}
use Rattle.tree.specs.Laws.Rows.{Each, each_above}
use Rattle.locks.specs.Modes.{Mode, LW, modes, clash}
use Rattle.locks.specs.Needs.{Lock, locks}
use Rattle.locks.proofs.Laws.Clash.{every_mode}
use Rattle.locks.proofs.Laws.Compatible.{Locked, Compatible, new_locked}
use Rattle.locks.proofs.Laws.Places.{lock_place, path_locked}
use Rattle.serializability.proofs.Laws.Tests.{affirmed}
use Rattle.serializability.proofs.Laws.Classes.{new_need}
use Rattle.protocol.specs.State.{State, Marked, Tree, has_number, nodes, is_transaction}
use Rattle.protocol.specs.Calls.{clashes, blocks, wait_set}
use Rattle.serializability.proofs.Laws.Shown.{Place, Inside, path, numbers_of}
use Rattle.serializability.proofs.Laws.Numbers.{number_of, Distinct, one_place, place_node}
use Rattle.serializability.proofs.Laws.WaitSet.{sum_empty}

-- the lock l of u is in the set of its node; u inserted m below a place
abbrev pub LockThere : Tree → ℕ → Lock → Type 0
LockThere f u l = (r : Place) × Inside r f × (number_of r ≡ l.0) × (r.it.held u l.1 ≡ true)

abbrev pub NewThere : Tree → ℕ → ℕ → Place → Type 0
NewThere f u m x = (r : Place) × Inside r f × (number_of r ≡ m) × (numbers_of r.above ≡ numbers_of (path x)) × (r.it.inserter ≡ u)

-- a step s of u with the locks hs
pub record Standing (f : Tree) (u : ℕ) (s : Step) (hs : List Lock) : Type 0 where
  pub node : Place
  pub inside : Inside node f
  pub number : number_of node ≡ target s
  pub locked : hs ≡ locks s (numbers_of node.above)
  pub new : (m : ℕ) → has m (inserts s) ≡ true → NewThere f u m node
  pub held : (l : Lock) → Memᴰ l hs → LockThere f u l

-- paths ------------------------------------------------------------------------------------

-- a node of a path, by its number: its place, and its path is within the path
path_place : (f : Tree) (l : List Marked) → Each (λ a. a) (λ a p. Inside (row a p) f) l → (q : ℕ) → has q (numbers_of l) ≡ true
    → (r : Place) × Inside r f × (number_of r ≡ q) × ((x : ℕ) → has x (numbers_of (path r)) ≡ true → has x (numbers_of l) ≡ true)
path_place f [] g q h = absurd (false≢true h)
path_place f (a ∷ p) g q h = ⊎_elim (λ e. (row a p, g.0, eqb-true _ q e, λ x h. h))
    (λ i. let b = path_place f p g.1 q i in (b.0, b.1, b.2, λ x y. rw (b.3 x y) (or-true (eqb a.now.number x))))
    (or_cases (eqb a.now.number q) (has q (numbers_of p)) h)

pub ancestor_place : (f : Tree) {r : Place} → Inside r f → (q : ℕ) → has q (numbers_of (path r)) ≡ true
    → (s : Place) × Inside s f × (number_of s ≡ q) × ((x : ℕ) → has x (numbers_of (path s)) ≡ true → has x (numbers_of (path r)) ≡ true)
ancestor_place f {r} i q h = path_place f (path r) (each_above (λ a. a) (λ a p. Inside (row a p) f) tt (λ s j. j) i) q h

-- where a step locked a node, it locked all above it
pub covers : (f : Tree) → Distinct f → (u : ℕ) (s : Step) (hs : List Lock) → Standing f u s hs → (l : Lock) → Memᴰ l hs
    → (r : Place) → Inside r f → number_of r ≡ l.0 → (q : ℕ) → has q (numbers_of (path r)) ≡ true → (a : Mode) × Locked q a hs
covers f d u s hs g l m r i e q h = rw g.locked (⊎_elim
    (λ y. let b = ancestor_place f g.inside l.0 (rw (← g.number) at y) in on_path
    (b.3 q (rw (one_place f d i b.1 (e ∙ sym b.2)) at h)))
    (λ y. below_new (g.new l.0 y) y) (lock_place s P l (rw g.locked at m)))
  where
    P : List ℕ
    P = numbers_of g.node.above

    on_path : has q (numbers_of (path g.node)) ≡ true → (a : Mode) × Locked q a (locks s P)
    on_path y = path_locked s P q (rw g.number at y)

    below_new : (x : NewThere f u l.0 g.node) → has l.0 (inserts s) ≡ true → (a : Mode) × Locked q a (locks s P)
    below_new x b = ⊎_elim
        (λ y. (
          LW,
          rw (sym e ∙ eqb-true (number_of r) q y) at (new_locked s P l.0 b LW
              (rw (new_need s l.0 b) (Memᴰ.head refl))),
        ))
        (λ z. on_path (rw (ap (λ (w : Place). numbers_of w.above) (one_place f d i x.1 (e ∙ sym x.2)) ∙ x.3) at z))
        (or_cases (eqb (number_of r) q) (has q (numbers_of r.above)) h)

-- a step that does not wait ------------------------------------------------------------------

any_mode : (t : Mode → Bool) (a : Mode) → t a ≡ true → any t modes ≡ true
any_mode t a h = affirmed _ (λ e. true≢false (sym h ∙ not-true (t a) (every_mode (λ m. not (t m)) (every_not t modes ∙ ap not e) a)))

-- locks that clash on no node with what u holds there are compatible with the locks of u
unblocked_compatible : (ls hs : List Lock) (u : ℕ) (f : Tree) → ((l : Lock) → Memᴰ l hs → LockThere f u l)
    → any (clashes ls u) (nodes f) ≡ false → Compatible ls hs
unblocked_compatible ls hs u f link h q a b i j = refuted (clash a b) (λ e.
    let r = link (q, b) j in
    let there : clashes ls u r.0.it ≡ true =
    at_any (λ (l : Lock). has_number l.0 r.0.it && any (λ m. r.0.it.held u m && clash l.1 m) modes) ls i
    (rw (eq-eqb (number_of r.0) q r.2) (any_mode (λ m. r.0.it.held u m && clash a m) b (rw (r.3, e)))) in
    true≢false (sym (at_any (clashes ls u) (nodes f) (place_node f r.1) there) ∙ h))

-- the locks of a step that does not wait are compatible with those of every other transaction
pub no_wait_compatible : (t : ℕ) (ls hs : List Lock) (M : State) (u : ℕ) → eqb (wait_set t ls M) 0 ≡ true → (u ≡ t → ⊥)
    → M.header.is_open u ≡ true → is_transaction u ≡ true → ((l : Lock) → Memᴰ l hs → LockThere M.tree u l) → Compatible ls hs
unfolding wait_set
no_wait_compatible t ls hs M u w ne o tr link = unblocked_compatible ls hs u M.tree link
    (rw (o, ne_eqb u t ne) at (sum_empty (blocks t ls M) (eqb-true _ 0 w) u tr))

-- after an edit ------------------------------------------------------------------------------

-- the place is there after an edit, with its number, its path, the modes that u was granted, and u as its inserter if it was that
pub record Carried (u : ℕ) (f : Tree) (r : Place) : Type 0 where
  pub place : Place
  pub inside : Inside place f
  pub number : number_of place ≡ number_of r
  pub above : numbers_of place.above ≡ numbers_of r.above
  pub held : (a : Mode) → r.it.held u a ≡ true → place.it.held u a ≡ true
  pub inserter : r.it.inserter ≡ u → place.it.inserter ≡ u

pub carried_path : {u : ℕ} {f : Tree} {r : Place} (c : Carried u f r) → numbers_of (path c.place) ≡ numbers_of (path r)
carried_path c = ap₂ (λ (z : ℕ) (w : List ℕ). z ∷ w) c.number c.above

-- where the edit carries the places that a step locked
pub standing_carried : (f f' : Tree) → Distinct f → (u : ℕ) (s : Step) (hs : List Lock) → Standing f u s hs
    → ((r : Place) → Inside r f → ((q : ℕ) → has q (numbers_of (path r)) ≡ true → (a : Mode) × Locked q a hs) → Carried u f' r)
    → Standing f' u s hs
standing_carried f f' d u s hs g carry = record {
  node = N.place;
  inside = N.inside;
  number = N.number ∙ g.number;
  locked = rw N.above g.locked;
  new = λ m h. fresh m h (g.new m h);
  held = λ l i. bits l i (g.held l i);
}
  where
    on_path : (q : ℕ) → has q (numbers_of (path g.node)) ≡ true → (a : Mode) × Locked q a hs
    on_path q y = rw g.locked (path_locked s (numbers_of g.node.above) q (rw g.number at y))

    N : Carried u f' g.node
    N = carry g.node g.inside on_path

    fresh : (m : ℕ) → has m (inserts s) ≡ true → NewThere f u m g.node → NewThere f' u m N.place
    fresh m h x =
        let lw : Locked m LW hs = rw g.locked (new_locked s (numbers_of g.node.above) m h LW
        (rw (new_need s m h) (Memᴰ.head refl))) in
        let c = carry x.0 x.1 (covers f d u s hs g (m, LW) lw x.0 x.1 x.2) in
        (c.place, c.inside, c.number ∙ x.2, c.above ∙ x.3 ∙ sym (carried_path N), c.inserter x.4)

    bits : (l : Lock) → Memᴰ l hs → LockThere f u l → LockThere f' u l
    bits l i x =
        let c = carry x.0 x.1 (covers f d u s hs g l i x.0 x.1 x.2) in
        (c.place, c.inside, c.number ∙ x.2, c.held l.1 x.3)
