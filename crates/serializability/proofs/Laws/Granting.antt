-- A granted step leaves every place where it is, and its own locks in the sets of the nodes.
use Rattle.std.specs.Prelude.{ℕ, ◌≡◌, refl, Bool, cond, true, false, ◌⊎◌, eqb}
use Rattle.std.proofs.Common.{sym, ap, ◌∙◌, inl, ⊎_elim, eq-eqb}
use Rattle.std.proofs.lemmas.Bool.{false≢true}
use Rattle.std.proofs.Math.Bool.{or-true}
use mathlib.Core.List.Memᴰ
use mathlib.Core.List.{List, [], ◌∷◌, Memᴰ}
use Rattle.std.proofs.Math.Logic.{⊎_map}
use Rattle.tree.specs.Forest.{put, row}
use Rattle.tree.specs.Steps.{Step, T, C, R, U, D, I, TT, RR, UU, inserts, target}
use Rattle.tree.specs.Lists.{has}
use Rattle.tree.specs.Laws.Lists.{has_in}
use Rattle.tree.specs.Laws.Put.{put_in, put_new, in_put}
use Rattle.locks.specs.Modes.{Mode, index, no_mode, among}
use Rattle.locks.specs.Needs.{Lock, locks}
use Rattle.locks.proofs.Laws.Places.{lock_place}
use Rattle.serializability.proofs.Laws.Tests.{cond_same, by_test}
use Rattle.protocol.specs.State.{Marked, Tree, has_number, seen_by, written_by, deleted_by, inserted_by, mark, renamed, act, modes_on}
use Rattle.protocol.specs.State.{granted_to, grant, saving, unwritten, nobody}
use Rattle.serializability.proofs.Laws.Shown.{Place, Inside, path, numbers_of}
use Rattle.serializability.proofs.Laws.Numbers.{number_of, marked, marked_numbers, mark_in, in_mark}
use Rattle.serializability.proofs.Laws.Touched.{writes, deletes}
use Rattle.serializability.proofs.Laws.Standing.{LockThere, NewThere, Standing, Carried, carried_path, ancestor_place}

-- what a granted step does to the tree: nothing, other marks that leave numbers, inserters, locks and counts, or a new node ---

pub record Keeps (c : Place → Marked) : Type 0 where
  pub number : (r : Place) → (c r).now.number ≡ number_of r
  pub inserter : (r : Place) → (c r).inserter ≡ r.it.inserter
  pub insertion_level : (r : Place) → (c r).insertion_level ≡ r.it.insertion_level
  pub held : (r : Place) → (c r).held ≡ r.it.held
  pub count : (r : Place) → (c r).count ≡ r.it.count

-- an edit of the nodes that pass a test
pub keeps_where : (test : Place → Bool) (e : Marked → Marked) → Keeps (λ r. e r.it) → Keeps (λ r. cond (test r) (e r.it) r.it)
keeps_where test e k = record {
  number = λ r. cond_same (λ (a : Marked). a.now.number) (test r) (e r.it) r.it (k.number r);
  inserter = λ r. cond_same (λ (a : Marked). a.inserter) (test r) (e r.it) r.it (k.inserter r);
  insertion_level = λ r. cond_same (λ (a : Marked). a.insertion_level) (test r) (e r.it) r.it (k.insertion_level r);
  held = λ r. cond_same (λ (a : Marked). a.held) (test r) (e r.it) r.it (k.held r);
  count = λ r. cond_same (λ (a : Marked). a.count) (test r) (e r.it) r.it (k.count r);
}

pub keeps_written : (t d : ℕ) (b : List ℕ) (test : Place → Bool) → Keeps (λ r. cond (test r) (written_by t d b r.it) r.it)
keeps_written t d b test = keeps_where test (written_by t d b)
    (record { number = λ r. refl; inserter = λ r. refl; insertion_level = λ r. refl; held = λ r. refl; count = λ r. refl })

pub keeps_deleted : (t d : ℕ) (test : Place → Bool) → Keeps (λ r. cond (test r) (deleted_by t d r.it) r.it)
keeps_deleted t d test = keeps_where test (deleted_by t d)
    (record { number = λ r. refl; inserter = λ r. refl; insertion_level = λ r. refl; held = λ r. refl; count = λ r. refl })

-- the new node of t
abbrev pub new_node : ℕ → ℕ → ℕ → ℕ → List ℕ → Marked
new_node t d m kind b = inserted_by t d (record { number = m; kind = kind; content = b })

-- what a step of t at level d does to a node that it writes, deletes or leaves
pub record Edits (t d : ℕ) (writing deleting : Bool) (a a' : Marked) : Type 0 where
  pub update : a'.update ≡ cond writing (saving t d a.now.content a.update) a.update
  pub deleter : a'.deleter ≡ cond deleting t a.deleter
  pub deletion_level : a'.deletion_level ≡ cond deleting d a.deletion_level

left_alone : {t d : ℕ} {a : Marked} → Edits t d false false a a
left_alone = record { update = refl; deleter = refl; deletion_level = refl }

writes_where : (t d : ℕ) (b : List ℕ) (x : Bool) (a : Marked) → Edits t d x false a (cond x (written_by t d b a) a)
writes_where t d b true a = record { update = refl; deleter = refl; deletion_level = refl }
writes_where t d b false a = left_alone

deletes_where : (t d : ℕ) (x : Bool) (a : Marked) → Edits t d false x a (cond x (deleted_by t d a) a)
deletes_where t d true a = record { update = refl; deleter = refl; deletion_level = refl }
deletes_where t d false a = left_alone

abbrev pub Edited : ℕ → ℕ → Step → (Place → Marked) → Type 0
Edited t d s c = (r : Place) → Edits t d (writes t s r) (deletes s r) r.it (c r)

pub data Deed (t d : ℕ) (f : Tree) : Step → Tree → Type 0 where
  looks : {s : Step} → inserts s ≡ [] → Edited t d s (λ r. r.it) → Deed t d f s f
  marks : {s : Step} (c : Place → Marked) → Keeps c → inserts s ≡ [] → Edited t d s c → Deed t d f s (mark c f)
  adds : (m kind : ℕ) (b : List ℕ) (n k : ℕ)
      → Deed t d f (I m kind b n k) (put (has_number n) (seen_by t) k (new_node t d m kind b) f)

pub deed : (t d : ℕ) (s : Step) (f : Tree) → Deed t d f s (act t d s f)
deed t d (T n) f = looks refl (λ r. left_alone)
deed t d (C n k) f = looks refl (λ r. left_alone)
deed t d (R n) f = looks refl (λ r. left_alone)
deed t d (U n b) f = marks _ (keeps_written t d b (λ r. has_number n r.it)) refl (λ r. writes_where t d b (has_number n r.it) r.it)
deed t d (D n) f = marks _ (keeps_deleted t d (λ r. has_number n r.it)) refl (λ r. deletes_where t d (has_number n r.it) r.it)
deed t d (I m kind b n k) f = adds m kind b n k
deed t d (TT n) f = looks refl (λ r. left_alone)
deed t d (RR n) f = looks refl (λ r. left_alone)
deed t d (UU n a b) f = marks _ (keeps_written t d b (renamed t n a)) refl (λ r. writes_where t d b (renamed t n a r) r.it)

pub carried_by_mark : (c : Place → Marked) → ((r : Place) → (c r).now.number ≡ number_of r) → (u : ℕ)
    → ((r : Place) (a : Mode) → r.it.held u a ≡ true → (c r).held u a ≡ true) → ((r : Place) → (c r).inserter ≡ r.it.inserter)
    → (f : Tree) (r : Place) → Inside r f → Carried u (mark c f) r
carried_by_mark c sn u sh si f r i =
    record {
      place = marked c r;
      inside = mark_in c f i;
      number = sn r;
      above = marked_numbers c sn
          r.above;
      held = sh r;
      inserter = λ e. si r ∙ e;
    }

act_carries : (t d : ℕ) (s : Step) (u : ℕ) (f : Tree) (r : Place) → Inside r f → Carried u (act t d s f) r
act_carries t d s u f r i = go (deed t d s f)
  where
    same_place : {g : Tree} → Inside r g → Carried u g r
    same_place j = record { place = r; inside = j; number = refl; above = refl; held = λ a h. h; inserter = λ e. e }

    go : {s : Step} {g : Tree} → Deed t d f s g → Carried u g r
    go (looks e w) = same_place i
    go (marks c k e w) = carried_by_mark c k.number u (λ x a h. rw (k.held x) h) k.inserter f r i
    go (adds m kind b n k) = same_place (put_in (has_number n) (seen_by t) k (new_node t d m kind b) (λ a. a) i)

-- granting -----------------------------------------------------------------------------------

-- a lock of the list is granted on its node
modes_granted : (ls : List Lock) (l : Lock) → Memᴰ l ls → modes_on ls l.0 l.1 ≡ true
modes_granted [] l m = absurd (Memᴰ.not-nil m)
modes_granted (x ∷ ls) l (Memᴰ.head e) = rw (
  eq-eqb x.0 l.0 (ap (λ (z : Lock). z.0) (sym e)),
  eq-eqb (index l.1)
      (index x.1) (ap (λ (z : Lock). index z.1) e),
)
modes_granted (x ∷ ls) l (Memᴰ.tail m) = by_test (eqb x.0 l.0)
    (λ e. rw (e, modes_granted ls l m) (or-true (among (x.1 ∷ []) l.1))) (λ e. rw e (modes_granted ls l m))

grant_carries : (t : ℕ) (ls : List Lock) (u : ℕ) (f : Tree) (r : Place) → Inside r f → Carried u (grant t ls f) r
unfolding grant
grant_carries t ls u f r i = carried_by_mark (λ x. granted_to t ls x.it) (λ x. refl) u
    (λ x a h. by_test (eqb u t) (λ e. rw (e, h)) (λ e. rw e h)) (λ x. refl) f r i

-- t was granted the lock on its node
grant_there : (t : ℕ) (ls : List Lock) (f : Tree) (l : Lock) → Memᴰ l ls → (r : Place) → Inside r f → number_of r ≡ l.0
    → LockThere (grant t ls f) t l
unfolding grant
grant_there t ls f l m r i e = (
  marked c r,
  mark_in c f i,
  e,
  rw (eq-eqb t t refl, e, modes_granted ls l m)
      (or-true (r.it.held t l.1)),
)
  where
    c : Place → Marked
    c x = granted_to t ls x.it

-- both ---------------------------------------------------------------------------------------

abbrev pub after_step : ℕ → ℕ → Step → List Lock → Tree → Tree
after_step t d s ls f = grant t ls (act t d s f)

pub step_carries : (t d : ℕ) (s : Step) (ls : List Lock) (u : ℕ) (f : Tree) (r : Place) → Inside r f → Carried u (after_step t d s ls f) r
step_carries t d s ls u f r i =
    let a = act_carries t d s u f r i in
    let g = grant_carries t ls u (act t d s f) a.place a.inside in
    record {
      place = g.place;
      inside = g.inside;
      number = g.number ∙ a.number;
      above = g.above ∙ a.above;
      held = λ m h. g.held m (a.held m h);
      inserter = λ e. g.inserter (a.inserter e);
    }

-- the new node of an insertion
act_inserts : (t d : ℕ) (s : Step) (m : ℕ) → has m (inserts s) ≡ true → (f : Tree) (r : Place) → Inside r f → number_of r ≡ target s
    → (x : Place) × Inside x (act t d s f) × (number_of x ≡ m) × (x.above ≡ path r) × (x.it.inserter ≡ t)
act_inserts t d s m h f r i e = go (deed t d s f) h e
  where
    go : {s : Step} {g : Tree} → Deed t d f s g → has m (inserts s) ≡ true → number_of r ≡ target s
        → (x : Place) × Inside x g × (number_of x ≡ m) × (x.above ≡ path r) × (x.it.inserter ≡ t)
    go (looks n w) h e = absurd (false≢true (rw n at h))
    go (marks c k n w) h e = absurd (false≢true (rw n at h))
    go (adds m' kind b n k) h e =
        let new = new_node t d m' kind b in (
          row new (path r),
          put_new (has_number n) (seen_by t) k new (λ a. a) i (eq-eqb _ n e),
          sym
              (Memᴰ.eq_of_singleton (has_in m (m' ∷ []) h)),
          refl,
          refl,
        )

pub step_standing : (t d : ℕ) (s : Step) (p : List ℕ) (f : Tree) (r : Place) → Inside r f → number_of r ≡ target s
    → numbers_of r.above ≡ p → Standing (after_step t d s (locks s p) f) t s (locks s p)
step_standing t d s p f r i e o = record {
  node = N.place;
  inside = N.inside;
  number = N.number ∙ e;
  locked = rw (N.above ∙ o);
  new = fresh;
  held = bits;
}
  where
    ls : List Lock
    ls = locks s p

    N : Carried t (after_step t d s ls f) r
    N = step_carries t d s ls t f r i

    fresh : (m : ℕ) → has m (inserts s) ≡ true → NewThere (after_step t d s ls f) t m N.place
    fresh m h =
        let a = act_inserts t d s m h f r i e in
        let g = grant_carries t ls t (act t d s f) a.0 a.1 in
        (g.place, g.inside, g.number ∙ a.2, g.above ∙ ap numbers_of a.3 ∙ sym (carried_path N), g.inserter a.4)

    bits : (l : Lock) → Memᴰ l ls → LockThere (after_step t d s ls f) t l
    bits l m = ⊎_elim
        (λ y. let b = ancestor_place f i l.0 (rw (e, o) y) in
        let a = act_carries t d s t f b.0 b.1 in
        grant_there t ls (act t d s f) l m a.place a.inside (a.number ∙ b.2))
        (λ y. let a = act_inserts t d s l.0 y f r i e in grant_there t ls (act t d s f) l m a.0 a.1 a.2) (lock_place s p l m)

-- the places afterwards: those before, and the new one --------------------------------------------

-- what is now at the place was there before: a step changes no number, inserter, lock or count
pub record OldPlace (t d : ℕ) (s : Step) (f : Tree) (a : Marked) : Type 0 where
  pub place : Place
  pub inside : Inside place f
  pub number : a.now.number ≡ number_of place
  pub inserter : a.inserter ≡ place.it.inserter
  pub insertion_level : a.insertion_level ≡ place.it.insertion_level
  pub held : a.held ≡ place.it.held
  pub count : a.count ≡ place.it.count
  pub edits : Edits t d (writes t s place) (deletes s place) place.it a

-- the step's new node
pub record NewPlace (t d : ℕ) (s : Step) (a : Marked) : Type 0 where
  pub number : has a.now.number (inserts s) ≡ true
  pub inserter : a.inserter ≡ t
  pub insertion_level : a.insertion_level ≡ d
  pub held : a.held ≡ λ u. no_mode
  pub update : a.update ≡ unwritten
  pub deleter : a.deleter ≡ nobody

pub act_places : (t d : ℕ) (s : Step) (f : Tree) (r : Place) → Inside r (act t d s f) → OldPlace t d s f r.it ⊎ NewPlace t d s r.it
act_places t d s f r i = go (deed t d s f) i
  where
    go : {s : Step} {g : Tree} → Deed t d f s g → Inside r g → OldPlace t d s f r.it ⊎ NewPlace t d s r.it
    go (looks e w) i = inl (record {
      place = r;
      inside = i;
      number = refl;
      inserter = refl;
      insertion_level = refl;
      held = refl;
      count = refl;
      edits = w r;
    })
    go (marks c k e w) i =
        let a = in_mark c f i in
        rw a.2 (inl (record {
          place = a.0;
          inside = a.1;
          number = k.number a.0;
          inserter = k.inserter a.0;
          insertion_level = k.insertion_level a.0;
          held = k.held a.0;
          count = k.count a.0;
          edits = w a.0;
        }))
    go (adds m kind b n k) i = ⊎_map
        (λ x. record {
          place = r;
          inside = x;
          number = refl;
          inserter = refl;
          insertion_level = refl;
          held = refl;
          count = refl;
          edits = left_alone;
        })
        (λ x. rw x.3 (record {
          number = rw (eq-eqb m m refl);
          inserter = refl;
          insertion_level = refl;
          held = refl;
          update = refl;
          deleter = refl;
        }))
        (in_put (has_number n) (seen_by t) k (new_node t d m kind b) (λ a. a) [] f i)

-- granted locks change nothing else
pub step_place : (t d : ℕ) (s : Step) (ls : List Lock) (f : Tree) (r : Place) → Inside r (after_step t d s ls f)
    → (x : Place) × Inside x (act t d s f) × (r.it ≡ granted_to t ls x.it)
unfolding grant
step_place t d s ls f r i =
    let a = in_mark (λ x. granted_to t ls x.it) (act t d s f) i in
    (a.0, a.1, ap (λ (z : Place). z.it) a.2)
