-- What the automaton tells determines the tree, so an input spells one tree at most.
use Rattle.std.specs.Prelude.{ℕ, suc, ◌<◌, ◌≡◌, refl, Bool, List, [], ◌∷◌}
use Rattle.std.proofs.Common.{sym, ap₂, ◌∙◌, subst, arith}
use Rattle.tree.specs.Forest.{nil, node}
use Rattle.xml.specs.Shape.{Shape}
use Rattle.xml.specs.Grammar.{Parses}
use Rattle.xml.specs.Laws.Automaton.{Config, Event, born, byte, move, Reads, stay, on, tell_bytes, tell}
use Rattle.xml.proofs.Laws.Complete.{complete}

-- nothing, or a node above depth d
data Low (d : ℕ) : List Event → Type 0 where
  none : Low d []
  some : {c k : ℕ} {e : List Event} → c < d → Low d (born c k ∷ e)

low_tell : (d : ℕ) (f : Shape) (e : List Event) → Low d e → Low (suc d) (tell d f e)
unfolding tell
low_tell d nil e none = none
low_tell d nil e (some {c = c} h) = some {c = c} (omega arith)
low_tell d (node a g f) e h = some {c = d} (omega arith)

differ : {e : List Event} {d k : ℕ} {b : ℕ} {x y : List Event} → e ≡ born d k ∷ x → e ≡ byte b ∷ y → ⊥
differ p q = let z : ◌≡◌ {A = ℕ} 0 1 = cc in omega arith

differ_nil : {e : Event} {x : List Event} → ◌≡◌ {A = List Event} [] (e ∷ x) → ⊥
differ_nil p = let z : ◌≡◌ {A = ℕ} 0 1 = cc in omega arith

-- nothing, or a node
pub data Fresh : List Event → Type 0 where
  fresh_end : Fresh []
  fresh_node : {d k : ℕ} {e : List Event} → Fresh (born d k ∷ e)

low_fresh : {d : ℕ} {e : List Event} → Low d e → Fresh e
low_fresh none = fresh_end
low_fresh (some h) = fresh_node

-- the bytes before a node are known
pub same_bytes : (c b : List ℕ) {x y : List Event} → Fresh x → Fresh y → tell_bytes c x ≡ tell_bytes b y → (c ≡ b) × (x ≡ y)
unfolding tell_bytes
same_bytes [] [] h k e = (refl, e)
same_bytes [] (b ∷ bs) fresh_end k e = absurd (differ_nil e)
same_bytes [] (b ∷ bs) fresh_node k e = absurd (differ refl e)
same_bytes (c ∷ cs) [] h fresh_end e = absurd (differ_nil (sym e))
same_bytes (c ∷ cs) [] h fresh_node e = absurd (differ refl (sym e))
same_bytes (c ∷ cs) (b ∷ bs) {x = x} {y = y} h k e =
    let p : c ≡ b = cc in
    let r : tell_bytes cs x ≡ tell_bytes bs y = cc in
    let q = same_bytes cs bs h k r in
    (ap₂ (λ (u : ℕ) (v : List ℕ). u ∷ v) p q.0, q.1)

low_not : {d k : ℕ} {e x : List Event} → Low d e → e ≡ born d k ∷ x → ⊥
low_not none h = differ_nil h
low_not {d} (some {c = c} l) h = let p : c ≡ d = cc in omega arith

unique : (d : ℕ) (f g : Shape) {x y : List Event} → Low d x → Low d y → tell d f x ≡ tell d g y → (f ≡ g) × (x ≡ y)
unfolding tell
unique d nil nil h k e = (refl, e)
unique d nil (node b v g) h k e = absurd (low_not h e)
unique d (node a u f) nil h k e = absurd (low_not k (sym e))
unique d (node a u f) (node b v g) {x} {y} h k e =
    let p : a.kind ≡ b.kind = cc in
    let r : tell_bytes a.content (tell (suc d) u (tell d f x)) ≡ tell_bytes b.content (tell (suc d) v (tell d g y)) = cc in
    let m = low_tell d f x h in
    let n = low_tell d g y k in
    let q = same_bytes a.content b.content (low_fresh (low_tell (suc d) u (tell d f x) m))
    (low_fresh (low_tell (suc d) v (tell d g y) n)) r in
    let s = unique (suc d) u v m n q.1 in
    let t = unique d f g h k s.1 in
    let w : a ≡ b = ap₂ (λ (i : ℕ) (c : List ℕ). record { kind = i; content = c }) p q.0 in
    let i = s.0 in let j = t.0 in
    ((cc), t.1)

pub tell_unique : (f g : Shape) → tell 1 f [] ≡ tell 1 g [] → f ≡ g
tell_unique f g e = (unique 1 f g none none e).0

-- the automaton is a function
pub one_run : {u : Bool} {c d d' : Config} {s : List ℕ} {v v' : List Event} → Reads u c s v d → Reads u c s v' d' → (v ≡ v') × (d ≡ d')
one_run stay stay = (refl, refl)
one_run {u} {c} {d} {d'} (on {d = x} {b = b} {s = s} {v = v} {w = w} h r) (on {d = y} {v = v'} {w = w'} k q) =
    let e : move x v ≡ move y v' = sym h ∙ k in
    let p : x ≡ y = cc in
    let m : v ≡ v' = cc in
    let z = one_run r (subst (λ (a : Config). Reads u a s w' d') (sym p) q) in
    let n = z.0 in
    ((cc), z.1)

-- UNIQUE
pub one_tree : {u : Bool} {s : List ℕ} {f g : Shape} → Parses u s f → Parses u s g → f ≡ g
one_tree {u} {s} {f} {g} p q = tell_unique f g (one_run (complete p) (complete q)).0
