-- The monitor over what a tree tells: it is seen to its end exactly if the tree is spelled.
use Rattle.std.specs.Prelude.{ℕ, suc, ◌≡◌, refl, Bool, true, false, cond, ◌&&◌, List, [], ◌∷◌, ◌++◌, eqb}
use Rattle.std.proofs.Common.{sym, ap, ◌∙◌, arith}
use Rattle.std.proofs.lemmas.Bool.{false≢true}
use Rattle.tree.specs.Forest.{nil, node}
use Rattle.tree.specs.Content.{text_kind, spells_name, spells_text}
use Rattle.tree.specs.Spelling.{Spelling, Spelled, broken, spelling, whole, spell, start_of, Fault, faultless, fault, is_faultless, later}
use Rattle.tree.specs.Spelling.{fault_behind, fault_in}
use Rattle.tree.specs.Laws.Tests.{and_left, and_right}
use Rattle.tree.specs.Laws.Spelling.{name_spelled, text_spelled}
use Rattle.xml.specs.Shape.{Shape}
use Rattle.xml.specs.Grammar.{Place, Named, name, text_node, Derives, spacing, empty, full, more, derive_attribute, derive_text}
use Rattle.xml.specs.Grammar.{markup, derive_element, end_tag, Root, root, Parses, bare, declared_short, declared_long, spelled}
use Rattle.xml.specs.Laws.Automaton.{Event, born, byte, tell_bytes, tell}
use Rattle.xml.specs.Laws.Monitor.{Monitor, on, Seen, unspelled, seen, at_rest, seen_as, see_byte, see_node, content_of, then_see}
use Rattle.xml.specs.Laws.Monitor.{see}
use Rattle.xml.proofs.Laws.Unique.{Fresh, fresh_end, fresh_node}

pub not_seen : {x : Monitor} → unspelled ≡ seen x → ⊥
not_seen e = let z : ◌≡◌ {A = ℕ} 0 1 = cc in omega arith

then_append : (r : Seen) (v w : List Event) → ((y : Monitor) → see y (v ++ w) ≡ then_see (see y v) (λ z. see z w))
    → then_see r (λ y. see y (v ++ w)) ≡ then_see (then_see r (λ y. see y v)) (λ z. see z w)
then_append unspelled v w f = refl
then_append (seen y) v w f = f y

pub see_append : (x : Monitor) (v w : List Event) → see x (v ++ w) ≡ then_see (see x v) (λ y. see y w)
unfolding see
see_append x [] w = refl
see_append x (born d k ∷ v) w = then_append (see_node x k) v w (λ y. see_append y v w)
see_append x (byte b ∷ v) w = then_append (see_byte x b) v w (λ y. see_append y v w)

-- contents -----------------------------------------------------------------------------------

-- at the end of what is told, or before a node, no character is cut
pub fresh_whole : (x : Spelling) {e : List Event} {z : Monitor} → Fresh e → see (on x) e ≡ seen z → at_rest z ≡ true → whole x ≡ true
unfolding see
fresh_whole x {z = z} fresh_end h r = let p : on x ≡ z = cc in ap at_rest p ∙ r
fresh_whole x {z = z} (fresh_node {d = d} {k = k} {e = e}) h r = go (whole x) refl h
  where
    go : (t : Bool) → whole x ≡ t → then_see (cond t (seen (on (content_of k))) unspelled) (λ y. see y e) ≡ seen z → whole x ≡ true
    go true p h = p
    go false p h = absurd (not_seen h)

not_later : (f : Fault) → is_faultless (later f) ≡ is_faultless f
not_later faultless = refl
not_later (fault n) = refl

-- bytes that are seen up to there are whole characters
pub bytes_seen : (c : List ℕ) (x : Spelling) (e : List Event) {z : Monitor} → Fresh e → see (on x) (tell_bytes c e) ≡ seen z
    → at_rest z ≡ true
    → (is_faultless (fault_in x c) ≡ true) × ((y : Spelling) × (whole y ≡ true) × (see (on y) e ≡ seen z))
unfolding see tell_bytes fault_in
bytes_seen [] x e {z} n h r = let w = fresh_whole x n h r in (rw w refl, (x, w, h))
bytes_seen (b ∷ c) x e {z} n h r = go (spell x b) refl h (λ y k. bytes_seen c y e n k r)
  where
    go : (q : Spelled) → spell x b ≡ q → then_see (seen_as q) (λ y. see y (tell_bytes c e)) ≡ seen z
        → ((y : Spelling) → see (on y) (tell_bytes c e) ≡ seen z
        → (is_faultless (fault_in y c) ≡ true) × ((y : Spelling) × (whole y ≡ true) × (see (on y) e ≡ seen z)))
        → (is_faultless (fault_behind q (λ y. fault_in y c)) ≡ true) × ((y : Spelling) × (whole y ≡ true) × (see (on y) e ≡ seen z))
    go broken p h f = absurd (not_seen h)
    go (spelling y) p h f = let i = f y h in (not_later (fault_in y c) ∙ i.0, i.1)

-- and the other way round
pub seen_bytes : (c : List ℕ) (x : Spelling) → is_faultless (fault_in x c) ≡ true
    → (y : Spelling) × (whole y ≡ true) × ((e : List Event) → see (on x) (tell_bytes c e) ≡ see (on y) e)
unfolding see tell_bytes fault_in
seen_bytes [] x h = (x, go (whole x) refl h, λ e. refl)
  where
    go : (t : Bool) → whole x ≡ t → is_faultless (cond t faultless (fault 0)) ≡ true → whole x ≡ true
    go true p h = p
    go false p h = absurd (false≢true h)
seen_bytes (b ∷ c) x h = go (spell x b) refl h (λ y k. seen_bytes c y k)
  where
    go : (q : Spelled) → spell x b ≡ q → is_faultless (fault_behind q (λ y. fault_in y c)) ≡ true
        → ((y : Spelling) → is_faultless (fault_in y c) ≡ true
        → (z : Spelling) × (whole z ≡ true) × ((e : List Event) → see (on y) (tell_bytes c e) ≡ see (on z) e))
        → (z : Spelling) × (whole z ≡ true) × ((e : List Event) → then_see (seen_as q) (λ y. see y (tell_bytes c e)) ≡ see (on z) e)
    go broken p h f = absurd (false≢true h)
    go (spelling y) p h f = f y (sym (not_later (fault_in y c)) ∙ h)

-- a content that has bytes is spelled as its kind asks exactly if it has no fault
content_spelled : (k b : ℕ) (s : List ℕ)
    → cond (eqb k text_kind) (spells_text (b ∷ s)) (spells_name (b ∷ s)) ≡ is_faultless (fault_in (content_of k) (b ∷ s))
content_spelled k b s = go (eqb k text_kind)
  where
    go : (t : Bool) → cond t (spells_text (b ∷ s)) (spells_name (b ∷ s)) ≡ is_faultless (fault_in (start_of t) (b ∷ s))
    go true = text_spelled b s
    go false = name_spelled b s

-- trees --------------------------------------------------------------------------------------

abbrev some : List ℕ → Bool
some [] = false
some (b ∷ s) = true

-- every content has bytes
unfoldable filled : Shape → Bool
filled nil = true
filled (node a ks fs) = some a.content && filled ks && filled fs

all_three : {a b c : Bool} → a ≡ true → b ≡ true → c ≡ true → (a && b && c) ≡ true
all_three p q r = rw (p, q, r)

filled_value : (c : List ℕ) → filled (text_node c) ≡ true
unfolding filled
filled_value [] = refl
filled_value (b ∷ c) = refl

named_some : {n s t : List ℕ} → Named n s t → some n ≡ true
named_some (name h l) = refl

filled_part : {u : Bool} {p : Place} {s t : List ℕ} {f : Shape} → Derives u p s f t → filled f ≡ true
unfolding filled
filled_part (spacing h p) = filled_part p
filled_part empty = refl
filled_part (full p) = filled_part p
filled_part (more p) = filled_part p
filled_part (derive_attribute q {c = c} m k x y v p) = all_three (named_some m) (filled_value c) (filled_part p)
filled_part (derive_text x p) = all_three refl refl (filled_part p)
filled_part (markup p) = filled_part p
filled_part (derive_element m p i) = all_three (named_some m) (filled_part p) (filled_part i)
filled_part (end_tag x) = refl

filled_root : {u : Bool} {s : List ℕ} {f : Shape} → Root u s f → filled f ≡ true
unfolding filled
filled_root (root x m p y) = all_three (named_some m) (filled_part p) refl

filled_parsed : {u : Bool} {s : List ℕ} {f : Shape} → Parses u s f → filled f ≡ true
filled_parsed (bare r) = filled_root r
filled_parsed (declared_short r) = filled_root r
filled_parsed (declared_long r) = filled_root r

told_fresh : (d : ℕ) (f : Shape) {e : List Event} → Fresh e → Fresh (tell d f e)
unfolding tell
told_fresh d nil h = h
told_fresh d (node a g f) h = fresh_node

-- what is seen from the end of a tree on
abbrev Onward : List Event → Monitor → Type 0
Onward e z = (y : Spelling) × (whole y ≡ true) × (see (on y) e ≡ seen z)

-- a tree that is seen to the end is spelled
tree_seen : (d : ℕ) (f : Shape) (x : Spelling) (e : List Event) {z : Monitor} → filled f ≡ true → Fresh e → see (on x) (tell d f e) ≡ seen z
    → at_rest z ≡ true → (spelled f ≡ true) × Onward e z
unfolding tell see filled spelled
tree_seen d nil x e i n h r = (refl, (x, fresh_whole x n h r, h))
tree_seen d (node a g f) x e {z} i n h r =
    let p = and_left (some a.content && filled g) _ i in
    go a.content (and_left _ _ p) (whole x) refl h
    (λ y k. tree_seen (suc d) g y (tell d f e) (and_right (some a.content) _ p) (told_fresh d f n) k r)
    (λ y k. tree_seen d f y e (and_right (some a.content && filled g) _ i) n k r)
  where
    go : (c : List ℕ) → some c ≡ true → (t : Bool) → whole x ≡ t
        → then_see (cond t (seen (on (content_of a.kind))) unspelled) (λ y. see y (tell_bytes c (tell (suc d) g (tell d f e)))) ≡ seen z
        → ((y : Spelling) → see (on y) (tell (suc d) g (tell d f e)) ≡ seen z → (spelled g ≡ true) × Onward (tell d f e) z)
        → ((y : Spelling) → see (on y) (tell d f e) ≡ seen z → (spelled f ≡ true) × Onward e z)
        → ((cond (eqb a.kind text_kind) (spells_text c) (spells_name c) && spelled g && spelled f) ≡ true) × Onward e z
    go c s false p h u v = absurd (not_seen h)
    go [] s true p h u v = absurd (false≢true s)
    go (b ∷ c) s true p h u v =
        let j = bytes_seen (b ∷ c) (content_of a.kind) (tell (suc d) g (tell d f e)) (told_fresh (suc d) g (told_fresh d f n)) h r in
        let k = u j.1.0 j.1.2 in
        let l = v k.1.0 k.1.2 in
        (all_three (content_spelled a.kind b c ∙ j.0) k.0 l.0, l.1)

-- a tree that is spelled is seen
seen_tree : (d : ℕ) (f : Shape) (x : Spelling) → filled f ≡ true → spelled f ≡ true → whole x ≡ true
    → (y : Spelling) × (whole y ≡ true) × ((e : List Event) → see (on x) (tell d f e) ≡ see (on y) e)
unfolding tell see filled spelled
seen_tree d nil x i h w = (x, w, λ e. refl)
seen_tree d (node a g f) x i h w =
    let p = and_left (some a.content && filled g) _ i in
    let q = and_left (cond (eqb a.kind text_kind) (spells_text a.content) (spells_name a.content) && spelled g) _ h in
    go a.content (and_left _ _ p) (and_left _ _ q)
    (λ y k. seen_tree (suc d) g y (and_right (some a.content) _ p)
    (and_right (cond (eqb a.kind text_kind) (spells_text a.content) (spells_name a.content)) _ q) k)
    (λ y k. seen_tree d f y (and_right (some a.content && filled g) _ i)
    (and_right (cond (eqb a.kind text_kind) (spells_text a.content) (spells_name a.content) && spelled g) _ h) k)
  where
    go : (c : List ℕ) → some c ≡ true → cond (eqb a.kind text_kind) (spells_text c) (spells_name c) ≡ true
        → ((y : Spelling) → whole y ≡ true
        → (z : Spelling) × (whole z ≡ true) × ((e : List Event) → see (on y) (tell (suc d) g e) ≡ see (on z) e))
        → ((y : Spelling) → whole y ≡ true
        → (z : Spelling) × (whole z ≡ true) × ((e : List Event) → see (on y) (tell d f e) ≡ see (on z) e))
        → (z : Spelling) × (whole z ≡ true)
        × ((e : List Event) → then_see (cond (whole x) (seen (on (content_of a.kind))) unspelled)
        (λ y. see y (tell_bytes c (tell (suc d) g (tell d f e)))) ≡ see (on z) e)
    go [] s k u v = absurd (false≢true s)
    go (b ∷ c) s k u v =
        let j = seen_bytes (b ∷ c) (content_of a.kind) (sym (content_spelled a.kind b c) ∙ k) in
        let l = u j.0 j.1 in
        let m = v l.0 l.1 in
        (m.0, m.1, λ e. rw w (j.2 (tell (suc d) g (tell d f e)) ∙ l.2 (tell d f e) ∙ m.2 e))

-- THE LAWS: of what a parsed input tells
module _ {u : Bool} {s : List ℕ} {f : Shape} (p : Parses u s f) (x : Spelling) where
  pub seen_spelled : {z : Monitor} → see (on x) (tell 1 f []) ≡ seen z → at_rest z ≡ true → spelled f ≡ true
  seen_spelled h r = (tree_seen 1 f x [] (filled_parsed p) fresh_end h r).0

  pub spelled_seen : spelled f ≡ true → whole x ≡ true → (y : Spelling) × (whole y ≡ true) × (see (on x) (tell 1 f []) ≡ seen (on y))
  unfolding see
  spelled_seen h w = let j = seen_tree 1 f x (filled_parsed p) h w in (j.0, j.1, j.2 [])
