-- What UU counts is not changed by locks.
use Rattle.std.specs.Prelude.{◌≡◌, ℕ, suc, Bool, length, drop, ltb}
use Rattle.std.proofs.Math.Path.{refl}
use Rattle.std.proofs.Common.{sym, ap, ◌∙◌}
use Rattle.std.proofs.Math.Bool.{true, false, cond}
use mathlib.Core.List.{List, [], ◌∷◌, map}
use Rattle.std.proofs.lemmas.List.{length-map}
use Rattle.std.proofs.Math.ListN.{get_or-map}
use Rattle.tree.specs.Lists.{keep}
use Rattle.tree.specs.Steps.{Step, UU, is_named}
use Rattle.tree.specs.Laws.Lists.{keep_map}
use Rattle.locks.specs.Modes.{Mode, no_mode}
use Rattle.locks.specs.Needs.{need}
use Rattle.protocol.specs.State.{Marked, seen_by, with_held}
use Rattle.table.specs.Lists.{modify}
use Rattle.table.specs.Flat.{second, prune}
use Rattle.table.specs.Layout.{Entry, nodes, no_entry}
use Rattle.table.specs.Laws.Lists.{modify_none}
use Rattle.rows.specs.Places.{depth, item, items, below, seen_from, subtree}
use Rattle.rows.specs.Rows.{granted_modes, granted_along, granted_up}
use Rattle.rows.proofs.Laws.Ends.{prune_map}
use Rattle.rows.proofs.Laws.Lists.{map_modify, map_drop}
use Rattle.locks.specs.declared.NeedWords.{NeedWords}
use Rattle.engine.specs.Grants.{GrantedStep}
use Rattle.engine.specs.Judgement.{Free}
use Rattle.engine.specs.Laws.Judgement.{free_locked}
use Rattle.engine.specs.Admission.{Site}

-- rows without their locks -----------------------------------------------------------------

abbrev bare : Marked → Marked
bare a = with_held (λ u. no_mode) a

abbrev bare_rows : List Entry → List Entry
bare_rows l = map (second bare) l

bare_granted : (t : ℕ) (ms ms' ms'' : List Mode) (is : List ℕ) (l : List Entry) → bare_rows (granted_along t ms ms' ms'' is l) ≡ bare_rows l
unfolding granted_along
bare_granted t ms ms' ms'' [] l = refl
bare_granted t ms ms' ms'' (i ∷ is) l =
    bare_granted t ms' ms'' ms'' is (modify i (second (granted_modes t ms)) l)
    ∙ map_modify (second bare) (second (granted_modes t ms)) (λ x. x) i l (λ x. refl)
    ∙ modify_none i (λ x. x) (bare_rows l) no_entry refl

-- a change of nodes
module _ {A : Type 0} (g : A → A) where
  below_map : (e : ℕ) (l : List (ℕ × A)) → below e (map (second g) l) ≡ map (second g) (below e l)
  unfolding below
  below_map e [] = refl
  below_map e (x ∷ l) = go (ltb e x.0) (below_map e l)
    where
      go : (b : Bool) → below e (map (second g) l) ≡ map (second g) (below e l)
          → cond b (second g x ∷ below e (map (second g) l)) [] ≡ map (second g) (cond b (x ∷ below e l) [])
      go true h = rw h
      go false h = refl

items_map : (g : Marked → Marked) (l : List Entry) → items (map (second g) l) ≡ map g (items l)
items_map g [] = refl
items_map g (x ∷ l) = ap (λ k. g x.1 ∷ k) (items_map g l)

abbrev pub named_in : ℕ → List ℕ → ℕ → List Entry → ℕ
named_in t a p l = length (keep (λ x. is_named a x.now) (subtree t l p))

seen_bare : (t e : ℕ) (l : List Entry) → seen_from t 0 e (bare_rows l) ≡ map bare (seen_from t 0 e l)
unfolding seen_from
seen_bare t e l =
    ap (λ k. items (prune (seen_by t) 0 k)) (below_map bare e l)
    ∙ ap items (prune_map (seen_by t) bare (λ a. refl) 0 (below e l))
    ∙ items_map bare (prune (seen_by t) 0 (below e l))

subtree_bare : (t p : ℕ) (l : List Entry) → subtree t (bare_rows l) p ≡ map bare (subtree t l p)
subtree_bare t p l =
    ap (λ (x : Entry). x.1 ∷ seen_from t 0 x.0 (drop (suc p) (bare_rows l))) (get_or-map (second bare) l p no_entry)
    ∙ ap (λ k. bare (item l p) ∷ seen_from t 0 (depth l p) k) (sym (map_drop (second bare) (suc p) l))
    ∙ ap (λ k. bare (item l p) ∷ k) (seen_bare t (depth l p) (drop (suc p) l))

named_bare : (t p : ℕ) (a : List ℕ) (l : List Entry) → named_in t a p (bare_rows l) ≡ named_in t a p l
named_bare t p a l =
    ap (λ k. length (keep (λ x. is_named a x.now) k)) (subtree_bare t p l)
    ∙ ap length (keep_map (λ x. is_named a x.now) (λ x. is_named a x.now) bare (subtree t l p) (λ x m. refl))
    ∙ length-map (keep (λ x. is_named a x.now) (subtree t l p)) bare

named_granted : (t : ℕ) (st : Step) (p : ℕ) (a : List ℕ) (l : List Entry) → named_in t a p (granted_up t (need st) p l) ≡ named_in t a p l
named_granted t st p a l =
    sym (named_bare t p a (granted_up t (need st) p l))
    ∙ ap (named_in t a p) (bare_granted t (need st).node (need st).parent (need st).above _ l)
    ∙ named_bare t p a l

-- what was counted with the locks granted is what there was before
pub named_locked : {s s₁ : List ℕ} {t : ℕ} {at : Site} {w : NeedWords} {n r : ℕ} {a b : List ℕ} → Free s t at w (UU n a b)
    → GrantedStep s s₁ at.t w at.way
    → r ≡ named_in at.t a at.place (nodes s₁)
    → r ≡ named_in at.t a at.place (nodes s)
named_locked {s} {at = at} {n = n} {a = a} {b = b} f g e =
    e ∙ rw (free_locked f g).left.nodes (named_granted at.t (UU n a b) at.place a (nodes s))
