-- The loop that grants locks along the way.
use Rattle.std.specs.Prelude.{◌≡◌, ℕ, suc, ◌+◌, ◌≤◌, ◌<◌, Bool, true, false, cond, eqb, length}
use Rattle.std.proofs.Math.Path.{refl, fun_ext}
use Rattle.std.proofs.Common.{sym, ap, ◌∙◌, eqb-true}
use mathlib.Core.List.{List, [], ◌∷◌}
use Rattle.std.proofs.Math.Numerals.{add-one}
use Rattle.std.specs.Int.Bits.{bit_or}
use Rattle.std.proofs.Math.ListN.{get_or, drop, drop_of_length-le}
use Rattle.std.proofs.Math.Seq.{drop-cons}
use Rattle.locks.specs.Modes.{Mode, ModeSet, union, among, in_word}
use Rattle.tree.specs.Steps.{Step}
use Rattle.locks.specs.Needs.{Need, need}
use Rattle.locks.specs.Words.{word_of, words}
use Rattle.locks.specs.declared.NeedWords.{NeedWords}
use Rattle.locks.proofs.Laws.Sets.{in_union, SameSets, need_sets}
use Rattle.protocol.specs.State.{Marked, with_held}
use Rattle.table.specs.Lists.{modify}
use Rattle.table.specs.Flat.{second}
use Rattle.table.specs.Layout.{Entry, set_at, nodes, no_entry, Layout, Kept}
use Rattle.table.specs.Sets.{WithSet}
use Rattle.table.specs.Fields.{with_modes}
use Rattle.table.specs.Laws.Lists.{modify_same}
use Rattle.table.specs.Laws.Bytes.{put_word}
use Rattle.table.specs.Laws.Kept.{kept_then, kept_as, left_then}
use Rattle.table.specs.Laws.Sets.{remembered_left}
use Rattle.protocol.proofs.Laws.Transactions.{empty_set}
use Rattle.rows.specs.Places.{item}
use Rattle.rows.specs.Rows.{granted_modes, granted_along}
use Rattle.engine.specs.Way.{AllInside}
use Rattle.engine.specs.Waits.{word_at}
use Rattle.engine.specs.Grants.{with_more, granted_from, granted_on, Granted, GrantedStep}

-- one node ---------------------------------------------------------------------------

-- the union of the word that stands for what t holds, and of the new one
more_modes : (t v w : ℕ) (a : Marked) → in_word v ≡ a.held t → with_modes t (bit_or v w) a ≡ with_more t w a
more_modes t v w a e = ap (λ (f : ℕ → ModeSet). with_held f a) (fun_ext (λ u. go u (eqb u t) refl))
  where
    go : (u : ℕ) (b : Bool) → eqb u t ≡ b → cond b (in_word (bit_or v w)) (a.held u) ≡ cond b (union (a.held u) (in_word w)) (a.held u)
    go u true i = let f : in_word (bit_or v w) ≡ union (in_word v) (in_word w) = fun_ext (in_union v w) in f ∙ rw (e, eqb-true u t i)
    go u false i = refl

pub add_kept : {s s' : List ℕ} (t i v w x : ℕ) → in_word v ≡ (item (nodes s) i).held t → x ≡ bit_or v w
    → Kept s s' (modify i (second (with_modes t x)) (nodes s))
    → Kept s s' (modify i (second (with_more t w)) (nodes s))
add_kept {s} t i v w x e f k =
    kept_as _ _ (modify_same i (second (with_modes t x)) (second (with_more t w)) (nodes s) no_entry
    (ap (λ a. ((get_or (nodes s) i no_entry).0, a)) (rw f (more_modes t v w (item (nodes s) i) e)))) k

-- along the way --------------------------------------------------------------------------

module _ (t : ℕ) (w : Need) (e : SameSets w) where
  same_modes : (ms : List Mode) → ((m : Mode) → in_word (word_of ms) m ≡ among ms m) → with_more t (word_of ms) ≡ granted_modes t ms
  same_modes ms h = let f : in_word (word_of ms) ≡ among ms = fun_ext h in
      let g : ModeSet → Marked → Marked = λ p a. with_held (λ u. cond (eqb u t) (union (a.held u) p) (a.held u)) a in
      ap g f

  above_words : (j : ℕ) (is : List ℕ) (l : List Entry)
      → granted_from t (words w) (suc (suc j)) is l ≡ granted_along t w.above w.above w.above is l
  unfolding granted_from granted_along
  above_words j [] l = refl
  above_words j (i ∷ is) l = rw (same_modes w.above e.above)
      (above_words (suc j) is (modify i (second (granted_modes t w.above)) l))

  up_words : (is : List ℕ) (l : List Entry) → granted_from t (words w) 1 is l ≡ granted_along t w.parent w.above w.above is l
  unfolding granted_from granted_along
  up_words [] l = refl
  up_words (i ∷ is) l = rw (same_modes w.parent e.parent) (above_words 0 is (modify i (second (granted_modes t w.parent)) l))

  pub along_words : (is : List ℕ) (l : List Entry) → granted_from t (words w) 0 is l ≡ granted_along t w.node w.parent w.above is l
  unfolding granted_from granted_along
  along_words [] l = refl
  along_words (i ∷ is) l = rw (same_modes w.node e.node) (up_words is (modify i (second (granted_modes t w.node)) l))

-- the loop ---------------------------------------------------------------------------------

-- the first j places of the way have their locks
pub record Granting (s s' : List ℕ) (t : ℕ) (m : NeedWords) (way : List ℕ) (j : ℕ) : Type 0 where
  pub kept : Kept s s' (nodes s')
  pub rest : granted_from t m 0 way (nodes s) ≡ granted_from t m j (drop j way) (nodes s')

module _ {s s' : List ℕ} {t : ℕ} {m : NeedWords} {way : List ℕ} {j : ℕ} (c : Granting s s' t m way j) where
  pub granting_turn : {s'' : List ℕ} (v : ℕ) → j < length way → v ≡ word_at m j
      → Kept s' s'' (modify (get_or way j 0) (second (with_more t v)) (nodes s')) → Granting s s'' t m way (j + 1)
  unfolding granted_from
  granting_turn {s''} v k e a =
      let i = get_or way j 0 in
      let n : Kept s s'' (modify i (second (with_more t v)) (nodes s')) = kept_then (nodes s') (modify i (second (with_more t v)))
      c.kept a in
      record { kept = kept_as _ _ (sym a.nodes) n; rest = c.rest ∙ rw (drop-cons way j 0 k, add-one j, a.nodes, e) }

  pub granting_done : length way ≤ j → (st : Step) → m ≡ words (need st) → Kept s s' (granted_on t (need st) way (nodes s))
  unfolding granted_from granted_on
  granting_done k st e =
      let z : drop j way ≡ [] = drop_of_length-le way {i = j} k in
      kept_as _ _ (sym (sym (along_words t (need st) (need_sets st) way (nodes s)) ∙ rw (← e) (c.rest ∙ rw z))) c.kept

-- a granted step -----------------------------------------------------------------------------

-- first the set of t is emptied
forgotten : (s s' : List ℕ) (t : ℕ) → s' ≡ put_word s (set_at t) 0 → Layout s → 1 ≤ t → t ≤ 16 → WithSet s s' t (λ u. false)
forgotten s s' t e h a b = rw (← empty_set) (remembered_left s s' t 0 e h a b)

-- the places are where they were
pub forgotten_inside : (s s' : List ℕ) (t : ℕ) (way : List ℕ) → s' ≡ put_word s (set_at t) 0 → Layout s → 1 ≤ t → t ≤ 16
    → AllInside (nodes s) way → (Layout s') × (1 ≤ t) × (t ≤ 16) × AllInside (nodes s') way
forgotten_inside s s' t way e h a b i = let f = forgotten s s' t e h a b in (f.layout, a, b, rw f.nodes i)

pub granted_step : (s s₁ s₂ : List ℕ) (t : ℕ) (m : NeedWords) (way : List ℕ) → s₁ ≡ put_word s (set_at t) 0 → Layout s → 1 ≤ t → t ≤ 16
    → Granted s₁ s₂ t m way → GrantedStep s s₂ t m way
granted_step s s₁ s₂ t m way e h a b g = record {
  settled = λ st x. let f = forgotten s s₁ t e h a b in let k = g.kept st x in
      record {
        left = left_then (nodes s) (granted_on t (need st) way) f k;
        many = k.many ∙ ap length f.nodes;
      };
}
