-- What a step is judged by and answers, where its node stands at a place of the rows: the record `Found`; and where it has none.
use Rattle.std.specs.Prelude.{◌≡◌, refl, ℕ, zero, suc, ◌≤◌, ◌<◌, Bool, true, false, List, [], ◌∷◌, map, length, ltb, leb}
use Rattle.std.proofs.Common.{sym, ap, ◌∙◌, arith, le-ltb}
use Rattle.std.proofs.lemmas.List.{length-map}
use Rattle.tree.specs.Lists.{any, keep}
use Rattle.tree.specs.Forest.{row}
use Rattle.tree.specs.Document.{Node, Document, Line, here, at, child, in_subtree, select}
use Rattle.tree.specs.Steps.{Step, T, C, R, U, D, I, TT, RR, UU, target, inserts, answer, kth, is_named, numbers_are, cells_are, how_many}
use Rattle.tree.specs.Laws.Lists.{map_map, any_same, keep_map}
use Rattle.protocol.specs.State.{Marked, State, number_held, callers_document}
use Rattle.protocol.specs.Lent.{Room}
use Rattle.protocol.specs.Calls.{node_limit, number_in_use, unchanged, refused, judged}
use Rattle.table.specs.Flat.{flat}
use Rattle.table.specs.Layout.{Entry}
use Rattle.rows.specs.Places.{item, number_of, unique, place_of, numbers_above, seen_at, children, subtree}
use Rattle.rows.specs.Found.{kth_child, answer_at, Found, judged_at}
use Rattle.rows.proofs.Laws.Find.{Holder, holder, held_place, count_held, here_nowhere, here_at, line_at}
use Rattle.rows.proofs.Laws.Children.{child_lines}
use Rattle.rows.proofs.Laws.Subtree.{subtree_lines}
use Rattle.rows.proofs.Laws.Waiting.{wait_set_at}
use Rattle.protocol.specs.Causes.{no_such_node}

-- lines and nodes that go together -------------------------------------------------------

-- the lines are those of these nodes
abbrev Same : List Line → List Marked → Type 0
Same ls cs = map (λ r. r.it) ls ≡ map (λ c. c.now) cs

by_nodes : {X : Type 0} (g : Node → X) (ls : List Line) (cs : List Marked) → Same ls cs → map (λ r. g r.it) ls ≡ map (λ c. g c.now) cs
by_nodes g ls cs e =
    sym (map_map g (λ (r : Line). r.it) (λ r. g r.it) ls (λ r m. refl)) ∙ ap (map g) e
    ∙ map_map g (λ (c : Marked). c.now) (λ c. g c.now) cs (λ c m. refl)

kth_same : (k : ℕ) (ls : List Line) (cs : List Marked) → Same ls cs → kth k ls ≡ kth_child k cs
unfolding kth_child
kth_same k [] [] e = refl
kth_same k [] (c ∷ cs) e = absurd (let z : ◌≡◌ {A = ℕ} 0 1 = cc in omega arith)
kth_same k (r ∷ ls) [] e = absurd (let z : ◌≡◌ {A = ℕ} 0 1 = cc in omega arith)
kth_same zero (r ∷ ls) (c ∷ cs) e = refl
kth_same (suc zero) (r ∷ ls) (c ∷ cs) e = let z : r.it ≡ c.now = cc in rw z
kth_same (suc (suc k)) (r ∷ ls) (c ∷ cs) e = kth_same (suc k) ls cs (cc)

count_same : (q : Node → Bool) (ls : List Line) (cs : List Marked) → Same ls cs
    → length (keep (λ r. q r.it) ls) ≡ length (keep (λ c. q c.now) cs)
count_same q ls cs e =
    sym (ap length (keep_map q (λ r. q r.it) (λ (r : Line). r.it) ls (λ r m. refl)) ∙ length-map (keep (λ r. q r.it) ls)
    (λ r. r.it))
    ∙ ap (λ l. length (keep q l)) e
    ∙ ap length (keep_map q (λ c. q c.now) (λ (c : Marked). c.now) cs (λ c m. refl))
    ∙ length-map (keep (λ c. q c.now) cs) (λ c. c.now)

-- the nine steps ---------------------------------------------------------------------------

answer_here : (s : Step) (t : ℕ) (l : List Entry) (p : ℕ) (d : Document) → at (target s) d ≡ row (item l p).now (numbers_above l p)
    → Same (select (child (target s)) d) (children t l p) → Same (select (in_subtree (target s)) d) (subtree t l p) → answer s d
    ≡ answer_at s t l p
answer_here (T n) t l p d e c u = rw e
answer_here (C n k) t l p d e c u = kth_same k (select (child n) d) (children t l p) c
answer_here (R n) t l p d e c u = rw e
answer_here (U n b) t l p d e c u = refl
answer_here (D n) t l p d e c u = refl
answer_here (I m kind b n k) t l p d e c u = refl
answer_here (TT n) t l p d e c u = ap numbers_are (by_nodes (λ x. x.number) (select (in_subtree n) d) (subtree t l p) u)
answer_here (RR n) t l p d e c u = ap cells_are (by_nodes (λ x. (x.number, x.content)) (select (in_subtree n) d) (subtree t l p) u)
answer_here (UU n a b) t l p d e c u = ap how_many (count_same (is_named a) (select (in_subtree n) d) (subtree t l p) u)

-- the theorems --------------------------------------------------------------------------------

-- the rows l of the tree; no number is held twice
module _ (l : List Entry) (t : ℕ) (s : Step) (M : State) (rows : l ≡ flat 0 M.tree) where
  -- no place has the number
  pub missing : length l ≤ place_of (target s) l → here (target s) (callers_document t M.tree) ≡ false
  missing h =
      here_nowhere t (target s) M.tree (held_place (target s) M.tree ∙ rw (← rows) (le-ltb (place_of (target s) l) (length l) h))

  module _ (u : unique l ≡ true) (p : ℕ) (h : p < length l) (n : number_of (item l p) ≡ target s) where
    at_place : Holder M.tree (target s) p
    at_place = holder M.tree (target s) p (rw rows at u) (rw rows at h) (rw rows at n)

    -- the caller deleted the node or one above it
    pub deleted : seen_at t l p ≡ false → here (target s) (callers_document t M.tree) ≡ false
    deleted v = here_at at_place t ∙ rw (← rows) v

    pub found : seen_at t l p ≡ true → Found l t s M p
    found v =
        let x : seen_at t (flat 0 M.tree) p ≡ true = rw rows at v in
        let o = at_place in
        let here_is : here (target s) (callers_document t M.tree) ≡ true = here_at o t ∙ x in
        let line_is : at (target s) (callers_document t M.tree) ≡ row (item l p).now (numbers_above l p) = rw rows (line_at o t x) in
        let children_are : Same (select (child (target s)) (callers_document t M.tree)) (children t l p) = rw rows (child_lines o t x) in
        let all_are : Same (select (in_subtree (target s)) (callers_document t M.tree)) (subtree t l p) = rw rows (subtree_lines o t x)
        in
        record {
          is_here = here_is;
          line = line_is;
          lock_list = rw line_is;
          kind = ap (λ (r : Line). r.it.kind) line_is;
          held = any_same (λ m. number_held m M.tree) (λ m. ltb (place_of m l) (length l)) (inserts s)
              (λ m i. held_place m M.tree ∙ rw (← rows));
          wait = λ b. rw line_is (wait_set_at t s M l p (sym rows) u h n b);
          others = by_nodes (λ x. x.kind) (select (child (target s)) (callers_document t M.tree)) (children t l p) children_are;
          full = ap (λ z. any (λ m. leb node_limit z) (inserts s)) (count_held M.tree ∙ ap length (sym rows));
          answers = answer_here s t l p (callers_document t M.tree) line_is children_are all_are;
        }

-- the whole judgement ---------------------------------------------------------------------------

pub judged_missing : (t : ℕ) (s : Step) (room : Room) (M : State) → here (target s) (callers_document t M.tree) ≡ false
    → judged t s room M (callers_document t M.tree) ≡ unchanged (refused no_such_node) M
unfolding judged
judged_missing t s room M h = rw h

pub judged_found : (l : List Entry) (t : ℕ) (s : Step) (room : Room) (M : State) (p : ℕ) → Found l t s M p
    → judged t s room M (callers_document t M.tree) ≡ judged_at t s room M l p
unfolding judged judged_at
judged_found l t s room M p f = go (number_in_use s M.tree) refl
  where
    go : (b : Bool) → number_in_use s M.tree ≡ b → judged t s room M (callers_document t M.tree) ≡ judged_at t s room M l p
    go true e = let h = sym f.held ∙ e in rw (f.is_here, f.kind, e, h)
    go false e = let h = sym f.held ∙ e in rw (f.is_here, f.kind, e, h, f.wait e, f.lock_list, f.others, f.full, f.answers)
