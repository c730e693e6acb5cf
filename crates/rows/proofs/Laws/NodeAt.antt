-- The node at a place of a forest: the rows before and behind it, its proper ancestors, and the rows of its subtree.
use Rattle.std.proofs.Math.Path.{◌≡◌, refl, sym, ap, subst}
use Rattle.std.proofs.Common.{◌∙◌}
use Prim.Native.Nat.{ℕ, zero, suc, ◌+◌, ◌-◌, ◌≤◌, ◌<◌}
use Rattle.std.specs.Prelude.{Bool}
use Rattle.std.proofs.Math.Bool.{true, false, cond}
use Rattle.std.proofs.lemmas.Bool.{false≢true}
use mathlib.Core.List.{List, [], ◌∷◌, ◌++◌, map, reverse_aux, append_assoc, append-nil}
use native.Mathlib.Omega.{arith}
use Rattle.std.proofs.Math.ListN.{length, length-append}
use Rattle.std.proofs.Math.Dec.{ltb}
use borrow.Author.Tests.{ltb-true, ltb-false, lt-ltb, le-ltb}
use Rattle.tree.specs.Lists.{any, keep}
use Rattle.tree.specs.Forest.{Forest, nil, node, Row, row, rows, amend, place, put}
use Rattle.tree.specs.Laws.Tests.{or_left, or_right, refuted}
use Rattle.tree.specs.Laws.Lists.{any_append, map_append, keep_append}
use Rattle.table.specs.Flat.{flat}
use Rattle.rows.specs.Places.{below}

module _ {A : Type 0} where
  -- the nodes of rows
  abbrev pub nodes_of : List (ℕ × A) → List A
  nodes_of l = map (λ x. x.1) l

  -- of rows before a node at depth e, the nearest first: its proper ancestors, the parent first
  unfoldable pub back : ℕ → List (ℕ × A) → List A
  back e [] = []
  back e (x ∷ l) = cond (ltb x.0 e) (x.1 ∷ back x.0 l) (back e l)

  reverse_append : (l k t : List (ℕ × A)) → reverse_aux (l ++ k) t ≡ reverse_aux k (reverse_aux l t)
  reverse_append [] k t = refl
  reverse_append (x ∷ l) k t = reverse_append l k (x ∷ t)

  -- rows that are no shallower hold no ancestor
  back_skip : (e d : ℕ) (f : Forest A) (t : List (ℕ × A)) → e ≤ d → back e (reverse_aux (flat d f) t) ≡ back e t
  unfolding back flat
  back_skip e d nil t h = refl
  back_skip e d (node a ks fs) t h =
      rw (
        reverse_append (flat (suc d) ks) (flat d fs) ((d, a) ∷ t),
        back_skip e d fs (reverse_aux (flat (suc d) ks) ((d, a) ∷ t)) h,
        back_skip e (suc d) ks ((d, a) ∷ t) (omega arith),
        le-ltb d e h,
      )

  -- below: where it ends ------------------------------------------------------------

  pub below_flat : (e d : ℕ) (f : Forest A) (r : List (ℕ × A)) → e < d → below e (flat d f ++ r) ≡ flat d f ++ below e r
  unfolding flat below
  below_flat e d nil r h = refl
  below_flat e d (node a ks fs) r h =
      rw (
        append_assoc (flat (suc d) ks) (flat d fs) r,
        below_flat e (suc d) ks (flat d fs ++ r) (omega arith),
        below_flat e d fs r h,
        lt-ltb e d h,
        append_assoc (flat (suc d) ks) (flat d fs) (below e r),
      )

  -- rows that are not below, or none, before such rows
  pub below_none : (e d : ℕ) (f : Forest A) (r : List (ℕ × A)) → d ≤ e → below e r ≡ [] → below e (flat d f ++ r) ≡ []
  unfolding flat below
  below_none e d nil r h k = k
  below_none e d (node a ks fs) r h k = rw (le-ltb e d h)

  below_append : (e : ℕ) (l r : List (ℕ × A)) → below e l ≡ [] → below e r ≡ [] → below e (l ++ r) ≡ []
  unfolding below
  below_append e [] r h k = k
  below_append e (x ∷ l) r h k = go (ltb e x.0) h
    where
      go : (b : Bool) → cond b (x ∷ below e l) [] ≡ [] → cond b (x ∷ below e (l ++ r)) [] ≡ []
      go true i = absurd (let z : ◌≡◌ {A = ℕ} 1 0 = cc in omega arith)
      go false i = refl

  -- rows by their nodes and ancestors -------------------------------------------------

  -- a node of the row, or above it, passes
  abbrev pub on_line : (A → Bool) → Row A A → Bool
  on_line q r = any q (r.it ∷ r.above)

  abbrev pub lines_of : List A → Forest A → List (Row A A)
  lines_of up f = rows (λ a. a) up f

  -- a test of rows that only those pass which have a node that passes q on their line
  abbrev pub Only : (A → Bool) → (Row A A → Bool) → Type 0
  Only q k = (r : Row A A) → k r ≡ true → on_line q r ≡ true

  fails : (q : A → Bool) (k : Row A A → Bool) → Only q k → (a : A) (up : List A) → q a ≡ false → any q up ≡ false → k (row a up) ≡ false
  fails q k o a up h u = refuted (k (row a up)) (λ e. false≢true (sym (rw (h, u)) ∙ o (row a up) e))

  -- no such node in two lists of rows: none in either
  pub none_first : (q : A → Bool) (l k : List (ℕ × A)) → any q (nodes_of (l ++ k)) ≡ false → any q (nodes_of l) ≡ false
  none_first q l k h =
      or_left _ (any q (nodes_of k)) (sym (ap (any q) (map_append (λ x. x.1) l k) ∙ any_append q (nodes_of l) (nodes_of k)) ∙ h)

  pub none_second : (q : A → Bool) (l k : List (ℕ × A)) → any q (nodes_of (l ++ k)) ≡ false → any q (nodes_of k) ≡ false
  none_second q l k h =
      or_right (any q (nodes_of l)) _ (sym (ap (any q) (map_append (λ x. x.1) l k) ∙ any_append q (nodes_of l) (nodes_of k)) ∙ h)

  -- no such node in the forest nor above it: none is kept
  pub keep_nowhere : (q : A → Bool) (k : Row A A → Bool) → Only q k → (d : ℕ) (up : List A) (f : Forest A) → any q up ≡ false
      → any q (nodes_of (flat d f)) ≡ false
      → keep k (lines_of up f) ≡ []
  unfolding rows keep flat
  keep_nowhere q k o d up nil u h = refl
  keep_nowhere q k o d up (node a ks fs) u h =
      let i : q a ≡ false = or_left (q a) _ h in
      let j : any q (nodes_of (flat (suc d) ks ++ flat d fs)) ≡ false = or_right (q a) _ h in
      rw (
        fails q k o a up i u,
        keep_append k (lines_of (a ∷ up) ks) (lines_of up fs),
        keep_nowhere q k o (suc d) (a ∷ up) ks (rw (i, u)) (none_first q (flat (suc d) ks) (flat d fs) j),
        keep_nowhere q k o d up fs u (none_second q (flat (suc d) ks) (flat d fs) j),
      )

  -- what a test keeps of a node's subtree and of the siblings that follow, where the node itself fails
  keep_parts : (k : Row A A → Bool) (a : A) (up : List A) (ks fs : Forest A) → k (row a up) ≡ false
      → keep k (lines_of up (node a ks fs)) ≡ keep k (lines_of (a ∷ up) ks) ++ keep k (lines_of up fs)
  unfolding rows keep
  keep_parts k a up ks fs h = rw h (keep_append k (lines_of (a ∷ up) ks) (lines_of up fs))

  -- edits that reach only some rows ------------------------------------------------------

  -- the first row behind
  pub not_below : (top : ℕ) (x : ℕ × A) (t : List (ℕ × A)) → below top (x ∷ t) ≡ [] → x.0 ≤ top
  unfolding below
  not_below top x t h = go (ltb top x.0) refl h
    where
      go : (b : Bool) → ltb top x.0 ≡ b → cond b (x ∷ below top t) [] ≡ [] → x.0 ≤ top
      go true e k = absurd (let z : ◌≡◌ {A = ℕ} 1 0 = cc in omega arith)
      go false e k = ltb-false top x.0 e

  -- a change that leaves rows without a node that passes q on their line
  abbrev pub Leaves : (A → Bool) → (Row A A → A) → Type 0
  Leaves q g = (r : Row A A) → on_line q r ≡ false → g r ≡ r.it

  amend_nowhere : (q : A → Bool) (g : Row A A → A) → Leaves q g → (d : ℕ) (up : List A) (f : Forest A) → any q up ≡ false
      → any q (nodes_of (flat d f)) ≡ false → amend (λ a. a) g up f ≡ f
  unfolding amend flat
  amend_nowhere q g o d up nil u h = refl
  amend_nowhere q g o d up (node a ks fs) u h =
      let i : q a ≡ false = or_left (q a) _ h in
      let j : any q (nodes_of (flat (suc d) ks ++ flat d fs)) ≡ false = or_right (q a) _ h in
      rw (
        o (row a up) (rw (i, u)),
        amend_nowhere q g o (suc d) (a ∷ up) ks (rw (i, u)) (none_first q (flat (suc d) ks) (flat d fs) j),
        amend_nowhere q g o d up fs u (none_second q (flat (suc d) ks) (flat d fs) j),
      )

  -- a new node below those that pass q
  put_nowhere : (q counts : A → Bool) (k : ℕ) (new : A) (d : ℕ) (f : Forest A) → any q (nodes_of (flat d f)) ≡ false
      → put q counts k new f ≡ f
  unfolding put flat
  put_nowhere q counts k new d nil h = refl
  put_nowhere q counts k new d (node a ks fs) h =
      let j : any q (nodes_of (flat (suc d) ks ++ flat d fs)) ≡ false = or_right (q a) _ h in
      rw (
        or_left (q a) _ h,
        put_nowhere q counts k new (suc d) ks (none_first q (flat (suc d) ks) (flat d fs) j),
        put_nowhere q counts k new d fs (none_second q (flat (suc d) ks) (flat d fs) j),
      )

  -- the node at a place ------------------------------------------------------------------

  -- at place i of the rows of f, whose topmost nodes have depth d
  pub record NodeAt (d : ℕ) (f : Forest A) (i : ℕ) : Type 0 where
    pub depth : ℕ
    pub it : A
    pub children : Forest A
    pub above : List A
    pub before : List (ℕ × A)
    pub behind : List (ℕ × A)
    pub split : flat d f ≡ before ++ ((depth, it) ∷ (flat (suc depth) children ++ behind))
    pub count : length before ≡ i
    pub deep : d ≤ depth
    -- what is behind begins with no row below the node
    pub stops : below depth behind ≡ []
    -- the way up from the node leads to its proper ancestors
    pub ancestors : (t : List (ℕ × A)) → back depth (reverse_aux before t) ≡ above ++ back d t
    -- the ancestors stand before
    pub earlier : (q : A → Bool) → any q (nodes_of before) ≡ false → any q above ≡ false
    -- of a test that only rows on the node's line or below it pass, what is kept is in the subtree
    pub keeps : (q : A → Bool) (k : Row A A → Bool) → Only q k → (up : List A) → any q up ≡ false → any q (nodes_of before) ≡ false
        → any q (nodes_of behind) ≡ false
        → keep k (lines_of up f) ≡ keep k (row it (above ++ up) ∷ lines_of (it ∷ (above ++ up)) children)
    -- and so is what an edit of those rows changes
    pub amends : (q : A → Bool) (g : Row A A → A) → Leaves q g → (up : List A) → any q up ≡ false → any q (nodes_of before) ≡ false
        → any q (nodes_of behind) ≡ false → flat d (amend (λ a. a) g up f)
        ≡ before ++ ((depth, g (row it (above ++ up))) ∷ (flat (suc depth) (amend (λ a. a) g (it ∷ (above ++ up)) children) ++ behind))
    pub puts : (q counts : A → Bool) (k : ℕ) (new : A) → q it ≡ true → any q (nodes_of (flat (suc depth) children)) ≡ false
        → any q (nodes_of before) ≡ false → any q (nodes_of behind) ≡ false
        → flat d (put q counts k new f) ≡ before ++ ((depth, it) ∷ (flat (suc depth) (place counts k new children) ++ behind))

  below_shallow : (e d : ℕ) (f : Forest A) → d ≤ e → below e (flat d f) ≡ []
  unfolding below
  below_shallow e d f h = ap (below e) (sym (append-nil (flat d f))) ∙ below_none e d f [] h refl

  at_self : (d : ℕ) (a : A) (ks fs : Forest A) → NodeAt d (node a ks fs) 0
  unfolding flat rows keep amend put
  at_self d a ks fs = record {
    depth = d;
    it = a;
    children = ks;
    above = [];
    before = [];
    behind = flat d fs;
    split = refl;
    count = refl;
    deep = omega arith;
    stops = below_shallow d d fs (omega arith);
    ancestors = λ t. refl;
    earlier = λ q e. refl;
    keeps = λ q k o up u b c. ap (λ l. cond (k (row a up)) (row a up ∷ l) l)
        (keep_append k (lines_of (a ∷ up) ks) (lines_of up fs) ∙ rw (keep_nowhere q k o d up fs u c) (append-nil _));
    amends = λ q g o up u b c. rw (amend_nowhere q g o d up fs u c);
    puts = λ q counts k new t h b c. rw (t, put_nowhere q counts k new (suc d) ks h, put_nowhere q counts k new d fs c);
  }

  at_inner : (d : ℕ) (a : A) (ks fs : Forest A) (i : ℕ) → NodeAt (suc d) ks i → NodeAt d (node a ks fs) (suc i)
  unfolding flat rows keep back amend put
  at_inner d a ks fs i c = record {
    depth = c.depth;
    it = c.it;
    children = c.children;
    above = c.above ++ (a ∷ []);
    before = (d, a) ∷ c.before;
    behind = c.behind ++ flat d fs;
    split = around (c.depth, c.it) (flat (suc c.depth) c.children) c.split;
    count = ap suc c.count;
    deep = omega (arith, c.deep);
    stops = below_append c.depth c.behind (flat d fs) c.stops (below_shallow c.depth d fs (omega (arith, c.deep)));
    ancestors = λ t. c.ancestors ((d, a) ∷ t) ∙ rw (lt-ltb d (suc d) (omega arith), append_assoc c.above (a ∷ []) (back d t));
    earlier = λ q e. any_append q c.above (a ∷ []) ∙ rw (c.earlier q (or_right (q a) _ e), or_left (q a) _ e);
    keeps = λ q k o up u b e.
        keep_parts k a up ks fs (fails q k o a up (or_left (q a) _ b) u)
        ∙ rw (keep_nowhere q k o d up fs u (none_second q c.behind (flat d fs) e), append-nil (keep k (lines_of (a ∷ up) ks)))
        (c.keeps q k o (a ∷ up) (rw (or_left (q a) _ b, u)) (or_right (q a) _ b) (none_first q c.behind (flat d fs) e)
        ∙ ap (λ z. keep k (row c.it z ∷ lines_of (c.it ∷ z) c.children)) (sym (append_assoc c.above (a ∷ []) up)));
    amends = λ q g o up u b e.
        let i : q a ≡ false = or_left (q a) _ b in
        rw (
          o (row a up) (rw (i, u)),
          amend_nowhere q g o d up fs u (none_second q c.behind (flat d fs) e),
          append_assoc c.above (a ∷ []) up,
        )
        (around _ (flat (suc c.depth) (amend (λ a. a) g (c.it ∷ (c.above ++ (a ∷ up))) c.children))
        (c.amends q g o (a ∷ up) (rw (i, u)) (or_right (q a) _ b) (none_first q c.behind (flat d fs) e)));
    puts = λ q counts k new t h b e.
        rw (or_left (q a) _ b, put_nowhere q counts k new d fs (none_second q c.behind (flat d fs) e))
        (around _ (flat (suc c.depth) (place counts k new c.children))
        (c.puts q counts k new t h (or_right (q a) _ b) (none_first q c.behind (flat d fs) e)));
  }
    where
      around : (y : ℕ × A) (l : List (ℕ × A)) {m : List (ℕ × A)} → m ≡ c.before ++ (y ∷ (l ++ c.behind))
          → (d, a) ∷ (m ++ flat d fs) ≡ (d, a) ∷ (c.before ++ (y ∷ (l ++ (c.behind ++ flat d fs))))
      around y l e =
          ap (λ k. (d, a) ∷ k) (ap (λ k. k ++ flat d fs) e ∙ append_assoc c.before (y ∷ (l ++ c.behind)) (flat d fs)
          ∙ ap (λ k. c.before ++ (y ∷ k)) (append_assoc l c.behind (flat d fs)))

  at_later : (d : ℕ) (a : A) (ks fs : Forest A) (i : ℕ) → NodeAt d fs i → NodeAt d (node a ks fs) (suc (length (flat (suc d) ks) + i))
  unfolding flat rows keep back amend put
  at_later d a ks fs i c = record {
    depth = c.depth;
    it = c.it;
    children = c.children;
    above = c.above;
    before = (d, a) ∷ (flat (suc d) ks ++ c.before);
    behind = c.behind;
    split = around (c.depth, c.it) (flat (suc c.depth) c.children) c.split;
    count = ap suc (length-append (flat (suc d) ks) c.before ∙ ap (λ n. length (flat (suc d) ks) + n) c.count);
    deep = c.deep;
    stops = c.stops;
    ancestors = λ t. rw (
      reverse_append (flat (suc d) ks) c.before ((d, a) ∷ t),
      c.ancestors (reverse_aux (flat (suc d) ks) ((d, a) ∷ t)),
      back_skip d (suc d) ks ((d, a) ∷ t) (omega arith),
      le-ltb d d (omega arith),
    );
    earlier = λ q e. c.earlier q (none_second q (flat (suc d) ks) c.before (or_right (q a) _ e));
    keeps = λ q k o up u b e.
        let i : any q (nodes_of (flat (suc d) ks ++ c.before)) ≡ false = or_right (q a) _ b in
        let j : q a ≡ false = or_left (q a) _ b in
        keep_parts k a up ks fs (fails q k o a up j u)
        ∙ rw (keep_nowhere q k o (suc d) (a ∷ up) ks (rw (j, u)) (none_first q (flat (suc d) ks) c.before i))
        (c.keeps q k o up u (none_second q (flat (suc d) ks) c.before i) e);
    amends = λ q g o up u b e.
        let i : q a ≡ false = or_left (q a) _ b in
        let j : any q (nodes_of (flat (suc d) ks ++ c.before)) ≡ false = or_right (q a) _ b in
        rw (o (row a up) (rw (i, u)), amend_nowhere q g o (suc d) (a ∷ up) ks (rw (i, u)) (none_first q (flat (suc d) ks) c.before j))
        (around _ (flat (suc c.depth) (amend (λ a. a) g (c.it ∷ (c.above ++ up)) c.children))
        (c.amends q g o up u (none_second q (flat (suc d) ks) c.before j) e));
    puts = λ q counts k new t h b e.
        let j : any q (nodes_of (flat (suc d) ks ++ c.before)) ≡ false = or_right (q a) _ b in
        rw (or_left (q a) _ b, put_nowhere q counts k new (suc d) ks (none_first q (flat (suc d) ks) c.before j))
        (around _ (flat (suc c.depth) (place counts k new c.children))
        (c.puts q counts k new t h (none_second q (flat (suc d) ks) c.before j) e));
  }
    where
      around : (y : ℕ × A) (l : List (ℕ × A)) {m : List (ℕ × A)} → m ≡ c.before ++ (y ∷ (l ++ c.behind))
          → (d, a) ∷ (flat (suc d) ks ++ m) ≡ (d, a) ∷ ((flat (suc d) ks ++ c.before) ++ (y ∷ (l ++ c.behind)))
      around y l e =
          ap (λ k. (d, a) ∷ k) (ap (λ k. flat (suc d) ks ++ k) e ∙ sym (append_assoc (flat (suc d) ks) c.before (y ∷ (l ++ c.behind))))

  pub node_at : (d : ℕ) (f : Forest A) (i : ℕ) → i < length (flat d f) → NodeAt d f i
  unfolding flat
  node_at d nil i h = absurd (omega arith)
  node_at d (node a ks fs) zero h = at_self d a ks fs
  node_at d (node a ks fs) (suc i) h =
      go (ltb i (length (flat (suc d) ks))) refl (node_at (suc d) ks i) (node_at d fs (i - length (flat (suc d) ks)))
    where
      go : (b : Bool) → ltb i (length (flat (suc d) ks)) ≡ b → (i < length (flat (suc d) ks) → NodeAt (suc d) ks i)
          → (i - length (flat (suc d) ks) < length (flat d fs) → NodeAt d fs (i - length (flat (suc d) ks)))
          → NodeAt d (node a ks fs) (suc i)
      go true e down next = at_inner d a ks fs i (down (ltb-true i _ e))
      go false e down next =
          let m = length (flat (suc d) ks) in
          let g : m ≤ i = ltb-false i m e in
          let j : m + (i - m) ≡ i = omega arith in
          subst (λ (n : ℕ). NodeAt d (node a ks fs) (suc n)) j
          (at_later d a ks fs (i - m) (next (omega (arith, length-append (flat (suc d) ks) (flat d fs)))))
