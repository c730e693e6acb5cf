-- A step that fits leaves a legal document legal.
use Rattle.std.specs.Prelude.{ℕ, suc, ◌≡◌, refl, Bool, true, false, not, ◌&&◌, List, [], length, eqb, leb}
use Rattle.std.proofs.Common.{sym, ap, ◌∙◌, true≢false, eqb-true}
use Rattle.std.proofs.lemmas.Bool.{false≢true, not-false}
use Rattle.tree.specs.Forest.{nil, node, row, amend, view, put}
use Rattle.tree.specs.Content.{document_kind, element_kind, is_name, allowed, children_rule, attributes_first, insert_at}
use Rattle.tree.specs.Document.{Node, Document, Line, lines, is, child, in_subtree, select, here, at, kinds, top_kinds, ruled, rooted}
use Rattle.tree.specs.Document.{legal}
use Rattle.tree.specs.Steps.{Step, U, D, I, UU, fits, after, placed, named, rewrite, remove}
use Rattle.tree.specs.Laws.Tests.{and_left, and_right, refuted}
use Rattle.tree.specs.Laws.Rows.{self}
use Rattle.serializability.proofs.Laws.Tests.{by_test}
use Rattle.serializability.proofs.Laws.Lines.{Unique, at_only, rewritten_number, rewritten_kind, insert}
use Rattle.serializability.proofs.Laws.Classes.{Rewriting, update, rename, Class, reading, rewriting, removing, inserting, class}
use Rattle.serializability.proofs.Laws.Classes.{touched, written, after_rewriting}
use Rattle.serializability.proofs.Laws.Kept.{Fit, fit_parts, fits_here}
use Rattle.serializability.proofs.Laws.Uniqueness.{unique_after}
use Rattle.serializability.proofs.Laws.Parts.{Parts, end, did, undone}
use Rattle.serializability.proofs.Laws.Runs.{Run}
use Rattle.serializability.proofs.Laws.Rules.{ruled_amend, ruled_view, ruled_put, HasNode, node_line, children_kinds}

-- the document node ----------------------------------------------------------------------------------

rooted_rewrite : (t : Line → Bool) (b : List ℕ) (d : Document) → rooted d ≡ true → rooted (rewrite t b d) ≡ true
unfolding amend
rooted_rewrite t b nil h = h
rooted_rewrite t b (node a ks nil) h = rw (rewritten_number t b (row a []), rewritten_kind t b (row a [])) h
rooted_rewrite t b (node a ks (node c js fs)) h = h

rooted_insert : (a : Node) (n k : ℕ) (d : Document) → rooted d ≡ true → rooted (insert a n k d) ≡ true
unfolding put
rooted_insert a n k nil h = h
rooted_insert a n k (node c ks nil) h = h
rooted_insert a n k (node c ks (node e js fs)) h = h

-- it is not removed
rooted_remove : (x : ℕ) (d : Document) → Unique d → rooted d ≡ true → here x d ≡ true → eqb (at x d).it.kind document_kind ≡ false
    → rooted (remove x d) ≡ true
unfolding view
rooted_remove x nil u h i e = h
rooted_remove x (node a ks nil) u h i e = rw other h
  where
    other : eqb a.number x ≡ false
    other = refuted _ (λ q. true≢false (sym (and_right (eqb a.number 0) _ h)
        ∙ ap (λ (r : Line). eqb r.it.kind document_kind) (at_only (node a ks nil) u x i (row a []) (self refl) (eqb-true _ x q)) ∙ e))
rooted_remove x (node a ks (node c js fs)) u h i e = absurd (false≢true h)

-- the rules of contents and children ------------------------------------------------------------------

ruled_rewriting : (d : Document) → Unique d → {s : Step} (w : Rewriting s) → fits s d ≡ true → ruled d ≡ true
    → ruled (rewrite (touched w) (written w) d) ≡ true
unfolding allowed
ruled_rewriting d u (update n b) g h = ruled_amend (is n) b [] d h
    (λ r m i. rw (at_only d u n (fits_here (U n b) d g) r m (eqb-true _ n i)) (not-false _ (fit_parts (U n b) d g).content))
ruled_rewriting d u (rename n a b) g h = ruled_amend (λ r. in_subtree n r && named a r) b [] d h
    (λ r m i. rw (eqb-true r.it.kind element_kind (and_left _ _ (and_right (in_subtree n r) _ i)))
    (and_right (is_name a) _ (not-false _ (fit_parts (UU n a b) d g).content)))

childless : (kind : ℕ) → children_rule kind [] ≡ true
unfolding children_rule attributes_first
childless kind = by_test (eqb kind element_kind) (λ e. rw e) (λ e. rw e)

ruled_insertion : (m kind : ℕ) (b : List ℕ) (n k : ℕ) (d : Document) → Unique d → fits (I m kind b n k) d ≡ true → ruled d ≡ true
    → ruled (insert (record { number = m; kind = kind; content = b }) n k d) ≡ true
unfolding ruled select lines placed
ruled_insertion m kind b n k d u g h = ruled_put (λ x. eqb x.number n) k (record { number = m; kind = kind; content = b }) d h
    (rw (not-false (allowed kind b) fit.content, childless kind)) (λ a ks i e. rule a ks i (eqb-true _ n e))
  where
    fit : Fit (I m kind b n k) d
    fit = fit_parts (I m kind b n k) d g

    rule : (a : Node) (ks : Document) → HasNode a ks d → a.number ≡ n → children_rule a.kind (insert_at k kind (top_kinds ks)) ≡ true
    rule a ks i e =
        let o = node_line [] i in
        let l : row a o.0 ≡ at n d = at_only d u n (fits_here (I m kind b n k) d g) (row a o.0) o.1 e in
        let c : kinds (select (child n) d) ≡ top_kinds ks = children_kinds n [] i e refl u in
        rw (ap (λ (r : Line). r.it.kind) l, ← c) (and_right (leb 1 k && leb k (suc (length (kinds (select (child n) d))))) _
        (not-false _ fit.place))

-- legal -----------------------------------------------------------------------------------------------

pub record Legal (d : Document) : Type 0 where
  pub root : rooted d ≡ true
  pub rules : ruled d ≡ true
  pub unique : Unique d

pub legal_parts : (d : Document) → legal d ≡ true → Legal d
unfolding legal
legal_parts d h =
    let r = and_left (rooted d && ruled d) _ h in
    record { root = and_left _ _ r; rules = and_right (rooted d) _ r; unique = and_right (rooted d && ruled d) _ h }

pub legal_whole : (d : Document) → Legal d → legal d ≡ true
unfolding legal
legal_whole d l = rw (l.root, l.rules, l.unique)

pub legal_after : (d : Document) (s : Step) → legal d ≡ true → fits s d ≡ true → legal (after s d) ≡ true
legal_after d s h g = legal_whole (after s d) (record {
  root = root (class s) g;
  rules = rules (class s) g;
  unique = unique_after d
      l.unique s g;
})
  where
    l : Legal d
    l = legal_parts d h

    root : {s : Step} → Class s → fits s d ≡ true → rooted (after s d) ≡ true
    root (reading e b) g = rw (e d) l.root
    root (rewriting w) g = rw (after_rewriting w d) (rooted_rewrite (touched w) (written w) d l.root)
    root (removing x) g = rooted_remove x d l.unique l.root (fits_here (D x) d g) (fit_parts (D x) d g).kind
    root (inserting m kind b n k) g = rooted_insert (record { number = m; kind = kind; content = b }) n k d l.root

    rules : {s : Step} → Class s → fits s d ≡ true → ruled (after s d) ≡ true
    rules (reading e b) g = rw (e d) l.rules
    rules (rewriting w) g = rw (after_rewriting w d) (ruled_rewriting d l.unique w g l.rules)
    rules (removing x) g = ruled_view (λ a. not (eqb a.number x)) d l.rules
    rules (inserting m kind b n k) g = ruled_insertion m kind b n k d l.unique g l.rules

pub legal_run : (d : Document) (l : Parts) (e : Document) → legal d ≡ true → Run d l e → legal e ≡ true
legal_run d end e h r = rw (← r) h
legal_run d (did x l) e h r = legal_run (after x.step d) l e (legal_after d x.step h r.0.fit) r.1
legal_run d (undone k l) e h r = legal_run d l e h r.1
