-- From what the call leaves to the definition of load.
use Rattle.std.specs.Prelude.{ℕ, ◌-◌, ◌≡◌, Bool, true, false, ◌&&◌, List, leb, length}
use Rattle.std.proofs.Math.Path.{refl}
use Rattle.std.proofs.Common.{sym, ap, ◌∙◌, arith}
use Rattle.tree.specs.Lists.{any}
use Rattle.tree.specs.Document.{Document, node_0_alone, lines, legal}
use Rattle.tree.specs.Steps.{how_many}
use Rattle.tree.specs.Laws.Tests.{and_left}
use Rattle.protocol.specs.State.{State, transactions, tree_of, Header, with_commits, with_document}
use Rattle.protocol.specs.Calls.{node_limit, loadable, Input, unreadable, stands_for, load, refused, refused_at, next}
use Rattle.protocol.specs.Answers.{answer_of, granted_answer}
use Rattle.protocol.specs.declared.Answer.TheVariants.{Count, Refused, RefusedAt}
use Rattle.table.specs.Flat.{flat}
use Rattle.table.specs.Layout.{is_open, header, Left}
use Rattle.rows.proofs.Laws.Kept.{unique_load}
use Rattle.form.specs.Form.{form, Holds}
use Rattle.form.specs.Laws.Steps.{valid_load}
use Rattle.engine.specs.Contract.{Performed}
use Rattle.engine.specs.Laws.Outcomes.{Grants, performed_stays, performed_grants}
use Rattle.xml.specs.Shape.{document}
use Rattle.xml.specs.Reading.{ReadsAs}
use Rattle.xml_filling.specs.Fill.{Begun, Filled}
use Rattle.xml_load.specs.Load.{Stands, Fails, Replaced}

-- the function `replace` ---------------------------------------------------------------------

pub begun : {x s s' : List ℕ} {left : ℕ} {q : Header} → Stands node_limit x left → Left s s' q (flat 0 (tree_of node_0_alone))
    → Begun x s'
begun d k = record { shape = d.shape; spelled = d.spelled; few = d.few; short = d.short; layout = k.layout; alone = k.nodes }

pub replaced : {x s s' s'' : List ℕ} → Left s s' (with_commits 0 (header s)) (flat 0 (tree_of node_0_alone)) → Filled x s' s''
    → Replaced x s s''
replaced k f = record {
  layout = f.layout;
  long = f.same.long ∙ k.long;
  behind = f.same.behind ∙ k.behind;
  header = f.same.header ∙ k.header;
  nodes = f.nodes;
}

-- the function `load` -------------------------------------------------------------------------

legal_of : (d : Document) → loadable node_limit d ≡ true → legal d ≡ true
unfolding loadable
legal_of d h = and_left (legal d) _ (and_left (legal d && leb (length (lines d)) node_limit) _ h)

-- the same calls are open in the state that the bytes hold
asked : {s : List ℕ} {M : State} {b : Bool} → Holds s M → any (is_open s) transactions ≡ b → any M.header.is_open transactions ≡ b
asked h e = ap (λ (q : Header). any q.is_open transactions) (sym h.header) ∙ e

module _ {s : List ℕ} (f : form s ≡ true) where
  pub load_open : any (is_open s) transactions ≡ true → (i : Input) → Performed s s (Refused 15) (load i)
  unfolding next answer_of
  load_open e i =
      performed_stays {o = refused 15} {call = load i} (record { formed = f; next = λ M h. rw (asked h e); quiet = refl }) (Refused 15)
      (λ writing. refl)

  module _ (e : any (is_open s) transactions ≡ false) where
    pub load_failed : {x : List ℕ} (c o : ℕ) → Fails node_limit x c o → (i : Input) → ReadsAs x i → Performed s s (RefusedAt c o) (load i)
    unfolding next answer_of
    load_failed c o d i r =
        rw (d.only i r) (performed_stays {o = refused_at c o} {call = load (unreadable c o)}
        (record { formed = f; next = λ M h. rw (asked h e); quiet = refl }) (RefusedAt c o) (λ writing. refl))

    module _ {x s' : List ℕ} (left : ℕ) (d : Stands node_limit x left) (k : Replaced x s s') where
      abbrev D : Document
      D = document d.shape

      held : {M : State} → Holds s M → Holds s' (with_document D M)
      held {M} h = record {
        layout = k.layout;
        header = k.header ∙ ap (with_commits 0) h.header;
        rows = k.nodes d.shape d.spelled;
        unique = rw (k.nodes d.shape d.spelled) (unique_load D (legal_of D d.fits));
        valid = valid_load D (legal_of D d.fits);
        sets = h.sets;
      }

      counted : node_limit - left ≡ length (lines D)
      counted = omega (arith, d.nodes)

      grants : Grants s s' (how_many (node_limit - left)) (load (stands_for D d.fits))
      unfolding next
      grants = record {
        formed = f;
        outcome = λ M h. rw (asked h e, counted);
        state = λ M h. rw (asked h e) (held h);
        long = k.long;
        behind = k.behind;
      }

      pub load_granted : (i : Input) → ReadsAs x i → Performed s s' (Count (node_limit - left)) (load i)
      unfolding granted_answer
      load_granted i r = rw (d.only i r) (performed_grants grants (Count (node_limit - left)) refl)
