-- What the caller and the node are judged by, way by way.
use Rattle.std.specs.Prelude.{◌≡◌, refl, ℕ, ◌≤◌, ◌<◌, true, false, List, length}
use Rattle.std.proofs.Common.{sym, ◌∙◌, arith, le-leb}
use Rattle.tree.specs.Document.{here}
use Rattle.tree.specs.Steps.{Step, target}
use Rattle.protocol.specs.State.{State, callers_document}
use Rattle.protocol.specs.Lent.{Room}
use Rattle.protocol.specs.Calls.{step, Next, if_open, judged, next}
use Rattle.table.specs.Layout.{nodes, is_open}
use Rattle.rows.specs.Places.{item, number_of, place_of, seen_at}
use Rattle.rows.proofs.Laws.Find.{found_number}
use Rattle.rows.proofs.Laws.Judgement.{missing, deleted, found, judged_missing, judged_found}
use Rattle.engine.specs.Way.{Climbed}
use Rattle.form.specs.Form.{form, Holds}
use Rattle.form.specs.Laws.Holds.{form_layout, holds_form}
use Rattle.engine.specs.Admission.{Opened, Barred, Caller, Rejected, Standing}
use Rattle.engine.specs.Laws.Outcomes.{not_both}

-- the caller -----------------------------------------------------------------------------

-- a call of an open transaction
pub open_next : {s : List ℕ} {t : ℕ} → Opened s t → (M : State) → Holds s M → (x : Next) → if_open t M x ≡ x
open_next {s} {t} o M h x =
    let e : M.header.is_open t ≡ true = rw (← h.header) o.is_open in
    rw (le-leb 1 t o.low, le-leb t 16 o.high, e)

barring : {s : List ℕ} {t c : ℕ} → (c ≡ 0 → ⊥) → Barred s t c → Caller s t c
barring n b = record { opened = λ e. absurd (n e); barred = λ x. b }

positive : (t : ℕ) → (t ≡ 0 → ⊥) → 1 ≤ t
positive t n = omega arith

module _ {s : List ℕ} {t : ℕ} where
  pub caller_unformed : form s ≡ false → Caller s t 13
  caller_unformed u = barring (λ e. omega arith) (record { unformed = λ x. refl; formed = λ M h x. not_both (holds_form h) u })

  pub caller_open : form s ≡ true → (t ≡ 0 → ⊥) → t ≤ 16 → is_open s t ≡ true → Caller s t 0
  caller_open f low high e = record {
    opened = λ x. record { formed = f; layout = form_layout f; low = positive t low; high = high; is_open = e };
    barred = λ n. absurd (n refl);
  }

-- the node ---------------------------------------------------------------------------------

-- a step of an open transaction
step_judged : {s : List ℕ} {t : ℕ} → Opened s t → (M : State) → Holds s M → (st : Step) (room : Room)
    → next (step t st room) M ≡ judged t st room M (callers_document t M.tree)
unfolding next
step_judged o M h st room = open_next o M h (judged _ st room M (callers_document _ M.tree))

module _ {s : List ℕ} {t n : ℕ} where
  pub admit_barred : {c : ℕ} → Barred s t c → Rejected s t n c
  unfolding next
  admit_barred b =
      record { unformed = b.unformed; formed = λ M h st i room. b.formed M h (judged t st room M (callers_document t M.tree)) }

  module _ (o : Opened s t) (p : ℕ) (e : p ≡ place_of n (nodes s)) where
    -- the caller sees no node n
    unseen : ((M : State) → Holds s M → (st : Step) → target st ≡ n → here (target st) (callers_document t M.tree) ≡ false)
        → Rejected s t n 7
    unseen f = record {
      unformed = λ x. not_both o.formed x;
      formed = λ M h st i room. step_judged o M h st room ∙ judged_missing t st room M (f M h st i);
    }

    pub admit_missing : length (nodes s) ≤ p → Rejected s t n 7
    admit_missing k = unseen (λ M h st i. missing (nodes s) t st M h.rows (rw (i, ← e) k))

    module _ (k : p < length (nodes s)) where
      at : number_of (item (nodes s) p) ≡ n
      at = rw e (found_number n (nodes s) (rw e at k))

      pub admit_deleted : seen_at t (nodes s) p ≡ false → Rejected s t n 7
      admit_deleted z = unseen (λ M h st i. deleted (nodes s) t st M h.rows h.unique p k (at ∙ sym i) z)

      pub admit_found : {way : List ℕ} → seen_at t (nodes s) p ≡ true → Climbed (nodes s) p way
          → Standing s t n (record { t = t; place = p; way = way })
      admit_found z c = record {
        formed = o.formed;
        layout = o.layout;
        same = refl;
        low = o.low;
        high = o.high;
        is_open = o.is_open;
        inside = k;
        number = at;
        seen = z;
        climbed = c;
        next = λ M h st i room. step_judged o M h st room
            ∙ judged_found (nodes s) t st room M p (found (nodes s) t st M h.rows h.unique p k (at ∙ sym i) z);
      }
