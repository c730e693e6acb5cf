-- A wait that is remembered: which bytes it changes, the state that they hold then, and the ring that it would close.
use Rattle.std.specs.Prelude.{◌≡◌, refl, ℕ, suc, ◌+◌, ◌-◌, ◌≤◌, Bool, true, false, cond, not, ◌&&◌, List, [], ◌∷◌, ◌++◌, length, get_or, set, eqb}
use Rattle.std.proofs.Common.{sym, ap, ap₂, ◌∙◌, arith, get_or-set_same, get_or-set_other, eqb-true}
use Rattle.std.proofs.Math.Path.{fun_ext}
use Rattle.std.proofs.lemmas.Bool.{false≢true, eqb-false}
use Rattle.tree.specs.Steps.{Step}
use Rattle.tree.specs.Laws.Tests.{and_left}
use Rattle.locks.specs.Modes.{bit}
use Rattle.locks.specs.Needs.{Need}
use Rattle.locks.specs.Words.{word}
use Rattle.locks.proofs.Laws.Sets.{word_bit}
use Rattle.protocol.specs.State.{is_transaction, in_set, with_set, Marked, Header, State, set_header, remembering}
use Rattle.protocol.specs.Lent.{Room}
use Rattle.protocol.specs.Calls.{step, waits, held_back, next}
use Rattle.protocol.specs.Answers.{answer_of, lent_after}
use Rattle.protocol.specs.declared.Answer.TheVariants.{Waits}
use Rattle.protocol.proofs.Laws.WaitSets.{among_set}
use Rattle.table.specs.Layout as table
use Rattle.table.specs.Layout.{set_at, is_open, remembered, part, header}
use Rattle.table.specs.Laws.Bytes.{put_word, only_word, part_off, drop_high}
use Rattle.protocol.proofs.Laws.Transactions.{transaction_low, transaction_high, is_transaction_of}
use Rattle.table.specs.Laws.Sets.{remembered_left}
use Rattle.table.specs.Sets.{Gathered}
use Rattle.rows.specs.Found.{blocks_at, wait_word}
use Rattle.form.specs.Form.{Holds}
use Rattle.deadlock.specs.Sets.{sets_of}
use Rattle.engine.specs.Contract.{outside}
use Rattle.engine.specs.Admission.{Site, Standing}
use Rattle.engine.specs.Judgement.{Stopped}
use Rattle.engine.specs.Laws.Outcomes.{not_both}

-- a word stored: all bytes outside of it are as they were
pub outside_word : (s : List ℕ) (k w : ℕ) → outside ((k, 2) ∷ []) (put_word s k w) ≡ outside ((k, 2) ∷ []) s
unfolding part
outside_word s k w =
    let o = only_word s k w in
    ap₂ ◌++◌ (part_off o 0 k (λ x. absurd (omega arith))) (drop_high o (k + 2) (omega arith))

-- only open transactions are waited for
pub waits_for_open : (t : ℕ) (w : Need) (f : ℕ → Bool) (way : List Marked) (u : ℕ) → in_set (wait_word t w f way) u ≡ true → f u ≡ true
unfolding wait_word
waits_for_open t w f way u = go (is_transaction u) refl
  where
    go : (b : Bool) → is_transaction u ≡ b → cond b (bit (word (λ i. blocks_at t w f way (suc i)) 16 0) (u - 1)) false ≡ true → f u ≡ true
    go true p e =
        let low = transaction_low u p in
        let high = transaction_high u p in
        let q : suc (0 + (u - 1)) ≡ u = omega arith in
        let is : bit (word (λ i. blocks_at t w f way (suc i)) 16 0) (u - 1) ≡ blocks_at t w f way (suc (0 + (u - 1))) =
        word_bit (λ i. blocks_at t w f way (suc i)) 16 0 (u - 1) (omega arith) in
        and_left (f u) _ (and_left (f u && not (eqb u t)) _ (ap (blocks_at t w f way) (sym q) ∙ sym is ∙ e))
    go false p e = absurd (false≢true e)

-- the state that the bytes hold where the wait of t for w is remembered
module _ {s : List ℕ} {M : State} (h : Holds s M) (t w : ℕ) (low : 1 ≤ t) (high : t ≤ 16) (o : is_open s t ≡ true)
    (f : (u : ℕ) → in_set w u ≡ true → is_open s u ≡ true) where
  pub waited_holds : Holds (put_word s (set_at t) w) (remembering t (in_set w) M)
  waited_holds =
      let l = remembered_left s (put_word s (set_at t) w) t w refl h.layout low high in
      let is : (u : ℕ) → is_open s u ≡ true → M.header.is_open u ≡ true =
      λ u e. ap (λ (q : Header). q.is_open u) (sym h.header) ∙ e in
      record {
        layout = l.layout;
        header = l.header ∙ ap (set_header t (in_set w)) h.header;
        rows = l.nodes ∙ h.rows;
        unique = rw l.nodes h.unique;
        valid = h.valid;
        sets = among_set M.header h.sets t (in_set w) (λ u e. (is t o, is u (f u e)));
      }

-- a step that waits for the set w, which is then remembered
pub stopped_waits : {s : List ℕ} {t n : ℕ} {a : Site} → Standing s t n a → (w : ℕ) → ((u : ℕ) → in_set w u ≡ true → is_open s u ≡ true)
    → {st : Step} (room : Room)
    → ((M : State) → Holds s M → next (step t st room) M ≡ held_back a.t M (waits w))
    → Stopped s (put_word s (set_at a.t) w) (Waits w) (step t st room)
unfolding answer_of lent_after
stopped_waits {s} {t} {a = a} at w f room e =
    let l = remembered_left s (put_word s (set_at a.t) w) a.t w refl at.layout at.low at.high in
    record {
      performed = record {
        unformed = λ x. not_both at.formed x;
        answer = λ M h writing. rw (e M h);
        state = λ M h. rw (e M h) (waited_holds h a.t w at.low at.high at.is_open f);
        still = λ M h x. rw (e M h, ← at.same) (outside_word s (set_at a.t) w);
        long = l.long;
        behind = l.behind;
      };
      lent = λ lent b. record { unformed = λ x. refl; filled = λ M h. rw (e M h) };
    }

-- the sets with that of t replaced
pub replaced_sets : {s words : List ℕ} (t w : ℕ) → Gathered s words → length words ≡ 16 → 1 ≤ t → t ≤ 16
    → sets_of (set words (t - 1) w) ≡ with_set t (in_set w) (remembered s)
unfolding sets_of remembered
replaced_sets {s} {words} t w g l a b = fun_ext (λ v. go v (eqb v t) refl (is_transaction v) refl)
  where
    go : (v : ℕ) (x : Bool) → eqb v t ≡ x → (y : Bool) → is_transaction v ≡ y →
        (λ u. cond (is_transaction v) (in_set (get_or (set words (t - 1) w) (v - 1) 0) u) false)
        ≡ cond x (in_set w) (λ u. cond (is_transaction v) (in_set (table.word s (set_at v)) u) false)
    go v true p y q = rw (eqb-true v t p, is_transaction_of t a b, get_or-set_same words (t - 1) w 0 (omega arith))
    go v false p true q =
        let ne : v ≡ t → ⊥ = eqb-false v t p in
        let low = transaction_low v q in
        rw (q, get_or-set_other words (t - 1) (v - 1) w 0 (λ z. ne (omega arith)), g.word v low (transaction_high v q))
    go v false p false q = rw q
