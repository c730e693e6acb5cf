-- A.6: in every state that is reached no ring of waits is remembered, and while any transaction is open, one of them waits for nobody.
use Rattle.std.specs.Prelude.{ℕ, ◌≡◌, refl, true, false, not, ◌⊎◌, eqb}
use Rattle.std.proofs.Common.{sym, ◌∙◌, true≢false, inl, inr, ⊎_elim, eqb-true}
use Rattle.std.proofs.lemmas.Bool.{false≢true}
use mathlib.Core.List.Memᴰ
use mathlib.Core.List.{List, [], ◌∷◌, Memᴰ}
use Rattle.tree.specs.Laws.Tests.{and_left, and_right, refuted}
use Rattle.tree.specs.Document.{node_0_alone}
use Rattle.locks.specs.Needs.{Lock}
use Rattle.protocol.specs.State.{WaitSets, Header, State, is_transaction, transactions, start_header, start_state, in_set, with_set}
use Rattle.protocol.specs.State.{with_commits, with_depth, remembering, ended, next_count}
use Rattle.protocol.specs.Rings.{AmongOpen, waits_within}
use Rattle.protocol.specs.Calls.{Call, next, blocks, wait_set, closes_ring}
use Rattle.protocol.specs.History.{Log, new_log, state_after}
use Rattle.protocol.proofs.Laws.WaitSets.{among_start, among_begun, among_ended, among_set, among_forgetting}
use Rattle.serializability.specs.Theorem.{WaitPath, waits_for, waits_then, AmongTransactions, NoDeadlock, reached}
use Rattle.serializability.proofs.Laws.Tests.{by_test}
use Rattle.serializability.proofs.Laws.WaitSet.{sum_bit, transaction_in}
use Rattle.serializability.proofs.Laws.Outcomes.{every_call}
use Rattle.serializability.proofs.Laws.Parts.{Entry}
use Rattle.serializability.proofs.Laws.Tracks.{Tracks}
use Rattle.serializability.proofs.Laws.Tracking.{calls_track, start_tracks}
use Rattle.serializability.proofs.Laws.AnyOrder.{reached_tracks}
use Rattle.serializability.proofs.Laws.Rings.{path_append, last_wait, first_wait, wider_path, found_path, path_found}
use Rattle.serializability.proofs.Laws.RingTest.{ring_test}

-- the set of t becomes another ---------------------------------------------------------------

-- s has the sets of r but for that of t
module _ {r s : WaitSets} (t : ℕ) (f : (v u : ℕ) → eqb v t ≡ false → s v u ≡ true → r v u ≡ true) where
  -- t is on the path from v to u: whoever leads to v leads to t, and t leads to u
  abbrev Through : ℕ → ℕ → Type 0
  Through v u = ((x : ℕ) → WaitPath s x v → WaitPath s x t) × WaitPath s t u

  from_t : {v u : ℕ} → eqb v t ≡ true → WaitPath s v u → Through v u
  from_t {v} {u} e p = let i = eqb-true v t e in (λ x q. rw i at q, rw i at p)

  -- a path is one of r, or goes through t
  through_t : {v u : ℕ} → WaitPath s v u → WaitPath r v u ⊎ Through v u
  through_t {v} {u} (waits_for e) = by_test (eqb v t) (λ i. inr (from_t i (waits_for e))) (λ i. inl (waits_for (f v u i e)))
  through_t {v} {u} (waits_then {v = w} e p) = by_test (eqb v t) (λ i. inr (from_t i (waits_then e p))) (λ i. ⊎_elim
      (λ q. inl (waits_then (f v w i e) q)) (λ q. inr (λ x y. q.0 x (path_append y (waits_for e)), q.1)) (through_t p))

  -- where t is in no ring, all rings are of r
  old_ring : (WaitPath s t t → ⊥) → (v : ℕ) → WaitPath s v v → WaitPath r v v
  old_ring n v p = ⊎_elim (λ q. q) (λ q. absurd (n (q.0 t q.1))) (through_t p)

-- every call ---------------------------------------------------------------------------------

-- only open transactions wait, only for open ones, and there is no ring
record Ringless (h : Header) : Type 0 where
  among : AmongOpen h
  no_ring : (t : ℕ) → WaitPath h.remembered t t → ⊥

start_ringless : Ringless start_header
start_ringless = record { among = among_start; no_ring = λ t p. false≢true (first_wait p).1 }

-- how many commits there were plays no part
recounted : {h : Header} (n : ℕ) → Ringless h → Ringless (with_commits n h)
recounted n k = record { among = k.among; no_ring = k.no_ring }

-- nor how many parts are open
deepened : {h : Header} (t d : ℕ) → Ringless h → Ringless (with_depth t d h)
deepened t d k = record { among = k.among; no_ring = k.no_ring }

-- where only transactions are open
numbered_waits : (h : Header) → ((u : ℕ) → h.is_open u ≡ true → is_transaction u ≡ true) → AmongOpen h → AmongTransactions h.remembered
numbered_waits h n a t u e = let x = a t u e in (n t x.0, n u x.1)

-- a wait set has open transactions alone
waits_open : (t : ℕ) (ls : List Lock) (M : State) (u : ℕ) → in_set (wait_set t ls M) u ≡ true → M.header.is_open u ≡ true
unfolding wait_set
waits_open t ls M u = by_test (is_transaction u)
    (λ i e. and_left _ _ (and_left _ _ (sym (sum_bit (blocks t ls M) u i) ∙ rw i at e))) (λ i e. absurd (false≢true (rw i at e)))

module _ (M : State) (numbered : (u : ℕ) → M.header.is_open u ≡ true → is_transaction u ≡ true) (k : Ringless M.header) where
  -- fewer waits
  fewer : (r : WaitSets) → ((t u : ℕ) → r t u ≡ true → M.header.remembered t u ≡ true) → (t : ℕ) → WaitPath r t t → ⊥
  fewer r f t p = k.no_ring t (wider_path f p)

  -- a wait that closes no ring
  wait_ringless : (t : ℕ) (ls : List Lock) → M.header.is_open t ≡ true → let w = wait_set t ls M in
      closes_ring t w M ≡ false → eqb w 0 ≡ false → Ringless (remembering t (in_set w) M).header
  wait_ringless t ls o c z = record { among = a; no_ring = λ v p. k.no_ring v (old_ring t others none v p) }
    where
      w : ℕ
      w = wait_set t ls M

      r : WaitSets
      r = with_set t (in_set w) M.header.remembered

      a : AmongOpen (remembering t (in_set w) M).header
      a = among_set M.header k.among t (in_set w) (λ u e. (o, waits_open t ls M u e))

      others : (v u : ℕ) → eqb v t ≡ false → r v u ≡ true → M.header.remembered v u ≡ true
      others v u i e = rw i at e

      none : WaitPath r t t → ⊥
      none p = true≢false (sym ((ring_test r (numbered_waits (remembering t (in_set w) M).header numbered a) t).1 p) ∙ rw z at c)

  call_ringless : (c : Call) → Ringless (next c M).state.header
  call_ringless = every_call (λ c n. Ringless n.state.header) M (record {
    refusal = λ c n i. k;
    at_start = start_ringless;
    at_unread = λ c i. k;
    at_load = λ d h o. recounted 0 k;
    at_begin = λ t h o. record { among = among_begun M.header k.among t; no_ring = k.no_ring };
    at_commit = λ t h o l. recounted (next_count M) (ended_ringless t);
    at_abort = λ t h o. ended_ringless t;
    at_wait = λ t s room h o. wait_ringless t _ o;
    at_step = λ t s room h o p. record { among = among_forgetting M.header k.among t; no_ring = fewer _ (forgets t) };
    at_write = k;
    at_count = λ n h. k;
    at_open_part = λ t h o l. deepened t _ k;
    at_close_part = λ t h o l. deepened t _ k;
    at_undo_part = λ t h o l. deepened t _ k;
  })
    where
      ended_ringless : (t : ℕ) → Ringless (ended t M.header)
      ended_ringless t = record {
        among = among_ended M.header k.among t;
        no_ring = fewer _ (λ v u e. and_right (not (eqb u t)) _ (and_right (not (eqb v t)) _ e));
      }

      forgets : (t v u : ℕ) → with_set t (λ x. false) M.header.remembered v u ≡ true → M.header.remembered v u ≡ true
      forgets t v u = by_test (eqb v t) (λ i e. absurd (false≢true (rw i at e))) (λ i e. rw i at e)

calls_ringless : (L : Log Entry) (M : State) → Tracks L M → Ringless M.header → (cs : List Call) → Ringless (state_after M cs).header
unfolding state_after
calls_ringless L M tr k [] = k
calls_ringless L M tr k (c ∷ cs) =
    let x = calls_track L M tr (c ∷ []) in
    calls_ringless x.log (next c M).state x.tracks (call_ringless M tr.good.numbered k c) cs

reached_ringless : (cs : List Call) → Ringless (reached cs).header
unfolding state_after next
reached_ringless cs = calls_ringless (new_log node_0_alone) start_state start_tracks start_ringless cs

-- one that waits for nobody ------------------------------------------------------------------

module _ (r : WaitSets) (h : AmongTransactions r) (none : (t : ℕ) → WaitPath r t t → ⊥) where
  -- m is u, or waits for it over others
  abbrev Leads : ℕ → ℕ → Type 0
  Leads m u = (m ≡ u) ⊎ WaitPath r m u

  leads_on : {m u v : ℕ} → Leads m u → WaitPath r u v → WaitPath r m v
  leads_on l q = ⊎_elim (λ e. rw e q) (λ p. path_append p q) l

  -- m leads to one that leads to none of xs: where m leads to x, one that x leads to, from which, without a ring, none leads back to x
  last_of : (xs : List ℕ) (m : ℕ) → (u : ℕ) × Leads m u × ((v : ℕ) → Memᴰ v xs → WaitPath r u v → ⊥)
  last_of [] m = (m, inl refl, λ v i. absurd (Memᴰ.not-nil i))
  last_of (x ∷ xs) m = by_test (waits_within 16 r m x)
      (λ e. let p = found_path r 16 m x e in
      let b = last_of xs x in (
        b.0,
        inr (⊎_elim (λ i. rw i at p) (λ q. path_append p q) b.1),
        λ v i q. ⊎_elim (λ j. none x (leads_on b.1 (rw j at q))) (λ j. b.2 v j q) (Memᴰ.cases_cons i),
      ))
      (λ e. let b = last_of xs m in (
        b.0,
        b.1,
        λ v i q. ⊎_elim (λ j. true≢false (sym (path_found r h m (leads_on b.1 (rw j at q))) ∙ e)) (λ j. b.2 v j q)
            (Memᴰ.cases_cons i),
      ))

  -- t leads to one that waits for nobody
  leads_free : (t : ℕ) → (u : ℕ) × Leads t u × ((v : ℕ) → r u v ≡ false)
  leads_free t =
      let b = last_of transactions t in
      (b.0, b.1, λ v. refuted _ (λ e. b.2 v (transaction_in v (h b.0 v e).1) (waits_for e)))

pub no_deadlock : (cs : List Call) → NoDeadlock (reached cs)
no_deadlock cs = record { among_open = k.among; no_ring = k.no_ring; one_free = free }
  where
    h : Header
    h = (reached cs).header

    k : Ringless h
    k = reached_ringless cs

    free : (t : ℕ) → h.is_open t ≡ true → (u : ℕ) × (h.is_open u ≡ true) × ((v : ℕ) → h.remembered u v ≡ false)
    free t o =
        let b = leads_free h.remembered (numbered_waits h (reached_tracks cs).good.numbered k.among) k.no_ring t in
        (b.0, ⊎_elim (λ e. rw (← e) o) (λ p. (k.among _ _ (last_wait p).1).1) b.1, b.2)
