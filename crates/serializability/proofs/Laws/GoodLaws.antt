-- Short laws of logs by levels, their locks, and the state that is kept against them.
use Rattle.std.specs.Prelude.{ℕ, zero, suc, ◌≡◌, refl, Bool, true, false}
use Rattle.std.proofs.Common.{sym, ap, ◌∙◌, true≢false, ⊎_elim}
use Rattle.std.proofs.Math.Path.{fun_ext}
use Rattle.std.proofs.Math.Bool.{and-true}
use mathlib.Core.List.Memᴰ
use mathlib.Core.List.{List, [], Memᴰ}
use Rattle.tree.specs.Lists.{has}
use Rattle.tree.specs.Document.{Document}
use Rattle.locks.specs.Needs.{Lock}
use Rattle.locks.proofs.Laws.Compatible.{Compatible}
use Rattle.protocol.specs.State.{Header, State, Tree, Levels, all_of, document_of, with_header}
use Rattle.serializability.proofs.Laws.Tests.{affirmed}
use Rattle.serializability.proofs.Laws.Parts.{Entry, Parts, end, did, undone, Of, here, later, inside, beyond, LevelledLog}
use Rattle.serializability.proofs.Laws.Parts.{first_levels, Extent, below, all, log_within, Proper}
use Rattle.serializability.proofs.Laws.Runs.{not_of_end, of_then_cases}
use Rattle.serializability.proofs.Laws.Orders.{Distinct}
use Rattle.serializability.proofs.Laws.Serial.{Serial}
use Rattle.serializability.proofs.Laws.Marks.{Within}
use Rattle.serializability.proofs.Laws.Good.{locks_of, whole, holds, Brought, shown_of, Good}

-- locks ----------------------------------------------------------------------------------------

pub in_locks_of : (l : Parts) (x : Entry) → Of x l → Within x.held (locks_of l)
in_locks_of end x m k i = elim m [ ]
in_locks_of (did y l) x (here e) k i = Memᴰ.append_left {s = y.held} (locks_of l) (rw e at i)
in_locks_of (did y l) x (later m) k i = Memᴰ.append_right y.held (in_locks_of l x m k i)
in_locks_of (undone j l) x (inside m) k i = Memᴰ.append_left {s = locks_of j} (locks_of l) (in_locks_of j x m k i)
in_locks_of (undone j l) x (beyond m) k i = Memᴰ.append_right (locks_of j) (in_locks_of l x m k i)

-- whose a lock is
pub lock_entry : (l : Parts) (k : Lock) → Memᴰ k (locks_of l) → (x : Entry) × Of x l × Memᴰ k x.held
lock_entry end k i = absurd (Memᴰ.not-nil i)
lock_entry (did y l) k i = ⊎_elim (λ j. (y, here refl, j)) (λ j. let a = lock_entry l k j in (a.0, later a.1, a.2))
    (Memᴰ.append_cases y.held i)
lock_entry (undone j l) k i = ⊎_elim (λ m. let a = lock_entry j k m in (a.0, inside a.1, a.2))
    (λ m. let a = lock_entry l k m in (a.0, beyond a.1, a.2)) (Memᴰ.append_cases (locks_of j) i)

pub brought_as : (log : ℕ → LevelledLog) (depth : ℕ → ℕ) {m n u v : ℕ} → m ≡ n → u ≡ v → Brought log depth n v → Brought log depth m u
brought_as log depth e i b = rw (e, i) b

-- levels ---------------------------------------------------------------------------------------

-- all is shown of every transaction
abbrev pub everything : ℕ → Extent
everything u = all

pub everything_proper : (depth : ℕ → ℕ) (u : ℕ) → Proper (depth u) (everything u)
everything_proper depth u n e = absurd (true≢false (ap is_all e))
  where
    is_all : Extent → Bool
    is_all (below n) = false
    is_all all = true

-- an entry is of some level
pub of_levels : (n : ℕ) (c : LevelledLog) {y : Entry} → Of y (first_levels n c) → (e : ℕ) × Of y (c e)
of_levels zero c i = absurd (not_of_end i)
of_levels (suc n) c i = ⊎_elim (of_levels n c) (λ j. (n, j)) (of_then_cases (first_levels n c) (c n) i)

-- so much of a log with nothing in it
no_levels : (n : ℕ) (c : LevelledLog) → ((e : ℕ) → c e ≡ end) → first_levels n c ≡ end
no_levels zero c h = refl
no_levels (suc n) c h = rw (no_levels n c h, h n)

pub no_log : (x : Extent) (d : ℕ) (c : LevelledLog) → ((e : ℕ) → c e ≡ end) → log_within x d c ≡ end
no_log (below n) d c h = no_levels n c h
no_log all d c h = no_levels (suc d) c h

pub document_same : (S S' : Levels) (f : Tree) → ((u l : ℕ) → S u l ≡ S' u l) → document_of S f ≡ document_of S' f
document_same S S' f h = ap (λ (X : Levels). document_of X f) (fun_ext (λ u. fun_ext (h u)))

-- the state ------------------------------------------------------------------------------------

module _ {c : Document} {log : ℕ → LevelledLog} {M : State} (g : Good c log M) where
  -- whoever has a log is open
  pub log_open : (u : ℕ) {y : Entry} → Of y (whole log M.header.depth u) → M.header.is_open u ≡ true
  log_open u i = affirmed _ (λ e.
      let a = of_levels (suc (M.header.depth u)) (log u) i in
      not_of_end (rw (g.closed u e a.0) at a.1))

  -- of the header, logs and documents look at nothing but who is open and how many parts are
  pub good_header : (h : Header) → ((u : ℕ) → h.is_open u ≡ M.header.is_open u) → h.depth ≡ M.header.depth
      → Good c log (with_header h M)
  good_header h e d = record {
    closed = λ u i. g.closed u (sym (e u) ∙ i);
    deeper = rw d g.deeper;
    no_parts = λ u i. rw d (g.no_parts u (sym (e u) ∙ i));
    numbered = λ u i. g.numbered u (sym (e u) ∙ i);
    covered = rw d g.covered;
    standing = rw d g.standing;
    brought = rw d g.brought;
    levels = rw d g.levels;
    touched = rw d g.touched;
    serial = rw d g.serial;
  }

  -- the transactions b, with all that they did
  pub serial_all : (b : List ℕ) → Distinct b → Serial c b (whole log M.header.depth) (document_of (all_of (λ u. has u b)) M.tree)
  serial_all b n = rw (← document_same (shown_of everything b) (all_of (λ u. has u b)) M.tree (λ u l. and-true (has u b)))
      (g.serial everything (everything_proper M.header.depth) b n)

  -- the locks of two transactions are compatible
  pub logs_compatible : (u v : ℕ) → (u ≡ v → ⊥) → Compatible (holds log M.header.depth u) (holds log M.header.depth v)
  logs_compatible u v ne q a b i j =
      let x = lock_entry (whole log M.header.depth u) (q, a) i in
      let y = lock_entry (whole log M.header.depth v) (q, b) j in
      (serial_all [] refl).apart.clear u v ne x.0 y.0 x.1 y.1 q a b x.2 y.2
