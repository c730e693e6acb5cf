-- A call is refused by one of the causes alone; every request makes one call.
use Rattle.std.specs.Prelude.{◌≡◌, refl, ℕ, true, List}
use Rattle.std.proofs.Common.{ap}
use Rattle.tree.specs.Lists.{has}
use Rattle.protocol.specs.State.{State}
use Rattle.protocol.specs.Lent.{Room}
use Rattle.protocol.specs.Causes.{causes}
use Rattle.protocol.specs.Calls.{Call, load, unreadable, next}
use Rattle.serializability.proofs.Laws.Outcomes.{every_call}
use Rattle.xml.specs.Reading.{Fault, wrong_byte, too_soon, too_long, long_content, many_nodes}
use Rattle.xml.specs.Reading as reading
use Rattle.xml.proofs.Laws.Readings as readings
use Rattle.traces.specs.Exchange.{Request}
use Rattle.traces.specs.Contract.{Makes, makes_start, makes_load, makes_write, makes_begin, makes_commit, makes_abort, makes_step}
use Rattle.traces.specs.Contract.{makes_count}
use Rattle.traces.proofs.Laws.Codes.{listed}

-- the one call of a request -------------------------------------------------------------

module _ (room : Room) where
  pub makes_one : (q : Request) → (c : Call) × Makes room q c
  makes_one Request.start = (_, makes_start)
  makes_one (Request.load x) = let r = readings.reading x in (load r.0, makes_load r.1)
  makes_one Request.write = (_, makes_write)
  makes_one (Request.begin t) = (_, makes_begin)
  makes_one (Request.commit t) = (_, makes_commit)
  makes_one (Request.abort t) = (_, makes_abort)
  makes_one (Request.step t s) = (_, makes_step)
  makes_one (Request.count_of n) = (_, makes_count)

  pub makes_only : {q : Request} {c d : Call} → Makes room q c → Makes room q d → c ≡ d
  makes_only makes_start makes_start = refl
  makes_only (makes_load h) (makes_load k) = ap load (readings.one_reading h k)
  makes_only makes_write makes_write = refl
  makes_only makes_begin makes_begin = refl
  makes_only makes_commit makes_commit = refl
  makes_only makes_abort makes_abort = refl
  makes_only makes_step makes_step = refl
  makes_only makes_count makes_count = refl

-- causes --------------------------------------------------------------------------------

fault_listed : {s : List ℕ} {c i : ℕ} → Fault s c i → has c causes ≡ true
fault_listed (wrong_byte h a b) = refl
fault_listed (too_soon a b) = refl
fault_listed (too_long h) = refl
fault_listed (long_content h) = refl
fault_listed (many_nodes h) = refl

unread_listed : {room : Room} {q : Request} {c i : ℕ} → Makes room q (load (unreadable c i)) → has c causes ≡ true
unread_listed (makes_load (reading.refused f g)) = fault_listed f

pub all_listed : {room : Room} {q : Request} {c : Call} → Makes room q c → (M : State) → listed (next c M).outcome ≡ true
all_listed {room} {q} {c} m M = every_call (λ c n. Makes room q c → listed n.outcome ≡ true) M (record {
  refusal = λ c cause h m. h;
  at_start = λ m. refl;
  at_unread = λ c i m. unread_listed m;
  at_load = λ d h w m. refl;
  at_begin = λ t i o m. refl;
  at_commit = λ t i o l m. refl;
  at_abort = λ t i o m. refl;
  at_wait = λ t s room i o r z m. refl;
  at_step = λ t s room i o p m. refl;
  at_write = λ m. refl;
  at_count = λ n h m. refl;
  at_open_part = λ t i o l m. refl;
  at_close_part = λ t i o l m. refl;
  at_undo_part = λ t i o l m. refl;
}) c m
