-- What the exported functions ensure.
use Rattle.std.specs.Prelude.{◌≡◌, ℕ, ◌≤◌, List, length}
use Rattle.tree.specs.Steps.{Step}
use Rattle.protocol.specs.State.{State}
use Rattle.protocol.specs.Lent.{Room, first_lent, second_lent}
use Rattle.protocol.specs.Calls.{Input, Call, start, load, begin, commit, abort, step, write, count_of, open_part, close_part, undo_part}
use Rattle.protocol.specs.Answers.{code_of}
use Rattle.protocol.specs.declared.Answer.{Answer}
use Rattle.table.specs.Layout.{state_size}
use Rattle.form.specs.Form.{Holds}
use Rattle.engine.specs.Contract.{Performed, Lent, rooms_of}
use Rattle.ends.specs.Ends.{Restarted}
use Rattle.xml.specs.Reading.{ReadsAs}
use Rattle.traces.specs.Exchange.{Request, Exchange}
use Rattle.xml_write.specs.Contract.{Written}

-- the call of protocol that a request makes, with this room in its buffers; load's input is what its bytes read as
pub data Makes (room : Room) : Request → Call → Type 0 where
  makes_start : Makes room Request.start start
  makes_load : {x : List ℕ} {i : Input} → ReadsAs x i → Makes room (Request.load x) (load i)
  makes_write : Makes room Request.write write
  makes_begin : {t : ℕ} → Makes room (Request.begin t) (begin t)
  makes_commit : {t : ℕ} → Makes room (Request.commit t) (commit t)
  makes_abort : {t : ℕ} → Makes room (Request.abort t) (abort t)
  makes_step : {t : ℕ} {s : Step} → Makes room (Request.step t s) (step t s room)
  makes_count : {n : ℕ} → Makes room (Request.count_of n) (count_of n)

-- the call that was made
abbrev pub MakesCall : Exchange → Call → Type 0
MakesCall x c = Makes (rooms_of x.first.before x.second.before) x.request c

-- begin, the steps, commit, abort, load and count_of: the answer, the state and the buffers
pub record OnState (x : Exchange) (r : Answer) (c : Call) : Type 0 where
  pub performed : Performed x.state.before x.state.after r c
  pub first : Lent first_lent x.state.before x.first.before x.first.after c
  pub second : Lent second_lent x.state.before x.second.before x.second.after c

-- start has no buffer
pub record Start (x : Exchange) (r : Answer) : Type 0 where
  pub restarted : Restarted x.state.before x.state.after r
  pub first : x.first.after ≡ x.first.before
  pub second : x.second.after ≡ x.second.before

-- write leaves the state as it was, and has one buffer
pub record Write (x : Exchange) (r : Answer) : Type 0 where
  pub written : Written x.state.before x.first.before x.first.after r
  pub state : x.state.after ≡ x.state.before
  pub second : x.second.after ≡ x.second.before

-- count_of leaves the state as it was, granted or refused
pub record CountOf (x : Exchange) (r : Answer) (n : ℕ) : Type 0 where
  pub on_state : OnState x r (count_of n)
  pub state : x.state.after ≡ x.state.before

-- what a call ensures that answers r
unfoldable pub Ensured : Exchange → Answer → Call → Type 0
Ensured x r start = Start x r
Ensured x r write = Write x r
Ensured x r (load i) = OnState x r (load i)
Ensured x r (begin t) = OnState x r (begin t)
Ensured x r (commit t) = OnState x r (commit t)
Ensured x r (abort t) = OnState x r (abort t)
Ensured x r (step t s room) = OnState x r (step t s room)
Ensured x r (count_of n) = CountOf x r n
-- no request makes these yet
Ensured x r (open_part t) = OnState x r (open_part t)
Ensured x r (close_part t) = OnState x r (close_part t)
Ensured x r (undo_part t) = OnState x r (undo_part t)

-- the contract of every exported function: the number is that of an answer, which is what the definitions have for the call
pub record Contract (x : Exchange) : Type 0 where
  pub answer : Answer
  pub code : x.code ≡ code_of answer
  pub ensured : (c : Call) → MakesCall x c → Ensured x answer c

-- every choice -------------------------------------------------------------------------

-- which slot each node has, the order of the free slots and the free bytes of docs/STATE.md are the program's choice at every granted call.
-- What all choices have in common (laws one_answer, one_start): the number, the lent buffers, and the one state that the bytes left hold
pub record OneAnswer (x y : Exchange) : Type 0 where
  pub code : x.code ≡ y.code
  pub first : x.first.after ≡ y.first.after
  pub second : x.second.after ≡ y.second.after
  pub left : State
  pub left_by_x : Holds x.state.after left
  pub left_by_y : Holds y.state.after left

-- of one request, on bytes that hold one state, with the same bytes in the buffers
abbrev pub EveryChoice : Type 0
EveryChoice = (x y : Exchange) (M : State) → Contract x → Contract y → x.request ≡ y.request
    → Holds x.state.before M → Holds y.state.before M
    → x.first.before ≡ y.first.before → x.second.before ≡ y.second.before → OneAnswer x y

-- a start needs no state before it, only bytes enough: with fewer it is refused by 13 (`short` in Restarted)
abbrev pub EveryStart : Type 0
EveryStart = (x y : Exchange) → Contract x → Contract y → x.request ≡ Request.start → y.request ≡ Request.start
    → state_size ≤ length x.state.before → state_size ≤ length y.state.before
    → x.first.before ≡ y.first.before → x.second.before ≡ y.second.before → OneAnswer x y
