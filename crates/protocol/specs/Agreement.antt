-- Document 01, demand 3 and "The five notes": after every call of any list, the step agrees with the history.
use Rattle.std.specs.Prelude.{ℕ, ◌≡◌, Bool, true, false, ◌&&◌, ◌||◌, cond, List, [], ◌∷◌, T, eqb, length}
use Rattle.std.proofs.Math.Option.{Option, none, some}
use Rattle.event.specs.Call.{Call}
use Rattle.record.specs.Limits.{Limits}
use Rattle.record.specs.WellFormed.{fresh}
use Rattle.table.specs.Sets.{is_in}
use Rattle.protocol.specs.Along.{Along}
use Rattle.protocol.specs.History.{History, first, answer_to, history_after, state_of}
use Rattle.protocol.specs.Notes.{attested}
use Rattle.protocol.specs.Orders as order
use Rattle.protocol.specs.Run.{results_of}
use Rattle.protocol.specs.Step.{Result}
use Rattle.protocol.specs.declared.Answer.{Answer}
use Rattle.protocol.specs.declared.Answer.TheVariants.{Handled, Ignored, Refused}

-- A block and its bit, as DATA carries them.
pub record Block : Type 0 where
  pub bit : ℕ
  pub bytes : List ℕ

-- A block of a bit and bytes.
abbrev pub block : (bit : ℕ) (bytes : List ℕ) → Block
block bit bytes = record { bit = bit; bytes = bytes }

-- A value just where a test holds.
abbrev pub when : {A : Type 0} → Bool → A → Option A
when true value = some value
when false value = none

-- Whether an answer is that the call was handled.
abbrev pub is_handled : Answer → Bool
is_handled Handled = true
is_handled Ignored = false
is_handled (Refused number) = false

-- Whether a call was handled and its code is one of these.
abbrev pub handled_as : (codes : List ℕ) → Answer → Call → Bool
handled_as codes answer call = is_handled answer && is_in codes call.event.code

-- The DATA that a result orders: its bit, and the payload part.
abbrev pub data_of : Result → Option Block
data_of result = when (eqb result.outcome.actions.message order.DATA) (block result.outcome.actions.bit result.part)

-- The bit of the ACK that it orders.
abbrev pub ack_of : Result → Option ℕ
ack_of result = when (eqb result.outcome.actions.message order.ACK) result.outcome.actions.bit

-- The bytes that it delivers: the payload part.
abbrev pub delivered_of : Result → Option (List ℕ)
delivered_of result = when result.outcome.actions.deliver result.part

-- Whether it orders DATA or delivers a block.
abbrev pub moves_data : Result → Bool
moves_data result = eqb result.outcome.actions.message order.DATA || result.outcome.actions.deliver

-- The block last accepted at or before a call, given the one before it: a handled event 2 accepts its payload, with the bit of its DATA.
abbrev pub accepted_after : Option Block → Call → Result → Option Block
accepted_after accepted call result =
    cond (handled_as (2 ∷ []) result.outcome.answer call) (some (block result.outcome.actions.bit call.payload)) accepted

-- A call and its result agree with the history: the one before the call and the one after it, and the block last accepted at or before it.
pub record Agrees (answer : Answer) (before after : History) (accepted : Option Block) (call : Call) (result : Result) : Type 0 where
  -- The call was handled, ignored or refused just as the history has it, with that number.
  pub answered : result.outcome.answer ≡ answer
  -- The state is the one read off the notes.
  pub state : result.outcome.connection.state ≡ state_of after.notes
  -- The number is how many events have been counted.
  pub number : result.outcome.connection.handled ≡ after.count
  -- Just a handled 2 or 23 orders DATA, with the next-send bit and the block's bytes as payload part.
  pub data_ordered : data_of result ≡ when (handled_as (2 ∷ 23 ∷ []) answer call) (block after.next_send after.block)
  -- Just a handled 18 orders ACK, with its bit.
  pub ack_ordered : ack_of result ≡ when (handled_as (18 ∷ []) answer call) call.event.bit
  -- Just a handled 18 delivers, with its payload as the part.
  pub delivered : delivered_of result ≡ when (handled_as (18 ∷ []) answer call) call.payload
  -- Data moves only while the token is current and both runs are good, before the call and after it.
  pub guarded : T (moves_data result) → T (attested before.notes) × T (attested after.notes)
  -- Every DATA carries the bytes and the bit of the block last accepted.
  pub last_accepted : (sent : Block) → data_of result ≡ some sent → accepted ≡ some sent

-- What calls have led to: the history, and the block last accepted.
pub record Past : Type 0 where
  pub history : History
  pub accepted : Option Block

-- Before the first call.
abbrev pub no_past : Past
no_past = record { history = first; accepted = none }

-- After a call, given what led to it.
abbrev pub past_after : Limits → (cache_length : ℕ) → Past → Call → Result → Past
past_after limits cache_length past call result = record {
  history = history_after limits cache_length past.history call;
  accepted = accepted_after past.accepted call result;
}

-- A call and its result agree with what led to the call.
abbrev pub AgreesWith : Limits → (cache_length : ℕ) → Past → Call → Result → Type 0
AgreesWith limits cache_length past call result =
    let after = past_after limits cache_length past call result in
    Agrees (answer_to limits cache_length past.history call) past.history after.history after.accepted call result

-- So does every call of a list.
abbrev pub AllAgree : Limits → (cache_length : ℕ) → List Call → List Result → Type 0
AllAgree limits cache_length = Along (AgreesWith limits cache_length) (past_after limits cache_length) no_past

-- Demand 3: for any cache and any list of calls from a fresh record, ignored and refused ones included, each call given the record and the
-- cache that the last one left.
abbrev pub Demand3 : Limits → Type 0
Demand3 limits = (cache : List ℕ) (calls : List Call) → AllAgree limits (length cache) calls (results_of limits fresh cache calls)
