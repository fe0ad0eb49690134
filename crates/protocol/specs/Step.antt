-- Document 01, "Refusal numbers" and "What the contracts must say": what the host gets for a call.
use Rattle.std.specs.Prelude.{ℕ, cond, List, eqb, length}
use Rattle.table.specs.Table.{ignored}
use Rattle.protocol.specs.Condition.{next_state}
use Rattle.record.specs.Limits.{Limits}
use Rattle.event.specs.Call.{Call, input_of}
use Rattle.protocol.specs.Refusal.{refusal}
use Rattle.protocol.specs.Advance.{advance}
use Rattle.protocol.specs.Actions.{no_actions, actions_of}
use Rattle.protocol.specs.Block.{stored, part_of}
use Rattle.protocol.specs.declared.Answer.{Answer}
use Rattle.protocol.specs.declared.Answer.TheVariants.{Handled, Ignored, Refused}
use Rattle.record.specs.declared.Connection.{Connection}
use Rattle.protocol.specs.declared.Outcome.{Outcome}
use Rattle.event.specs.declared.Input.{Input}

-- The paper's number for each answer: that of the refusal, 0 where there is none.
abbrev pub refusal_number : Answer → ℕ
refusal_number Handled = 0
refusal_number Ignored = 0
refusal_number (Refused number) = number

-- A refused or ignored call: the same record and the empty sheet.
abbrev pub unchanged : Answer → Connection → Outcome
unchanged answer connection = record { answer = answer; connection = connection; actions = no_actions }

-- A handled event that leads to a state.
abbrev pub handled_to : (to : ℕ) → Connection → (code : ℕ) → Input → Outcome
handled_to to connection code input = record {
  answer = Handled;
  connection = advance connection code input to;
  actions = actions_of connection code input to;
}

-- Refused with the refusal's number, else ignored where the table says so, else handled.
abbrev pub decided_by : (number to : ℕ) → Connection → (code : ℕ) → Input → Outcome
decided_by number to connection code input =
    cond (eqb number 0)
    (cond (eqb to ignored) (unchanged Ignored connection) (handled_to to connection code input))
    (unchanged (Refused number) connection)

-- The outcome, by the refusal and the state that follows.
unfoldable pub decided : Limits → Connection → (code : ℕ) → Input → Outcome
decided limits connection code input =
    decided_by (refusal limits connection code input) (next_state connection code input) connection code input

-- The outcome of a call. Of the cache it reads the length alone.
abbrev pub step_of : Limits → Connection → Call → (cache_length : ℕ) → Outcome
step_of limits connection call cache_length =
    decided limits connection call.event.code (input_of limits call cache_length)

-- The refusal of a call, 0 for none.
abbrev pub refusal_of : Limits → Connection → Call → (cache_length : ℕ) → ℕ
refusal_of limits connection call cache_length =
    refusal limits connection call.event.code (input_of limits call cache_length)

-- Event 2 alone writes the cache, and only if it is handled.
abbrev pub cache_after : Answer → Call → List ℕ → List ℕ
cache_after Handled call cache = cond (eqb call.event.code 2) (stored call.payload cache) cache
cache_after Ignored call cache = cache
cache_after (Refused number) call cache = cache

-- What the host gets for a call: the outcome, the cache as it is then, and the payload part.
pub record Result : Type 0 where
  pub outcome : Outcome
  pub cache : List ℕ
  pub part : List ℕ

-- The part is one of the payload, or of the cache as it is then.
abbrev pub result_with : Outcome → (payload cache : List ℕ) → Result
result_with outcome payload cache = record { outcome = outcome; cache = cache; part = part_of outcome.actions payload cache }

-- The result of a call, given a record and a cache.
unfoldable pub result_of : Limits → Connection → Call → (cache : List ℕ) → Result
result_of limits connection call cache =
    let outcome = step_of limits connection call (length cache) in
    result_with outcome call.payload (cache_after outcome.answer call cache)
