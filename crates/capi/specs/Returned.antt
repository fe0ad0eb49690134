-- What a host in C gets for a call.
use Rattle.std.specs.Prelude.{ℕ, List}
use Rattle.connection.specs.Also.{result_also}
use Rattle.record.specs.Numbers.{record_in}
use Rattle.protocol.specs.Sheet.{slots_of}
use Rattle.event.specs.Call.{call_of}
use Rattle.record.specs.declared.Connection.{Connection}
use Rattle.protocol.specs.Step.{Result}
use Rattle.interface.specs.Answer.{answer_number}
use Rattle.interface.specs.Event.{event_of}
use Rattle.interface.specs.Verdict.{refused_as}
use Rattle.interface.specs.declared.FlatEvent.{FlatEvent}

-- The answer as a number, the record that the twelve numbers are, the sixteen slots of the order sheet, the cache, and the payload part.
pub record Returned : Type 0 where
  pub answer : ℕ
  pub connection : Connection
  pub actions : List ℕ
  pub cache : List ℕ
  pub part : List ℕ

-- A result as it is returned.
abbrev pub returned_of : Result → Returned
returned_of result = record {
  answer = answer_number result.outcome.answer;
  connection = result.outcome.connection;
  actions = slots_of result.outcome.actions;
  cache = result.cache;
  part = result.part;
}

-- What a call returns, by the arguments of `menhotrac_step`: the step's result; where the step refuses nothing, a wrong verdict is refused.
unfoldable pub returned : (connection : List ℕ) → FlatEvent → (payload cache our_verifiers peer_provers peer_verifiers our_provers : List ℕ) → Returned
returned connection flat payload cache our_verifiers peer_provers peer_verifiers our_provers =
    returned_of (result_also (refused_as flat) (record_in connection) (call_of (event_of flat) payload our_verifiers peer_provers peer_verifiers our_provers) cache)
