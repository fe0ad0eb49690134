-- The step with a refusal of the host's own interface, which is given where the step refuses nothing.
use Rattle.std.specs.Prelude.{ℕ, Option, List, length}
use Rattle.decision.specs.Also.{decided_also}
use Rattle.event.specs.Call.{Call, input_of}
use Rattle.record.specs.Limits.{limits}
use Rattle.record.specs.declared.Connection.{Connection}
use Rattle.protocol.specs.Step.{Result, cache_after, result_with}

-- What the host gets for a call.
unfoldable pub result_also : (also : Option ℕ) → Connection → Call → (cache : List ℕ) → Result
result_also also connection call cache =
    let outcome = decided_also also connection call.event.code (input_of limits call (length cache)) in
    result_with outcome call.payload (cache_after outcome.answer call cache)
