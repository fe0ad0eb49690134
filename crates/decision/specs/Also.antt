-- A refusal of the host's own interface: a fault that document 01's arguments cannot show. It is given where the step refuses nothing.
use Rattle.std.specs.Prelude.{ℕ, Option, None, Some, cond, eqb}
use Rattle.event.specs.declared.Input.{Input}
use Rattle.record.specs.Limits.{limits}
use Rattle.record.specs.declared.Connection.{Connection}
use Rattle.protocol.specs.Refusal.{refusal}
use Rattle.protocol.specs.Step.{decided, unchanged}
use Rattle.protocol.specs.declared.Answer.TheVariants.{Refused}
use Rattle.protocol.specs.declared.Outcome.{Outcome}

-- The step's outcome, or the refusal of the interface, if there is one.
unfoldable pub decided_also : (also : Option ℕ) → Connection → (code : ℕ) → Input → Outcome
decided_also None connection code input = decided limits connection code input
decided_also (Some number) connection code input =
    cond (eqb (refusal limits connection code input) 0)
    (unchanged (Refused number) connection)
    (decided limits connection code input)
