-- Document 01, "Refusal numbers", and request #104: the nine faults in their order; those of the arguments are in `Faults`.
use Rattle.std.specs.Prelude.{ℕ, Bool, not, ◌&&◌, List, ◌∷◌, ◌++◌, eqb}
use Rattle.record.specs.Limits.{Limits}
use Rattle.table.specs.Table.{ignored}
use Rattle.protocol.specs.Condition.{next_state}
use Rattle.record.specs.WellFormed.{well_formed}
use Rattle.protocol.specs.Faults.{early_faults, late_faults, first_fault}
use Rattle.record.specs.declared.Connection.{Connection}
use Rattle.event.specs.declared.Input.{Input}

-- Fault 7: the record is not well formed.
abbrev pub ill_formed : Limits → Connection → Bool
ill_formed limits connection = not (well_formed limits connection)

-- Fault 8: the event would be handled, and the number is the largest.
abbrev pub exhausted : Limits → Connection → (code : ℕ) → Input → Bool
exhausted limits connection code input = not (eqb (next_state connection code input) ignored) && eqb connection.handled limits.handled

-- All faults, in their order.
abbrev pub faults : Limits → Connection → (code : ℕ) → Input → List Bool
faults limits connection code input =
    early_faults code input ++ (ill_formed limits connection ∷ exhausted limits connection code input ∷ late_faults input)

-- The lowest number whose fault is present, 0 for none.
unfoldable pub refusal : Limits → Connection → (code : ℕ) → Input → ℕ
refusal limits connection code input = first_fault 1 (faults limits connection code input)
