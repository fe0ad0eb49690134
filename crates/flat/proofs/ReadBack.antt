-- An outcome that was written in numbers is read back from them.
-- Assumes nothing.
use mathlib.Core.Path.{◌≡◌, ap, ◌∙◌}
use mathlib.Core.List.{List}
use Prim.Native.Nat.{ℕ}
use Rattle.protocol.specs.declared.Actions.{Actions}
use Rattle.protocol.specs.declared.Answer.{Answer}
use Rattle.protocol.specs.declared.Outcome.{Outcome}
use Rattle.record.specs.declared.Connection.{Connection}
use Rattle.record.specs.Numbers.{record_in}
use Rattle.protocol.proofs.Sheet.{actions_back}
use Rattle.protocol.specs.Sheet.{actions_in}
use Rattle.flat.specs.Written.{Written}

pub back : (o : Outcome) (answer : Answer) (numbers slots : List ℕ) (connection : Connection) (actions : Actions)
    → Written o answer numbers slots
    → connection ≡ record_in numbers
    → actions ≡ actions_in slots
    → ◌≡◌ {A = Outcome} (record { answer = answer; connection = connection; actions = actions }) o
back o answer numbers slots connection actions w e f =
    let c = e ∙ w.record_left in
    let a = f ∙ ap actions_in w.ordered ∙ actions_back o.actions in
    λ i. record { answer = w.answered i; connection = c i; actions = a i }
