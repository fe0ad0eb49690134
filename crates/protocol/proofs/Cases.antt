-- Cases 1 to 12 of document 01 hold.
-- Assumes nothing.
use mathlib.Core.Path.{refl}
use Rattle.token.specs.Answer.{time_left}
use Rattle.token.specs.SecondsLeft.{seconds_left}
use Rattle.suites.specs.Choice.{find, choice}
use Rattle.table.specs.Table.{cell}
use Rattle.protocol.specs.Actions.{actions_of}
use Rattle.protocol.specs.Advance.{advance}
use Rattle.protocol.specs.Block.{part_of}
use Rattle.event.specs.Call.{input_by}
use Rattle.protocol.specs.Cases.{Holds, AllHold, cases}
use Rattle.protocol.specs.Condition.{holds, next_state}
use Rattle.event.specs.Kind.{kind_of}
use Rattle.protocol.specs.Refusal.{refusal}
use Rattle.protocol.specs.Run.{results_of}
use Rattle.protocol.specs.Step.{decided, result_of}
use Rattle.record.specs.WellFormed.{well_formed}

pub worked : AllHold cases
unfolding AllHold Holds results_of result_of decided refusal next_state holds cell advance actions_of part_of input_by kind_of well_formed choice find time_left seconds_left
worked = (refl, (refl, (refl, (refl, (refl, (refl, (refl, (refl, (refl, (refl, (refl, (refl, (refl, (refl, tt))))))))))))))
