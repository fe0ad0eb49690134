-- `table::when_held` meets its contract: beyond the last state that acts every event is ignored.
use Rattle.std.proofs.Common.{ap, arith}
use Rattle.table.specs.Cell.{cell_of}
use Rattle.table.proofs.Cells.{locked}
use Rattle.table.proofs.when_held.Goals as goal

pub returns-in_default : goal.returns-in_default
returns-in_default c = ap cell_of (locked _ _ (omega arith))
