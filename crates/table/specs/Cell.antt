-- Document 01, "The published table": the case for each number of a cell. 0 to 9 is the next state, 10 is "7/8", 11 is "-".
use Rattle.std.specs.Prelude.{ℕ, Option, None, Some, cond, eqb}
use Rattle.table.specs.Table.{branch, ignored}
use Rattle.table.specs.declared.Cell.{Cell}
use Rattle.table.specs.declared.Cell.TheVariants.{To, Branch, Ignored}

-- A cell.
abbrev pub cell_of : ℕ → Cell
cell_of next = cond (eqb next ignored) Ignored (cond (eqb next branch) Branch (To next))

-- What follows, once the 7/8 branch is decided.
abbrev pub following : ℕ → Option ℕ
following next = cond (eqb next ignored) None (Some next)
