-- The suites read so far, with those to come, are the list.
use Rattle.std.proofs.Common.{ℕ, ◌≡◌, ◌-◌, ◌≤◌, ◌++◌, List, length}
use Rattle.fault.specs.Fault.{judged}
use Rattle.wire.specs.Layout.{entries_from}
use Rattle.wire.specs.Lists.{of_entries, suites_from, padded}
use Rattle.wire.specs.Bytes.{list_from}
use Rattle.wire.specs.Parts.{listed}
use Rattle.wire.proofs.list.entries.Given as goal

abbrev pub invariant-loop-at : goal.invariant-loop-at
invariant-loop-at l =
    (read : List ℕ)
    × (length read ≡ l.count)
    × (l.count ≤ 16)
    × (l.suites ≡ padded read)
    × (judged (of_entries l.bytes (16 - l.count) (entries_from l.bytes l.at)) (listed (read ++ suites_from l.bytes l.at) (length l.bytes)) ≡ list_from l.bytes l.start)

abbrev pub decreases-loop-at : goal.decreases-loop-at
decreases-loop-at l = length l.bytes - l.at
