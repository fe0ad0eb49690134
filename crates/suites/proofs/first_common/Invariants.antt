-- What is left of each list finds what the whole list finds.
use Rattle.std.proofs.Common.{◌≡◌, ◌*◌, length, drop}
use Rattle.suites.specs.Choice.{first_found, found_in}
use Rattle.suites.proofs.first_common.Given as goal

abbrev pub invariant-loop-group : goal.invariant-loop-group
invariant-loop-group l = record { none_yet : l.place ≡ length l.verifiers; same : found_in l.provers l.suite ≡ found_in (drop (l.group-index * 8) l.provers) l.suite }

abbrev pub invariant-loop-prover : goal.invariant-loop-prover
invariant-loop-prover l = record { none_yet : l.place ≡ length l.verifiers; same : found_in l.provers l.suite ≡ found_in (drop l.prover-index l.rest) l.suite }

abbrev pub invariant-search : goal.invariant-search
invariant-search l = record { none_yet : l.place ≡ length l.verifiers; same : first_found l.verifiers l.provers ≡ first_found (drop l.i l.verifiers) l.provers }
