use Rattle.std.proofs.Common.{sym, ◌∙◌}
use Rattle.fault.proofs.Passed.{passed_on}
use Rattle.wire.proofs.Lists.{none_taken, packed_faulty, packed_list}
use Rattle.wire.proofs.Place.packed.Goals as goal

pub returns-in_err-part-clause-suites_after : goal.returns-in_err-part-clause-suites_after
returns-in_err-part-clause-suites_after c =
    rw (passed_on _ c.from_residual.ensures.1) (sym (packed_faulty _ _ _ (sym c.in_err-part.ensures)))

pub returns-then-is_err-clause-suites_after : goal.returns-then-is_err-clause-suites_after
returns-then-is_err-clause-suites_after c =
    none_taken c.entries-list.result _ c.entries-list.new.suites c.if-is_err.ensures.value
    ∙ c.entries-list.ensures.suites_after
    ∙ sym (packed_list _ _ _ _ (sym c.in_ok-part.ensures))

pub returns-else-is_err-clause-suites_after : goal.returns-else-is_err-clause-suites_after
returns-else-is_err-clause-suites_after c =
    c.entries-list.ensures.suites_after ∙ sym (packed_list _ _ _ _ (sym c.in_ok-part.ensures))
