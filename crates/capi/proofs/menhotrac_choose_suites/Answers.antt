-- `capi::menhotrac_choose_suites` meets its contract. The suites that are written are answered here, so that a wrong choice is refused at them.
use mathlib.Core.Path.{ap, ◌∙◌}
use Rattle.interface.specs.Choice.{chosen_of}
use Rattle.capi.proofs.menhotrac_choose_suites.Goals as goal

pub returns-clause-chosen_after : goal.returns-clause-chosen_after
returns-clause-chosen_after c = c.numbers_in.ensures ∙ ap chosen_of c.choose-made.ensures
