use Rattle.std.proofs.Common.{ap, ◌∙◌}
use Rattle.messages.specs.Whole.{carried, mapped}
use Rattle.messages.proofs.Carried.{carried_reading}
use Rattle.messages.proofs.read.Goals as goal

pub returns-clause-reads : goal.returns-clause-reads
returns-clause-reads c =
    let r = c.in_ok-contents.ensures in
    (c.message_of.ensures r.known).0 _ _ ∙ ap (mapped carried) r.reads ∙ carried_reading _
