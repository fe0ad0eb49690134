use Rattle.std.proofs.Common.{sym}
use Rattle.wire.proofs.Places.{after_read, within}
use Rattle.wire.proofs.Place.block.Goals as goal

pub overflow_sub-self : goal.overflow_sub-self
overflow_sub-self c = (after_read _ _ _ _ (sym c.in_ok-length.ensures)).1

pub returns : goal.returns
returns c = within _ _ _ _ (sym c.in_ok-length.ensures) c.if-self-length.false
