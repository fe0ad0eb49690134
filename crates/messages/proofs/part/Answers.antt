use Rattle.std.proofs.Common.{refl, arith}
use Rattle.messages.proofs.Parts.{part_taken}
use Rattle.messages.proofs.part.Goals as goal

pub returns : goal.returns
returns c =
    part_taken _ c.args.span _ _ _ _ _ _ _ c.get.ensures.lookup.0 (omega arith) c.unwrap_or-rest.ensures c.get-2.ensures.lookup.0 c.unwrap_or.ensures
    refl refl
