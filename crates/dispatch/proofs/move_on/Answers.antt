-- `dispatch::move_on` meets its contract. Of the codes that move on 23 alone has no arm, and a code that does not move on counts as 23.
use Rattle.std.proofs.Common.{◌≡◌, arith}
use Rattle.std.proofs.lemmas.Bool.Decides.{nat_tests}
use Rattle.effects.specs.ByEvent.{moving_code}
use Rattle.flat.proofs.Written.{as_written}
use Rattle.dispatch.proofs.move_on.Goals as goal

pub returns-in-2 : goal.returns-in-2
returns-in-2 c = rw c.in-2.is (as_written _ _ _ _ _ c.send_data.ensures c.put-in-2.ensures)

pub returns-in_default : goal.returns-in_default
returns-in_default c =
    let e : moving_code c.args.code ≡ 23 = grind (arith, nat_tests) steps 4000000 in
    rw e (as_written _ _ _ _ _ c.repeat_data.ensures c.put-in_default.ensures)
