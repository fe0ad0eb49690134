-- `connection::step` meets its contract.
use Rattle.event.specs.Call.{call_with}
use Rattle.connection.proofs.ByValue.{by_value}
use Rattle.connection.proofs.step.Goals as goal

pub returns : goal.returns
returns c =
    let f = c.step_flat-answer in
    let p = by_value c.args.connection (call_with c.args.event c.args.payload.now c.args.lists) c.args.cache.now
    c.from-numbers.result c.from-numbers.ensures f.result f.new.numbers _ _ (f.ensures.value, (f.ensures.numbers_after, (f.ensures.slots_after, f.ensures.cache_after))) _ _ c.from.ensures c.from-2.ensures in
    record { value = p.0; answer_value = p.1.0; cache_after = p.1.1 }
