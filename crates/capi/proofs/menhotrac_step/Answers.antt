-- `capi::menhotrac_step` meets its contract.
use mathlib.Core.Path.{◌≡◌, ap, ◌∙◌}
use Prim.Native.Nat.{ℕ}
use Rattle.std.specs.Option.{option_map}
use Rattle.std.specs.Int.NonZero.{non_zero_u32_get}
use Rattle.std.specs.Prelude.{Option}
use Rattle.connection.specs.Also.{result_also}
use Rattle.record.specs.Numbers.{record_in}
use Rattle.protocol.specs.Sheet.{slots_of}
use Rattle.event.specs.Call.{call_of}
use Rattle.event.specs.declared.Event.{Event}
use Rattle.protocol.specs.Step.{Result}
use Rattle.interface.specs.Answer.{answer_number}
use Rattle.capi.specs.Returned.{returned}
use Rattle.interface.specs.Event.{event_of}
use Rattle.interface.specs.Verdict.{refused_as}
use Rattle.capi.proofs.Part.{taken}
use Rattle.capi.proofs.menhotrac_step.Goals.{After-step_flat-answer}
use Rattle.capi.proofs.menhotrac_step.Goals as goal

module _ (s : After-step_flat-answer) where
  -- The result, by the interface's refusal and the event.
  result : Option ℕ → Event → Result
  result also event = result_also also (record_in s.args.connection.now) (call_of event s.args.payload.now s.args.our_verifiers.now s.args.peer_provers.now s.args.peer_verifiers.now s.args.our_provers.now) s.args.cache.now

  -- That of the event as the host handed it over.
  of_event : result (option_map non_zero_u32_get s.refused_as.result) s.into.result ≡ result (refused_as s.args.event) (event_of s.args.event)
  of_event = λ i. result (s.refused_as.ensures i) (s.into.ensures i)

pub returns : goal.returns
unfolding returned result
returns c =
    let s = (goal.at.returns c).After-step_flat-answer in
    let e = c.step_flat-answer.ensures in
    let slots = e.slots_after ∙ ap (λ (r : Result). slots_of r.outcome.actions) (of_event s) in
    let left = e.cache_after ∙ ap (λ (r : Result). r.cache) (of_event s) in
    let call = call_of (event_of c.args.event) c.args.payload.now c.args.our_verifiers.now c.args.peer_provers.now c.args.peer_verifiers.now c.args.our_provers.now in
    let t = taken (refused_as c.args.event) (record_in c.args.connection.now) call c.args.cache.now _ _ slots left in
    record {
      value = c.number_of.ensures ∙ ap answer_number e.value ∙ ap (λ (r : Result). answer_number r.outcome.answer) (of_event s);
      connection_after = e.numbers_after ∙ ap (λ (r : Result). r.outcome.connection) (of_event s);
      actions_after = slots;
      cache_after = left;
      within = t.0;
      part_value = t.1;
    }
