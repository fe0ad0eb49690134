-- `inbound::receive` meets its contract.
use mathlib.Core.Path.{◌≡◌, refl, sym, ap, subst, ◌∙◌}
use mathlib.Core.List.{List}
use Prim.Native.Nat.{ℕ, ◌≤◌}
use lib.ListN.{length, replicate}
use Rattle.std.specs.Option.{option_map}
use Rattle.std.specs.Int.NonZero.{non_zero_u32_get}
use Rattle.event.specs.Call.{call_of}
use Rattle.event.specs.declared.Event.{Event}
use Rattle.record.specs.Numbers.{record_in}
use Rattle.protocol.specs.Sheet.{slots_of}
use Rattle.protocol.specs.Step.{Result}
use Rattle.std.specs.Prelude.{Option}
use Rattle.connection.specs.Also.{result_also}
use Rattle.messages.specs.Outer.{reading_of}
use Rattle.wire.specs.Lists.{entries}
use Rattle.messages.specs.declared.flat.FlatMessage.{FlatMessage}
use Rattle.messages.proofs.Lengths.{provers_16, verifiers_16}
use Rattle.inbound.specs.Received.{first_entries, given_in, received}
use Rattle.inbound.proofs.Arrived.{arrived_refused, refused_place, arrived_read, read_place, first_entries_lem}
use Rattle.inbound.proofs.receive.Goals.{After-read_flat-message}
use Rattle.inbound.proofs.receive.Goals as goal

pub returns-then-refusal-gt-NONE : goal.returns-then-refusal-gt-NONE
returns-then-refusal-gt-NONE c =
    let r = c.read_flat-message in
    let g = given_in c.args.given in
    let e = arrived_refused c.args.bytes.now _ _ r.result r.ensures.says c.if-refusal-gt-NONE.true (record_in c.args.numbers.now) g c.args.cache.now in
    record {
      answer_value = sym (ap (λ (x : Result). x.outcome.answer) e);
      numbers_after = sym (ap (λ (x : Result). x.outcome.connection) e);
      slots_after = c.into.ensures ∙ sym (ap (λ (x : Result). slots_of x.outcome.actions) e);
      cache_after = sym (ap (λ (x : Result). x.cache) e);
      place_value = refused_place c.args.bytes.now _ _ r.result r.ensures.says c.if-refusal-gt-NONE.true;
    }

abbrev zeros : List ℕ
zeros = replicate 16 0

-- Both lists have sixteen entries after reading.
module _ (s : After-read_flat-message) where
  long_provers : length s.read_flat-message.new.provers ≡ 16
  long_provers =
      let r = s.read_flat-message.ensures in
      ap length r.provers_left ∙ provers_16 zeros refl (reading_of s.args.bytes.now) (subst (λ (m : FlatMessage). m.provers ≤ 16) r.numbers r.counts.0)

  long_verifiers : length s.read_flat-message.new.verifiers ≡ 16
  long_verifiers =
      let r = s.read_flat-message.ensures in
      ap length r.verifiers_left ∙ verifiers_16 zeros refl (reading_of s.args.bytes.now) (subst (λ (m : FlatMessage). m.verifiers ≤ 16) r.numbers r.counts.1)

pub returns : goal.returns
returns c =
    let at = (goal.at.returns c).After-read_flat-message in
    let r = c.read_flat-message in
    let m = r.result in
    let none = c.if-refusal-gt-NONE.false in
    let bytes = c.args.bytes.now in
    let g = given_in c.args.given in
    let e = arrived_read bytes _ _ m r.ensures.says none (record_in c.args.numbers.now) g c.args.cache.now in
    let p : first_entries m.provers r.new.provers ≡ entries m.provers r.new.provers = first_entries_lem m.provers _ (long_provers at) r.ensures.counts.0 in
    let v : first_entries m.verifiers r.new.verifiers ≡ entries m.verifiers r.new.verifiers = first_entries_lem m.verifiers _ (long_verifiers at) r.ensures.counts.1 in
    let call : Option ℕ → Event → (payload peer_provers peer_verifiers : List ℕ) → Result =
    λ also event payload peer_provers peer_verifiers. result_also also (record_in c.args.numbers.now) (call_of event payload c.args.given.our_verifiers.now peer_provers peer_verifiers c.args.given.our_provers.now) c.args.cache.now
    in
    let same : call (option_map non_zero_u32_get c.also_of.result) c.event_of.result c.part-payload.result.now c.first.result.now c.first-2.result.now ≡ received (record_in c.args.numbers.now) bytes g c.args.cache.now =
    (λ i. call (c.also_of.ensures i) (c.event_of.ensures i) (c.part-payload.ensures i) ((c.first.ensures ∙ p) i) ((c.first-2.ensures ∙ v) i)) ∙ sym e
    in
    let s = c.step_flat-answer.ensures in
    record {
      answer_value = s.value ∙ ap (λ (x : Result). x.outcome.answer) same;
      numbers_after = s.numbers_after ∙ ap (λ (x : Result). x.outcome.connection) same;
      slots_after = s.slots_after ∙ ap (λ (x : Result). slots_of x.outcome.actions) same;
      cache_after = s.cache_after ∙ ap (λ (x : Result). x.cache) same;
      place_value = read_place bytes _ _ m r.ensures.says none;
    }
