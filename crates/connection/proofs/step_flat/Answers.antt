-- `connection::step_flat` meets its contract.
use mathlib.Core.Path.{◌≡◌, ap, ◌∙◌}
use lib.ListN.{length}
use Rattle.std.specs.Option.{option_map}
use Rattle.std.specs.Int.NonZero.{non_zero_u32_get}
use Rattle.event.specs.Call.{Call, call_with, input_by, input_of}
use Rattle.event.specs.declared.Suites.{Suites}
use Rattle.record.specs.Numbers.{record_in}
use Rattle.record.specs.Limits.{limits}
use Rattle.record.specs.declared.Connection.{Connection}
use Rattle.connection.proofs.Also.{promised, room}
use Rattle.connection.proofs.Cache.{kept, written, unwritten}
use Rattle.connection.proofs.step_flat.Goals.{After-decide-answer}
use Rattle.connection.proofs.step_flat.Goals as goal

module _ (d : After-decide-answer) where
  -- The record and the call.
  abbrev before : Connection
  before = record_in d.args.numbers.now

  abbrev call : Call
  call = call_with d.args.event d.args.payload.now d.args.lists

  -- The input that was read is the call's.
  is_read : d.read-input.result ≡ input_of limits call (length d.args.cache.now)
  is_read = d.read-input.ensures ∙ ap (λ (suites : Suites). input_by limits call.event (length call.payload) (length d.args.cache.now) suites) d.choose_suites-suites.ensures

pub returns-in_default : goal.returns-in_default
returns-in_default c =
    let d = (goal.at.returns-in_default c).After-decide-answer in
    let p = promised (option_map non_zero_u32_get c.args.also) (before d) (call d) c.args.cache.now c.from-connection.result c.read-input.result c.decide-answer.result _ _ c.from-connection.ensures (is_read d) c.decide-answer.ensures _
    (kept (call d) c.args.cache.now c.decide-answer.result c.in_default.not-Handled) in
    record { value = p.0; numbers_after = p.1.0; slots_after = p.1.1.0; cache_after = p.1.1.1 }

pub store-requires : goal.store-requires
store-requires c =
    let d = (goal.at.store-requires c).After-decide-answer in
    room (option_map non_zero_u32_get c.args.also) (before d) (call d) c.args.cache.now c.from-connection.result c.read-input.result c.decide-answer.result _ _ c.from-connection.ensures (is_read d) c.decide-answer.ensures
    c.in-Handled.is
    c.if-code-eq-UPPER_SEND_DATA.true

pub returns-then-code-eq-UPPER_SEND_DATA : goal.returns-then-code-eq-UPPER_SEND_DATA
returns-then-code-eq-UPPER_SEND_DATA c =
    let d = (goal.at.returns-then-code-eq-UPPER_SEND_DATA c).After-decide-answer in
    let p = promised (option_map non_zero_u32_get c.args.also) (before d) (call d) c.args.cache.now c.from-connection.result c.read-input.result c.decide-answer.result _ _ c.from-connection.ensures (is_read d) c.decide-answer.ensures _
    (c.store.ensures ∙ written (call d) c.args.cache.now c.decide-answer.result c.in-Handled.is c.if-code-eq-UPPER_SEND_DATA.true) in
    record { value = p.0; numbers_after = p.1.0; slots_after = p.1.1.0; cache_after = p.1.1.1 }

pub returns-else-code-eq-UPPER_SEND_DATA : goal.returns-else-code-eq-UPPER_SEND_DATA
returns-else-code-eq-UPPER_SEND_DATA c =
    let d = (goal.at.returns-else-code-eq-UPPER_SEND_DATA c).After-decide-answer in
    let p = promised (option_map non_zero_u32_get c.args.also) (before d) (call d) c.args.cache.now c.from-connection.result c.read-input.result c.decide-answer.result _ _ c.from-connection.ensures (is_read d) c.decide-answer.ensures _
    (unwritten (call d) c.args.cache.now c.decide-answer.result c.in-Handled.is c.if-code-eq-UPPER_SEND_DATA.false) in
    record { value = p.0; numbers_after = p.1.0; slots_after = p.1.1.0; cache_after = p.1.1.1 }
