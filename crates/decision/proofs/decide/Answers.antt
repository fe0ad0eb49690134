-- `decision::decide` meets its contract.
use mathlib.Core.Path.{◌≡◌, refl, sym, ap, subst, ◌∙◌}
use mathlib.Core.Bool.{Bool}
use mathlib.Core.List.{List}
use Prim.Native.Nat.{ℕ, ◌+◌, ◌<◌}
use native.Mathlib.Omega.{arith}
use Rattle.std.specs.Option.{option_map}
use Rattle.std.specs.Int.NonZero.{non_zero_u32_get}
use Rattle.std.specs.Prelude.{None, Some}
use Rattle.record.specs.declared.Connection.{Connection}
use Rattle.event.specs.declared.Input.{Input}
use Rattle.effects.specs.declared.Transition.{Transition}
use Rattle.effects.specs.ByEvent.{by_event, by_locking, moving_code}
use Rattle.guards.specs.Numbered.{refusal_numbered}
use Rattle.protocol.specs.Condition.{next_state}
use Rattle.protocol.specs.Step.{handled_to}
use Rattle.protocol.specs.declared.Answer.{Answer}
use Rattle.protocol.specs.declared.Outcome.{Outcome}
use Rattle.table.specs.Cell.{following}
use Rattle.table.specs.Table.{cell, settled}
use Rattle.flat.specs.Written.{Written}
use Rattle.flat.proofs.Written.{as_written}
use Rattle.decision.specs.Also.{decided_also}
use Rattle.decision.proofs.Also.{lowest, by_fault, by_table, by_number, by_late_fault, by_handling, locks, moves}
use Rattle.decision.proofs.Lent.{unmoved_written, handled_written}
use Rattle.decision.proofs.decide.Goals.{After-next_state, After-checked_add}
use Rattle.decision.proofs.decide.Goals as goal

pub returns-in-Some : goal.returns-in-Some
returns-in-Some c =
    unmoved_written _ _ _ _ (decided_also (option_map non_zero_u32_get c.args.also) c.args.connection c.args.code c.args.input) (Some c.in-Some.fault) c.args.connection
    (by_fault (option_map non_zero_u32_get c.args.also) c.args.connection c.args.code c.args.input c.in-Some.fault (sym c.lowest_fault.ensures ∙ c.in-Some.is))
    c.unmoved.ensures.value
    refl
    c.unmoved.ensures.slots_after

-- The next state, of the condition.
next_is : (n : After-next_state) → n.next_state.result ≡ following (next_state n.args.connection n.args.code n.args.input)
unfolding next_state
next_is n = n.next_state.ensures ∙ ap (λ (b : Bool). following (settled n.args.connection.awaiting_ack (cell n.args.connection.state n.args.code b))) n.holds-held.ensures

-- No fault from 1 to 7 is present.
none_is : (n : After-next_state) → refusal_numbered (lowest n.args.connection n.args.code n.args.input) ≡ None
none_is n = sym n.lowest_fault.ensures ∙ n.in_default.is

pub returns-in_default-next_state : goal.returns-in_default-next_state
returns-in_default-next_state c =
    let n = (goal.at.returns-in_default-next_state c).After-next_state in
    unmoved_written _ _ _ _ (decided_also (option_map non_zero_u32_get c.args.also) c.args.connection c.args.code c.args.input) c.late_refusal-late.result c.args.connection
    (rw c.late_refusal-late.ensures
    (by_table (option_map non_zero_u32_get c.args.also) c.args.connection c.args.code c.args.input (none_is n) (sym (next_is n) ∙ c.in_default-next_state.is)))
    c.unmoved-in_default-next_state.ensures.value
    refl
    c.unmoved-in_default-next_state.ensures.slots_after

-- The event is listed, and leads to a state.
listed : (n : After-next_state) (to : ℕ) → n.next_state.result ≡ Some to → following (next_state n.args.connection n.args.code n.args.input) ≡ Some to
listed n to e = sym (next_is n) ∙ e

pub returns-in_default-checked_add : goal.returns-in_default-checked_add
returns-in_default-checked_add c =
    let n = (goal.at.returns-in_default-checked_add c).After-next_state in
    let full : c.args.connection.handled ≡ 4294967295 = omega arith in
    unmoved_written _ _ _ _ (decided_also (option_map non_zero_u32_get c.args.also) c.args.connection c.args.code c.args.input) (Some 8) c.args.connection
    (by_number (option_map non_zero_u32_get c.args.also) c.args.connection c.args.code c.args.input (none_is n) c.in-Some-next_state.to (listed n _ c.in-Some-next_state.is) full)
    c.unmoved-in_default-checked_add.ensures.value
    refl
    c.unmoved-in_default-checked_add.ensures.slots_after

pub returns-in-Some-late : goal.returns-in-Some-late
returns-in-Some-late c =
    let n = (goal.at.returns-in-Some-late c).After-next_state in
    let fits = c.in-Some-checked_add.ensures.0 in
    let room : c.args.connection.handled ≡ 4294967295 → ⊥ = λ e. omega arith in
    unmoved_written _ _ _ _ (decided_also (option_map non_zero_u32_get c.args.also) c.args.connection c.args.code c.args.input) (Some c.in-Some-late.refusal) c.args.connection
    (by_late_fault (option_map non_zero_u32_get c.args.also) c.args.connection c.args.code c.args.input (none_is n) c.in-Some-next_state.to (listed n _ c.in-Some-next_state.is) room
    c.in-Some-late.refusal (sym c.late_refusal-late.ensures ∙ c.in-Some-late.is))
    c.unmoved-in-Some-late.ensures.value
    refl
    c.unmoved-in-Some-late.ensures.slots_after

-- The outcome of an event that is handled.
handles : (n : After-checked_add) → n.late_refusal-late.result ≡ None → following (next_state n.args.connection n.args.code n.args.input) ≡ Some n.in-Some-next_state.to
    → refusal_numbered (lowest n.args.connection n.args.code n.args.input) ≡ None → n.args.connection.handled + 1 < 4294967296
    → handled_to (next_state n.args.connection n.args.code n.args.input) n.args.connection n.args.code n.args.input ≡ decided_also (option_map non_zero_u32_get n.args.also) n.args.connection n.args.code n.args.input
handles n late next none fits =
    let room : n.args.connection.handled ≡ 4294967295 → ⊥ = λ e. omega arith in
    by_handling (option_map non_zero_u32_get n.args.also) n.args.connection n.args.code n.args.input none n.in-Some-next_state.to next room (sym n.late_refusal-late.ensures ∙ late)

-- An event with a number.
abbrev numbered : Connection → Input → (to number : ℕ) → Transition
numbered connection input to number = record { before = connection; input = input; to = to; number = number }

-- What is done with the number's value, so that a number that isn't raised is refused for its value.
module _ (connection : Connection) (code : ℕ) (input : Input) (to number : ℕ) where
  locked : (o : Outcome) → o ≡ by_locking code (numbered connection input to number) → number ≡ connection.handled + 1
      → o ≡ by_locking code (numbered connection input to (connection.handled + 1))
  locked o e raised = e ∙ ap (λ (n : ℕ). by_locking code (numbered connection input to n)) raised

  moved : (answer : Answer) (numbers slots : List ℕ) → Written (by_event (moving_code code) (numbered connection input to number)) answer numbers slots → number ≡ connection.handled + 1
      → Written (by_event (moving_code code) (numbered connection input to (connection.handled + 1))) answer numbers slots
  moved answer numbers slots w raised = subst (λ (n : ℕ). Written (by_event (moving_code code) (numbered connection input to n)) answer numbers slots) raised w

pub returns-then-to-eq-CLOSED_LOCKED : goal.returns-then-to-eq-CLOSED_LOCKED
returns-then-to-eq-CLOSED_LOCKED c =
    let at = goal.at.returns-then-to-eq-CLOSED_LOCKED c in
    let none = none_is at.After-next_state in
    let next = listed at.After-next_state _ c.in-Some-next_state.is in
    let to = c.in-Some-next_state.to in
    handled_written _ _ _ _ (decided_also (option_map non_zero_u32_get c.args.also) c.args.connection c.args.code c.args.input) (next_state c.args.connection c.args.code c.args.input) c.args.connection c.args.code c.args.input
    (handles at.After-checked_add c.in_default-late.is next none c.in-Some-checked_add.ensures.0)
    (as_written _ _ _ _ _
    (locked c.args.connection c.args.code c.args.input to _ _ c.lock.ensures (omega (arith, c.in-Some-checked_add.ensures.1)) ∙
    locks (option_map non_zero_u32_get c.args.also) c.args.connection c.args.code c.args.input none to next c.if-to-eq-CLOSED_LOCKED.true)
    c.put.ensures)

pub returns : goal.returns
returns c =
    let at = goal.at.returns c in
    let none = none_is at.After-next_state in
    let next = listed at.After-next_state _ c.in-Some-next_state.is in
    let to = c.in-Some-next_state.to in
    handled_written _ _ _ _ (decided_also (option_map non_zero_u32_get c.args.also) c.args.connection c.args.code c.args.input) (next_state c.args.connection c.args.code c.args.input) c.args.connection c.args.code c.args.input
    (handles at.After-checked_add c.in_default-late.is next none c.in-Some-checked_add.ensures.0)
    (as_written _ _ _ _ _
    (moves (option_map non_zero_u32_get c.args.also) c.args.connection c.args.code c.args.input none to next c.if-to-eq-CLOSED_LOCKED.false)
    (moved c.args.connection c.args.code c.args.input to _ _ _ _ c.move_on.ensures (omega (arith, c.in-Some-checked_add.ensures.1))))
