-- The step event by event, as the code has it. No definition of the step rests on this file: the functions for the events promise it,
-- and the proofs show that it is what the rules say.
use Rattle.std.specs.Prelude.{ℕ, true, false, cond, List, [], ◌∷◌, eqb, get_or}
use Rattle.protocol.specs.Orders as order
use Rattle.record.specs.Tags.{tag_of}
use Rattle.table.specs.Sets.{is_in}
use Rattle.record.specs.Timer.{Timer, H, HP, HV, DAT, RA, ACK}
use Rattle.protocol.specs.Timers.{timer_order}
use Rattle.protocol.specs.Advance.{locked, moved}
use Rattle.protocol.specs.Actions.{locking_actions, moving_actions, orders_of}
use Rattle.protocol.specs.declared.Answer.TheVariants.{Handled}
use Rattle.record.specs.declared.Connection.{Connection}
use Rattle.protocol.specs.declared.Outcome.{Outcome}
use Rattle.effects.specs.declared.Transition.{Transition}

-- The effects on a timer: kept as it is; started; cancelled where it is known to run; ended by its own report; cancelled where it may be off.
pub data Effect : Type 0 where
  keep start cancel expire clear : Effect

-- The effects on H, HP, HV, DAT, RA and ACK.
abbrev pub six : (h hp hv dat ra ack : Effect) → Timer → Effect
six h hp hv dat ra ack H = h
six h hp hv dat ra ack HP = hp
six h hp hv dat ra ack HV = hv
six h hp hv dat ra ack DAT = dat
six h hp hv dat ra ack RA = ra
six h hp hv dat ra ack ACK = ack

-- A row for each code from 0 to 23, by the state after.
abbrev pub effects : (to : ℕ) → List (Timer → Effect)
effects to =
    let nothing = six keep keep keep keep keep keep in
    let if_waiting = cond (eqb to 8) start keep in
    six start keep keep keep keep keep  -- 0
    ∷ nothing  -- 1
    ∷ six keep keep keep keep keep start  -- 2
    ∷ six keep keep start keep cancel clear  -- 3
    ∷ six keep keep cancel keep start if_waiting  -- 4
    ∷ nothing  -- 5
    ∷ nothing  -- 6
    ∷ six keep cancel keep keep keep if_waiting  -- 7
    ∷ nothing  -- 8
    ∷ nothing  -- 9
    ∷ nothing  -- 10
    ∷ six cancel start start start keep keep  -- 11
    ∷ nothing  -- 12
    ∷ six cancel keep start start keep keep  -- 13
    ∷ six keep start keep keep keep clear  -- 14
    ∷ nothing  -- 15
    ∷ nothing  -- 16
    ∷ six keep start keep keep keep clear  -- 17
    ∷ nothing  -- 18
    ∷ six keep keep keep keep keep clear  -- 19
    ∷ nothing  -- 20
    ∷ six start keep clear expire clear clear  -- 21
    ∷ six keep keep start keep expire clear  -- 22
    ∷ six keep keep keep keep keep start  -- 23
    ∷ []

-- The row of a code.
abbrev pub effect_of : (code to : ℕ) → Timer → Effect
effect_of code to = get_or (effects to) code (six keep keep keep keep keep keep)

-- The tag that an effect leaves.
abbrev pub tag_by : Effect → (number tag : ℕ) → ℕ
tag_by keep number tag = tag
tag_by start number tag = number
tag_by cancel number tag = 0
tag_by expire number tag = 0
tag_by clear number tag = 0

-- The order that it gives.
abbrev pub order_by : Effect → (tag : ℕ) → ℕ
order_by keep tag = order.none
order_by start tag = order.start
order_by cancel tag = order.cancel
order_by expire tag = order.none
order_by clear tag = timer_order false true false tag

-- The record after an event that changes the state and the number alone.
abbrev pub moved_alone : Transition → Connection
moved_alone t = record t.before { state = t.to; handled = t.number }

-- A handled event that doesn't lock.
abbrev pub by_event : (code : ℕ) → Transition → Outcome
by_event code t =
    let effect = effect_of code t.to in
    record {
      answer = Handled;
      connection = moved (λ timer. tag_by (effect timer) t.number (tag_of t.before timer)) t.number t.before code t.input t.to;
      actions = moving_actions (λ timer. order_by (effect timer) (tag_of t.before timer)) t.before code t.input;
    }

-- A handled event that locks.
abbrev pub by_locking : (code : ℕ) → Transition → Outcome
by_locking code t = record {
  answer = Handled;
  connection = locked t.number;
  actions = locking_actions (orders_of t.before code t.input 9) t.before code;
}

-- The events that are handled without a lock in some state.
abbrev pub moving : List ℕ
moving = 0 ∷ 2 ∷ 3 ∷ 4 ∷ 6 ∷ 7 ∷ 9 ∷ 11 ∷ 13 ∷ 14 ∷ 15 ∷ 16 ∷ 17 ∷ 18 ∷ 19 ∷ 21 ∷ 22 ∷ 23 ∷ []

-- The code of an event that moves on; any other code counts as 23.
abbrev pub moving_code : (code : ℕ) → ℕ
moving_code code = cond (is_in moving code) code 23
