-- The code by event does what the rules over sets of states say.
-- Assumes nothing.
use mathlib.Core.Path.{◌≡◌, refl, sym, subst, ap, ◌∙◌}
use mathlib.Core.Bool.{Bool, true, false, not, ◌&&◌, ◌||◌, cond}
use Prim.Native.Nat.{ℕ, ◌<◌}
use lib.Dec.{T, eqb}
use types.Run.{OneOf}
use borrow.Author.Tests.{eqb-true}
use Rattle.protocol.specs.Actions.{locking_actions, moving_actions, orders_of, actions_of}
use Rattle.protocol.specs.Advance.{raised, locked, moved, tags_after, advance}
use Rattle.effects.specs.ByEvent.{Effect, keep, start, cancel, expire, clear, effect_of, tag_by, order_by, by_event, by_locking, moving, moving_code}
use Rattle.protocol.specs.Condition.{holds, next_state}
use Rattle.record.specs.Limits.{Limits}
use Rattle.table.specs.Sets.{is_in}
use Rattle.protocol.specs.Step.{handled_to}
use Rattle.table.specs.Table.{cell, settled}
use Rattle.record.specs.Tags.{tag_of, runs_in}
use Rattle.record.specs.Timer.{Timer, H, HP, HV, DAT, RA, ACK}
use Rattle.protocol.specs.Timers.{starts, ends, reports, tag_after, timer_order}
use Rattle.record.specs.WellFormed.{well_formed}
use Rattle.protocol.specs.declared.Answer.TheVariants.{Handled}
use Rattle.record.specs.declared.Connection.{Connection}
use Rattle.event.specs.declared.Input.{Input}
use Rattle.effects.specs.declared.Transition.{Transition}
use Rattle.table.proofs.Arms.{is_in_lem, one_of}
use Rattle.table.proofs.Finite.{and_left, and_right, is_false, cells, cells_at}
use Rattle.record.proofs.EveryTimer.{timers, timers_at}
use Rattle.record.proofs.WellFormed.{parts, off_is}

-- Whether an effect fits the rules of a timer that starts, ends and reports, or not, and runs in the state before, or not.
abbrev fits : Effect → (starts ends reports runs : Bool) → Bool
fits keep s e r on = not s && not (e && on)
fits start s e r on = s
fits cancel s e r on = not s && (e && (not r && on))
fits expire s e r on = not s && (e && r)
fits clear s e r on = not s && (e && not r)

tag_fits : (x : Effect) (s e r on : Bool) (number tag : ℕ) → eqb tag 0 ≡ not on → T (fits x s e r on) → tag_by x number tag ≡ tag_after s e number tag
tag_fits keep true e r on n t z f = absurd f
tag_fits keep false true r true n t z f = absurd f
tag_fits keep false true r false n t z f = eqb-true t 0 z
tag_fits keep false false r on n t z f = refl
tag_fits start true e r on n t z f = refl
tag_fits start false e r on n t z f = absurd f
tag_fits cancel true e r on n t z f = absurd f
tag_fits cancel false true r on n t z f = refl
tag_fits cancel false false r on n t z f = absurd f
tag_fits expire true e r on n t z f = absurd f
tag_fits expire false true r on n t z f = refl
tag_fits expire false false r on n t z f = absurd f
tag_fits clear true e r on n t z f = absurd f
tag_fits clear false true r on n t z f = refl
tag_fits clear false false r on n t z f = absurd f

-- A timer with tag 0 gets no cancel.
no_cancel : (r : Bool) → ◌≡◌ {A = ℕ} 0 (cond (not r && false) 2 0)
no_cancel true = refl
no_cancel false = refl

order_fits : (x : Effect) (s e r on : Bool) (tag : ℕ) → eqb tag 0 ≡ not on → T (fits x s e r on) → order_by x tag ≡ timer_order s e r tag
order_fits keep true e r on t z f = absurd f
order_fits keep false true r true t z f = absurd f
order_fits keep false true r false t z f = rw z (no_cancel r)
order_fits keep false false r on t z f = refl
order_fits start true e r on t z f = refl
order_fits start false e r on t z f = absurd f
order_fits cancel true e r on t z f = absurd f
order_fits cancel false true true on t z f = absurd f
order_fits cancel false true false true t z f = rw z
order_fits cancel false true false false t z f = absurd f
order_fits cancel false false r on t z f = absurd f
order_fits expire true e r on t z f = absurd f
order_fits expire false true true on t z f = refl
order_fits expire false true false on t z f = absurd f
order_fits expire false false r on t z f = absurd f
order_fits clear true e r on t z f = absurd f
order_fits clear false true true on t z f = absurd f
order_fits clear false true false on t z f = refl
order_fits clear false false r on t z f = absurd f

-- What event k, from state s to another, does to a timer fits its rules.
abbrev effect_fits : (s k to : ℕ) → Timer → Bool
effect_fits s k to x = fits (effect_of k to x) (starts x k s to) (ends x to) (reports x k 0) (runs_in x s)

-- An event that is ignored, locks, or moves on with effects that fit.
abbrev move_fits : (s k to : ℕ) → Bool
move_fits s k to = cond (eqb to 11 || eqb to 9) true (is_in moving k && (not (eqb k 20) && timers (effect_fits s k to)))

abbrev cell_fits : (s k flag : ℕ) (b : Bool) → Bool
cell_fits s k flag b = move_fits s k (settled flag (cell s k b))

-- All cells fit, with either flag and with the condition held or not.
all_fit : T (cells cell_fits)
unfolding cell
all_fit = tt

-- What that says of an event that moves on.
record Fit (s k to : ℕ) : Type 0 where
  moves : OneOf moving k
  no_timeout : eqb k 20 ≡ false
  effect : (x : Timer) → T (effect_fits s k to x)

fit_by : (s k to : ℕ) → (eqb to 11 || eqb to 9) ≡ false → T (move_fits s k to) → Fit s k to
fit_by s k to e t =
    let m : T (is_in moving k && (not (eqb k 20) && timers (effect_fits s k to))) = rw e at t in
    record {
      moves = one_of moving k (and_left (is_in moving k) _ m);
      no_timeout = is_false (eqb k 20) (and_left (not (eqb k 20)) _ (and_right (is_in moving k) _ m));
      effect = timers_at (effect_fits s k to) (and_right (not (eqb k 20)) _ (and_right (is_in moving k) _ m));
    }

-- The record and the sheet of a move, by the tags and the orders.
moved_by : (f g : Timer → ℕ) → ((x : Timer) → f x ≡ g x) → (number : ℕ) (connection : Connection) (code : ℕ) (input : Input) (to : ℕ) → moved f number connection code input to ≡ moved g number connection code input to
moved_by f g p number connection code input to = rw (p H, p HP, p HV, p DAT, p RA, p ACK)

actions_by : (f g : Timer → ℕ) → ((x : Timer) → f x ≡ g x) → (connection : Connection) (code : ℕ) (input : Input) → moving_actions f connection code input ≡ moving_actions g connection code input
actions_by f g p connection code input = rw (p H, p HP, p HV, p DAT, p RA, p ACK)

otherwise : {A : Type 0} (b : Bool) (x y : A) → b ≡ false → cond b x y ≡ y
otherwise true x y e = absurd (subst (λ (c : Bool). T c) e tt)
otherwise false x y e = refl

-- An event other than 20 reports its timer whatever name it carries.
reports_by : (x : Timer) (k name : ℕ) → eqb k 20 ≡ false → reports x k 0 ≡ reports x k name
reports_by H k name e = rw e
reports_by HP k name e = rw e
reports_by HV k name e = rw e
reports_by DAT k name e = refl
reports_by RA k name e = refl
reports_by ACK k name e = refl

-- The event that a record handles next.
abbrev pub next_event : Connection → Input → (to : ℕ) → Transition
next_event connection input to = record { before = connection; input = input; to = to; number = raised connection }

module _ (limits : Limits) (connection : Connection) (code : ℕ) (input : Input) (to : ℕ)
    (well : T (well_formed limits connection)) (known : code < 24)
    (next : next_state connection code input ≡ to) (heard : eqb to 11 ≡ false) (stays : eqb to 9 ≡ false) where
  fitting : Fit connection.state code to
  unfolding next_state
  fitting =
      let p = parts limits connection well in
      let t = cells_at cell_fits all_fit connection.state code connection.awaiting_ack (holds connection code input) p.state known p.flag in
      fit_by connection.state code to (rw heard stays) (subst (λ (n : ℕ). T (move_fits connection.state code n)) next t)

  pub is_moving : OneOf moving code
  unfolding fitting
  is_moving = fitting.moves

  tag_of_lem : (x : Timer) → tag_by (effect_of code to x) (raised connection) (tag_of connection x) ≡ tags_after connection code to x
  tag_of_lem x = tag_fits (effect_of code to x) (starts x code connection.state to) (ends x to) (reports x code 0) (runs_in x connection.state) (raised connection) (tag_of connection x) (off_is limits connection (parts limits connection well) x) (fitting.effect x)

  order_of : (x : Timer) → order_by (effect_of code to x) (tag_of connection x) ≡ orders_of connection code input to x
  order_of x =
      order_fits (effect_of code to x) (starts x code connection.state to) (ends x to) (reports x code 0) (runs_in x connection.state) (tag_of connection x) (off_is limits connection (parts limits connection well) x) (fitting.effect x)
      ∙ ap (λ (r : Bool). timer_order (starts x code connection.state to) (ends x to) r (tag_of connection x)) (reports_by x code input.timer fitting.no_timeout)

  -- What the code does for an event that moves on is what the definitions say.
  pub by_event_lem : by_event code (next_event connection input to) ≡ handled_to to connection code input
  unfolding advance actions_of
  by_event_lem =
      let effect = effect_of code to in
      let p = moved_by (λ x. tag_by (effect x) (raised connection) (tag_of connection x)) (tags_after connection code to) tag_of_lem (raised connection) connection code input to in
      let q = actions_by (λ x. order_by (effect x) (tag_of connection x)) (orders_of connection code input to) order_of connection code input in
      let p' = p ∙ sym (otherwise (eqb to 9) (locked (raised connection)) _ stays) in
      let q' = q ∙ sym (otherwise (eqb to 9) (locking_actions (orders_of connection code input to) connection code) _ stays) in
      λ i. record { answer = Handled; connection = p' i; actions = q' i }

-- The code of such an event is itself.
pub moving_is : (code : ℕ) → OneOf moving code → moving_code code ≡ code
moving_is code o = rw (is_in_lem moving code o)

-- What it does for an event that locks, too.
pub by_locking_lem : (connection : Connection) (code : ℕ) (input : Input) (to : ℕ) → by_locking code (next_event connection input to) ≡ handled_to 9 connection code input
unfolding advance actions_of
by_locking_lem connection code input to = refl
