-- The finite part of the audit: at every cell the order to each task fits what becomes of its tag. One test, which antt computes.
-- Assumes nothing.
use mathlib.Core.Path.{◌≡◌, refl}
use mathlib.Core.Bool.{Bool, true, false, not, ◌&&◌, ◌||◌, cond}
use mathlib.Core.List.{[], ◌∷◌}
use Prim.Native.Nat.{ℕ, ◌<◌, ◌≤◌}
use lib.Dec.{T, eqb, eqb→eq}
use Rattle.event.specs.declared.Input.{Input}
use Rattle.record.specs.Tags.{tag_of, runs_in}
use Rattle.record.specs.Timer.{H, HP, HV, DAT, RA, ACK}
use Rattle.record.specs.declared.Connection.{Connection}
use Rattle.table.specs.Sets.{is_in}
use Rattle.table.specs.Table.{cell, ignored}
use Rattle.protocol.specs.Actions.{no_actions, stopped, prover_order, verifier_order, locking_actions, moving_actions, orders_of, actions_of}
use Rattle.protocol.specs.Audit.{Task, timer, prover, verifier, timer_of, order_to, ending, may_get, reports_end}
use Rattle.protocol.specs.Condition.{live, condition_of, next_by}
use Rattle.protocol.specs.Orders as order
use Rattle.protocol.specs.Timers.{starts, ends, reports, timer_order}
use Rattle.record.proofs.EveryTimer.{timers, timers_at}
use Rattle.table.proofs.Arms.{at_keys, one_of}
use Rattle.table.proofs.Finite.{and_left, and_right, below, below_at, either, either_at, cells, cells_at}

-- A test of every task.
abbrev tasks : (Task → Bool) → Bool
tasks p = timers (λ x. p (timer x)) && (p prover && p verifier)

tasks_at : (p : Task → Bool) → T (tasks p) → (task : Task) → T (p task)
tasks_at p t (timer x) = timers_at (λ y. p (timer y)) (and_left (timers (λ y. p (timer y))) _ t) x
tasks_at p t prover = and_left (p prover) _ (and_right (timers (λ y. p (timer y))) _ t)
tasks_at p t verifier = and_right (p prover) _ (and_right (timers (λ y. p (timer y))) _ t)

-- The empty sheet neither starts nor ends a task, and gives it no order that it may not get.
pub unordered : (task : Task) → T (not (is_in (order.start ∷ ending task ∷ []) (order_to no_actions task)))
unordered task = tasks_at (λ task. not (is_in (order.start ∷ ending task ∷ []) (order_to no_actions task))) tt task

pub may_get_none : (task : Task) (runs : Bool) → T (may_get task runs (order_to no_actions task))
may_get_none task runs =
    either_at (λ b. may_get task b (order_to no_actions task)) (tasks_at (λ task. either (λ b. may_get task b (order_to no_actions task))) tt task) runs

-- The order to a task with a tag, at an event from a state to another.
abbrev order_in : (s k to name : ℕ) → Task → (tag : ℕ) → ℕ
order_in s k to name (timer x) tag = timer_order (starts x k s to) (ends x to) (reports x k name) tag
order_in s k to name prover tag = cond (eqb to 9) (stopped (is_in (7 ∷ 8 ∷ []) k) tag) (prover_order k)
order_in s k to name verifier tag = cond (eqb to 9) (stopped (is_in (4 ∷ 5 ∷ []) k) tag) (verifier_order k tag)

-- Both sheets, of an event that locks and of another, have each order in its place.
order_by : (c : Connection) (k : ℕ) (input : Input) (to : ℕ) (locks : Bool) → eqb to 9 ≡ locks → (task : Task)
    → order_to (cond locks (locking_actions (orders_of c k input to) c k) (moving_actions (orders_of c k input to) c k input)) task
    ≡ order_in c.state k to input.timer task (tag_of c (timer_of task))
order_by c k input to true e (timer H) = refl
order_by c k input to true e (timer HP) = refl
order_by c k input to true e (timer HV) = refl
order_by c k input to true e (timer DAT) = refl
order_by c k input to true e (timer RA) = refl
order_by c k input to true e (timer ACK) = refl
order_by c k input to true e prover = rw e
order_by c k input to true e verifier = rw e
order_by c k input to false e (timer H) = refl
order_by c k input to false e (timer HP) = refl
order_by c k input to false e (timer HV) = refl
order_by c k input to false e (timer DAT) = refl
order_by c k input to false e (timer RA) = refl
order_by c k input to false e (timer ACK) = refl
order_by c k input to false e prover = rw e
order_by c k input to false e verifier = rw e

pub order_to_lem : (c : Connection) (k : ℕ) (input : Input) (to : ℕ) (task : Task) → order_to (actions_of c k input to) task ≡ order_in c.state k to input.timer task (tag_of c (timer_of task))
unfolding actions_of
order_to_lem c k input to task = order_by c k input to (eqb to 9) refl task

-- The order if the task runs, or does not.
abbrev pub order_if : (s k to name : ℕ) → Task → (runs : Bool) → ℕ
order_if s k to name task runs = order_in s k to name task (cond runs 1 0)

-- Of the tag an order asks only whether it is on.
pub by_on : (s k to name : ℕ) (task : Task) (tag : ℕ) (runs : Bool) → eqb tag 0 ≡ not runs → order_in s k to name task tag ≡ order_if s k to name task runs
by_on s k to name (timer x) tag true e = rw e
by_on s k to name (timer x) tag false e = rw e
by_on s k to name prover tag true e = rw e
by_on s k to name prover tag false e = rw e
by_on s k to name verifier tag true e = rw e
by_on s k to name verifier tag false e = rw e

-- Whether the ledger goes with the tag, which starts, ends or stays: the order is a start, the one that ends the task, or another; the event
-- reports the task's end or not; the task runs or not.
abbrev pub goes_with : (starting stopping reports runs started ended : Bool) → Bool
goes_with s e r on started ended = cond s started (not started && cond ended (e || (r || not on)) (not e && not r))

-- What holds of a task at an event from a state to another, by name and by whether the condition holds.
-- Its report asks to be live.
abbrev pub reports_live : (k name : ℕ) (held : Bool) → Task → Bool
reports_live k name held task = not (reports_end task k name) || held

-- The ledger goes with its tag.
abbrev pub ledger_goes : (s k to name : ℕ) → Task → Bool
ledger_goes s k to name task =
    let x = timer_of task in
    let given = order_if s k to name task (runs_in x s) in
    goes_with (eqb given order.start) (eqb given (ending task)) (reports_end task k name) (runs_in x s) (starts x k s to) (ends x to)

-- It may get its order.
abbrev pub order_fits : (s k to name : ℕ) → Task → Bool
order_fits s k to name task =
    let runs = runs_in (timer_of task) s in
    may_get task (runs && not (reports_end task k name)) (order_if s k to name task runs)

abbrev task_fits : (s k to name : ℕ) (held : Bool) → Task → Bool
task_fits s k to name held task = reports_live k name held task && (ledger_goes s k to name task && order_fits s k to name task)

abbrev cell_fits : (s k flag : ℕ) (held : Bool) → Bool
cell_fits s k flag held = let to = next_by s flag k held in eqb to ignored || below 3 (λ name. tasks (task_fits s k to name held))

-- The test of all cells.
all_tasks_fit : T (cells cell_fits)
unfolding cell
all_tasks_fit = tt

-- What it says of a task.
pub record Fit (s k to name : ℕ) (held : Bool) (task : Task) : Type 0 where
  pub live : T (reports_live k name held task)
  pub goes : T (ledger_goes s k to name task)
  pub gets : T (order_fits s k to name task)

pub fit : (s k flag name : ℕ) (held : Bool) (task : Task) → s ≤ 9 → k < 24 → flag ≤ 1 → name < 3 → eqb (next_by s flag k held) ignored ≡ false → Fit s k (next_by s flag k held) name held task
fit s k flag name held task hs hk hf hn e =
    let to = next_by s flag k held in
    let t = tasks_at (task_fits s k to name held) (below_at 3 (λ name. tasks (task_fits s k to name held)) (rw e at (cells_at cell_fits all_tasks_fit s k flag held hs hk hf)) name hn) task in
    let u = and_right (reports_live k name held task) _ t in
    record {
      live = and_left (reports_live k name held task) _ t;
      goes = and_left (ledger_goes s k to name task) _ u;
      gets = and_right (ledger_goes s k to name task) _ u;
    }

-- The condition of an event that reports the end of a task is that it is live for the task.
pub asks : (task : Task) (k name : ℕ) → T (reports_end task k name) → condition_of k name ≡ live (timer_of task)
asks (timer H) k name t = rw (eqb→eq k 20 (and_left (eqb k 20) _ t), eqb→eq name 0 (and_right (eqb k 20) _ t))
asks (timer HP) k name t = rw (eqb→eq k 20 (and_left (eqb k 20) _ t), eqb→eq name 1 (and_right (eqb k 20) _ t))
asks (timer HV) k name t = rw (eqb→eq k 20 (and_left (eqb k 20) _ t), eqb→eq name 2 (and_right (eqb k 20) _ t))
asks (timer DAT) k name t = rw (eqb→eq k 21 t)
asks (timer RA) k name t = rw (eqb→eq k 22 t)
asks (timer ACK) k name t = rw (eqb→eq k 23 t)
asks prover k name t = at_keys (λ j. condition_of j name ≡ live HP) (7 ∷ 8 ∷ []) (refl, refl) k (one_of (7 ∷ 8 ∷ []) k t)
asks verifier k name t = at_keys (λ j. condition_of j name ≡ live HV) (4 ∷ 5 ∷ []) (refl, refl) k (one_of (4 ∷ 5 ∷ []) k t)
