-- Request #102, the timer audit: what the orders have started, and neither ended nor seen reported, is just what the record's tags have on.
-- The ledger is kept from the events, the answers and the actions alone. It reads no record and no state; with the step it shares what an
-- event carries and which timer it reports.
use Rattle.std.specs.Prelude.{ℕ, ◌+◌, ◌≡◌, Bool, true, false, not, ◌&&◌, ◌||◌, cond, List, [], ◌∷◌, T, eqb}
use Rattle.std.proofs.Math.Option.{Option, none, some}
use Rattle.event.specs.Call.{Call}
use Rattle.event.specs.Kind.{kind_of, fields_of}
use Rattle.record.specs.Limits.{Limits}
use Rattle.record.specs.Tags.{tag_of}
use Rattle.record.specs.Timer.{Timer, H, HP, HV, DAT, RA, ACK}
use Rattle.record.specs.WellFormed.{fresh}
use Rattle.table.specs.Sets.{is_in}
use Rattle.protocol.specs.Along.{Along}
use Rattle.protocol.specs.Agreement.{is_handled, when}
use Rattle.protocol.specs.Orders as order
use Rattle.protocol.specs.Run.{results_of}
use Rattle.protocol.specs.Step.{Result}
use Rattle.protocol.specs.Timers.{reports}
use Rattle.protocol.specs.declared.Actions.{Actions}
use Rattle.protocol.specs.declared.Answer.{Answer}
use Rattle.protocol.specs.declared.Answer.TheVariants.{Handled, Ignored, Refused}

-- What a host runs for a connection: the six timers and the two drivers.
pub data Task : Type 0 where
  timer : Timer → Task
  prover verifier : Task

-- The timer whose tag it has: a driver shares the tag of its timer.
abbrev pub timer_of : Task → Timer
timer_of (timer x) = x
timer_of prover = HP
timer_of verifier = HV

-- The order that it gets.
abbrev pub order_to : Actions → Task → ℕ
order_to actions (timer H) = actions.h
order_to actions (timer HP) = actions.hp
order_to actions (timer HV) = actions.hv
order_to actions (timer DAT) = actions.dat
order_to actions (timer RA) = actions.ra
order_to actions (timer ACK) = actions.ack
order_to actions prover = actions.prover
order_to actions verifier = actions.verifier

-- The order that ends it.
abbrev pub ending : Task → ℕ
ending (timer x) = order.cancel
ending prover = order.stop
ending verifier = order.stop

-- The orders that only a running task gets: the one that ends it and, for a driver, a message.
abbrev pub while_running : Task → List ℕ
while_running (timer x) = order.cancel ∷ []
while_running prover = order.stop ∷ order.forward ∷ []
while_running verifier = order.stop ∷ order.forward ∷ []

-- Whether a task may get an order: none, a start or, if it runs, one of those.
abbrev pub may_get : Task → (runs : Bool) (given : ℕ) → Bool
may_get task runs given = is_in (order.none ∷ order.start ∷ []) given || is_in (while_running task) given && runs

-- Whether an event says that it has ended by itself: a timeout of the timer, OK or FAILED of the driver.
abbrev pub reports_end : Task → (code name : ℕ) → Bool
reports_end (timer x) code name = reports x code name
reports_end prover code name = is_in (7 ∷ 8 ∷ []) code
reports_end verifier code name = is_in (4 ∷ 5 ∷ []) code

-- The ledger: how many calls were handled, and the tag of each task that runs.
pub record Ledger : Type 0 where
  pub handled : ℕ
  pub running : Task → Option ℕ

-- At first nothing was handled and nothing runs.
abbrev pub nothing_runs : Ledger
nothing_runs = record { handled = 0; running = λ task. none }

-- Whether a task runs.
abbrev pub is_on : Option ℕ → Bool
is_on none = false
is_on (some own) = true

-- Whether it runs with this tag.
abbrev pub is_on_with : (tag : ℕ) → Option ℕ → Bool
is_on_with tag none = false
is_on_with tag (some own) = eqb tag own

-- Whether a call reports the end of a task that runs, with its tag.
abbrev pub reported : Ledger → Call → Task → Bool
reported ledger call task =
    let carried = fields_of (kind_of call.event) in
    reports_end task call.event.code carried.timer && is_on_with carried.tag (ledger.running task)

-- Whether the machine has seen a call: it has, unless it refused it.
abbrev pub is_seen : Answer → Bool
is_seen Handled = true
is_seen Ignored = true
is_seen (Refused number) = false

-- What runs when the orders are given: a report that is seen has ended its task.
abbrev pub still_running : Ledger → Call → Answer → Task → Option ℕ
still_running ledger call answer task = cond (is_seen answer && reported ledger call task) none (ledger.running task)

-- What runs after an order: what is started, running or not, has the number of handled calls as tag, this one included.
abbrev pub after_order : (given end number : ℕ) → Option ℕ → Option ℕ
after_order given end number running = cond (eqb given order.start) (some number) (cond (eqb given end) none running)

-- The ledger after a call.
abbrev pub entered : Ledger → Call → Result → Ledger
entered ledger call result =
    let answer = result.outcome.answer in
    let number = cond (is_handled answer) (ledger.handled + 1) ledger.handled in
    record {
      handled = number;
      running = λ task. after_order (order_to result.outcome.actions task) (ending task) number (still_running ledger call answer task);
    }

-- What the audit finds at a call, given the ledger before it.
pub record Audited (ledger : Ledger) (call : Call) (result : Result) : Type 0 where
  -- After the call just the tasks whose tags are on run, each with that tag.
  pub tags_on : (task : Task) → let tag = tag_of result.outcome.connection (timer_of task) in (entered ledger call result).running task ≡ when (not (eqb tag 0)) tag
  -- Every order is none, a start, or one to what runs: nothing is ended twice, or after its report.
  pub orders_fit : (task : Task) → T (may_get task (is_on (still_running ledger call result.outcome.answer task)) (order_to result.outcome.actions task))
  -- The report of what runs is handled or refused.
  pub reports_not_ignored : (task : Task) → T (reported ledger call task) → result.outcome.answer ≡ Ignored → ⊥

-- So it is at every call of a list.
abbrev pub AllAudited : List Call → List Result → Type 0
AllAudited = Along Audited entered nothing_runs

-- The audit: for any cache and any list of calls from a fresh record, ignored and refused ones included.
abbrev pub Audit : Limits → Type 0
Audit limits = (cache : List ℕ) (calls : List Call) → AllAudited calls (results_of limits fresh cache calls)
