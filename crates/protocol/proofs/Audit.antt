-- The audit: what the orders have started, and neither ended nor seen reported, is what the record has a tag for.
-- Assumes nothing.
use mathlib.Core.Path.{◌≡◌, refl, sym, subst, subst⁻¹, ap, ◌∙◌}
use mathlib.Core.Bool.{Bool, true, false, not, ◌&&◌, ◌||◌, cond, and-false, not-and_self}
use mathlib.Core.List.{List}
use mathlib.Core.Option.{Option, none, some}
use Prim.Native.Nat.{ℕ, ◌+◌}
use native.Mathlib.Omega.{arith}
use lib.Dec.{T, eqb}
use lib.ListN.{length}
use borrow.Author.Tests.{eqb-true, ne_eqb}
use Rattle.event.specs.Call.{Call, input_by, input_of}
use Rattle.event.specs.declared.Input.{Input}
use Rattle.record.specs.Limits.{Limits}
use Rattle.record.specs.Tags.{tag_of, runs_in}
use Rattle.record.specs.WellFormed.{fresh}
use Rattle.record.specs.declared.Connection.{Connection}
use Rattle.table.specs.Table as table
use Rattle.protocol.specs.Actions.{no_actions, actions_of}
use Rattle.protocol.specs.Advance.{raised}
use Rattle.protocol.specs.Agreement.{is_handled, when}
use Rattle.protocol.specs.Audit.{Task, timer_of, order_to, ending, may_get, reports_end, Ledger, nothing_runs, is_on, is_on_with, reported, is_seen, still_running, after_order, entered, Audited, Audit}
use Rattle.protocol.specs.Condition.{Condition, is_live, meets, holds, next_state}
use Rattle.protocol.specs.Live.{is_live_by, is_live_event}
use Rattle.protocol.specs.Orders as order
use Rattle.protocol.specs.Step.{Result, result_of}
use Rattle.protocol.specs.Timers.{starts, ends, tag_after}
use Rattle.protocol.specs.declared.Answer.{Answer}
use Rattle.protocol.specs.declared.Answer.TheVariants.{Ignored}
use Rattle.protocol.proofs.Along.{along}
use Rattle.protocol.proofs.Live.{nothing_live_ignored}
use Rattle.protocol.proofs.Moved.{advanced}
use Rattle.protocol.proofs.Stepped.{Stepped, refused, ignored, handled, stepped, next, still, moved_to, Unrefused, unrefused}
use Rattle.protocol.proofs.Tasks.{unordered, may_get_none, order_if, order_to_lem, by_on, goes_with, Fit, fit, asks}
use Rattle.record.proofs.WellFormed.{tag_0, parts, off_is}
use Rattle.table.proofs.Finite.{and_left, and_right, is_true, implied}

-- Laws over tests and numbers. None of them knows the table.

-- The tag with which a task runs, if it is on.
abbrev on_tag : ℕ → Option ℕ
on_tag tag = when (not (eqb tag 0)) tag

-- The ledger goes with the tag.
entry_law : (s e r runs started ended : Bool) (number tag : ℕ) → eqb tag 0 ≡ not runs → eqb number 0 ≡ false → T (goes_with s e r runs started ended)
    → cond s (some number) (cond e none (cond r none (on_tag tag))) ≡ on_tag (tag_after started ended number tag)
entry_law true e r o true d n t p q g = rw q
entry_law true e r o false d n t p q g = absurd g
entry_law false e r o true d n t p q g = absurd g
entry_law false true r o false true n t p q g = refl
entry_law false false true o false true n t p q g = refl
entry_law false false false true false true n t p q g = absurd g
entry_law false false false false false true n t p q g = rw p
entry_law false true r o false false n t p q g = absurd g
entry_law false false true o false false n t p q g = absurd g
entry_law false false false o false false n t p q g = refl

-- What runs and is not reported runs still.
still_law : (r runs : Bool) (tag : ℕ) → eqb tag 0 ≡ not runs → is_on (cond r none (on_tag tag)) ≡ (runs && not r)
still_law true true tag p = refl
still_law true false tag p = refl
still_law false true tag p = rw p
still_law false false tag p = rw p

-- Without an order nothing starts or ends.
quiet_law : (s e : Bool) (x y z : Option ℕ) → T (not (s || e)) → cond s x (cond e y z) ≡ z
quiet_law true e x y z t = absurd t
quiet_law false true x y z t = absurd t
quiet_law false false x y z t = refl

-- To run with a tag is to be live.
on_with_law : (tag own : ℕ) (zero same : Bool) → eqb own 0 ≡ zero → eqb tag own ≡ same → is_on_with tag (on_tag own) ≡ is_live tag own
on_with_law tag own true same z s = rw (eqb-true own 0 z, not-and_self)
on_with_law tag own false true z s = rw (z, s, eqb-true tag own s, z)
on_with_law tag own false false z s = rw (z, s, and-false)

-- A report that has to be live is one.
report_law : (r live : Bool) → (T r → T live) → (r && live) ≡ r
report_law true live h = is_true live (h tt)
report_law false live h = refl

-- What leads to a contradiction does not hold.
never : (b : Bool) → (T b → ⊥) → b ≡ false
never true h = absurd (h tt)
never false h = refl

-- The ledger says what the record says: the number, and which tasks run with which tags.
record Says (ledger : Ledger) (connection : Connection) : Type 0 where
  number : ledger.handled ≡ connection.handled
  tags : (task : Task) → ledger.running task ≡ on_tag (tag_of connection (timer_of task))

-- It does so after a call, and every task may get its order.
record Checked (ledger : Ledger) (call : Call) (result : Result) : Type 0 where
  says : Says (entered ledger call result) result.outcome.connection
  orders_fit : (task : Task) → T (may_get task (is_on (still_running ledger call result.outcome.answer task)) (order_to result.outcome.actions task))

-- One call. L: the ledger says what the record says before it.
module _ (limits : Limits) (ledger : Ledger) (connection : Connection) (cache : List ℕ) (call : Call) (L : Says ledger connection) where
  abbrev k : ℕ
  k = call.event.code

  abbrev input : Input
  input = input_of limits call (length cache)

  abbrev own : Task → ℕ
  own task = tag_of connection (timer_of task)

  abbrev ended : Task → Bool
  ended task = reports_end task k input.timer

  -- What the ledger takes for a report of a task is live.
  reported_is : (task : Task) → reported ledger call task ≡ (ended task && is_live input.tag (own task))
  unfolding input_by
  reported_is task =
      ap (λ (o : Option ℕ). ended task && is_on_with input.tag o) (L.tags task)
      ∙ ap (λ (b : Bool). ended task && b) (on_with_law input.tag (own task) (eqb (own task) 0) (eqb input.tag (own task)) refl refl)

  reported_live : (task : Task) → T (reported ledger call task) → T (is_live_event connection call.event)
  unfolding input_by
  reported_live task t =
      let u = subst T (reported_is task) t in
      subst⁻¹ (λ (c : Condition). T (is_live_by connection input.tag c)) (asks task k input.timer (and_left (ended task) _ u)) (and_right (ended task) _ u)

  reports_not_ignored : (task : Task) → T (reported ledger call task) → (result_of limits connection call cache).outcome.answer ≡ Ignored → ⊥
  reports_not_ignored task t = nothing_live_ignored limits connection call cache (reported_live task t)

  -- A call that changes nothing orders nothing.
  rests : (answer : Answer) → is_handled answer ≡ false → ((task : Task) → (is_seen answer && reported ledger call task) ≡ false) → Checked ledger call (still answer connection cache)
  rests answer e unseen = record {
    says = record {
      number = rw e L.number;
      tags = λ task.
          quiet_law (eqb (order_to no_actions task) order.start) (eqb (order_to no_actions task) (ending task)) _ _ _ (unordered task)
          ∙ ap (λ (b : Bool). cond b none (ledger.running task)) (unseen task) ∙ L.tags task;
    };
    orders_fit = λ task. may_get_none task _;
  }

  -- A handled call.
  module _ (U : Unrefused limits connection call cache) (heeded : eqb (next limits connection call cache) table.ignored ≡ false) where
    abbrev to : ℕ
    to = next limits connection call cache

    abbrev runs : Task → Bool
    runs task = runs_in (timer_of task) connection.state

    abbrev given : Task → ℕ
    given task = order_if connection.state k to input.timer task (runs task)

    F : (task : Task) → Fit connection.state k to input.timer (holds connection k input) task
    unfolding next_state
    F task = let p = parts limits connection U.well in fit connection.state k connection.awaiting_ack input.timer (holds connection k input) task p.state U.arguments.code p.flag U.arguments.timer heeded

    on_is : (task : Task) → eqb (own task) 0 ≡ not (runs task)
    on_is task = off_is limits connection (parts limits connection U.well) (timer_of task)

    order_is : (task : Task) → order_to (actions_of connection k input to) task ≡ given task
    order_is task = order_to_lem connection k input to task ∙ by_on connection.state k to input.timer task (own task) (runs task) (on_is task)

    -- A handled report is live, so that the ledger takes it.
    report_is : (task : Task) → reported ledger call task ≡ ended task
    unfolding holds
    report_is task =
        reported_is task
        ∙ report_law (ended task) (is_live input.tag (own task))
        (λ r. subst (λ (c : Condition). T (meets connection input c)) (asks task k input.timer r) (implied (ended task) _ (F task).live r))

    moves : Checked ledger call (moved_to limits to connection call cache)
    moves = record {
      says = record {
        number = ap (λ (n : ℕ). n + 1) L.number ∙ sym (advanced connection k input to).number;
        tags = λ task.
            let x = timer_of task in
            (λ i. after_order (order_is task i) (ending task) (L.number i + 1) (cond (report_is task i) none (L.tags task i)))
            ∙ entry_law (eqb (given task) order.start) (eqb (given task) (ending task)) (ended task) (runs task) (starts x k connection.state to) (ends x to) (raised connection) (own task)
            (on_is task) (ne_eqb (raised connection) 0 (λ z. omega arith)) (F task).goes
            ∙ ap on_tag (sym ((advanced connection k input to).tag x));
      };
      orders_fit = λ task.
          subst⁻¹ T ((λ i. may_get task (is_on (cond (report_is task i) none (L.tags task i))) (order_is task i)) ∙ ap (λ (b : Bool). may_get task b (given task)) (still_law (ended task) (runs task) (own task) (on_is task)))
          (F task).gets;
    }

  checked : Checked ledger call (result_of limits connection call cache)
  checked = by_step (stepped limits connection call cache)
    where
      by_step : Stepped limits connection call cache → Checked ledger call (result_of limits connection call cache)
      by_step (refused n e) = subst⁻¹ (Checked ledger call) e (rests _ refl (λ task. refl))
      by_step (ignored n i e) =
          subst⁻¹ (Checked ledger call) e
          (rests Ignored refl (λ task. never (reported ledger call task) (λ t. reports_not_ignored task t (ap (λ (r : Result). r.outcome.answer) e))))
      by_step (handled n i e) = subst⁻¹ (Checked ledger call) e (moves (unrefused limits connection call cache n) i)

-- The audit of any list of calls.
pub audit : (limits : Limits) → Audit limits
audit limits cache calls =
    along limits Audited entered (λ ledger connection cache. Says ledger connection)
    (λ ledger connection cache call L.
    let c = checked limits ledger connection cache call L in
    (record { tags_on = c.says.tags; orders_fit = c.orders_fit; reports_not_ignored = reports_not_ignored limits ledger connection cache call L }, c.says))
    nothing_runs fresh cache (record { number = refl; tags = λ task. sym (ap on_tag (tag_0 (timer_of task))) }) calls
