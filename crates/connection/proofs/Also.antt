-- The step's result where the host's interface may refuse too.
-- Assumes nothing.
use mathlib.Core.Path.{◌≡◌, refl, sym, ap, ◌∙◌}
use mathlib.Core.Bool.{Bool, true, false, cond}
use mathlib.Core.List.{List}
use Prim.Native.Nat.{ℕ, ◌≤◌}
use lib.Dec.{eqb}
use lib.ListN.{length}
use Rattle.std.specs.Prelude.{Option, None, Some}
use Rattle.decision.specs.Also.{decided_also}
use Rattle.decision.specs.Lent.{lent}
use Rattle.event.specs.Call.{Call, input_of}
use Rattle.event.specs.declared.Input.{Input}
use Rattle.record.specs.Numbers.{record_in}
use Rattle.protocol.specs.Sheet.{slots_of}
use Rattle.flat.specs.Written.{Written}
use Rattle.flat.proofs.Written.{as_written}
use Rattle.record.specs.Limits.{limits}
use Rattle.record.specs.declared.Connection.{Connection}
use Rattle.table.specs.Table.{ignored}
use Rattle.protocol.specs.Condition.{next_state}
use Rattle.protocol.specs.Refusal.{refusal}
use Rattle.protocol.specs.Step.{unchanged, handled_to, decided, step_of, refusal_of, cache_after, result_with, result_of}
use Rattle.protocol.specs.declared.Answer.{Answer}
use Rattle.protocol.specs.declared.Answer.TheVariants.{Handled, Ignored, Refused}
use Rattle.protocol.specs.declared.Outcome.{Outcome}
use Rattle.protocol.proofs.Stepped.{never_refused}
use Rattle.connection.specs.Also.{result_also}
use Rattle.connection.proofs.Cache.{room_for}

-- A call that is handled is handled by the step.
handled_by_step : (also : Option ℕ) (connection : Connection) (call : Call) (cache : List ℕ) → (decided_also also connection call.event.code (input_of limits call (length cache))).answer ≡ Handled
    → (step_of limits connection call (length cache)).answer ≡ Handled
unfolding decided_also
handled_by_step None connection call cache e = e
handled_by_step (Some number) connection call cache e = by_refusal (eqb (refusal_of limits connection call (length cache)) 0) e
  where
    by_refusal : (b : Bool) → (cond b (unchanged (Refused number) connection) (step_of limits connection call (length cache))).answer ≡ Handled → (step_of limits connection call (length cache)).answer ≡ Handled
    by_refusal true e = absurd (never_refused number e)
    by_refusal false e = e

-- Without a fault of the interface it is the step's result.
pub none_also : (connection : Connection) (call : Call) (cache : List ℕ) → result_also None connection call cache ≡ result_of limits connection call cache
unfolding result_also decided_also result_of
none_also connection call cache = refl

-- An event that is not handled leaves the record as it was.
lent_by : (n to : ℕ) (connection : Connection) (code : ℕ) (input : Input) (none ignores : Bool)
    → let o = cond none (cond ignores (unchanged Ignored connection) (handled_to to connection code input)) (unchanged (Refused n) connection) in lent connection o ≡ o
lent_by n to connection code input true true = refl
lent_by n to connection code input true false = refl
lent_by n to connection code input false ignores = refl

lent_step : (connection : Connection) (code : ℕ) (input : Input) → lent connection (decided limits connection code input) ≡ decided limits connection code input
unfolding decided
lent_step connection code input =
    let n = refusal limits connection code input in
    let to = next_state connection code input in
    lent_by n to connection code input (eqb n 0) (eqb to ignored)

lent_is : (also : Option ℕ) (connection : Connection) (code : ℕ) (input : Input) → lent connection (decided_also also connection code input) ≡ decided_also also connection code input
unfolding decided_also
lent_is None connection code input = lent_step connection code input
lent_is (Some number) connection code input = by_refusal (eqb (refusal limits connection code input) 0)
  where
    by_refusal : (b : Bool) → let o = cond b (unchanged (Refused number) connection) (decided limits connection code input) in lent connection o ≡ o
    by_refusal true = refl
    by_refusal false = lent_step connection code input

-- What was decided for the record before and the input of a call, and what is then promised.
module _ (also : Option ℕ) (before : Connection) (call : Call) (cache : List ℕ) (connection : Connection) (input : Input)
    (answer : Answer) (numbers slots : List ℕ) (same : connection ≡ before) (is_read : input ≡ input_of limits call (length cache))
    (w : Written (lent before (decided_also also connection call.event.code input)) answer numbers slots) where
  decides : Written (decided_also also before call.event.code (input_of limits call (length cache))) answer numbers slots
  decides =
      as_written _ _ answer numbers slots ((λ i. lent before (decided_also also (same i) call.event.code (is_read i))) ∙ lent_is also before call.event.code (input_of limits call (length cache))) w

  -- Answer, record, actions and cache.
  pub promised : (after : List ℕ) → after ≡ cache_after answer call cache
      → (answer ≡ (result_also also before call cache).outcome.answer) × ((record_in numbers ≡ (result_also also before call cache).outcome.connection) × ((slots ≡ slots_of (result_also also before call cache).outcome.actions) × (after ≡ (result_also also before call cache).cache)))
  unfolding result_also
  promised after c = (decides.answered, (decides.record_left, (decides.ordered, c ∙ ap (λ (y : Answer). cache_after y call cache) decides.answered)))

  -- There is room for the block of a handled event 2.
  pub room : answer ≡ Handled → call.event.code ≡ 2 → length call.payload ≤ length cache
  room e two = room_for limits before call cache (handled_by_step also before call cache (sym decides.answered ∙ e)) two
