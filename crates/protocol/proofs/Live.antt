-- Nothing live is ignored: where a timer runs, the table takes whatever comes from it and from its driver.
-- Assumes nothing.
use mathlib.Core.Path.{◌≡◌, refl, sym, subst, ap, ◌∙◌}
use mathlib.Core.Bool.{Bool, true, false, not, ◌||◌, not-and_self}
use mathlib.Core.List.{List}
use Prim.Native.Nat.{ℕ}
use lib.Dec.{T, eqb}
use lib.ListN.{length}
use borrow.Author.Tests.{eqb-true, eq-eqb}
use Rattle.event.specs.Call.{Call, input_by, input_of}
use Rattle.event.specs.declared.Input.{Input}
use Rattle.record.specs.Limits.{Limits}
use Rattle.record.specs.Tags.{tag_of, runs_in}
use Rattle.record.specs.declared.Connection.{Connection}
use Rattle.table.specs.Table as table
use Rattle.protocol.specs.Condition.{Condition, live, good_hello, good_token, expected_bit, next_send_bit, nothing, condition_of, is_live, meets, holds, next_by, next_state}
use Rattle.protocol.specs.Live.{is_live_by, is_live_event, NothingLiveIgnored}
use Rattle.protocol.specs.Step.{Result}
use Rattle.protocol.specs.declared.Answer.{Answer}
use Rattle.protocol.specs.declared.Answer.TheVariants.{Handled, Ignored, Refused}
use Rattle.protocol.proofs.Stepped.{Stepped, refused, ignored, handled, stepped, next, Unrefused, unrefused}
use Rattle.record.proofs.WellFormed.{parts, off_is}
use Rattle.table.proofs.Finite.{is_true, is_false, implied, below, below_at, cells, cells_at}

-- Whether a cell takes an event whose condition holds, if its timer runs in the state.
abbrev takes : (s k flag : ℕ) → Condition → Bool
takes s k flag (live x) = not (runs_in x s) || not (eqb (next_by s flag k true) table.ignored)
takes s k flag good_hello = true
takes s k flag good_token = true
takes s k flag expected_bit = true
takes s k flag next_send_bit = true
takes s k flag nothing = true

abbrev cell_takes : (s k flag : ℕ) → Bool → Bool
cell_takes s k flag held = below 3 (λ name. takes s k flag (condition_of k name))

-- The test of all cells: antt computes it.
all_take : T (cells cell_takes)
unfolding table.cell
all_take = tt

-- A timer with a live tag runs, if its tag is on just where it runs.
live_runs : (tag own : ℕ) (runs : Bool) → eqb own 0 ≡ not runs → T (is_live tag own) → T runs
live_runs tag own true e t = tt
live_runs tag own false e t = absurd (rw (eqb-true own 0 e, not-and_self) at t)

-- A call that is not refused.
module _ (limits : Limits) (connection : Connection) (call : Call) (cache : List ℕ) (U : Unrefused limits connection call cache) where
  abbrev k : ℕ
  k = call.event.code

  abbrev input : Input
  input = input_of limits call (length cache)

  -- The state that follows if the event's condition holds.
  abbrev then : ℕ
  then = next_by connection.state connection.awaiting_ack k true

  -- A live event's condition holds, and the table takes it.
  taken_by : (condition : Condition) → T (is_live_by connection input.tag condition) → T (takes connection.state k connection.awaiting_ack condition)
      → (meets connection input condition ≡ true) × T (not (eqb then table.ignored))
  taken_by (live x) m t = (is_true _ m, implied (runs_in x connection.state) _ t (live_runs input.tag (tag_of connection x) (runs_in x connection.state) (off_is limits connection (parts limits connection U.well) x) m))
  taken_by good_hello m t = absurd m
  taken_by good_token m t = absurd m
  taken_by expected_bit m t = absurd m
  taken_by next_send_bit m t = absurd m
  taken_by nothing m t = absurd m

  live_taken : T (is_live_event connection call.event) → eqb (next limits connection call cache) table.ignored ≡ false
  unfolding next_state holds input_by
  live_taken m =
      let p = parts limits connection U.well in
      let t = cells_at cell_takes all_take connection.state k connection.awaiting_ack true p.state U.arguments.code p.flag in
      let q = taken_by (condition_of k input.timer) m (below_at 3 (λ name. takes connection.state k connection.awaiting_ack (condition_of k name)) t input.timer U.arguments.timer) in
      ap (λ (b : Bool). eqb (next_by connection.state connection.awaiting_ack k b) table.ignored) q.0 ∙ is_false (eqb then table.ignored) q.1

-- Whether an answer is that the call was ignored.
abbrev is_ignored : Answer → Bool
is_ignored Handled = false
is_ignored Ignored = true
is_ignored (Refused number) = false

not_ignored : (answer : Answer) → is_ignored answer ≡ false → answer ≡ Ignored → ⊥
not_ignored answer e a = absurd (subst T (sym (ap is_ignored a) ∙ e) tt)

pub nothing_live_ignored : (limits : Limits) → NothingLiveIgnored limits
nothing_live_ignored limits connection call cache t a = by_step (stepped limits connection call cache)
  where
    by_step : Stepped limits connection call cache → ⊥
    by_step (refused n e) = not_ignored _ refl (sym (ap (λ (r : Result). r.outcome.answer) e) ∙ a)
    by_step (ignored n i e) = absurd (subst T (sym (eq-eqb _ _ i) ∙ live_taken limits connection call cache (unrefused limits connection call cache n) t) tt)
    by_step (handled n i e) = not_ignored _ refl (sym (ap (λ (r : Result). r.outcome.answer) e) ∙ a)
