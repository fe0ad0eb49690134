-- The step by value: what the step on numbers gives for the numbers of a record, read back.
-- Assumes nothing.
use mathlib.Core.Path.{◌≡◌, ap, ◌∙◌}
use mathlib.Core.List.{List}
use Prim.Native.Nat.{ℕ}
use lib.ListN.{length}
use Rattle.std.specs.Prelude.{None}
use Rattle.event.specs.Call.{Call, input_of}
use Rattle.record.specs.Numbers.{numbers_of, record_in}
use Rattle.protocol.specs.Sheet.{slots_of, actions_in}
use Rattle.flat.proofs.ReadBack.{back}
use Rattle.record.specs.Limits.{limits}
use Rattle.record.specs.declared.Connection.{Connection}
use Rattle.protocol.specs.Step.{Result, refusal_number, refusal_of, result_of}
use Rattle.protocol.specs.declared.Actions.{Actions}
use Rattle.protocol.specs.declared.Answer.{Answer}
use Rattle.protocol.specs.declared.Outcome.{Outcome}
use Rattle.protocol.proofs.Decided.{number_is}
use Rattle.connection.specs.Also.{result_also}
use Rattle.connection.proofs.Also.{none_also}

module _ (connection : Connection) (call : Call) (cache : List ℕ) (first : List ℕ) (are_its : first ≡ numbers_of connection) where
  -- No interface refuses, and the numbers are the record's.
  is_result : result_also None (record_in first) call cache ≡ result_of limits connection call cache
  is_result = ap (λ (l : List ℕ). result_also None (record_in l) call cache) are_its ∙ none_also connection call cache

  module _ (answer : Answer) (numbers slots after : List ℕ)
      (got : (answer ≡ (result_also None (record_in first) call cache).outcome.answer) × ((record_in numbers ≡ (result_also None (record_in first) call cache).outcome.connection) × ((slots ≡ slots_of (result_also None (record_in first) call cache).outcome.actions) × (after ≡ (result_also None (record_in first) call cache).cache)))) where
    -- Outcome, number of the refusal and cache.
    pub by_value : (left : Connection) (actions : Actions) → left ≡ record_in numbers → actions ≡ actions_in slots
        → (◌≡◌ {A = Outcome} (record { answer = answer; connection = left; actions = actions }) (result_of limits connection call cache).outcome) × ((refusal_number answer ≡ refusal_of limits connection call (length cache)) × (after ≡ (result_of limits connection call cache).cache))
    unfolding result_of
    by_value left actions l a = (
      back (result_also None (record_in first) call cache).outcome answer numbers slots left actions (record { answered = got.0; record_left = got.1.0; ordered = got.1.1.0 }) l a ∙ ap (λ (r : Result). r.outcome) is_result,
      (
        ap refusal_number got.0 ∙ ap (λ (r : Result). refusal_number r.outcome.answer) is_result ∙ number_is limits connection call.event.code (input_of limits call (length cache)),
        got.1.1.1 ∙ ap (λ (r : Result). r.cache) is_result,
      ),
    )
