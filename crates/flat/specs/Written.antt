-- What functions promise of the numbers that they write. No definition rests on this file.
use Rattle.std.specs.Prelude.{ℕ, ◌≡◌, List}
use Rattle.protocol.specs.declared.Answer.{Answer}
use Rattle.protocol.specs.declared.Outcome.{Outcome}
use Rattle.record.specs.Numbers.{record_in}
use Rattle.protocol.specs.Sheet.{slots_of}

-- An outcome, written in numbers.
pub record Written (outcome : Outcome) (answer : Answer) (numbers slots : List ℕ) : Type 0 where
  pub answered : answer ≡ outcome.answer
  pub record_left : record_in numbers ≡ outcome.connection
  pub ordered : slots ≡ slots_of outcome.actions
