-- The answer to a call as one number.
use Rattle.std.specs.Prelude.{ℕ}
use Rattle.protocol.specs.declared.Answer.{Answer}
use Rattle.protocol.specs.declared.Answer.TheVariants.{Handled, Ignored, Refused}

-- The number of an ignored call. Refusals have the numbers from 1 to 99.
abbrev pub ignored : ℕ
ignored = 100

-- 0 for a handled call, 100 for an ignored one, else the number of the refusal.
abbrev pub answer_number : Answer → ℕ
answer_number Handled = 0
answer_number Ignored = ignored
answer_number (Refused number) = number
