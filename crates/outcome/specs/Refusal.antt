-- Document 01, "Refusal numbers": the number that an answer has, and whether it is a refusal.
use Rattle.std.specs.Prelude.{ℕ, Bool, true, false, Option, None, Some}
use Rattle.protocol.specs.declared.Answer.{Answer}
use Rattle.protocol.specs.declared.Answer.TheVariants.{Handled, Ignored, Refused}

-- The paper's number for each case: that of the refusal, 0 where there is none.
abbrev pub number_of : Option ℕ → ℕ
number_of None = 0
number_of (Some number) = number

-- Whether an answer refuses.
abbrev pub refuses : Answer → Bool
refuses Handled = false
refuses Ignored = false
refuses (Refused number) = true
