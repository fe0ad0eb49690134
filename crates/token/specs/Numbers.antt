-- Document 01, "The forms we expect": the papers' number and value for each case of the result that the code answers with.
use Rattle.std.specs.Prelude.{ℤ, Result, Ok, Err}
use Rattle.token.specs.Answer.{Answer, refused, left}
use Rattle.token.specs.declared.MarginTooLarge.{MarginTooLarge}

-- The whole answer, in the papers' values.
abbrev pub answer_of : Result ℤ MarginTooLarge → Answer
answer_of (Ok seconds) = left seconds
answer_of (Err fault) = refused
