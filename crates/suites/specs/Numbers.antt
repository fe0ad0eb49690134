-- Document 01, "The forms we expect": the paper's number and values for each case of what the code answers with.
use Rattle.std.specs.Prelude.{ℕ, Option, None, Some, Result, Ok, Err}
use Rattle.suites.specs.Answer.{Found, found_suite, not_found, Answer, refused, chosen}
use Rattle.suites.specs.declared.Chosen.{Chosen}
use Rattle.suites.specs.declared.TooLong.{TooLong}

-- What two lists have in common, in document 01's values.
abbrev pub found_of : Option ℕ → Found
found_of (Some number) = found_suite number
found_of None = not_found

-- The whole answer, in document 01's values.
abbrev pub answer_of : Result Chosen TooLong → Answer
answer_of (Err fault) = refused
answer_of (Ok suites) = chosen (found_of suites.verifier) (found_of suites.prover)
