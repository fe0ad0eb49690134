-- The suite choice, asked alone, in numbers.
use Rattle.std.specs.Prelude.{ℕ, List, [], ◌∷◌}
use Rattle.protocol.specs.Sheet.{as_number}
use Rattle.suites.specs.Answer.{Answer}

-- Whether the verifier's suite was found, that suite, and both for the prover's.
abbrev pub chosen_of : Answer → List ℕ
chosen_of answer =
    as_number answer.verifier.found ∷ answer.verifier.suite ∷ as_number answer.prover.found ∷ answer.prover.suite ∷ []
