-- No two answers have the same numbers: the contract of `choose`, which speaks of them, fixes its result.
use mathlib.Core.Path.{◌≡◌, refl, sym, ap, ◌∙◌}
use mathlib.Core.Bool.{cond}
use Prim.Native.Nat.{ℕ}
use lib.Dec.{eqb}
use Rattle.std.specs.Prelude.{Option, None, Some, Result, Ok, Err}
use Rattle.suites.specs.Answer.{Answer, Found}
use Rattle.suites.specs.Numbers.{found_of, answer_of}
use Rattle.suites.specs.declared.Chosen.{Chosen}
use Rattle.suites.specs.declared.TooLong.{TooLong}

-- What was found, as the code holds it.
abbrev suite_from : Found → Option ℕ
suite_from f = cond f.found (Some f.suite) None

abbrev choice_from : Answer → Result Chosen TooLong
choice_from a = cond (eqb a.refusal 0) (Ok (record { verifier = suite_from a.verifier; prover = suite_from a.prover })) (Err (record {}))

suite_back : (c : Option ℕ) → suite_from (found_of c) ≡ c
suite_back (Some number) = refl
suite_back None = refl

choice_back : (c : Result Chosen TooLong) → choice_from (answer_of c) ≡ c
choice_back (Err fault) = refl
choice_back (Ok suites) = λ i. Ok (record { verifier = suite_back suites.verifier i; prover = suite_back suites.prover i })

pub same_numbers : (a b : Result Chosen TooLong) → answer_of a ≡ answer_of b → a ≡ b
same_numbers a b same = sym (choice_back a) ∙ ap choice_from same ∙ choice_back b
