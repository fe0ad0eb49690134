-- No two answers have the same numbers: the contract of `seconds_left`, which speaks of them, fixes its result.
use mathlib.Core.Path.{◌≡◌, refl, sym, ap, ◌∙◌}
use mathlib.Core.Bool.{cond}
use lib.Dec.{eqb}
use lib.IntN.{ℤ}
use Rattle.std.specs.Prelude.{Result, Ok, Err}
use Rattle.token.specs.Answer.{Answer}
use Rattle.token.specs.Numbers.{answer_of}
use Rattle.token.specs.declared.MarginTooLarge.{MarginTooLarge}

abbrev time_from : Answer → Result ℤ MarginTooLarge
time_from a = cond (eqb a.refusal 0) (Ok a.seconds) (Err (record {}))

time_back : (t : Result ℤ MarginTooLarge) → time_from (answer_of t) ≡ t
time_back (Ok seconds) = refl
time_back (Err fault) = refl

pub same_numbers : (a b : Result ℤ MarginTooLarge) → answer_of a ≡ answer_of b → a ≡ b
same_numbers a b same = sym (time_back a) ∙ ap time_from same ∙ time_back b
