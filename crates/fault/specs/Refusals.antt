-- Request #101, the refusals of bytes that are no message, and their numbers.
use Rattle.std.specs.Prelude.{ℕ}
use Rattle.fault.specs.declared.Refusal.{Refusal}
use Rattle.fault.specs.declared.Refusal.TheVariants.{EndsTooSoon, UnexpectedField, WrongWireType, NumberTooLarge, TooManySuites}

-- The number of a refusal.
abbrev pub refusal_number : Refusal → ℕ
refusal_number EndsTooSoon = 21
refusal_number UnexpectedField = 22
refusal_number WrongWireType = 23
refusal_number NumberTooLarge = 24
refusal_number TooManySuites = 25
