-- What a number says that is a value, or none where a test holds.
-- Assumes nothing.
use mathlib.Core.Path.{◌≡◌, refl, sym}
use mathlib.Core.Bool.{Bool, true, false, cond}
use Prim.Native.Nat.{ℕ}
use Rattle.std.specs.Prelude.{None, Some}
use Rattle.std.proofs.lemmas.Option.{none-some, same_Some}

-- There is a value: the test fails, and the number is that value.
pub some_by : (none : Bool) (n found : ℕ) → cond none None (Some n) ≡ Some found → (none ≡ false) × (n ≡ found)
some_by true n found e = absurd (none-some found e)
some_by false n found e = (refl, same_Some n found e)

-- There is none: the test holds.
pub none_by : (none : Bool) (n : ℕ) → cond none None (Some n) ≡ None → none ≡ true
none_by true n e = refl
none_by false n e = absurd (none-some n (sym e))
