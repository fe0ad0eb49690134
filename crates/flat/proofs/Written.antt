-- What is written of an outcome is written of one that equals it.
-- Assumes nothing.
use mathlib.Core.Path.{◌≡◌, subst}
use mathlib.Core.List.{List}
use Prim.Native.Nat.{ℕ}
use Rattle.protocol.specs.declared.Answer.{Answer}
use Rattle.protocol.specs.declared.Outcome.{Outcome}
use Rattle.flat.specs.Written.{Written}

pub as_written : (o p : Outcome) (answer : Answer) (numbers slots : List ℕ) → o ≡ p → Written o answer numbers slots → Written p answer numbers slots
as_written o p answer numbers slots = subst (λ (x : Outcome). Written x answer numbers slots)
