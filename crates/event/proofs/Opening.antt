-- When a choice of suites is refused, in the form that the code reads it.
-- Assumes nothing.
use mathlib.Core.Path.{◌≡◌, refl}
use mathlib.Core.Bool.{Bool, true, false, cond}
use mathlib.Core.List.{List}
use Prim.Native.Nat.{ℕ}
use lib.Dec.{eqb}
use Rattle.suites.specs.Answer.{Found, refused, chosen}
use Rattle.suites.specs.Choice.{any_too_long, first_found, choice}

refused_if : (too_long : Bool) (verifier prover : Found) → eqb (cond too_long refused (chosen verifier prover)).refusal 6 ≡ too_long
refused_if true verifier prover = refl
refused_if false verifier prover = refl

-- A choice is refused just where a list is too long.
pub refused_if_too_long : (our_verifiers peer_provers peer_verifiers our_provers : List ℕ) →
    eqb (choice our_verifiers peer_provers peer_verifiers our_provers).refusal 6 ≡ any_too_long our_verifiers peer_provers peer_verifiers our_provers
unfolding choice
refused_if_too_long our_verifiers peer_provers peer_verifiers our_provers =
    refused_if (any_too_long our_verifiers peer_provers peer_verifiers our_provers) (first_found our_verifiers peer_provers) (first_found peer_verifiers our_provers)
