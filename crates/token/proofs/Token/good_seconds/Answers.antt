-- The seconds of a good token fit 32 bits, since they are at most a day.
use Rattle.std.proofs.Common.{◌≡◌, arith, rules, ◌≤◌, true, ap, ◌∙◌, ℤ, pos, nat_abs, Fits, w32, FitsSigned, w64}
use Rattle.std.proofs.lemmas.Int.{ints, to_z-of_z}
use lib.Dec.{T}
use lib.Signed.{le_z, non_neg}
use Rattle.token.specs.Answer.{Answer}
use Rattle.token.proofs.Good.{at_most_day}
use Rattle.token.proofs.Token.good_seconds.Goals as goal

at_most_32_bits : (z : ℤ) → T (non_neg z) × (nat_abs z ≤ 86400) → T (non_neg z) × Fits w32 (nat_abs z)
at_most_32_bits z day = (day.0, omega arith)

pub overflow_cast-result : goal.overflow_cast-result
overflow_cast-result c =
    let left_fits : FitsSigned w64 c.in-Ok.left = search rules in
    let answer = ap (λ (a : Answer). a.seconds) c.in-Ok.ensures in
    let same = to_z-of_z w64 c.in-Ok.left left_fits ∙ answer in
    let positive : le_z (pos 1) c.in-Ok.left ≡ true = grind (arith, ints) in
    rw same (at_most_32_bits _ (at_most_day _ _ _ (rw (← answer) positive)))
