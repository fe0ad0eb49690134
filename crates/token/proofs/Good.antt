-- Laws of good tokens, for this crate and for those above it.
use mathlib.Core.Path.{◌≡◌, refl}
use mathlib.Core.Bool.{Bool, true, false, cond, false≢true}
use Prim.Native.Nat.{ℕ, zero, suc, ◌≤◌}
use native.Mathlib.Omega.{arith}
use borrow.Author.Tests.{le-leb}
use lib.Dec.{T, ltb}
use lib.IntN.{ℤ, pos, negsuc, neg_ℤ, nat_abs, ◌-ℤ◌}
use lib.Signed.{lt_z, le_z, non_neg}
use Rattle.token.specs.Answer.{refused, left, time_left}
use Rattle.token.specs.SecondsLeft.{day, seconds_left, margin_too_large}
use Rattle.token.specs.Good.{good, good_seconds}
use Rattle.std.proofs.lemmas.Int.{ints}

-- In the paper's number and not in `day`, so that another `day` is refused.
abbrev AtMostDay : ℤ → Type 0
AtMostDay left = le_z (pos 1) left ≡ true → T (non_neg left) × (nat_abs left ≤ 86400)

clamped_at_most_day : (z : ℤ) (t u : Bool) → lt_z z (neg_ℤ day) ≡ t → lt_z day z ≡ u → AtMostDay (cond t (neg_ℤ day) (cond u day z))
clamped_at_most_day z true u p q h = absurd (false≢true h)
clamped_at_most_day z false true p q h = (tt, omega arith)
clamped_at_most_day (pos n) false false p q h = (tt, omega (arith, ints, q))
clamped_at_most_day (negsuc n) false false p q h = absurd (false≢true h)

-- Seconds left that are at least 1 are a natural number, at most a day.
pub at_most_day : (expiry now : ℤ) (margin : ℕ) → AtMostDay (time_left expiry now margin).seconds
unfolding time_left seconds_left
at_most_day expiry now margin = by_margin (margin_too_large margin)
  where
    by_margin : (large : Bool) → AtMostDay (cond large refused (left (seconds_left expiry now margin))).seconds
    by_margin true h = absurd (false≢true h)
    by_margin false h = clamped_at_most_day ((expiry -ℤ now) -ℤ pos margin) _ _ refl refl h

-- A token is good exactly if its seconds are not 0.
pub good_is_positive : (verdict : Bool) (left : ℤ) → ltb 0 (good_seconds verdict left) ≡ good verdict left
good_is_positive false left = refl
good_is_positive true (pos zero) = refl
good_is_positive true (pos (suc n)) = let one = le-leb 1 (suc n) (omega arith) in rw one one
good_is_positive true (negsuc n) = refl
