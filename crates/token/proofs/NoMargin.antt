-- Request #104: with margin 0 seconds left is document 01's.
use mathlib.Core.Path.{◌≡◌, ap}
use lib.IntN.{ℤ, ◌-ℤ◌, +ℤ_idr}
use Rattle.token.specs.Answer.{left, time_left}
use Rattle.token.specs.SecondsLeft.{clamped, seconds_left}

-- Without a margin seconds left is never refused, and is expiry minus now, worked out exactly and then clamped.
pub no_margin : (expiry now : ℤ) → time_left expiry now 0 ≡ left (clamped (expiry -ℤ now))
unfolding time_left seconds_left
no_margin expiry now = ap (λ (z : ℤ). left (clamped z)) (+ℤ_idr (expiry -ℤ now))
