-- Document 01, "Tokens and suites", and request #104: a token's seconds left, over the integers.
use Rattle.std.specs.Prelude.{ℕ, Bool, cond, ltb, ℤ, pos, neg_ℤ, ◌-ℤ◌}
use Rattle.std.specs.Int.Signed.{lt_z}

-- The bound of seconds left in either direction: one day.
abbrev pub day : ℤ
day = pos 86400

-- z clamped to -86,400 to 86,400.
abbrev pub clamped : ℤ → ℤ
clamped z = cond (lt_z z (neg_ℤ day)) (neg_ℤ day) (cond (lt_z day z) day z)

-- Seconds left: expiry minus now minus the margin, worked out exactly and then clamped.
unfoldable pub seconds_left : (expiry now : ℤ) (margin : ℕ) → ℤ
seconds_left expiry now margin = clamped ((expiry -ℤ now) -ℤ pos margin)

-- The fault of refusal 9: the margin is above 300.
abbrev pub margin_too_large : ℕ → Bool
margin_too_large margin = ltb 300 margin
