-- Request #104: what seconds left answers when asked alone, in the papers' values.
use Rattle.std.specs.Prelude.{ℕ, cond, ℤ, pos}
use Rattle.token.specs.SecondsLeft.{seconds_left, margin_too_large}

-- A refusal's number, 0 for none, and the seconds.
pub record Answer : Type 0 where
  pub refusal : ℕ
  pub seconds : ℤ

-- Refusal 9, with 0.
abbrev pub refused : Answer
refused = record { refusal = 9; seconds = pos 0 }

-- No refusal, with the seconds left.
abbrev pub left : ℤ → Answer
left seconds = record { refusal = 0; seconds = seconds }

-- The answer for a token and a margin.
unfoldable pub time_left : (expiry now : ℤ) (margin : ℕ) → Answer
time_left expiry now margin = cond (margin_too_large margin) refused (left (seconds_left expiry now margin))
