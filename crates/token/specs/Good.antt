-- Document 01, "Tokens and suites": which token is good, and the DAT timer's length.
use Rattle.std.specs.Prelude.{ℕ, Bool, cond, ◌&&◌, ℤ, pos, nat_abs}
use Rattle.std.specs.Int.Signed.{le_z}

-- A token is good if the verdict is yes and seconds left is at least 1.
abbrev pub good : Bool → ℤ → Bool
good verdict left = verdict && le_z (pos 1) left

-- The DAT timer's length: the seconds left of a good token, 0 for a bad one.
abbrev pub good_seconds : Bool → ℤ → ℕ
good_seconds verdict left = cond (good verdict left) (nat_abs left) 0
