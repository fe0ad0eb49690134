-- Document 01, "Refusal numbers": the case for each number of a refusal.
use Rattle.std.specs.Prelude.{ℕ, Option, None, Some, cond, eqb}

-- The refusal with a number; 0 is none.
abbrev pub refusal_numbered : ℕ → Option ℕ
refusal_numbered number = cond (eqb number 0) None (Some number)
