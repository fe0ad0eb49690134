-- The verdict on a token is a number, and one that is neither 0 nor 1 is refused.
use Rattle.std.specs.Prelude.{ℕ, Bool, ◌&&◌, Option, None, Some, cond, [], ◌∷◌, ltb}
use Rattle.table.specs.Sets.{is_in}
use Rattle.interface.specs.declared.FlatEvent.{FlatEvent}

-- The refusal of a verdict that is neither 0 nor 1.
abbrev pub refused_verdict : ℕ
refused_verdict = 41

-- Events 11 and 13 carry a verdict; 0 is no and 1 is yes.
abbrev pub wrong_verdict : FlatEvent → Bool
wrong_verdict flat = is_in (11 ∷ 13 ∷ []) flat.code && ltb 1 flat.verdict

-- The interface's own refusal of an event, if any.
abbrev pub refused_as : FlatEvent → Option ℕ
refused_as flat = cond (wrong_verdict flat) (Some refused_verdict) None
