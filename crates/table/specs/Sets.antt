-- Sets of states and of event codes, as document 01 writes them: lists of numbers.
use Rattle.std.specs.Prelude.{ℕ, Bool, false, ◌||◌, List, [], ◌∷◌, eqb}

-- Whether a number is one of a list.
abbrev pub is_in : List ℕ → ℕ → Bool
is_in [] n = false
is_in (x ∷ []) n = eqb n x
is_in (x ∷ (y ∷ others)) n = eqb n x || is_in (y ∷ others) n
