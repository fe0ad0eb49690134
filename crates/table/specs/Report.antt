-- A part of the published table as the code has it. No definition rests on this file: a private function promises it.
use Rattle.std.specs.Prelude.{ℕ, cond, [], ◌∷◌}
use Rattle.table.specs.Sets.{is_in}
use Rattle.table.specs.declared.Cell.{Cell}
use Rattle.table.specs.declared.Cell.TheVariants.{To}

-- What follows a driver's report: OK leads on, FAILED locks, a message stays.
abbrev pub reported : (code : ℕ) → (ok stay : Cell) → Cell
reported code ok stay = cond (is_in (4 ∷ 7 ∷ []) code) ok (cond (is_in (5 ∷ 8 ∷ []) code) (To 9) stay)
