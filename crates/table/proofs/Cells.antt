-- The cells of the published table beyond its last state that acts.
-- Assumes nothing.
use mathlib.Core.Path.{◌≡◌, sym}
use mathlib.Core.Bool.{Bool, true, ◌&&◌}
use mathlib.Core.List.{List, [], ◌∷◌}
use Prim.Native.Nat.{ℕ, zero, suc, ◌≤◌}
use native.Mathlib.Decide.{ℕ_discrete}
use native.Mathlib.Omega.{arith}
use lib.Dec.{T, eqb, eqb→eq, leb, leb→le}
use lib.ListN.{length, get_or, get_or-eq_default}
use Rattle.table.proofs.Finite.{and_left, and_right}
use Rattle.table.specs.Table.{row, when_held, cell}

-- A row of ten states whose last is ignored.
abbrev ends : List ℕ → Bool
ends row = leb (length row) 10 && eqb (get_or row 9 11) 11

abbrev every : List (List ℕ) → Bool
every [] = true
every (row ∷ rows) = ends row && every rows

at_row : (rows : List (List ℕ)) → T (every rows) → (k : ℕ) → T (ends (get_or rows k []))
at_row [] t k = tt
at_row (row ∷ rows) t zero = and_left (ends row) (every rows) t
at_row (row ∷ rows) t (suc k) = at_row rows (and_right (ends row) (every rows) t) k

by_row : (row : List ℕ) → T (ends row) → (s : ℕ) → 9 ≤ s → Dec (s ≡ 9) → 11 ≡ get_or row s 11
by_row row t s h (yes e) = rw e (sym (eqb→eq (get_or row 9 11) 11 (and_right (leb (length row) 10) (eqb (get_or row 9 11) 11) t)))
by_row row t s h (no e) =
    let l = leb→le (length row) 10 (and_left (leb (length row) 10) (eqb (get_or row 9 11) 11) t) in
    sym (get_or-eq_default row 11 (omega arith))

-- State 9 ignores every event.
pub locked : (s code : ℕ) → 9 ≤ s → 11 ≡ cell s code true
unfolding cell
locked s code h = by_row (get_or when_held code []) (at_row when_held tt code) s h (ℕ_discrete s 9)
