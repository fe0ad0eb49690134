-- Laws of lists of faults.
-- Assumes nothing.
use mathlib.Core.Path.{◌≡◌, refl}
use mathlib.Core.Bool.{Bool, true, false, cond}
use mathlib.Core.List.{List, [], ◌∷◌, ◌++◌}
use Prim.Native.Nat.{ℕ, suc}
use native.Mathlib.Omega.{arith}
use lib.Dec.{eqb}
use borrow.Author.Tests.{ne_eqb}
use Rattle.protocol.specs.Faults.{first_fault}

-- The number after those of a list of faults.
abbrev after : ℕ → List Bool → ℕ
after n [] = n
after n (x ∷ xs) = after (suc n) xs

-- The first fault of two lists: the first list's if it has one, else the second's.
pub first_of_lem : (n : ℕ) (xs ys : List Bool) → first_fault (suc n) (xs ++ ys) ≡ cond (eqb (first_fault (suc n) xs) 0) (first_fault (after (suc n) xs) ys) (first_fault (suc n) xs)
first_of_lem n [] ys = refl
first_of_lem n (true ∷ xs) ys = rw (ne_eqb (suc n) 0 (λ e. absurd (omega arith)))
first_of_lem n (false ∷ xs) ys = first_of_lem (suc n) xs ys

-- No fault is present.
abbrev pub NoneOf : List Bool → Type 0
NoneOf [] = Unit {0}
NoneOf (x ∷ xs) = (x ≡ false) × NoneOf xs

pub none_of : (n : ℕ) (xs : List Bool) → first_fault (suc n) xs ≡ 0 → NoneOf xs
none_of n [] e = tt
none_of n (true ∷ xs) e = absurd (omega arith)
none_of n (false ∷ xs) e = (refl, none_of (suc n) xs e)

-- None of two lists is none of the first.
pub none_first : (xs ys : List Bool) → NoneOf (xs ++ ys) → NoneOf xs
none_first [] ys none = tt
none_first (x ∷ xs) ys none = (none.0, none_first xs ys none.1)
