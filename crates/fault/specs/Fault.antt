-- Request #101: a fault stands at a place and has a refusal's number; the first from the left is given, and of two at one
-- place the lower number.
use Rattle.std.specs.Prelude.{◌≡◌, ℕ, Bool, false, cond, ◌&&◌, ◌||◌, eqb, ltb}
use mathlib.Core.List.{List, [], ◌∷◌, Memᴰ}
use Rattle.std.proofs.Math.Option.{Option, none, some}

-- Its place and its refusal's number.
pub record Fault : Type 0 where
  pub place : ℕ
  pub number : ℕ

-- The fault with a number at a place.
abbrev pub at : (place number : ℕ) → Fault
at place number = record { place = place; number = number }

-- Whether a fault comes before another: further left, or at the same place with a lower number.
abbrev pub before : Fault → Fault → Bool
before f g = ltb f.place g.place || (eqb f.place g.place && ltb f.number g.number)

-- The first of a fault and another, if there is another.
abbrev pub first_of : Fault → Option Fault → Option Fault
first_of f none = some f
first_of f (some g) = cond (before g f) (some g) (some f)

-- The first fault from the left, whatever the order in which they are listed.
unfoldable pub leftmost : List Fault → Option Fault
leftmost [] = none
leftmost (f ∷ fs) = first_of f (leftmost fs)

-- A fault where a test holds.
abbrev pub fault_if : Bool → Fault → List Fault
fault_if holds f = cond holds (f ∷ []) []

-- The faults of a key; if it shows none, those of what it announces.
abbrev pub or_else : List Fault → List Fault → List Fault
or_else [] others = others
or_else (f ∷ fs) others = f ∷ fs

-- What reading gives: what was read, or a refusal's number and nothing else.
pub data Reading (A : Type 0) : Type 0 where
  read_as : A → Reading A
  refused : (number : ℕ) → Reading A

-- The reading where this fault, if any, is the first.
abbrev pub by_first_fault : {A : Type 0} → Option Fault → A → Reading A
by_first_fault none read = read_as read
by_first_fault (some f) read = refused f.number

-- Bytes are refused by their first fault from the left, and read if they show none.
abbrev pub judged : {A : Type 0} → List Fault → A → Reading A
judged faults read = by_first_fault (leftmost faults) read

-- A fault is one of the list, and none comes before it.
pub record FirstIn (faults : List Fault) (f : Fault) : Type 0 where
  pub member : Memᴰ f faults
  pub first : (g : Fault) → Memᴰ g faults → before g f ≡ false
