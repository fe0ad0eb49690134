-- A `match` on a number: what holds at each number that an arm takes holds at the number that is matched.
-- Assumes nothing.
use mathlib.Core.Path.{◌≡◌, refl, sym, subst}
use mathlib.Core.Logic.{◌⊎◌, inl, inr}
use mathlib.Core.Bool.{Bool, true, false, ◌&&◌, ◌||◌, cond, or-true}
use mathlib.Core.List.{List, [], ◌∷◌}
use Prim.Native.Nat.{ℕ, zero, suc, ◌+◌, ◌-◌, ◌<◌, ◌≤◌}
use native.Mathlib.Decide.{ℕ_discrete}
use native.Mathlib.Omega.{arith}
use lib.Dec.{T, eqb, eqb→eq, ltb}
use borrow.Author.Tests.{ltb-true, ltb-false, eq-eqb, ne_eqb}
use types.Run.{OneOf, hit}
use mir.Val.{has_key}
use Rattle.table.proofs.Finite.{and_left, and_right}
use Rattle.table.specs.Sets.{is_in}

-- P holds at each of the keys.
abbrev pub All : (ℕ → Type 0) → List ℕ → Type 0
All P [] = Unit {0}
All P (k ∷ []) = P k
All P (k ∷ (j ∷ ks)) = P k × All P (j ∷ ks)

-- An arm of keys.
pub at_keys : (P : ℕ → Type 0) (ks : List ℕ) → All P ks → (k : ℕ) → OneOf ks k → P k
at_keys P [] a k o = absurd o
at_keys P (x ∷ []) a k o = subst P (sym o) a
at_keys P (x ∷ (y ∷ ks)) a k (inl o) = subst P (sym o) a.0
at_keys P (x ∷ (y ∷ ks)) a k (inr o) = at_keys P (y ∷ ks) a.1 k o

-- What a match's `rest` says: k is in none of the arms of keys, the last of them first.
abbrev pub Rest : List (List ℕ) → ℕ → Type 0
Rest [] k = Unit {0}
Rest (ks ∷ arms) k = Rest arms k × (OneOf ks k → ⊥)

abbrev taken : List (List ℕ) → ℕ → Bool
taken [] k = false
taken (ks ∷ arms) k = cond (has_key ks k) true (taken arms k)

-- The keys that no arm takes.
abbrev pub but : List (List ℕ) → List ℕ → List ℕ
but arms [] = []
but arms (k ∷ ks) = cond (taken arms k) (but arms ks) (k ∷ but arms ks)

-- The n numbers from a on.
abbrev pub up : (a n : ℕ) → List ℕ
up a zero = []
up a (suc n) = a ∷ up (suc a) n

-- Those that no arm takes.
abbrev pub left : List (List ℕ) → (a n : ℕ) → List ℕ
left arms a n = but arms (up a n)

either : (b c : Bool) → (T b → ⊥) → c ≡ false → cond b true c ≡ false
either true c f e = absurd (f tt)
either false c f e = e

not_taken : (arms : List (List ℕ)) (k : ℕ) → Rest arms k → taken arms k ≡ false
not_taken [] k r = refl
not_taken (ks ∷ arms) k r = either (has_key ks k) (taken arms k) (λ t. r.1 (hit ks k t)) (not_taken arms k r.0)

here : (a : ℕ) (ks : List ℕ) (k : ℕ) → k ≡ a → OneOf (a ∷ ks) k
here a [] k e = e
here a (x ∷ ks) k e = inl e

later : (a : ℕ) (ks : List ℕ) (k : ℕ) → OneOf ks k → OneOf (a ∷ ks) k
later a [] k o = absurd o
later a (x ∷ ks) k o = inr o

not_first : (b : Bool) (a k : ℕ) (ks : List ℕ) → OneOf ks k → OneOf (cond b ks (a ∷ ks)) k
not_first true a k ks o = o
not_first false a k ks o = later a ks k o

is_first : (b : Bool) (a k : ℕ) (ks : List ℕ) → b ≡ false → k ≡ a → OneOf (cond b ks (a ∷ ks)) k
is_first true a k ks f e = absurd (subst (λ (c : Bool). T c) f tt)
is_first false a k ks f e = here a ks k e

-- A key that no arm takes is one of those.
pub remains : (arms : List (List ℕ)) (ks : List ℕ) (k : ℕ) → Rest arms k → OneOf ks k → OneOf (but arms ks) k
remains arms [] k r o = o
remains arms (a ∷ []) k r o = is_first (taken arms a) a k [] (subst (λ (m : ℕ). taken arms m ≡ false) o (not_taken arms k r)) o
remains arms (a ∷ (b ∷ ks)) k r (inl o) =
    is_first (taken arms a) a k (but arms (b ∷ ks)) (subst (λ (m : ℕ). taken arms m ≡ false) o (not_taken arms k r)) o
remains arms (a ∷ (b ∷ ks)) k r (inr o) = not_first (taken arms a) a k (but arms (b ∷ ks)) (remains arms (b ∷ ks) k r o)

in_turn : (a k : ℕ) (ks : List ℕ) → Dec (k ≡ a) → ((k ≡ a → ⊥) → OneOf ks k) → OneOf (a ∷ ks) k
in_turn a k ks (yes e) f = here a ks k e
in_turn a k ks (no e) f = later a ks k (f e)

pub is_up : (a n k : ℕ) → a ≤ k → k < a + n → OneOf (up a n) k
is_up a zero k l h = absurd (omega arith)
is_up a (suc n) k l h = in_turn a k (up (suc a) n) (ℕ_discrete k a) (λ e. is_up (suc a) n k (omega arith) (omega arith))

is_left : (arms : List (List ℕ)) (a n k : ℕ) → Rest arms k → a ≤ k → k < a + n → OneOf (left arms a n) k
is_left arms a n k r l h = remains arms (up a n) k r (is_up a n k l h)

-- A range of n numbers from a on, or a part of `_` that lies between ranges.
pub in_range : (P : ℕ → Type 0) (arms : List (List ℕ)) (a n : ℕ) → All P (left arms a n) → (k : ℕ) → Rest arms k → a ≤ k → k < a + n → P k
in_range P arms a n p k r l h = at_keys P (left arms a n) p k (is_left arms a n k r l h)

by_test : {A : Type 0} (b : Bool) → (b ≡ true → A) → (b ≡ false → A) → A
by_test true f g = f refl
by_test false f g = g refl

-- The part of `_` from a on, where P holds from m on.
pub from : (P : ℕ → Type 0) (arms : List (List ℕ)) (a m : ℕ) → All P (left arms a (m - a)) → ((k : ℕ) → m ≤ k → P k) → (k : ℕ) → Rest arms k → a ≤ k → P k
from P arms a m p beyond k r l =
    by_test (ltb k m)
    (λ e. let h = ltb-true k m e in in_range P arms a (m - a) p k r l (omega arith))
    (λ e. beyond k (ltb-false k m e))

-- Two functions agree at each of the keys, as antt computes.
abbrev pub agree : (f g : ℕ → ℕ) → List ℕ → Bool
agree f g [] = true
agree f g (k ∷ ks) = eqb (f k) (g k) && agree f g ks

all_agree : (f g : ℕ → ℕ) (ks : List ℕ) → T (agree f g ks) → All (λ k. f k ≡ g k) ks
all_agree f g [] t = tt
all_agree f g (k ∷ []) t = eqb→eq (f k) (g k) (and_left (eqb (f k) (g k)) true t)
all_agree f g (k ∷ (j ∷ ks)) t = (
  eqb→eq (f k) (g k) (and_left (eqb (f k) (g k)) (agree f g (j ∷ ks)) t),
  all_agree f g (j ∷ ks) (and_right (eqb (f k) (g k)) (agree f g (j ∷ ks)) t),
)

-- The three kinds of arms, for numbers that antt computes.
module _ (f g : ℕ → ℕ) where
  pub keys : (ks : List ℕ) → T (agree f g ks) → (k : ℕ) → OneOf ks k → f k ≡ g k
  keys ks t = at_keys (λ k. f k ≡ g k) ks (all_agree f g ks t)

  pub range : (arms : List (List ℕ)) (a n : ℕ) → T (agree f g (left arms a n)) → (k : ℕ) → Rest arms k → a ≤ k → k < a + n → f k ≡ g k
  range arms a n t = in_range (λ k. f k ≡ g k) arms a n (all_agree f g (left arms a n) t)

  pub rest : (arms : List (List ℕ)) (a m : ℕ) → T (agree f g (left arms a (m - a))) → ((k : ℕ) → m ≤ k → f k ≡ g k) → (k : ℕ) → Rest arms k → a ≤ k → f k ≡ g k
  rest arms a m t = from (λ k. f k ≡ g k) arms a m (all_agree f g (left arms a (m - a)) t)

-- `is_in` says whether a number is one of the keys.
pub is_in_lem : (ks : List ℕ) (k : ℕ) → OneOf ks k → is_in ks k ≡ true
is_in_lem [] k o = absurd o
is_in_lem (x ∷ []) k o = eq-eqb k x o
is_in_lem (x ∷ (y ∷ ks)) k (inl o) = rw (eq-eqb k x o)
is_in_lem (x ∷ (y ∷ ks)) k (inr o) = rw (is_in_lem (y ∷ ks) k o) (or-true (eqb k x))

either_key : (b c : Bool) {A B : Type 0} → (T b → A) → (T c → B) → T (b || c) → A ⊎ B
either_key true c f g t = inl (f tt)
either_key false c f g t = inr (g t)

pub one_of : (ks : List ℕ) (k : ℕ) → T (is_in ks k) → OneOf ks k
one_of [] k t = t
one_of (x ∷ []) k t = eqb→eq k x t
one_of (x ∷ (y ∷ ks)) k t = either_key (eqb k x) (is_in (y ∷ ks) k) (eqb→eq k x) (one_of (y ∷ ks) k) t

pub not_in : (ks : List ℕ) (k : ℕ) → (OneOf ks k → ⊥) → is_in ks k ≡ false
not_in [] k o = refl
not_in (x ∷ []) k o = ne_eqb k x o
not_in (x ∷ (y ∷ ks)) k o = rw (ne_eqb k x (λ e. o (inl e))) (not_in (y ∷ ks) k (λ e. o (inr e)))

-- What is none of the numbers below n is at least n.
pub beyond : (n : ℕ) (arms : List (List ℕ)) → left arms 0 n ≡ [] → (k : ℕ) → Rest arms k → n ≤ k
beyond n arms e k r =
    by_test (ltb k n)
    (λ t. let h = ltb-true k n t in absurd (subst (λ (ks : List ℕ). OneOf ks k) e (is_left arms 0 n k r (omega arith) (omega arith))))
    (λ t. ltb-false k n t)
