-- Tests over finite sets, which antt computes: every number below a bound, both truth values, all cells; and what they say of one.
-- Assumes nothing.
use mathlib.Core.Path.{◌≡◌, refl, sym, subst}
use mathlib.Core.Bool.{Bool, true, false, not, ◌&&◌, ◌||◌, beq}
use Prim.Native.Nat.{ℕ, zero, suc, ◌<◌, ◌≤◌}
use native.Mathlib.Decide.{ℕ_discrete}
use native.Mathlib.Omega.{arith}
use lib.Dec.{T}

pub and_left : (a b : Bool) → T (a && b) → T a
and_left true b t = tt
and_left false b t = t

pub and_right : (a b : Bool) → T (a && b) → T b
and_right true b t = t
and_right false b t = absurd t

pub is_true : (b : Bool) → T b → b ≡ true
is_true true t = refl
is_true false t = absurd t

pub is_false : (b : Bool) → T (not b) → b ≡ false
is_false true t = absurd t
is_false false t = refl

pub same : (a b : Bool) → T (beq a b) → a ≡ b
same true true t = refl
same true false t = absurd t
same false true t = absurd t
same false false t = refl

-- An implication, as a test states it.
pub implied : (a b : Bool) → T (not a || b) → T a → T b
implied true b t u = t
implied false b t u = absurd u

abbrev pub below : ℕ → (ℕ → Bool) → Bool
below zero p = true
below (suc n) p = p n && below n p

here_or_below : (n : ℕ) (p : ℕ → Bool) (k : ℕ) → T (p n) → Dec (k ≡ n) → ((k ≡ n → ⊥) → T (p k)) → T (p k)
here_or_below n p k t (yes e) f = subst (λ (m : ℕ). T (p m)) (sym e) t
here_or_below n p k t (no e) f = f e

pub below_at : (n : ℕ) (p : ℕ → Bool) → T (below n p) → (k : ℕ) → k < n → T (p k)
below_at zero p t k h = absurd (omega arith)
below_at (suc n) p t k h =
    here_or_below n p k (and_left (p n) (below n p) t) (ℕ_discrete k n)
    (λ e. below_at n p (and_right (p n) (below n p) t) k (omega arith))

abbrev pub either : (Bool → Bool) → Bool
either p = p true && p false

pub either_at : (p : Bool → Bool) → T (either p) → (b : Bool) → T (p b)
either_at p t true = and_left (p true) (p false) t
either_at p t false = and_right (p true) (p false) t

-- A test of every state and code, with either flag and with the condition held or not.
abbrev pub cells : ((s k flag : ℕ) → Bool → Bool) → Bool
cells p = below 10 (λ s. below 24 (λ k. below 2 (λ flag. either (p s k flag))))

pub cells_at : (p : (s k flag : ℕ) → Bool → Bool) → T (cells p) → (s k flag : ℕ) (b : Bool) → s ≤ 9 → k < 24 → flag ≤ 1 → T (p s k flag b)
cells_at p t s k flag b hs hk hf =
    either_at (p s k flag)
    (below_at 2 (λ f. either (p s k f))
    (below_at 24 (λ j. below 2 (λ f. either (p s j f)))
    (below_at 10 (λ i. below 24 (λ j. below 2 (λ f. either (p i j f)))) t s (omega arith)) k hk) flag (omega arith)) b
