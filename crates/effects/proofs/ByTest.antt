-- What goes by a test: which of two codes an event has, and an effect.
-- Assumes nothing.
use mathlib.Core.Path.{◌≡◌, refl}
use mathlib.Core.Logic.{◌⊎◌, inl, inr}
use mathlib.Core.Bool.{Bool, true, false, cond}
use Prim.Native.Nat.{ℕ}
use Rattle.effects.specs.ByEvent.{Effect, tag_by, order_by}

-- A test holds or fails.
pub true_or_false : (b : Bool) → (b ≡ true) ⊎ (b ≡ false)
true_or_false true = inl refl
true_or_false false = inr refl

-- An effect that goes by a test.
pub tag_if : (b : Bool) (e f : Effect) (number tag : ℕ) → tag_by (cond b e f) number tag ≡ cond b (tag_by e number tag) (tag_by f number tag)
tag_if true e f number tag = refl
tag_if false e f number tag = refl

pub order_if : (b : Bool) (e f : Effect) (tag : ℕ) → order_by (cond b e f) tag ≡ cond b (order_by e tag) (order_by f tag)
order_if true e f tag = refl
order_if false e f tag = refl
