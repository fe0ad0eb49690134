-- Integers as differences of naturals, which omega reads: a test, a sum, a subtraction and a signed 64-bit range become facts of naturals.
use mathlib.Core.Path.{◌≡◌, refl, sym, ◌∙◌}
use mathlib.Core.Bool.{Bool, true, false, cond}
use Prim.Native.Nat.{ℕ, zero, suc, ◌+◌, ◌-◌, ◌<◌, ◌≤◌, ◌^◌}
use native.Mathlib.Omega.{arith}
use borrow.Author.Tests.{ltb-true, ltb-false, lt-ltb, le-ltb}
use lib.Dec.{ltb}
use lib.IntN.{ℤ, pos, negsuc, neg_ℤ, ◌+ℤ◌, ◌-ℤ◌}
use lib.Signed.{lt_z}
use mir.Syntax.{w64}
use mir.Val.{SFits, to_z, of_z}
use mir.Facts.{to_z-of_z, to_z_pos}

abbrev Gap : ℤ → ℕ → ℕ → Type 0
Gap (pos n) a b = n + b ≡ a
Gap (negsuc n) a b = suc n + a ≡ b

-- z is a minus b. A record, so that a and b are inferred.
pub record Diff (z : ℤ) (a b : ℕ) : Type 0 where
  pub gap : Gap z a b

-- z is its part above zero minus its part below.
abbrev pub above : ℤ → ℕ
above (pos n) = n
above (negsuc n) = 0

abbrev pub below : ℤ → ℕ
below (pos n) = 0
below (negsuc n) = suc n

pub parts : (z : ℤ) → Diff z (above z) (below z)
parts (pos n) = omega arith
parts (negsuc n) = omega arith

same_test : (n m p q : ℕ) (t : Bool) → ltb p q ≡ t → n + q ≡ m + p → ltb n m ≡ t
same_test n m p q true h e = lt-ltb n m (omega (arith, ltb-true))
same_test n m p q false h e = le-ltb n m (omega (arith, ltb-false))

test : {x y : ℤ} {a b c d : ℕ} → Diff x a b → Diff y c d → lt_z x y ≡ ltb (a + d) (c + b)
test {x = pos n} {y = pos m} {a} {b} {c} {d} p q = same_test n m (a + d) (c + b) _ refl (omega arith)
test {x = pos n} {y = negsuc m} {a} {b} {c} {d} p q = sym (le-ltb (a + d) (c + b) (omega arith))
test {x = negsuc n} {y = pos m} {a} {b} {c} {d} p q = sym (lt-ltb (a + d) (c + b) (omega arith))
test {x = negsuc n} {y = negsuc m} {a} {b} {c} {d} p q = same_test m n (a + d) (c + b) _ refl (omega arith)

-- From a test to an order of naturals, and back.
module _ {x y : ℤ} {a b c d : ℕ} (p : Diff x a b) (q : Diff y c d) where
  pub less : lt_z x y ≡ true → a + d < c + b
  less h = ltb-true (a + d) (c + b) (sym (test p q) ∙ h)

  pub not_less : lt_z x y ≡ false → c + b ≤ a + d
  not_less h = ltb-false (a + d) (c + b) (sym (test p q) ∙ h)

  pub is_less : a + d < c + b → lt_z x y ≡ true
  is_less h = test p q ∙ lt-ltb (a + d) (c + b) h

  pub is_not_less : c + b ≤ a + d → lt_z x y ≡ false
  is_not_less h = test p q ∙ le-ltb (a + d) (c + b) h

-- The difference that the integers' sum forms of two signs.
apart : (t : Bool) (n m a b : ℕ) → ltb n m ≡ t → n + b ≡ a + m → Diff (cond t (negsuc (m - suc n)) (pos (n - m))) a b
apart true n m a b h e = omega (arith, ltb-true)
apart false n m a b h e = omega (arith, ltb-false)

pub plus : {x y : ℤ} {a b c d : ℕ} → Diff x a b → Diff y c d → Diff (x +ℤ y) (a + c) (b + d)
plus {x = pos n} {y = pos m} p q = omega arith
plus {x = pos n} {y = negsuc m} p q = apart _ n (suc m) _ _ refl (omega arith)
plus {x = negsuc n} {y = pos m} p q = apart _ m (suc n) _ _ refl (omega arith)
plus {x = negsuc n} {y = negsuc m} p q = omega arith

opposite : {y : ℤ} {c d : ℕ} → Diff y c d → Diff (neg_ℤ y) d c
opposite {y = pos zero} q = omega arith
opposite {y = pos (suc m)} q = omega arith
opposite {y = negsuc m} q = omega arith

pub minus : {x y : ℤ} {a b c d : ℕ} → Diff x a b → Diff y c d → Diff (x -ℤ y) (a + d) (b + c)
minus p q = plus p (opposite q)

pub fits : {z : ℤ} {a b : ℕ} → Diff z a b → a < b + 2 ^ 63 → b ≤ a + 2 ^ 63 → SFits w64 z
fits {z = pos n} p h l = omega arith
fits {z = negsuc n} p h l = omega arith

-- What the machine reads back from the bits of a number that fits.
pub held : {z : ℤ} {a b : ℕ} → Diff z a b → SFits w64 z → Diff (to_z w64 (of_z w64 z)) a b
held p h = rw (to_z-of_z h) p

-- What it reads from those of an unsigned number below 2^63.
pub unsigned : {n : ℕ} → n < 2 ^ 63 → Diff (to_z w64 n) n 0
unsigned h = rw (to_z_pos w64 h) (parts (pos _))

-- An argument as the machine reads it, with its bounds, which omega finds.
pub record Word (z : ℤ) : Type 0 where
  pub diff : Diff (to_z w64 (of_z w64 z)) (above z) (below z)
  pub high : above z < 2 ^ 63
  pub low : below z ≤ 2 ^ 63

pub word : {z : ℤ} → SFits w64 z → Word z
word {z = pos n} h = record { diff = held (parts (pos n)) h; high = omega arith; low = omega arith }
word {z = negsuc n} h = record { diff = held (parts (negsuc n)) h; high = omega arith; low = omega arith }
