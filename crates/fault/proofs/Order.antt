-- The first fault from the left, where faults are listed from left to right.
use mathlib.Core.Path.{◌≡◌, refl, sym, ap, subst, ◌∙◌}
use mathlib.Core.Bool.{Bool, true, false, cond, ◌&&◌, and-false}
use mathlib.Core.List.{List, [], ◌∷◌, ◌++◌}
use mathlib.Core.Option.{Option, none, some}
use Prim.Native.Nat.{ℕ, ◌+◌, ◌*◌, ◌≤◌}
use native.Mathlib.Decide.{ℕ_discrete}
use native.Mathlib.Omega.{arith}
use lib.Dec.{eqb, ltb}
use borrow.Author.Tests.{le-ltb, ne_eqb}
use Rattle.fault.specs.Fault.{Fault, before, first_of, leftmost, Reading, read_as, refused, by_first_fault, judged}

pub absurd_bool {ℓ} : {X : Type ℓ} → true ≡ false → X
absurd_bool e = absurd (subst if_true e tt)
  where
    if_true : Bool → Type 0
    if_true true = Unit {0}
    if_true false = ⊥

-- A fault does not come before one that is further left, or at the same place with a number that is no higher.
pub not_before : (f g : Fault) → f.place ≤ g.place → (f.place ≡ g.place → f.number ≤ g.number) → before g f ≡ false
not_before f g h k = rw (le-ltb g.place f.place h) (by_place (ℕ_discrete g.place f.place))
  where
    by_place : Dec (g.place ≡ f.place) → (eqb g.place f.place && ltb g.number f.number) ≡ false
    by_place (yes e) = rw (le-ltb g.number f.number (k (sym e))) (and-false (eqb g.place f.place))
    by_place (no e) = rw (ne_eqb g.place f.place e)

-- Where a fault may stand: from place `lo` on, and no further than a cut at place `hi`.
abbrev pub Bounds : (lo hi : ℕ) → Fault → Type 0
Bounds lo hi f = (lo ≤ f.place) × (21 ≤ f.number) × (f.number ≤ 25) × (32 * f.place + f.number ≤ 32 * hi + 21)

abbrev pub Between : (lo hi : ℕ) → List Fault → Type 0
Between lo hi [] = Unit {0}
Between lo hi (f ∷ fs) = Bounds lo hi f × Between lo hi fs

pub widen : (lo hi lo' hi' : ℕ) → lo' ≤ lo → hi ≤ hi' → (fs : List Fault) → Between lo hi fs → Between lo' hi' fs
widen lo hi lo' hi' h k [] b = tt
widen lo hi lo' hi' h k (f ∷ fs) b =
    ((omega (arith, b.0.0), b.0.1, b.0.2, omega (arith, b.0.3)), widen lo hi lo' hi' h k fs b.1)

pub joined : (lo hi : ℕ) (fs gs : List Fault) → Between lo hi fs → Between lo hi gs → Between lo hi (fs ++ gs)
joined lo hi [] gs b c = c
joined lo hi (f ∷ fs) gs b c = (b.0, joined lo hi fs gs b.1 c)

-- The first of some faults, or else of others.
abbrev pub or_later : Option Fault → Option Fault → Option Fault
or_later none o = o
or_later (some f) o = some f

abbrev BoundsOf : (lo hi : ℕ) → Option Fault → Type 0
BoundsOf lo hi none = Unit {0}
BoundsOf lo hi (some f) = Bounds lo hi f

pick : (lo hi : ℕ) (f : Fault) (o : Option Fault) → Bounds lo hi f → BoundsOf lo hi o → BoundsOf lo hi (first_of f o)
pick lo hi f none b c = b
pick lo hi f (some g) b c = by_test (before g f)
  where
    by_test : (t : Bool) → BoundsOf lo hi (cond t (some g) (some f))
    by_test true = c
    by_test false = b

first_bounds : (lo hi : ℕ) (fs : List Fault) → Between lo hi fs → BoundsOf lo hi (leftmost fs)
unfolding leftmost
first_bounds lo hi [] b = tt
first_bounds lo hi (f ∷ fs) b = pick lo hi f (leftmost fs) b.0 (first_bounds lo hi fs b.1)

stays : (lo q hi : ℕ) (f : Fault) (o : Option Fault) → Bounds lo q f → BoundsOf q hi o → first_of f o ≡ some f
stays lo q hi f none b c = refl
stays lo q hi f (some g) b c =
    rw (not_before f g (omega (arith, b.1, b.3, c.0)) (λ e. omega (arith, e, b.3, c.0, c.1)))

ahead : (lo q hi : ℕ) (f : Fault) (o o' : Option Fault) → Bounds lo q f → BoundsOf q hi o' → first_of f (or_later o o') ≡ or_later (first_of f o) o'
ahead lo q hi f none o' b c = stays lo q hi f o' b c
ahead lo q hi f (some h) o' b c = by_test (before h f)
  where
    by_test : (t : Bool) → cond t (some h) (some f) ≡ or_later (cond t (some h) (some f)) o'
    by_test true = refl
    by_test false = refl

pub leftmost_append : (lo q hi : ℕ) (fs gs : List Fault) → Between lo q fs → Between q hi gs → leftmost (fs ++ gs) ≡ or_later (leftmost fs) (leftmost gs)
unfolding leftmost
leftmost_append lo q hi [] gs b c = refl
leftmost_append lo q hi (f ∷ fs) gs b c =
    ap (first_of f) (leftmost_append lo q hi fs gs b.1 c) ∙ ahead lo q hi f (leftmost fs) (leftmost gs) b.0 (first_bounds q hi gs c)

-- The two cases of a reading: which it is, and what it holds.
module _ {A : Type 0} where
  abbrev pub IsRead : Reading A → Type 0
  IsRead (read_as a) = Unit {0}
  IsRead (refused m) = ⊥

  abbrev pub IsRefused : Reading A → Type 0
  IsRefused (read_as a) = ⊥
  IsRefused (refused m) = Unit {0}

  abbrev pub read_or : A → Reading A → A
  read_or d (read_as a) = a
  read_or d (refused m) = d

  abbrev pub number_of : Reading A → ℕ
  number_of (read_as a) = 0
  number_of (refused m) = m

-- The same of what is judged by faults.
module _ {A B : Type 0} where
  refused_by : (o o' : Option Fault) (x : A) (y : B) (n : ℕ) → by_first_fault o x ≡ refused n → by_first_fault (or_later o o') y ≡ refused n
  refused_by none o' x y n e = absurd (subst IsRead e tt)
  refused_by (some f) o' x y n e = ap refused (ap number_of e)

  read_by : (o o' : Option Fault) (x z : A) (y : B) → by_first_fault o x ≡ read_as z → (x ≡ z) × (by_first_fault (or_later o o') y ≡ by_first_fault o' y)
  read_by none o' x z y e = (ap (read_or x) e, refl)
  read_by (some f) o' x z y e = absurd (subst IsRefused e tt)

  module _ (lo q hi : ℕ) (fs gs : List Fault) (b : Between lo q fs) (c : Between q hi gs) where
    pub append_refused : (x : A) (y : B) (n : ℕ) → judged fs x ≡ refused n → judged (fs ++ gs) y ≡ refused n
    append_refused x y n e =
        ap (λ (o : Option Fault). by_first_fault o y) (leftmost_append lo q hi fs gs b c) ∙ refused_by (leftmost fs) (leftmost gs) x y n e

    pub append_read : (x z : A) (y : B) → judged fs x ≡ read_as z → (x ≡ z) × (judged (fs ++ gs) y ≡ judged gs y)
    append_read x z y e =
        let r = read_by (leftmost fs) (leftmost gs) x z y e in
        (r.0, ap (λ (o : Option Fault). by_first_fault o y) (leftmost_append lo q hi fs gs b c) ∙ r.1)

  -- What is refused is refused whatever would be read.
  pub same_refused : (fs : List Fault) (x : A) (y : B) (n : ℕ) → judged fs x ≡ refused n → judged fs y ≡ refused n
  same_refused fs x y n e = by_first (leftmost fs) (refused_by (leftmost fs) none x y n e)
    where
      by_first : (o : Option Fault) → by_first_fault (or_later o none) y ≡ refused n → by_first_fault o y ≡ refused n
      by_first none p = p
      by_first (some f) p = p

  pub same_read : (fs : List Fault) (x z : A) (y : B) → judged fs x ≡ read_as z → (x ≡ z) × (judged fs y ≡ read_as y)
  same_read fs x z y e = by_first (leftmost fs) (read_by (leftmost fs) none x z y e)
    where
      by_first : (o : Option Fault) → (x ≡ z) × (by_first_fault (or_later o none) y ≡ read_as y) → (x ≡ z) × (by_first_fault o y ≡ read_as y)
      by_first none p = p
      by_first (some f) p = p
