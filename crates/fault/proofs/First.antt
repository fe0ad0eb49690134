-- The first fault from the left, however faults are listed.
use mathlib.Core.Path.{◌≡◌, refl, sym, ap, subst}
use mathlib.Core.Bool.{Bool, true, false, cond, ◌&&◌, ◌||◌}
use mathlib.Core.List.Memᴰ
use mathlib.Core.List.{List, [], ◌∷◌, Memᴰ}
use mathlib.Core.Logic.{⊎_elim}
use mathlib.Core.Option.{Option, none, some, some-injective}
use Prim.Native.Nat.{ℕ, ◌≤◌}
use native.Mathlib.Omega.{arith}
use lib.Dec.{eqb, ltb}
use borrow.Author.Tests.{ltb-true, ltb-false, eqb-true, eqb-false}
use Rattle.fault.specs.Fault.{Fault, FirstIn, before, first_of, leftmost, read_as, refused, by_first_fault}
use Rattle.fault.proofs.Order.{IsRead, IsRefused, absurd_bool, not_before, number_of, read_or}

-- Only an empty list has no first fault.
abbrev IsSome : Option Fault → Type 0
IsSome none = ⊥
IsSome (some g) = Unit {0}

some_first : (f : Fault) (o : Option Fault) → IsSome (first_of f o)
some_first f none = tt
some_first f (some g) = by_test (before g f)
  where
    by_test : (t : Bool) → IsSome (cond t (some g) (some f))
    by_test true = tt
    by_test false = tt

pub none_first : (fs : List Fault) → leftmost fs ≡ none → fs ≡ []
unfolding leftmost
none_first [] e = refl
none_first (f ∷ fs) e = absurd (subst IsSome e (some_first f (leftmost fs)))

-- What was read, by the first fault.
module _ {A : Type 0} (x : A) where
  pub read_none : (o : Option Fault) (z : A) → by_first_fault o x ≡ read_as z → (o ≡ none) × (x ≡ z)
  read_none none z e = (refl, ap (read_or x) e)
  read_none (some f) z e = absurd (subst IsRefused e tt)

  pub refused_some : (o : Option Fault) (n : ℕ) → by_first_fault o x ≡ refused n → (f : Fault) × ((o ≡ some f) × (f.number ≡ n))
  refused_some none n e = absurd (subst IsRead e tt)
  refused_some (some f) n e = (f, (refl, ap number_of e))

-- One fault is no later than another.
abbrev NoLater : Fault → Fault → Type 0
NoLater f g = (f.place ≤ g.place) × (f.place ≡ g.place → f.number ≤ g.number)

not_before_is : (f g : Fault) → before g f ≡ false → NoLater f g
not_before_is f g e = by_tests (ltb g.place f.place) (eqb g.place f.place) (ltb g.number f.number) refl refl refl e
  where
    by_tests : (s t u : Bool) → ltb g.place f.place ≡ s → eqb g.place f.place ≡ t → ltb g.number f.number ≡ u → (s || (t && u)) ≡ false → NoLater f g
    by_tests true t u p q r e = absurd_bool e
    by_tests false true true p q r e = absurd_bool e
    by_tests false true false p q r e = (ltb-false g.place f.place p, λ k. ltb-false g.number f.number r)
    by_tests false false u p q r e = (ltb-false g.place f.place p, λ k. absurd (eqb-false g.place f.place q (sym k)))

before_is : (f g : Fault) → before f g ≡ true → NoLater f g
before_is f g e = by_tests (ltb f.place g.place) (eqb f.place g.place) (ltb f.number g.number) refl refl refl e
  where
    by_tests : (s t u : Bool) → ltb f.place g.place ≡ s → eqb f.place g.place ≡ t → ltb f.number g.number ≡ u → (s || (t && u)) ≡ true → NoLater f g
    by_tests true t u p q r e = let l = ltb-true f.place g.place p in (omega arith, λ k. absurd (omega (arith, l, k)))
    by_tests false true true p q r e =
        let l = ltb-true f.number g.number r in
        let k = eqb-true f.place g.place q in
        (omega (arith, k), λ j. omega (arith, l))
    by_tests false true false p q r e = absurd_bool (sym e)
    by_tests false false u p q r e = absurd_bool (sym e)

no_later : (f g : Fault) → NoLater f g → before g f ≡ false
no_later f g n = not_before f g n.0 n.1

through : (f g h : Fault) → NoLater f g → NoLater g h → NoLater f h
through f g h a b = (
  omega (arith, a.0, b.0),
  λ e.
      let p : f.place ≡ g.place = omega (arith, a.0, b.0, e) in
      let q : g.place ≡ h.place = omega (arith, a.0, b.0, e) in
      omega (arith, a.1 p, b.1 q),
)

itself : (f : Fault) → NoLater f f
itself f = (omega arith, λ e. omega arith)

-- What `leftmost` gives is a fault of the list, and no later than any.
abbrev FirstOf : List Fault → Fault → Type 0
FirstOf fs f = Memᴰ f fs × ((g : Fault) → Memᴰ g fs → NoLater f g)

module _ (h : Fault) (fs : List Fault) where
  alone : fs ≡ [] → FirstOf (h ∷ fs) h
  alone e = (
    Memᴰ.head refl,
    λ g m. ⊎_elim (λ p. subst (NoLater h) (sym p) (itself h)) (λ n. absurd (Memᴰ.not-nil (subst (λ (l : List Fault). Memᴰ g l) e n))) (Memᴰ.cases_cons m),
  )

  module _ (k : Fault) (first : FirstOf fs k) where
    stays : before k h ≡ false → FirstOf (h ∷ fs) h
    stays e = (
      Memᴰ.head refl,
      λ g m. ⊎_elim (λ p. subst (NoLater h) (sym p) (itself h)) (λ n. through h k g (not_before_is h k e) (first.1 g n)) (Memᴰ.cases_cons m),
    )

    overtaken : before k h ≡ true → FirstOf (h ∷ fs) k
    overtaken e = (
      Memᴰ.tail first.0,
      λ g m. ⊎_elim (λ p. subst (NoLater k) (sym p) (before_is k h e)) (λ n. first.1 g n) (Memᴰ.cases_cons m),
    )

  either : (f : Fault) (o : Option Fault) → leftmost fs ≡ o → ((k : Fault) → leftmost fs ≡ some k → FirstOf fs k) → first_of h o ≡ some f → FirstOf (h ∷ fs) f
  either f none p ih e = subst (FirstOf (h ∷ fs)) (some-injective h f e) (alone (none_first fs p))
  either f (some k) p ih e = by_test (before k h) refl e
    where
      by_test : (t : Bool) → before k h ≡ t → cond t (some k) (some h) ≡ some f → FirstOf (h ∷ fs) f
      by_test true q e = subst (FirstOf (h ∷ fs)) (some-injective k f e) (overtaken k (ih k p) q)
      by_test false q e = subst (FirstOf (h ∷ fs)) (some-injective h f e) (stays k (ih k p) q)

first_of_lem : (fs : List Fault) (f : Fault) → leftmost fs ≡ some f → FirstOf fs f
unfolding leftmost
first_of_lem [] f e = absurd (subst IsSome (sym e) tt)
first_of_lem (h ∷ fs) f e = either h fs f (leftmost fs) refl (λ k p. first_of_lem fs k p) e

pub leftmost_first : (fs : List Fault) (f : Fault) → leftmost fs ≡ some f → FirstIn fs f
leftmost_first fs f e =
    let l = first_of_lem fs f e in
    record { member = l.0; first = λ g m. no_later f g (l.1 g m) }
