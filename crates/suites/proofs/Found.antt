-- What a part of a list finds: the rest from one entry to the next, a group of entries, and the rest behind a group.
use mathlib.Core.Path.{◌≡◌, refl, ap, ◌∙◌}
use mathlib.Core.Bool.{Bool, true, false, cond, ◌||◌, or_assoc}
use mathlib.Core.List.{List, [], ◌∷◌, ◌++◌}
use Prim.Native.Nat.{ℕ, zero, suc, ◌+◌, ◌*◌, ◌<◌, ◌≤◌}
use native.Mathlib.Numerals.{add-one}
use native.Mathlib.Omega.{arith}
use lib.Dec.{eqb}
use lib.ListN.{length, get_or, take, drop, take-append-drop, drop_of_length-le}
use lib.Seq.{drop-cons, drop-drop}
use Rattle.std.proofs.lemmas.Bool.Decides.{nat_tests}
use Rattle.std.specs.List.{list_any}
use Rattle.std.specs.Simd.{first_chunks}
use Rattle.suites.specs.Answer.{Found, found_suite, not_found}
use Rattle.suites.specs.Choice.{find}

cond_found : (b : Bool) (suite : ℕ) (f : Found) → (cond b (found_suite suite) f).found ≡ b || f.found
cond_found true suite f = refl
cond_found false suite f = refl

module _ (passes : ℕ → Bool) where
  pub here : (list : List ℕ) (i : ℕ) → i < length list → passes (get_or list i 0) ≡ true → find passes (drop i list) ≡ found_suite (get_or list i 0)
  unfolding find
  here list i h t = rw (drop-cons list i 0 h, t)

  pub later : (list : List ℕ) (i : ℕ) → i < length list → passes (get_or list i 0) ≡ false → find passes (drop i list) ≡ find passes (drop (i + 1) list)
  unfolding find
  later list i h t = rw (add-one, drop-cons list i 0 h, t)

  pub at_end : (list : List ℕ) (i : ℕ) → length list ≤ i → find passes (drop i list) ≡ not_found
  unfolding find
  at_end list i h = rw (drop_of_length-le list {i = i} h)

  append : (a b : List ℕ) → (find passes (a ++ b)).found ≡ (find passes a).found || (find passes b).found
  unfolding find
  append [] b = refl
  append (entry ∷ a) b = simp (cond_found, append a b, or_assoc)

  module _ (list : List ℕ) (place n : ℕ) where
    split : (find passes (drop place list)).found ≡ (find passes (take n (drop place list))).found || (find passes (drop (place + n) list)).found
    split = rw (← drop-drop n place list, ← append, take-append-drop)

    pub among : (find passes (take n (drop place list))).found ≡ true → (find passes (drop place list)).found ≡ true
    among t = rw (split, t)

    pub past : (next : ℕ) → place + n ≡ next → (find passes (take n (drop place list))).found ≡ false → (find passes (drop place list)).found ≡ (find passes (drop next list)).found
    past next e t = rw (split, t, e)

other_way : (a b : ℕ) → eqb a b ≡ eqb b a
other_way a b = grind (arith, nat_tests)

-- Whether a suite is among entries, as `contains` tests them.
contained : (suite : ℕ) (list : List ℕ) → list_any (λ entry. eqb entry suite) list ≡ (find (eqb suite) list).found
unfolding find
contained suite [] = refl
contained suite (entry ∷ list) = rw (cond_found, other_way entry suite, contained suite list)

-- The group at a place.
group_at : (n k i : ℕ) (list : List ℕ) → i < k → get_or (first_chunks n k list) i [] ≡ take n (drop (i * n) list)
group_at n zero i list h = absurd (omega arith)
group_at n (suc k) zero list h =
    let none : 0 ≡ 0 * n = omega arith in
    ap (λ (m : ℕ). take n (drop m list)) none
group_at n (suc k) (suc i) list h =
    group_at n k i (drop n list) (omega arith) ∙ ap (take n) (drop-drop (i * n) n list ∙ ap (λ (m : ℕ). drop m list) (omega arith))

-- Whether a suite is in it.
pub in_group : (suite k i : ℕ) (list : List ℕ) (groups : List (List ℕ)) (b : Bool) →
    groups ≡ first_chunks 8 k list →
    i < k →
    b ≡ list_any (λ entry. eqb entry suite) (get_or groups i []) →
    b ≡ (find (eqb suite) (take 8 (drop (i * 8) list))).found
in_group suite k i list groups b is h e =
    e ∙ contained suite (get_or groups i []) ∙ ap (λ (group : List ℕ). (find (eqb suite) group).found) (ap (λ (g : List (List ℕ)). get_or g i []) is ∙ group_at 8 k i list h)
