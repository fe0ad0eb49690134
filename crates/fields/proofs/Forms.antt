-- The schema's fields by number and by form.
use mathlib.Core.Path.{◌≡◌, refl, sym, ap, ◌∙◌}
use mathlib.Core.Bool.{Bool, true, false, not, ◌&&◌, or-true}
use mathlib.Core.List.{List, [], ◌∷◌}
use Prim.Native.Nat.{ℕ, zero, suc, ◌≤◌}
use native.Mathlib.Decide.{ℕ_discrete}
use native.Mathlib.Omega.{arith}
use lib.Dec.{eqb, ltb}
use borrow.Author.Tests.{eq-eqb, ne_eqb, eqb-true, ltb-true, ltb-false}
use lib.ListN.{length, get_or, get_or-eq_default}
use Rattle.fault.proofs.Order.{absurd_bool}
use Rattle.fields.specs.Schema.{Form, Unknown, Bytes, Provers, Verifiers, Bit, schema, form_in, is_unknown}
use Rattle.fields.specs.Fields.{contains, form_code, is_form}

-- What holds of every row of a list of rows, and of the empty one, holds of the row at any place.
abbrev Every : (List Form → Type 0) → List (List Form) → Type 0
Every P [] = Unit {0}
Every P (row ∷ rows) = P row × Every P rows

row_at : (P : List Form → Type 0) → P [] → (rows : List (List Form)) → Every P rows → (m : ℕ) → P (get_or rows m [])
row_at P d [] a m = d
row_at P d (row ∷ rows) a zero = a.0
row_at P d (row ∷ rows) a (suc m) = row_at P d rows a.1 m

-- A message has three fields at most, from number 1 on.
abbrev Short : List Form → Type 0
Short [] = Unit {0}
Short (f ∷ row) = (f ≡ Unknown) × (length row ≤ 3)

short_schema : Every Short schema
short_schema =
    (tt, ((refl, omega arith), (tt, (tt, ((refl, omega arith), (tt, ((refl, omega arith), ((refl, omega arith), ((refl, omega arith), ((refl, omega arith), tt))))))))))

known : (row : List Form) → Short row → (k : ℕ) → is_unknown (get_or row k Unknown) ≡ false → (1 ≤ k) × (k ≤ 3)
known [] s k e = absurd_bool e
known (f ∷ row) s zero e = absurd_bool (ap is_unknown (sym s.0) ∙ e)
known (f ∷ row) s (suc k) e = by_place (ltb k (length row)) refl
  where
    by_place : (t : Bool) → ltb k (length row) ≡ t → (1 ≤ suc k) × (suc k ≤ 3)
    by_place true p = (omega arith, omega (arith, s.1, ltb-true k (length row) p))
    by_place false p = absurd_bool (ap is_unknown (sym (get_or-eq_default row Unknown {n = k} (ltb-false k (length row) p))) ∙ e)

pub known_number : (m k : ℕ) → is_unknown (form_in m k) ≡ false → (1 ≤ k) × (k ≤ 3)
unfolding form_in
known_number m k e = known (get_or schema m []) (row_at Short tt schema short_schema m) k e

-- No number above 9 is a message's.
pub no_message : (m k : ℕ) → 10 ≤ m → form_in m k ≡ Unknown
unfolding form_in
no_message m k h = ap (λ (row : List Form). get_or row k Unknown) (get_or-eq_default schema [] {n = m} h)

-- A form that is found in a row is contained in it.
pub contained : (row : List Form) (k : ℕ) (form : Form) → form_code (get_or row k Unknown) ≡ form_code form → is_form form Unknown ≡ false → contains form row ≡ true
contained [] k form e h = absurd_bool (sym (eq-eqb (form_code form) 0 (sym e)) ∙ h)
contained (f ∷ row) zero form e h = rw (eq-eqb (form_code form) (form_code f) (sym e))
contained (f ∷ row) (suc k) form e h = rw (contained row k form e h, or-true)

coded : (form : Form) → is_unknown form ≡ false → is_form form Unknown ≡ false
coded Unknown u = absurd_bool u
coded Bytes u = refl
coded Provers u = refl
coded Verifiers u = refl
coded Bit u = refl

-- No form is in a row twice.
abbrev distinct : List Form → Bool
distinct [] = true
distinct (f ∷ row) = not (contains f row) && distinct row

first_distinct : (f : Form) (row : List Form) → distinct (f ∷ row) ≡ true → contains f row ≡ true → true ≡ false
first_distinct f row d c = by_test (contains f row) d c
  where
    by_test : (t : Bool) → (not t && distinct row) ≡ true → t ≡ true → true ≡ false
    by_test true d c = sym d
    by_test false d c = sym c

later_distinct : (f : Form) (row : List Form) → distinct (f ∷ row) ≡ true → distinct row ≡ true
later_distinct f row d = by_test (contains f row) d
  where
    by_test : (t : Bool) → (not t && distinct row) ≡ true → distinct row ≡ true
    by_test true d = absurd_bool (sym d)
    by_test false d = d

-- So a known form is that of one number.
one_number : (row : List Form) → distinct row ≡ true → (n k : ℕ) → is_unknown (get_or row k Unknown) ≡ false → (n ≡ k → ⊥) →
    is_form (get_or row n Unknown) (get_or row k Unknown) ≡ false
one_number [] d n k u h = absurd_bool u
one_number (f ∷ row) d zero zero u h = absurd (h refl)
one_number (f ∷ row) d zero (suc k) u h = by_test (is_form f (get_or row k Unknown)) refl
  where
    by_test : (t : Bool) → is_form f (get_or row k Unknown) ≡ t → t ≡ false
    by_test true p =
        let e = eqb-true (form_code f) (form_code (get_or row k Unknown)) p in
        first_distinct f row d (contained row k f (sym e) (ap (λ (c : ℕ). eqb c 0) e ∙ coded (get_or row k Unknown) u))
    by_test false p = refl
one_number (f ∷ row) d (suc n) zero u h = by_test (is_form (get_or row n Unknown) f) refl
  where
    by_test : (t : Bool) → is_form (get_or row n Unknown) f ≡ t → t ≡ false
    by_test true p = first_distinct f row d (contained row n f (eqb-true (form_code (get_or row n Unknown)) (form_code f) p) (coded f u))
    by_test false p = refl
one_number (f ∷ row) d (suc n) (suc k) u h = one_number row (later_distinct f row d) n k u (λ e. h (ap suc e))

pub one_form : (m n k : ℕ) → is_unknown (form_in m k) ≡ false → is_form (form_in m n) (form_in m k) ≡ eqb n k
unfolding form_in
one_form m n k u = by_test (ℕ_discrete n k)
  where
    all_distinct : distinct (get_or schema m []) ≡ true
    all_distinct = row_at (λ (l : List Form). distinct l ≡ true) refl schema (refl, (refl, (refl, (refl, (refl, (refl, (refl, (refl, (refl, (refl, tt)))))))))) m

    by_test : Dec (n ≡ k) → is_form (get_or (get_or schema m []) n Unknown) (get_or (get_or schema m []) k Unknown) ≡ eqb n k
    by_test (yes e) =
        eq-eqb _ _ (ap (λ (i : ℕ). form_code (get_or (get_or schema m []) i Unknown)) e) ∙ sym (eq-eqb n k e)
    by_test (no h) = one_number (get_or schema m []) all_distinct n k u h ∙ sym (ne_eqb n k h)
