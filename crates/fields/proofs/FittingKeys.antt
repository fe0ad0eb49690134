-- Which keys fit: for each message, those that the code tests for.
use mathlib.Core.Path.{◌≡◌, refl, sym, ap, subst, ◌∙◌}
use mathlib.Core.Bool.{Bool, true, false, not, ◌&&◌, ◌||◌, and-false, or-false}
use Prim.Native.Nat.{ℕ, zero, suc, ◌+◌, ◌*◌, ◌%◌, ◌<◌, ◌≤◌}
use native.Mathlib.Decide.{ℕ_discrete}
use native.Mathlib.Omega.{arith}
use lib.Dec.{eqb}
use borrow.Author.Tests.{eq-eqb, ne_eqb, eqb-true}
use Rattle.wire.specs.Layout.{field_number, wire_type}
use Rattle.fault.proofs.Order.{absurd_bool}
use Rattle.fields.specs.Schema.{Form, Unknown, Bytes, Provers, Verifiers, Bit, form_in, is_unknown, wrong_type}
use Rattle.fields.specs.Fields.{Marks, is_read, is_unexpected, marks}
use Rattle.fields.specs.Steps.{plain_marks}
use Rattle.fields.proofs.FieldSteps.{or_left, is_it}
use Rattle.fields.proofs.Forms.{known_number, no_message}
use Rattle.fields.proofs.OneField.{Refuses}

-- The key of a field of a form.
abbrev key_of : Form → ℕ → ℕ
key_of Unknown number = 8 * number
key_of Bytes number = 8 * number + 2
key_of Provers number = 8 * number + 2
key_of Verifiers number = 8 * number + 2
key_of Bit number = 8 * number

right_key : (form : Form) (key : ℕ) → is_unknown form ≡ false → wrong_type form (wire_type key) ≡ false → key ≡ key_of form (field_number key)
right_key Unknown key u w = absurd_bool u
right_key Bytes key u w = let e = is_it (key % 8) 2 w in omega (arith, e)
right_key Provers key u w = let e = is_it (key % 8) 2 w in omega (arith, e)
right_key Verifiers key u w = let e = is_it (key % 8) 2 w in omega (arith, e)
right_key Bit key u w = let e = is_it (key % 8) 0 w in omega (arith, e)

-- A field that is known, of its wire type and not read yet has one of three numbers, and its key.
pub record Fitting (message key : ℕ) (read : Marks) (number : ℕ) : Type 0 where
  pub expected : is_unexpected message number read ≡ false
  pub key_is : key ≡ key_of (form_in message number) number

module _ (message key : ℕ) (read : Marks) where
  abbrev form : Form
  form = form_in message (field_number key)

  pub by_number : {X : Type 0} → (is_unknown form || is_read form read) ≡ false → wrong_type form (wire_type key) ≡ false →
      (Fitting message key read 1 → X) → (Fitting message key read 2 → X) → (Fitting message key read 3 → X) → X
  by_number {X = X} u w one two three = pick (field_number key) refl (known_number message (field_number key) (or_left (is_unknown form) (is_read form read) u))
    where
      fitting : (n : ℕ) → field_number key ≡ n → Fitting message key read n
      fitting n e = subst (Fitting message key read) e record {
        expected = u;
        key_is = right_key form key (or_left (is_unknown form) (is_read form read) u) w;
      }

      pick : (n : ℕ) → field_number key ≡ n → (1 ≤ n) × (n ≤ 3) → X
      pick zero e b = absurd (omega (arith, b.0))
      pick (suc zero) e b = one (fitting 1 e)
      pick (suc (suc zero)) e b = two (fitting 2 e)
      pick (suc (suc (suc zero))) e b = three (fitting 3 e)
      pick (suc (suc (suc (suc n)))) e b = absurd (omega (arith, b.1))

-- A test for a key is met where its field is expected.
met : (key k : ℕ) (unexpected : Bool) → key ≡ k → unexpected ≡ false → (eqb key k && not unexpected) ≡ false → ⊥
met key k unexpected e u t = absurd_bool (sym (rw (eq-eqb key k e, u)) ∙ t)

-- A test that is met.
pub is_met : (key k : ℕ) (read : Bool) → (eqb key k && not read) ≡ true → (key ≡ k) × (read ≡ false)
is_met key k read e = by_tests (eqb key k) read refl e
  where
    by_tests : (s t : Bool) → eqb key k ≡ s → (s && not t) ≡ true → (key ≡ k) × (t ≡ false)
    by_tests true false p e = (eqb-true key k p, refl)
    by_tests true true p e = absurd_bool (sym e)
    by_tests false t p e = absurd_bool (sym e)

-- The same of a test for some messages alone.
pub is_met_in : (in_message : Bool) (key k : ℕ) (read : Bool) → ((in_message && eqb key k) && not read) ≡ true → (in_message ≡ true) × ((key ≡ k) × (read ≡ false))
is_met_in true key k read e = (refl, is_met key k read e)
is_met_in false key k read e = absurd_bool (sym e)

-- A message has no field 0 and none above 3.
pub record Rows (message : ℕ) : Type 0 where
  pub none_below : form_in message 0 ≡ Unknown
  pub none_above : (k : ℕ) → form_in message (suc (suc (suc (suc k)))) ≡ Unknown

above : (k n : ℕ) → n < k → eqb k n ≡ false
above k n h = ne_eqb k n (λ e. omega (arith, e))

-- Where no test is met, the key is refused, with a wrong wire type if its field is expected.
module _ (message key : ℕ) (read : Marks) (rows : Rows message) where
  -- The test for a field by its key, and that by its number.
  abbrev fits : ℕ → Bool
  fits number = eqb key (key_of (form_in message number) number) && not (is_unexpected message number read)

  abbrev names : (k number : ℕ) → Bool
  names k number = eqb k number && not (is_unexpected message number read)

  expects : (k : ℕ) → ((names k 1 || names k 2) || names k 3) ≡ not (is_unexpected message k read)
  expects zero = rw rows.none_below
  expects (suc zero) = or-false (not (is_unexpected message 1 read) || false) ∙ or-false (not (is_unexpected message 1 read))
  expects (suc (suc zero)) = or-false (not (is_unexpected message 2 read))
  expects (suc (suc (suc zero))) = refl
  expects (suc (suc (suc (suc k)))) =
      let n : ℕ = suc (suc (suc (suc k))) in
      rw (rows.none_above k, above n 1 (omega arith), above n 2 (omega arith), above n 3 (omega arith))

  refuses : fits 1 ≡ false → fits 2 ≡ false → fits 3 ≡ false →
      Refuses message key read ((names (field_number key) 1 || names (field_number key) 2) || names (field_number key) 3)
  refuses a b c = record {
    says = expects (field_number key);
    mistyped = λ u w. by_number message key read u w
        (λ f. met key _ _ f.key_is f.expected a)
        (λ f. met key _ _ f.key_is f.expected b)
        (λ f. met key _ _ f.key_is f.expected c);
  }

-- A field that the message does not have is not tested for.
untested : (message key : ℕ) (read : Marks) (e f : Bool) → Refuses message key read (e || (f && false)) → Refuses message key read e
untested message key read e f r = subst (Refuses message key read) (ap (λ (b : Bool). e || b) (and-false f) ∙ or-false e) r

-- A message without fields.
none_refuses : (message key : ℕ) (read : Marks) → ((k : ℕ) → form_in message k ≡ Unknown) → Refuses message key read false
none_refuses message key read none = record {
  says = rw (none (field_number key));
  mistyped = λ u w. absurd_bool (sym (ap is_unknown (none (field_number key))) ∙ or_left _ _ u);
}

module _ (key : ℕ) where
  pub hello_refuses : (token provers verifiers : Bool) →
      (eqb key 10 && not token) ≡ false → (eqb key 18 && not provers) ≡ false → (eqb key 26 && not verifiers) ≡ false →
      Refuses 1 key (marks token provers verifiers false)
      (((eqb (field_number key) 1 && not token) || (eqb (field_number key) 2 && not provers)) || (eqb (field_number key) 3 && not verifiers))
  unfolding form_in
  hello_refuses token provers verifiers a b c = refuses 1 key (marks token provers verifiers false) record { none_below = refl; none_above = λ k. refl } a b c

  pub data_refuses : (b t : Bool) → (eqb key 10 && not b) ≡ false → (eqb key 16 && not t) ≡ false →
      Refuses 8 key (plain_marks b t) ((eqb (field_number key) 1 && not b) || (eqb (field_number key) 2 && not t))
  unfolding form_in
  data_refuses b t p q =
      untested 8 key (plain_marks b t) _ (eqb (field_number key) 3)
      (refuses 8 key (plain_marks b t) record { none_below = refl; none_above = λ k. refl } p q (and-false (eqb key 24)))

-- A message with field 1 alone.
module _ (key message : ℕ) (read : Marks) (rows : Rows message) (two : form_in message 2 ≡ Unknown) (three : form_in message 3 ≡ Unknown) where
  never : (b : Bool) (number : ℕ) → form_in message number ≡ Unknown → (b && not (is_unexpected message number read)) ≡ (b && false)
  never b number e = ap (λ (f : Form). b && not (is_unknown f || is_read f read)) e

  misses : (number : ℕ) → form_in message number ≡ Unknown → fits message key read rows number ≡ false
  misses number e = let b : Bool = eqb key (key_of (form_in message number) number) in never b number e ∙ and-false b

  only : (eqb key (key_of (form_in message 1) 1) && not (is_unexpected message 1 read)) ≡ false →
      Refuses message key read (eqb (field_number key) 1 && not (is_unexpected message 1 read))
  only p =
      let first : Bool = eqb (field_number key) 1 && not (is_unexpected message 1 read) in
      untested message key read first (eqb (field_number key) 2)
      (untested message key read (first || (eqb (field_number key) 2 && false)) (eqb (field_number key) 3)
      (subst (Refuses message key read) (λ i. (first || never (eqb (field_number key) 2) 2 two i) || never (eqb (field_number key) 3) 3 three i)
      (refuses message key read rows p (misses 2 two) (misses 3 three))))

-- Of the messages above DATA only ACK has a field.
pub ack_refuses : (key message : ℕ) (b t : Bool) → 9 ≤ message → ((eqb message 9 && eqb key 8) && not t) ≡ false →
    Refuses message key (plain_marks b t) ((eqb message 9 && eqb (field_number key) 1) && not t)
unfolding form_in
ack_refuses key message b t h = by_message (ℕ_discrete message 9)
  where
    nine : (eqb key 8 && not t) ≡ false → Refuses 9 key (plain_marks b t) (eqb (field_number key) 1 && not t)
    nine p = only key 9 (plain_marks b t) record { none_below = refl; none_above = λ k. refl } refl refl p

    by_message : Dec (message ≡ 9) → ((eqb message 9 && eqb key 8) && not t) ≡ false →
        Refuses message key (plain_marks b t) ((eqb message 9 && eqb (field_number key) 1) && not t)
    by_message (yes e) = subst (λ (m : ℕ). ((eqb m 9 && eqb key 8) && not t) ≡ false → Refuses m key (plain_marks b t) ((eqb m 9 && eqb (field_number key) 1) && not t)) (sym e) nine
    by_message (no n) = λ p. rw (ne_eqb message 9 n) (none_refuses message key (plain_marks b t) (λ k. no_message message k (omega (arith, n))))

-- Whether a message below DATA has a field, which is then bytes.
abbrev pub has_part : ℕ → Bool
has_part message = (eqb message 4 || eqb message 6) || eqb message 7

pub part_refuses : (key message : ℕ) (b t : Bool) → (message ≡ 1 → ⊥) → message < 8 → ((has_part message && eqb key 10) && not b) ≡ false →
    Refuses message key (plain_marks b t) ((has_part message && eqb (field_number key) 1) && not b)
unfolding form_in
part_refuses key zero b t n h p = none_refuses 0 key (plain_marks b t) (λ k. refl)
part_refuses key (suc zero) b t n h p = absurd (n refl)
part_refuses key (suc (suc zero)) b t n h p = none_refuses 2 key (plain_marks b t) (λ k. refl)
part_refuses key (suc (suc (suc zero))) b t n h p = none_refuses 3 key (plain_marks b t) (λ k. refl)
part_refuses key (suc (suc (suc (suc zero)))) b t n h p = only key 4 (plain_marks b t) record { none_below = refl; none_above = λ k. refl } refl refl p
part_refuses key (suc (suc (suc (suc (suc zero))))) b t n h p = none_refuses 5 key (plain_marks b t) (λ k. refl)
part_refuses key (suc (suc (suc (suc (suc (suc zero)))))) b t n h p = only key 6 (plain_marks b t) record { none_below = refl; none_above = λ k. refl } refl refl p
part_refuses key (suc (suc (suc (suc (suc (suc (suc zero))))))) b t n h p = only key 7 (plain_marks b t) record { none_below = refl; none_above = λ k. refl } refl refl p
part_refuses key (suc (suc (suc (suc (suc (suc (suc (suc m)))))))) b t n h p = absurd (omega arith)

-- A message below DATA that has a field has bytes at number 1.
pub has_bytes : (message : ℕ) → has_part message ≡ true → form_in message 1 ≡ Bytes
unfolding form_in
has_bytes message h = by_tests (eqb message 4) (eqb message 6) (eqb message 7) refl refl refl h
  where
    at : (n : ℕ) → eqb message n ≡ true → form_in n 1 ≡ Bytes → form_in message 1 ≡ Bytes
    at n p q = ap (λ (m : ℕ). form_in m 1) (eqb-true message n p) ∙ q

    by_tests : (a b c : Bool) → eqb message 4 ≡ a → eqb message 6 ≡ b → eqb message 7 ≡ c → ((a || b) || c) ≡ true → form_in message 1 ≡ Bytes
    by_tests true b c p q r e = at 4 p refl
    by_tests false true c p q r e = at 6 q refl
    by_tests false false true p q r e = at 7 r refl
    by_tests false false false p q r e = absurd_bool (sym e)
