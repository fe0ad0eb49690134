-- The outer field: which message it holds, and where.
use mathlib.Core.Path.{◌≡◌, refl, sym}
use mathlib.Core.Bool.{Bool, true, false, ◌||◌}
use mathlib.Core.List.{List, [], ◌∷◌}
use Prim.Native.Nat.{ℕ, ◌≤◌}
use native.Mathlib.Omega.{arith}
use borrow.Author.Tests.{leb-false, leb-true, le-leb, lt-leb, ltb-false, ltb-true, ne_eqb}
use lib.Dec.{leb, ltb}
use lib.ListN.{length}
use Rattle.wire.specs.Varint.{value, fault, number_at}
use Rattle.wire.specs.Layout.{field_number, wire_type}
use Rattle.fault.specs.Fault.{leftmost, refused}
use Rattle.fault.proofs.Order.{absurd_bool}
use Rattle.fields.specs.Schema.{Unknown, Bytes, outer_form}
use Rattle.fields.specs.Message.{reading_at}
use Rattle.messages.specs.Outer.{of_outer, faults_of, reading_of}

pub no_bytes : (bytes : List ℕ) → length bytes ≡ 0 → reading_of bytes ≡ refused 22
unfolding reading_of faults_of leftmost
no_bytes [] e = refl
no_bytes (b ∷ bytes) e = absurd (omega (arith, e))

some_bytes : (bytes : List ℕ) → (length bytes ≡ 0 → ⊥) → faults_of bytes ≡ of_outer bytes (number_at bytes 0)
unfolding faults_of
some_bytes [] h = absurd (h refl)
some_bytes (b ∷ bytes) h = refl

-- The keys of the nine messages, whatever their wire type.
module _ (key : ℕ) where
  pub no_message : (ltb key 8 || leb 80 key) ≡ true → outer_form (field_number key) ≡ Unknown
  no_message t = by_tests (ltb key 8) (leb 80 key) refl refl t
    where
      by_tests : (s t : Bool) → ltb key 8 ≡ s → leb 80 key ≡ t → (s || t) ≡ true → outer_form (field_number key) ≡ Unknown
      by_tests true t p q e = let l = ltb-true key 8 p in rw (lt-leb 1 (field_number key) (omega (arith, l)))
      by_tests false true p q e =
          let l = ltb-false key 8 p in
          let m = leb-true 80 key q in
          rw (le-leb 1 (field_number key) (omega (arith, l)), lt-leb (field_number key) 9 (omega (arith, m)))
      by_tests false false p q e = absurd_bool (sym e)

  pub known : (ltb key 8 || leb 80 key) ≡ false → (1 ≤ field_number key) × (field_number key ≤ 9)
  known t = by_tests (ltb key 8) (leb 80 key) refl refl t
    where
      by_tests : (s t : Bool) → ltb key 8 ≡ s → leb 80 key ≡ t → (s || t) ≡ false → (1 ≤ field_number key) × (field_number key ≤ 9)
      by_tests true t p q e = absurd_bool e
      by_tests false true p q e = absurd_bool e
      by_tests false false p q e = let l = ltb-false key 8 p in let m = leb-false 80 key q in (omega (arith, l), omega (arith, m))

  pub a_message : (1 ≤ field_number key) × (field_number key ≤ 9) → outer_form (field_number key) ≡ Bytes
  a_message k = rw (le-leb 1 (field_number key) k.0, le-leb (field_number key) 9 k.1)

module _ (bytes : List ℕ) (h : length bytes ≡ 0 → ⊥) where
  pub outer_faulty : (refusal : ℕ) → number_at bytes 0 ≡ fault refusal → reading_of bytes ≡ refused refusal
  unfolding reading_of leftmost
  outer_faulty refusal e = rw (some_bytes bytes h, e)

  module _ (key next : ℕ) (e : number_at bytes 0 ≡ value key next) where
    pub outer_unexpected : (ltb key 8 || leb 80 key) ≡ true → reading_of bytes ≡ refused 22
    unfolding reading_of leftmost
    outer_unexpected t = rw (some_bytes bytes h, e, no_message key t)

    module _ (t : (ltb key 8 || leb 80 key) ≡ false) where
      pub outer_mistyped : (wire_type key ≡ 2 → ⊥) → reading_of bytes ≡ refused 23
      unfolding reading_of leftmost
      outer_mistyped w = rw (some_bytes bytes h, e, a_message key (known key t), ne_eqb (wire_type key) 2 w)

      pub outer_located : wire_type key ≡ 2 → reading_of bytes ≡ reading_at (field_number key) bytes next
      unfolding reading_of reading_at
      outer_located w = rw (some_bytes bytes h, e, a_message key (known key t), w)
