-- How a message is read from field to field.
use mathlib.Core.Path.{◌≡◌, refl, sym}
use mathlib.Core.Bool.{Bool, true, false, cond, not, ◌||◌}
use mathlib.Core.List.{List, ◌∷◌, ◌++◌}
use Prim.Native.Nat.{ℕ, zero, suc, ◌+◌, ◌-◌, ◌<◌, ◌≤◌}
use native.Mathlib.Omega.{arith}
use lib.Dec.{eqb, ltb}
use borrow.Author.Tests.{eqb-true, not-false}
use lib.ListN.{length, take}
use lib.Seq.{length-take-le}
use Rattle.wire.specs.Varint.{Number, value, fault, number_at, as_bit}
use Rattle.wire.specs.Layout.{Block, block, faulty, block_at, after_block, after_number, after_key, places, field_number, wire_type, entries_from, fields_from}
use Rattle.fault.specs.Fault.{Fault, at, fault_if, or_else, leftmost, refused, judged}
use Rattle.wire.specs.Lists.{of_number, of_list, of_entries}
use Rattle.fault.proofs.Order.{Between, absurd_bool, widen, joined, not_before}
use Rattle.wire.proofs.Places.{Stands, stands, BlockStands, block_stands}
use Rattle.wire.proofs.Lists.{entries_all}
use Rattle.fields.specs.Schema.{Form, Unknown, Bytes, Provers, Verifiers, Bit, is_unknown, wrong_type}
use Rattle.fields.specs.Faults.{FieldNumbers, adding, field_of, of_bytes, of_content, of_field, of_fields}
use Rattle.fields.specs.Steps.{after_content}

-- The faults of a key: an unexpected field, then a wrong wire type.
module _ {A : Type 0} (x : A) (place : ℕ) (others : List Fault) where
  pub unexpected : (b c : Bool) → b ≡ true → judged (or_else (fault_if b (at place 22) ++ fault_if c (at place 23)) others) x ≡ refused 22
  unfolding leftmost
  unexpected true true e = rw (not_before (at place 22) (at place 23) (omega arith) (λ p. omega arith))
  unexpected true false e = refl
  unexpected false c e = absurd_bool (sym e)

  pub wrongly_typed : (b c : Bool) → b ≡ false → c ≡ true → judged (or_else (fault_if b (at place 22) ++ fault_if c (at place 23)) others) x ≡ refused 23
  unfolding leftmost
  wrongly_typed true c e f = absurd_bool e
  wrongly_typed false true e f = refl
  wrongly_typed false false e f = absurd_bool (sym f)

pub announced : (place : ℕ) (others : List Fault) (b c : Bool) → b ≡ false → c ≡ false → or_else (fault_if b (at place 22) ++ fault_if c (at place 23)) others ≡ others
announced place others true c e f = absurd_bool e
announced place others false true e f = absurd_bool f
announced place others false false e f = refl

pub or_left : (b c : Bool) → (b || c) ≡ false → b ≡ false
or_left true c e = absurd_bool e
or_left false c e = refl

-- A number that passes the test for being another is that one.
pub is_it : (n k : ℕ) → not (eqb n k) ≡ false → n ≡ k
is_it n k e = eqb-true n k (not-false (eqb n k) e)

module _ (message : List ℕ) where
  -- Where a field of the right wire type ends.
  pub content_end : (form : Form) (key next : ℕ) → is_unknown form ≡ false → wrong_type form (wire_type key) ≡ false → after_content form message next ≡ after_key message (value key next)
  content_end Unknown key next k w = absurd_bool k
  content_end Bytes key next k w = rw (is_it (wire_type key) 2 w)
  content_end Provers key next k w = rw (is_it (wire_type key) 2 w)
  content_end Verifiers key next k w = rw (is_it (wire_type key) 2 w)
  content_end Bit key next k w = rw (is_it (wire_type key) 0 w)

  number_ends : (place : ℕ) → place ≤ length message → (place ≤ after_number message (number_at message place)) × (after_number message (number_at message place) ≤ length message)
  number_ends place h = by_number (number_at message place) (stands message place)
    where
      by_number : (n : Number) → Stands message place n → (place ≤ after_number message n) × (after_number message n ≤ length message)
      by_number (value number next) s = (omega (arith, s.0), s.1)
      by_number (fault refusal) s = (h, omega arith)

  block_ends : (place : ℕ) → place ≤ length message → (place ≤ after_block message (block_at message place)) × (after_block message (block_at message place) ≤ length message)
  block_ends place h = by_block (block_at message place) (block_stands message place)
    where
      by_block : (b : Block) → BlockStands message place b → (place ≤ after_block message b) × (after_block message b ≤ length message)
      by_block (block start size) s = (omega (arith, s.0), s.1)
      by_block (faulty refusal) s = (h, omega arith)

  -- A field ends behind its key, and in the message.
  pub field_ends : (place : ℕ) → place < length message → (place < after_key message (number_at message place)) × (after_key message (number_at message place) ≤ length message)
  field_ends place h = by_key (number_at message place) (stands message place)
    where
      by_type : (next : ℕ) → (place < next) × (next ≤ length message) → (b c : Bool) →
          (place < cond b (after_number message (number_at message next)) (cond c (after_block message (block_at message next)) (length message)))
          × (cond b (after_number message (number_at message next)) (cond c (after_block message (block_at message next)) (length message)) ≤ length message)
      by_type next s true c = let e = number_ends next s.1 in (omega (arith, s.0, e.0), e.1)
      by_type next s false true = let e = block_ends next s.1 in (omega (arith, s.0, e.0), e.1)
      by_type next s false false = (h, omega arith)

      by_key : (n : Number) → Stands message place n → (place < after_key message n) × (after_key message n ≤ length message)
      by_key (value key next) s = by_type next s (eqb (wire_type key) 0) (eqb (wire_type key) 2)
      by_key (fault refusal) s = (h, omega arith)

  -- The faults of a packed list.
  list_between : (place : ℕ) → place ≤ length message → Between place (after_block message (block_at message place)) (of_list message place (block_at message place))
  list_between place h = by_block (block_at message place) (block_stands message place)
    where
      by_block : (b : Block) → BlockStands message place b → Between place (after_block message b) (of_list message place b)
      by_block (block start size) s =
          let n : length (take (start + size) message) ≡ start + size = length-take-le (start + size) message s.1 in
          widen start (length (take (start + size) message)) place (start + size) (omega (arith, s.0)) (omega (arith, n))
          (of_entries (take (start + size) message) 16 (entries_from (take (start + size) message) start))
          (entries_all (take (start + size) message) 16 start (omega (arith, n)))
      by_block (faulty refusal) s = let b = s h in ((omega arith, b.0, b.1, b.2), tt)

  -- The faults of a content stand from its place to its end.
  pub content_between : (form : Form) (place : ℕ) → place ≤ length message → Between place (after_content form message place) (of_content form message place)
  content_between Unknown place h = tt
  content_between Bytes place h = by_block (block_at message place) (block_stands message place)
    where
      by_block : (b : Block) → BlockStands message place b → Between place (after_block message b) (of_bytes place b)
      by_block (block start size) s = tt
      by_block (faulty refusal) s = let b = s h in ((omega arith, b.0, b.1, b.2), tt)
  content_between Provers place h = list_between place h
  content_between Verifiers place h = list_between place h
  content_between Bit place h = by_number (number_at message place) (stands message place)
    where
      by_size : (number next : ℕ) (t : Bool) → place < next → Between place next (of_number place (cond t (fault 24) (value number next)))
      by_size number next true s = ((omega arith, omega arith, omega arith, omega arith), tt)
      by_size number next false s = tt

      by_number : (n : Number) → Stands message place n → Between place (after_number message n) (of_number place (as_bit n))
      by_number (value number next) s = by_size number next (ltb 1 number) s.0
      by_number (fault refusal) s = let b = s h in ((omega arith, b.0, b.1, b.2), tt)

  -- The faults of a field stand from its key to its end.
  pub field_between : (form : ℕ → Form) (former : FieldNumbers) (place : ℕ) → place < length message →
      Between place (after_key message (number_at message place)) (of_field form former message place (number_at message place))
  field_between form former place h = by_key (number_at message place) (stands message place) (field_ends place h).0
    where
      by_test : (key next : ℕ) → (place < next) × (next ≤ length message) → place < after_key message (value key next) →
          (b c : Bool) → (is_unknown (form (field_number key)) || former (field_number key)) ≡ b → wrong_type (form (field_number key)) (wire_type key) ≡ c →
          Between place (after_key message (value key next)) (or_else (fault_if b (at place 22) ++ fault_if c (at place 23)) (of_content (form (field_number key)) message next))
      by_test key next s e true true p q = ((omega arith, omega arith, omega arith, omega arith), ((omega arith, omega arith, omega arith, omega arith), tt))
      by_test key next s e true false p q = ((omega arith, omega arith, omega arith, omega arith), tt)
      by_test key next s e false true p q = ((omega arith, omega arith, omega arith, omega arith), tt)
      by_test key next s e false false p q =
          widen next (after_content (form (field_number key)) message next) place (after_key message (value key next)) (omega (arith, s.0))
          (omega (arith, content_end (form (field_number key)) key next (or_left _ _ p) q))
          (of_content (form (field_number key)) message next) (content_between (form (field_number key)) next s.1)

      by_key : (n : Number) → Stands message place n → place < after_key message n → Between place (after_key message n) (of_field form former message place n)
      by_key (value key next) s e = by_test key next s e _ _ refl refl
      by_key (fault refusal) s e = let b = s (omega arith) in ((omega arith, b.0, b.1, b.2), tt)

  -- The faults of fields stand where the fields do.
  fields_between : (form : ℕ → Form) (after : ℕ → ℕ) (left place next : ℕ) (former : FieldNumbers) → place + left ≡ length message →
      Between place (length message) (of_fields form former message (places after place next left))
  unfolding places of_fields
  fields_between form after zero place next former h = tt
  fields_between form after (suc left) place next former h =
      by_place (ltb place next)
      (λ f n. widen (suc place) (length message) place (length message) (omega arith) (omega arith) (of_fields form f message (places after (suc place) n left)) (fields_between form after left (suc place) n f (omega arith)))
    where
      here : Between place (length message) (of_field form former message place (number_at message place))
      here = widen place (after_key message (number_at message place)) place (length message) (omega arith) (field_ends place (omega arith)).1
          (of_field form former message place (number_at message place)) (field_between form former place (omega arith))

      by_place : (t : Bool) → ((f : FieldNumbers) (n : ℕ) → Between place (length message) (of_fields form f message (places after (suc place) n left))) →
          Between place (length message) (of_fields form former message (cond t (places after (suc place) next left) (place ∷ places after (suc place) (after place) left)))
      by_place true f = f former next
      by_place false f =
          joined place (length message) (of_field form former message place (number_at message place))
          (of_fields form (adding (field_of (number_at message place)) former) message (places after (suc place) (after place) left))
          here (f (adding (field_of (number_at message place)) former) (after place))

  -- The same of all fields from a place on.
  pub fields_from_lem : (form : ℕ → Form) (former : FieldNumbers) (start : ℕ) → start ≤ length message →
      Between start (length message) (of_fields form former message (fields_from message start))
  fields_from_lem form former start h = fields_between form (λ place. after_key message (number_at message place)) (length message - start) start start former (omega arith)
