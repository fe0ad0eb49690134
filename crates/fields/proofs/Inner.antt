-- A message in lent bytes, with what follows it.
use mathlib.Core.Path.{◌≡◌, refl, sym, ap, subst, ◌∙◌}
use mathlib.Core.Bool.{Bool, true, false}
use mathlib.Core.List.{List, [], ◌++◌}
use Prim.Native.Nat.{ℕ, ◌+◌, ◌<◌, ◌≤◌}
use native.Mathlib.Omega.{arith}
use borrow.Author.Tests.{lt-ltb, le-ltb, ltb-true, ne_eqb}
use lib.Dec.{ltb}
use lib.ListN.{length, take}
use lib.Seq.{length-take-le}
use Rattle.std.specs.Prelude.{Result, Ok, Err}
use Rattle.wire.specs.Layout.{block, faulty, block_at, fields_from}
use Rattle.fault.specs.Fault.{Fault, Reading, at, fault_if, leftmost, read_as, refused, judged}
use Rattle.wire.specs.Lists.{entries}
use Rattle.wire.specs.Parts.{Holds}
use Rattle.fault.specs.Refusals.{refusal_number}
use Rattle.fault.specs.declared.Refusal.{Refusal}
use Rattle.fault.proofs.Order.{Between, append_refused, append_read}
use Rattle.fields.specs.Schema.{form_in}
use Rattle.fields.specs.Faults.{no_numbers, of_fields}
use Rattle.fields.specs.Message.{Message, made, empty, with_fields, reading_at}
use Rattle.fields.specs.Contents.{Fits, contents_in, provers_after, verifiers_after}
use Rattle.fields.specs.Steps.{Reads, ReadsPlain, fields_of, inner_of}
use Rattle.fields.specs.declared.Contents.{Contents}
use Rattle.fields.specs.declared.Contents.TheVariants as contents
use Rattle.fields.specs.declared.Held.{Held}
use Rattle.wire.specs.declared.block.Span.{Span}
use Rattle.fields.proofs.FieldSteps.{fields_from_lem}

module _ (number : ℕ) (bytes : List ℕ) (start size : ℕ) (h : start + size ≤ length bytes) where
  abbrev message : List ℕ
  message = take (start + size) bytes

  abbrev in_fields : List Fault
  in_fields = of_fields (form_in number) no_numbers message (fields_from message start)

  fields_stand : Between start (start + size) in_fields
  fields_stand =
      let n : length message ≡ start + size = length-take-le (start + size) bytes h in
      subst (λ (e : ℕ). Between start e in_fields) n
      (fields_from_lem message (form_in number) no_numbers start (omega (arith, n)))

  abbrev following : List Fault
  following = fault_if (ltb (start + size) (length bytes)) (at (start + size) 22)

  following_stands : Between (start + size) (length bytes) following
  following_stands = by_test (ltb (start + size) (length bytes)) refl
    where
      by_test : (t : Bool) → ltb (start + size) (length bytes) ≡ t → Between (start + size) (length bytes) (fault_if t (at (start + size) 22))
      by_test true e = let l = ltb-true (start + size) (length bytes) e in ((omega arith, omega arith, omega arith, omega (arith, l)), tt)
      by_test false e = tt

  abbrev whole : Message
  whole = with_fields message (fields_from message start) (empty number)

  pub inner_refused : (refusal : ℕ) → refused refusal ≡ fields_of number message start → refused refusal ≡ inner_of number bytes start size
  unfolding fields_of inner_of
  inner_refused refusal e =
      sym (append_refused start (start + size) (length bytes) in_fields following fields_stand following_stands whole whole refusal (sym e))

  module _ (m : Message) (e : read_as m ≡ fields_of number message start) where
    read : (whole ≡ m) × (judged (in_fields ++ following) whole ≡ judged following whole)
    unfolding fields_of
    read = append_read start (start + size) (length bytes) in_fields following fields_stand following_stands whole m whole (sym e)

    pub inner_trailing : start + size < length bytes → refused 22 ≡ inner_of number bytes start size
    unfolding inner_of leftmost
    inner_trailing end = sym (read.1 ∙ rw (lt-ltb (start + size) (length bytes) end))

    pub inner_read : length bytes ≤ start + size → read_as m ≡ inner_of number bytes start size
    unfolding inner_of leftmost
    inner_read end = sym (read.1 ∙ rw (le-ltb (start + size) (length bytes) end) (ap read_as read.0))

-- Reading at a place, by the message's length.
module _ (number : ℕ) (bytes : List ℕ) (place : ℕ) where
  pub cut_off : (refusal : ℕ) → block_at bytes place ≡ faulty refusal → reading_at number bytes place ≡ refused refusal
  unfolding reading_at leftmost
  cut_off refusal e = rw (e)

  pub inside : (start size : ℕ) → block_at bytes place ≡ block start size → reading_at number bytes place ≡ inner_of number bytes start size
  unfolding reading_at inner_of
  inside start size e = rw (e)

-- What is promised of contents and lists.
pub reads_refused : (number : ℕ) (refusal : Refusal) → ReadsPlain number (Err refusal) (refused (refusal_number refusal))
reads_refused number refusal provers verifiers = record { reads = refl; provers_left = refl; verifiers_left = refl; fits = tt }

pub reads_plain : (number : ℕ) (part : Span) (bit : ℕ) → (number ≡ 1 → ⊥) → ReadsPlain number (Ok (contents.Plain number part bit)) (read_as (made number part.place part.size bit [] []))
reads_plain number part bit h provers verifiers = record {
  reads = refl;
  provers_left = rw (ne_eqb number 1 h);
  verifiers_left = rw (ne_eqb number 1 h);
  fits = (refl, h);
}

pub reads_hello : (held : Held) (provers verifiers provers' verifiers' : List ℕ) → Holds held.provers provers' → Holds held.verifiers verifiers' →
    Reads 1 (Ok (contents.Hello held)) (read_as (made 1 held.token.place held.token.size 0 (entries held.provers provers') (entries held.verifiers verifiers'))) provers verifiers provers' verifiers'
reads_hello held provers verifiers provers' verifiers' h k = record { reads = refl; provers_left = h.1; verifiers_left = k.1; fits = (refl, (h.0, k.0)) }

-- The same of a reading that equals this one.
pub reads_as : (number : ℕ) (r : Result Contents Refusal) (reading reading' : Reading Message) (provers verifiers provers' verifiers' : List ℕ) → reading' ≡ reading →
    Reads number r reading provers verifiers provers' verifiers' → Reads number r reading' provers verifiers provers' verifiers'
reads_as number r reading reading' provers verifiers provers' verifiers' e h = subst (λ (q : Reading Message). Reads number r q provers verifiers provers' verifiers') (sym e) h

-- The same of a number that equals this one.
pub reads_number : (n m : ℕ) → m ≡ n → (r : Result Contents Refusal) (bytes : List ℕ) (start size : ℕ) (provers verifiers provers' verifiers' : List ℕ) →
    Reads n r (inner_of n bytes start size) provers verifiers provers' verifiers' → Reads m r (inner_of m bytes start size) provers verifiers provers' verifiers'
reads_number n m e r bytes start size provers verifiers provers' verifiers' h =
    subst (λ (k : ℕ). Reads k r (inner_of k bytes start size) provers verifiers provers' verifiers') (sym e) h

-- The promises of `read_at`, in its order.
pub promised : (number : ℕ) (r : Result Contents Refusal) (reading : Reading Message) (provers verifiers provers' verifiers' : List ℕ) → Reads number r reading provers verifiers provers' verifiers' →
    (contents_in r provers' verifiers' ≡ reading) × ((provers' ≡ provers_after reading provers) × ((verifiers' ≡ verifiers_after reading verifiers) × Fits number r))
promised number r reading provers verifiers provers' verifiers' h = (h.reads, (h.provers_left, (h.verifiers_left, h.fits)))
