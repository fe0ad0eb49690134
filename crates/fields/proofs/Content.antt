-- What a field of a form holds.
use mathlib.Core.Path.{◌≡◌, sym, ap, subst, ◌∙◌}
use mathlib.Core.Bool.{Bool, true, false, cond}
use mathlib.Core.List.{List, [], ◌∷◌}
use Prim.Native.Nat.{ℕ, ◌+◌}
use lib.Dec.{ltb}
use Rattle.std.specs.Prelude.{Result, Ok, Err}
use Rattle.fault.specs.Fault.{at, leftmost, read_as, refused, judged}
use Rattle.fault.specs.Refusals.{refusal_number}
use Rattle.fault.specs.declared.Refusal.{Refusal}
use Rattle.fault.proofs.Order.{same_refused, same_read}
use Rattle.wire.specs.Varint.{Number, value, fault, number_at, as_bit, bit_at}
use Rattle.wire.specs.Layout.{block_at, after_block}
use Rattle.wire.specs.Lists.{of_list, of_number, suites_in, entries}
use Rattle.wire.specs.Parts.{Listed, Stored, block_of, listed, number_of, packed_at, packed_of}
use Rattle.wire.specs.declared.block.Span.{Span}
use Rattle.wire.specs.declared.list.Packed.{Packed}
use Rattle.wire.specs.declared.varint.Varint.{Varint}
use Rattle.fields.specs.Schema.{Form, Bytes, Provers, Verifiers, Bit}
use Rattle.fields.specs.Faults.{of_bytes, of_content}
use Rattle.fields.specs.Message.{made}
use Rattle.fields.specs.Fields.{Fields, Step, marked, proceed, seen_in, stage, stop, with_mark, with_bytes, with_bit, with_provers, with_verifiers}
use Rattle.fields.specs.Steps.{ContentStep}

abbrev is_fault : Number → Type 0
is_fault (value number next) = ⊥
is_fault (fault refusal) = Unit {0}

as_number : (n : Number) (bit after : ℕ) → as_bit n ≡ value bit after → n ≡ value bit after
as_number (value number q) bit after e = by_size (ltb 1 number) e
  where
    by_size : (t : Bool) → cond t (fault 24) (value number q) ≡ value bit after → value number q ≡ value bit after
    by_size true e = absurd (subst is_fault e tt)
    by_size false e = e
as_number (fault refusal) bit after e = absurd (subst is_fault e tt)

-- What bytes, a bit and suites add to the fields before them.
abbrev block_step : Result Span Refusal → Fields → Step
block_step (Ok part) f = proceed (with_bytes part.place part.size f) (part.place + part.size)
block_step (Err refusal) f = stop refusal

abbrev bit_step : Result Varint Refusal → Fields → Step
bit_step (Ok bit) f = proceed (with_bit bit.value f) bit.next
bit_step (Err refusal) f = stop refusal

abbrev provers_step : Result Packed Refusal → Fields → Step
provers_step (Ok list) f = proceed (with_provers list.count f) list.next
provers_step (Err refusal) f = stop refusal

abbrev verifiers_step : Result Packed Refusal → Fields → Step
verifiers_step (Ok list) f = proceed (with_verifiers list.count f) list.next
verifiers_step (Err refusal) f = stop refusal

module _ (bytes : List ℕ) (place : ℕ) (f : Fields) (provers verifiers : List ℕ) where
  -- One fault, at the place of the content.
  content_faulty : (form : Form) (refusal : Refusal) → of_content form bytes place ≡ (at place (refusal_number refusal) ∷ []) →
      ContentStep form bytes place (with_mark form f) provers verifiers (stop refusal) provers verifiers
  unfolding leftmost
  content_faulty form refusal e = record { reads = λ number. rw (e); tidies = λ t. tt }

  -- What was found at the place.
  pub bytes_content : (b : Result Span Refusal) → block_of b ≡ block_at bytes place → ContentStep Bytes bytes place (with_mark Bytes f) provers verifiers (block_step b f) provers verifiers
  unfolding leftmost
  bytes_content (Ok part) e = record { reads = λ number. rw (← e); tidies = λ t. t }
  bytes_content (Err refusal) e = content_faulty Bytes refusal (ap (of_bytes place) (sym e))

  pub bit_content : (v : Result Varint Refusal) → number_of v ≡ bit_at bytes place → ContentStep Bit bytes place (with_mark Bit f) provers verifiers (bit_step v f) provers verifiers
  unfolding leftmost
  bit_content (Ok bit) e = record { reads = λ number. rw (← e, as_number (number_at bytes place) bit.value bit.next (sym e)); tidies = λ t. t }
  bit_content (Err refusal) e = content_faulty Bit refusal (ap (of_number place) (sym e))

  -- Lists of suites: both forms have the faults of a packed list.
  module _ (list : List ℕ) where
    refused_list : (refusal : Refusal) → refused (refusal_number refusal) ≡ packed_at bytes place → {B : Type 0} (y : B) → refused (refusal_number refusal) ≡ judged (of_list bytes place (block_at bytes place)) y
    unfolding packed_at
    refused_list refusal e y =
        sym (same_refused (of_list bytes place (block_at bytes place)) (listed (suites_in bytes (block_at bytes place)) (after_block bytes (block_at bytes place))) y (refusal_number refusal) (sym e))

    list_read : (read : Listed) → read_as read ≡ packed_at bytes place → listed (suites_in bytes (block_at bytes place)) (after_block bytes (block_at bytes place)) ≡ read
    unfolding packed_at
    list_read read e = (same_read (of_list bytes place (block_at bytes place)) _ _ place (sym e)).0

    list_judged : (read : Listed) → read_as read ≡ packed_at bytes place → {B : Type 0} (y : B) → judged (of_list bytes place (block_at bytes place)) y ≡ read_as y
    unfolding packed_at
    list_judged read e y = (same_read (of_list bytes place (block_at bytes place)) (listed (suites_in bytes (block_at bytes place)) (after_block bytes (block_at bytes place))) read y (sym e)).1

    pub provers_content : (r : Result Packed Refusal) → packed_of r list ≡ packed_at bytes place → Stored r list →
        ContentStep Provers bytes place (with_mark Provers f) provers verifiers (provers_step r f) list verifiers
    provers_content (Err refusal) e holds = record { reads = λ number. refused_list refusal e _; tidies = λ t. tt }
    provers_content (Ok packed) e holds = record {
      reads = λ number.
          sym (list_judged _ e _ ∙ ap (λ (l : Listed). read_as (stage (seen_in number (marked Provers f.read)) (made number f.place f.size f.bit l.suites (entries f.verifiers verifiers)) l.next)) (list_read _ e));
      tidies = λ t. (holds, t.1);
    }

    pub verifiers_content : (r : Result Packed Refusal) → packed_of r list ≡ packed_at bytes place → Stored r list →
        ContentStep Verifiers bytes place (with_mark Verifiers f) provers verifiers (verifiers_step r f) provers list
    verifiers_content (Err refusal) e holds = record { reads = λ number. refused_list refusal e _; tidies = λ t. tt }
    verifiers_content (Ok packed) e holds = record {
      reads = λ number.
          sym (list_judged _ e _ ∙ ap (λ (l : Listed). read_as (stage (seen_in number (marked Verifiers f.read)) (made number f.place f.size f.bit (entries f.provers provers) l.suites) l.next)) (list_read _ e));
      tidies = λ t. (t.0, holds);
    }
