-- Fields fill only the parts of a message for which the schema has a field.
use mathlib.Core.Path.{◌≡◌, refl, ap, ◌∙◌}
use mathlib.Core.Bool.{Bool, true, false, cond}
use mathlib.Core.List.{List, [], ◌∷◌}
use mathlib.Core.Option.{Option, none, some}
use Prim.Native.Nat.{ℕ, ◌+◌}
use lib.ListN.{take, get_or}
use Rattle.wire.specs.Varint.{Number, value, fault, number_at}
use Rattle.wire.specs.Layout.{Block, block, faulty, block_at, field_number, fields_from}
use Rattle.fault.specs.Fault.{Fault, by_first_fault, judged, leftmost}
use Rattle.fields.specs.Schema.{Form, Unknown, Bytes, Provers, Verifiers, Bit, schema, form_in}
use Rattle.fields.specs.Message.{Message, made, empty, filled, with_field, with_fields, message_in}
use Rattle.fields.specs.Fields.{contains, form_code}
use Rattle.fields.proofs.Forms.{contained}
use Rattle.messages.specs.Outer.{faults_of, message_by, message_of, reading_of}
use Rattle.messages.specs.Whole.{carried, mapped}

module _ (bytes : List ℕ) (place : ℕ) (m : Message) (c : carried m ≡ m) where
  still : (k : ℕ) (form : Form) → form_in m.number k ≡ form → carried (filled form bytes place m) ≡ filled form bytes place m
  unfolding form_in
  still k Unknown e = c
  still k Bytes e =
      rw (contained (get_or schema m.number []) k Bytes (ap form_code e) refl)
      (ap (λ (x : Message). made m.number (filled Bytes bytes place m).place (filled Bytes bytes place m).size x.bit x.provers x.verifiers) c)
  still k Provers e =
      rw (contained (get_or schema m.number []) k Provers (ap form_code e) refl)
      (ap (λ (x : Message). made m.number x.place x.size x.bit (filled Provers bytes place m).provers x.verifiers) c)
  still k Verifiers e =
      rw (contained (get_or schema m.number []) k Verifiers (ap form_code e) refl)
      (ap (λ (x : Message). made m.number x.place x.size x.bit x.provers (filled Verifiers bytes place m).verifiers) c)
  still k Bit e =
      rw (contained (get_or schema m.number []) k Bit (ap form_code e) refl)
      (ap (λ (x : Message). made m.number x.place x.size (filled Bit bytes place m).bit x.provers x.verifiers) c)

one_field : (bytes : List ℕ) (n : Number) (m : Message) → carried m ≡ m → carried (with_field bytes n m) ≡ with_field bytes n m
one_field bytes (value key next) m c = still bytes next m c (field_number key) (form_in m.number (field_number key)) refl
one_field bytes (fault refusal) m c = c

all_fields : (bytes places : List ℕ) (m : Message) → carried m ≡ m → carried (with_fields bytes places m) ≡ with_fields bytes places m
unfolding with_fields
all_fields bytes [] m c = c
all_fields bytes (place ∷ places) m c = all_fields bytes places (with_field bytes (number_at bytes place) m) (one_field bytes (number_at bytes place) m c)

same : {A : Type 0} (t : Bool) (a : A) → cond t a a ≡ a
same true a = refl
same false a = refl

carries_all : (number : ℕ) (bytes places : List ℕ) → carried (with_fields bytes places (empty number)) ≡ with_fields bytes places (empty number)
carries_all number bytes places =
    let row = get_or schema number [] in
    all_fields bytes places (empty number)
    (rw (same (contains Bytes row), same (contains Bit row), same (contains Provers row), same (contains Verifiers row)))

-- So what bytes are read as has no other parts.
carried_message : (bytes : List ℕ) → carried (message_of bytes) ≡ message_of bytes
unfolding with_fields
carried_message bytes = by_key (number_at bytes 0)
  where
    by_block : (number : ℕ) (b : Block) → carried (message_in number bytes b) ≡ message_in number bytes b
    by_block number (block start size) = carries_all number (take (start + size) bytes) (fields_from (take (start + size) bytes) start)
    by_block number (faulty refusal) = carries_all number bytes []

    by_key : (n : Number) → carried (message_by bytes n) ≡ message_by bytes n
    by_key (value key next) = by_block (field_number key) (block_at bytes next)
    by_key (fault refusal) = carries_all 0 bytes []

pub carried_reading : (bytes : List ℕ) → mapped carried (reading_of bytes) ≡ reading_of bytes
unfolding reading_of
carried_reading bytes = by_first (leftmost (faults_of bytes)) ∙ ap (judged (faults_of bytes)) (carried_message bytes)
  where
    by_first : (o : Option Fault) → mapped carried (by_first_fault o (message_of bytes)) ≡ by_first_fault o (carried (message_of bytes))
    by_first none = refl
    by_first (some g) = refl
