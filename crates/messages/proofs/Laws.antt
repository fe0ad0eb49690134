-- Laws of the definition of reading.
use mathlib.Core.Path.{◌≡◌, subst}
use mathlib.Core.List.{List, [], ◌∷◌}
use Prim.Native.Nat.{ℕ, ◌+◌, ◌≤◌}
use native.Mathlib.Omega.{arith}
use lib.ListN.{length, take}
use lib.Seq.{length-take-le}
use Rattle.fault.specs.Fault.{leftmost}
use Rattle.wire.specs.Layout.{Block, block, faulty, block_at, fields_from, field_number}
use Rattle.wire.specs.Varint.{Number, value, fault, number_at}
use Rattle.fault.proofs.First.{leftmost_first, none_first, read_none, refused_some}
use Rattle.wire.proofs.Places.{BlockStands, block_stands}
use Rattle.fields.specs.Schema.{Form, Unknown, Bytes, Provers, Verifiers, Bit, form_in}
use Rattle.fields.specs.Message.{Message, empty, start_in, size_in, filled, with_field, with_fields, message_in}
use Rattle.messages.specs.Laws.{RefusedByFirst, MessageFaultless, PartLies}
use Rattle.messages.specs.Outer.{faults_of, message_by, message_of, reading_of}

pub message_faultless : MessageFaultless
unfolding reading_of
message_faultless bytes m e = none_first (faults_of bytes) (read_none (message_of bytes) (leftmost (faults_of bytes)) m e).0

pub refused_by_first : RefusedByFirst
unfolding reading_of
refused_by_first bytes number e =
    let r = refused_some (message_of bytes) (leftmost (faults_of bytes)) number e in
    (r.0, (r.1.1, leftmost_first (faults_of bytes) r.0 r.1.0))

-- The bytes of a message lie in it, whatever its faults.
abbrev Lies : (bytes : List ℕ) → Message → Type 0
Lies bytes m = m.place + m.size ≤ length bytes

field_lies : (bytes : List ℕ) (form : Form) (place : ℕ) (m : Message) → Lies bytes m → Lies bytes (filled form bytes place m)
field_lies bytes Unknown place m l = l
field_lies bytes Bytes place m l = by_block (block_at bytes place) (block_stands bytes place)
  where
    by_block : (b : Block) → BlockStands bytes place b → start_in b + size_in b ≤ length bytes
    by_block (block start size) s = s.1
    by_block (faulty refusal) s = omega arith
field_lies bytes Provers place m l = l
field_lies bytes Verifiers place m l = l
field_lies bytes Bit place m l = l

key_lies : (bytes : List ℕ) (n : Number) (m : Message) → Lies bytes m → Lies bytes (with_field bytes n m)
key_lies bytes (value key next) m l = field_lies bytes (form_in m.number (field_number key)) next m l
key_lies bytes (fault refusal) m l = l

fields_lie : (bytes places : List ℕ) (m : Message) → Lies bytes m → Lies bytes (with_fields bytes places m)
unfolding with_fields
fields_lie bytes [] m l = l
fields_lie bytes (place ∷ places) m l = fields_lie bytes places (with_field bytes (number_at bytes place) m) (key_lies bytes (number_at bytes place) m l)

message_lies : (bytes : List ℕ) → Lies bytes (message_of bytes)
message_lies bytes = by_key (number_at bytes 0)
  where
    by_block : (number place : ℕ) (b : Block) → BlockStands bytes place b → Lies bytes (message_in number bytes b)
    by_block number place (block start size) s =
        let message = take (start + size) bytes in
        let n : length message ≡ start + size = length-take-le (start + size) bytes s.1 in
        let l = fields_lie message (fields_from message start) (empty number) (omega arith) in
        omega (arith, n, l, s.1)
    by_block number place (faulty refusal) s = omega arith

    by_key : (n : Number) → Lies bytes (message_by bytes n)
    by_key (value key next) = by_block (field_number key) next (block_at bytes next) (block_stands bytes next)
    by_key (fault refusal) = omega arith

pub part_lies : PartLies
unfolding reading_of
part_lies bytes m e = subst (Lies bytes) (read_none (message_of bytes) (leftmost (faults_of bytes)) m e).1 (message_lies bytes)
