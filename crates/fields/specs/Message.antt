-- Request #101: what a message without a fault says. An absent field reads as empty or 0.
use Rattle.std.specs.Prelude.{ℕ, ◌+◌, List, [], ◌∷◌, take}
use Rattle.wire.specs.Varint.{Number, value, fault, number_at, bit_at}
use Rattle.wire.specs.Layout.{Block, block, faulty, block_at, field_number, fields_from}
use Rattle.wire.specs.Lists.{number_in, suites_in}
use Rattle.fault.specs.Fault.{Reading, judged}
use Rattle.fields.specs.Schema.{Form, Unknown, Bytes, Provers, Verifiers, Bit, form_in}
use Rattle.fields.specs.Faults.{of_inner}

-- A message: its number; where its token or payload lies in the lent bytes, and how long it is; its bit; its suites.
pub record Message : Type 0 where
  pub number : ℕ
  pub place : ℕ
  pub size : ℕ
  pub bit : ℕ
  pub provers : List ℕ
  pub verifiers : List ℕ

-- A message, by its parts in their order.
abbrev pub made : (number place size bit : ℕ) (provers verifiers : List ℕ) → Message
made number place size bit provers verifiers = record {
  number = number;
  place = place;
  size = size;
  bit = bit;
  provers = provers;
  verifiers = verifiers;
}

-- A message of which no field has been read.
abbrev pub empty : ℕ → Message
empty number = made number 0 0 0 [] []

-- Where a part begins. Of a faulty part nothing is read, here and in the next.
abbrev pub start_in : Block → ℕ
start_in (block start size) = start
start_in (faulty refusal) = 0

-- How many bytes it has.
abbrev pub size_in : Block → ℕ
size_in (block start size) = size
size_in (faulty refusal) = 0

-- A message with what a field of a form holds at a place.
abbrev pub filled : Form → (message : List ℕ) (place : ℕ) → Message → Message
filled Unknown message place m = m
filled Bytes message place m =
    made m.number (start_in (block_at message place)) (size_in (block_at message place)) m.bit m.provers m.verifiers
filled Provers message place m =
    made m.number m.place m.size m.bit (suites_in message (block_at message place)) m.verifiers
filled Verifiers message place m =
    made m.number m.place m.size m.bit m.provers (suites_in message (block_at message place))
filled Bit message place m =
    made m.number m.place m.size (number_in (bit_at message place)) m.provers m.verifiers

-- A message with what the field of a key holds.
abbrev pub with_field : (message : List ℕ) → Number → Message → Message
with_field message (value key next) m = filled (form_in m.number (field_number key)) message next m
with_field message (fault refusal) m = m

-- A message with what its fields hold.
unfoldable pub with_fields : (message : List ℕ) → List ℕ → Message → Message
with_fields message [] m = m
with_fields message (place ∷ places) m = with_fields message places (with_field message (number_at message place) m)

-- The one message in an outer field.
abbrev pub message_in : (number : ℕ) (bytes : List ℕ) → Block → Message
message_in number bytes (block start size) =
    let message = take (start + size) bytes in
    with_fields message (fields_from message start) (empty number)
message_in number bytes (faulty refusal) = empty number

-- What the message is read as whose length stands at `place`. What follows it in the bytes is judged with it.
unfoldable pub reading_at : (number : ℕ) (bytes : List ℕ) (place : ℕ) → Reading Message
reading_at number bytes place = judged (of_inner number bytes place (block_at bytes place)) (message_in number bytes (block_at bytes place))
