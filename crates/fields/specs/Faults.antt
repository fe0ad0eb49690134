-- Request #101, the refusals: the faults of a message, each at the first byte of the key, length or value that shows it.
-- What follows a key is judged only if the key shows no fault. Right of the first fault others may be listed or not: only the
-- first is given.
use Rattle.std.specs.Prelude.{ℕ, ◌+◌, Bool, false, ◌||◌, List, [], ◌∷◌, ◌++◌, eqb, ltb, length, take}
use Rattle.wire.specs.Varint.{Number, value, fault, number_at, bit_at}
use Rattle.wire.specs.Layout.{Block, block, faulty, block_at, field_number, wire_type, fields_from}
use Rattle.wire.specs.Lists.{of_number, of_list}
use Rattle.fault.specs.Fault.{Fault, at, fault_if, or_else}
use Rattle.fields.specs.Schema.{Form, Unknown, Bytes, Provers, Verifiers, Bit, form_in, is_unknown, wrong_type}

-- A set of field numbers, by the test that its members pass.
abbrev pub FieldNumbers : Type 0
FieldNumbers = ℕ → Bool

-- The empty set.
abbrev pub no_numbers : FieldNumbers
no_numbers number = false

-- A set with one more number.
abbrev pub adding : ℕ → FieldNumbers → FieldNumbers
adding new numbers number = eqb number new || numbers number

-- The faults of bytes: those of their length.
abbrev pub of_bytes : (place : ℕ) → Block → List Fault
of_bytes place (block start size) = []
of_bytes place (faulty refusal) = at place refusal ∷ []

-- The faults of what a field of a form holds at a place.
abbrev pub of_content : Form → List ℕ → ℕ → List Fault
of_content Unknown message place = []
of_content Bytes message place = of_bytes place (block_at message place)
of_content Provers message place = of_list message place (block_at message place)
of_content Verifiers message place = of_list message place (block_at message place)
of_content Bit message place = of_number place (bit_at message place)

-- The faults of a key's field, with the numbers of the fields before it: 22 unknown or repeated, 23 wrong wire type.
abbrev pub of_key : (form : ℕ → Form) (former : FieldNumbers) (place key : ℕ) → List Fault
of_key form former place key =
    fault_if (is_unknown (form (field_number key)) || former (field_number key)) (at place 22)
    ++ fault_if (wrong_type (form (field_number key)) (wire_type key)) (at place 23)

-- The faults of the field at a place, by its key.
abbrev pub of_field : (form : ℕ → Form) (former : FieldNumbers) (message : List ℕ) (place : ℕ) → Number → List Fault
of_field form former message place (value key next) =
    or_else (of_key form former place key) (of_content (form (field_number key)) message next)
of_field form former message place (fault refusal) = at place refusal ∷ []

-- The number of a field, by its key; 0, which no field has, if the key is faulty.
abbrev pub field_of : Number → ℕ
field_of (value key next) = field_number key
field_of (fault refusal) = 0

-- The faults of fields, with the numbers of those before them.
unfoldable pub of_fields : (form : ℕ → Form) (former : FieldNumbers) (message : List ℕ) → List ℕ → List Fault
of_fields form former message [] = []
of_fields form former message (place ∷ places) =
    of_field form former message place (number_at message place)
    ++ of_fields form (adding (field_of (number_at message place)) former) message places

-- The faults of one of the nine messages in the lent bytes, by its number, and of what follows it: any byte is refusal 22.
-- The message's length stands at `place`.
abbrev pub of_inner : (number : ℕ) (bytes : List ℕ) (place : ℕ) → Block → List Fault
of_inner number bytes place (block start size) =
    of_fields (form_in number) no_numbers (take (start + size) bytes) (fields_from (take (start + size) bytes) start)
    ++ fault_if (ltb (start + size) (length bytes)) (at (start + size) 22)
of_inner number bytes place (faulty refusal) = at place refusal ∷ []
