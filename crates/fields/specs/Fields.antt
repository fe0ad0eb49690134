-- What has been read of a message between two of its fields, and how far. No public contract rests on this file.
use Rattle.std.specs.Prelude.{ℕ, Bool, false, ◌||◌, List, [], ◌∷◌, eqb}
use Rattle.fault.specs.Fault.{Reading, read_as, refused}
use Rattle.wire.specs.Lists.{entries}
use Rattle.wire.specs.Parts.{Holds}
use Rattle.fault.specs.Refusals.{refusal_number}
use Rattle.fault.specs.declared.Refusal.{Refusal}
use Rattle.fields.specs.Schema.{Form, Unknown, Bytes, Provers, Verifiers, Bit, form_in, is_unknown}
use Rattle.fields.specs.Faults.{FieldNumbers}
use Rattle.fields.specs.Message.{Message, made}

-- Which fields have been read, by their form: a message has one of each at most.
pub record Marks : Type 0 where
  pub bytes : Bool
  pub provers : Bool
  pub verifiers : Bool
  pub bit : Bool

-- Marks in their order.
abbrev pub marks : (bytes provers verifiers bit : Bool) → Marks
marks bytes provers verifiers bit = record { bytes = bytes; provers = provers; verifiers = verifiers; bit = bit }

-- Whether the field of a form has been read.
abbrev pub is_read : Form → Marks → Bool
is_read Unknown read = false
is_read Bytes read = read.bytes
is_read Provers read = read.provers
is_read Verifiers read = read.verifiers
is_read Bit read = read.bit

-- Forms as numbers, to compare them by.
abbrev pub form_code : Form → ℕ
form_code Unknown = 0
form_code Bytes = 1
form_code Provers = 2
form_code Verifiers = 3
form_code Bit = 4

-- Whether two forms are the same.
abbrev pub is_form : Form → Form → Bool
is_form form other = eqb (form_code form) (form_code other)

-- The marks with that of a form.
abbrev pub marked : Form → Marks → Marks
marked form read =
    marks (is_form Bytes form || read.bytes) (is_form Provers form || read.provers)
    (is_form Verifiers form || read.verifiers) (is_form Bit form || read.bit)

-- The numbers of the fields that have been read.
abbrev pub seen_in : (message : ℕ) → Marks → FieldNumbers
seen_in message read number = is_read (form_in message number) read

-- Whether a field is unknown or has been read.
abbrev pub is_unexpected : (message field : ℕ) → Marks → Bool
is_unexpected message field read = is_unknown (form_in message field) || is_read (form_in message field) read

-- Whether a row of the schema has a field of a form.
abbrev pub contains : Form → List Form → Bool
contains form [] = false
contains form (f ∷ row) = is_form form f || contains form row

-- What has been read: which fields, where the bytes lie, the bit, and how many suites.
pub record Fields : Type 0 where
  pub read : Marks
  pub place : ℕ
  pub size : ℕ
  pub bit : ℕ
  pub provers : ℕ
  pub verifiers : ℕ

-- The same by its parts in their order.
abbrev pub fields : Marks → (place size bit provers verifiers : ℕ) → Fields
fields read place size bit provers verifiers = record {
  read = read;
  place = place;
  size = size;
  bit = bit;
  provers = provers;
  verifiers = verifiers;
}

-- No field has been read.
abbrev pub nothing : Fields
nothing = fields (marks false false false false) 0 0 0 0 0

-- The same with the mark of a form.
abbrev pub with_mark : Form → Fields → Fields
with_mark form f = fields (marked form f.read) f.place f.size f.bit f.provers f.verifiers

-- The same with what a field held: bytes.
abbrev pub with_bytes : (place size : ℕ) → Fields → Fields
with_bytes place size f = fields (marked Bytes f.read) place size f.bit f.provers f.verifiers

-- A bit.
abbrev pub with_bit : (bit : ℕ) → Fields → Fields
with_bit bit f = fields (marked Bit f.read) f.place f.size bit f.provers f.verifiers

-- So many prover suites.
abbrev pub with_provers : (count : ℕ) → Fields → Fields
with_provers count f = fields (marked Provers f.read) f.place f.size f.bit count f.verifiers

-- So many verifier suites.
abbrev pub with_verifiers : (count : ℕ) → Fields → Fields
with_verifiers count f = fields (marked Verifiers f.read) f.place f.size f.bit f.provers count

-- The message that fields and two lists are so far.
abbrev pub view_of : ℕ → Fields → (provers verifiers : List ℕ) → Message
view_of number f provers verifiers =
    made number f.place f.size f.bit (entries f.provers provers) (entries f.verifiers verifiers)

-- The lists hold the suites that were counted, and then zeros.
abbrev pub Tidy : Fields → (provers verifiers : List ℕ) → Type 0
Tidy f provers verifiers = Holds f.provers provers × Holds f.verifiers verifiers

-- How far a message has been read: the numbers of its fields, what they hold, and the place after them.
pub record Stage : Type 0 where
  pub former : FieldNumbers
  pub message : Message
  pub next : ℕ

-- The same by its parts in their order.
abbrev pub stage : FieldNumbers → Message → ℕ → Stage
stage former message next = record { former = former; message = message; next = next }

-- What follows one field: all that has been read and the place after it, or a refusal.
pub data Step : Type 0 where
  proceed : Fields → (place : ℕ) → Step
  stop : Refusal → Step

-- How far the message has been read after the step.
abbrev pub step_in : ℕ → Step → (provers verifiers : List ℕ) → Reading Stage
step_in number (proceed f place) provers verifiers = read_as (stage (seen_in number f.read) (view_of number f provers verifiers) place)
step_in number (stop refusal) provers verifiers = refused (refusal_number refusal)

-- Both lists are as they should be after the step.
abbrev pub TidyStep : Step → (provers verifiers : List ℕ) → Type 0
TidyStep (proceed f place) provers verifiers = Tidy f provers verifiers
TidyStep (stop refusal) provers verifiers = Unit {0}
