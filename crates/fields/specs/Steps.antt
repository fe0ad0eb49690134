-- What the private functions answer. No public contract rests on this file.
use Rattle.std.specs.Prelude.{◌≡◌, ℕ, ◌+◌, Bool, false, List, [], length, Result, Ok, Err, is_some}
use Rattle.wire.specs.Varint.{value, number_at}
use Rattle.wire.specs.Layout.{block, block_at, after_block, after_number, after_key, fields_from}
use Rattle.fault.specs.Fault.{Reading, read_as, refused, judged}
use Rattle.wire.specs.Lists.{entries}
use Rattle.wire.specs.Parts.{Holds}
use Rattle.fault.specs.Refusals.{refusal_number}
use Rattle.fields.specs.Schema.{Form, Unknown, Bytes, Provers, Verifiers, Bit, form_in}
use Rattle.fields.specs.Faults.{no_numbers, adding, field_of, of_content, of_field, of_fields, of_inner}
use Rattle.fields.specs.Message.{Message, made, empty, filled, with_field, with_fields, message_in}
use Rattle.fields.specs.Contents.{Fits, contents_in, provers_after, verifiers_after}
use Rattle.fields.specs.Fields.{Fields, Marks, Step, Tidy, TidyStep, marks, proceed, seen_in, stage, step_in, stop, view_of, with_bytes, with_bit, with_provers, with_verifiers}
use Rattle.fields.specs.declared.Contents.{Contents}
use Rattle.fields.specs.declared.plain.Field as plain
use Rattle.fields.specs.declared.plain.Field.TheVariants as plain_field
use Rattle.fields.specs.declared.plain.Plain.{Plain}
use Rattle.fields.specs.declared.hello.Field as hello
use Rattle.fields.specs.declared.hello.Field.TheVariants as hello_field
use Rattle.fields.specs.declared.hello.Found.{Found}
use Rattle.fields.specs.declared.Held.{Held}
use Rattle.fault.specs.declared.Refusal.{Refusal}

-- The place after what a field of a form holds.
abbrev pub after_content : Form → List ℕ → ℕ → ℕ
after_content Unknown bytes place = length bytes
after_content Bytes bytes place = after_block bytes (block_at bytes place)
after_content Provers bytes place = after_block bytes (block_at bytes place)
after_content Verifiers bytes place = after_block bytes (block_at bytes place)
after_content Bit bytes place = after_number bytes (number_at bytes place)

-- A step over what a field of a form holds, from fields that have its mark.
pub record ContentStep (form : Form) (bytes : List ℕ) (place : ℕ) (f : Fields) (provers verifiers : List ℕ) (r : Step) (provers' verifiers' : List ℕ) : Type 0 where
  pub reads : (number : ℕ) → step_in number r provers' verifiers' ≡ judged (of_content form bytes place) (stage (seen_in number f.read) (filled form bytes place (view_of number f provers verifiers)) (after_content form bytes place))
  pub tidies : Tidy f provers verifiers → TidyStep r provers' verifiers'

-- A step over one field.
pub record FieldStep (number : ℕ) (bytes : List ℕ) (place : ℕ) (f : Fields) (provers verifiers : List ℕ) (r : Step) (provers' verifiers' : List ℕ) : Type 0 where
  pub reads :
      step_in number r provers' verifiers'
      ≡ judged (of_field (form_in number) (seen_in number f.read) bytes place (number_at bytes place))
      (stage (adding (field_of (number_at bytes place)) (seen_in number f.read)) (with_field bytes (number_at bytes place) (view_of number f provers verifiers)) (after_key bytes (number_at bytes place)))
  pub tidies : Tidy f provers verifiers → TidyStep r provers' verifiers'

-- What a field of a message without lists adds to the fields before it.
abbrev pub plain_step : Result plain.Field Refusal → Fields → Step
plain_step (Ok (plain_field.Bytes part)) f = proceed (with_bytes part.place part.size f) (part.place + part.size)
plain_step (Ok (plain_field.Bit bit)) f = proceed (with_bit bit.value f) bit.next
plain_step (Err refusal) f = stop refusal

-- What a field of a hello adds.
abbrev pub hello_step : Result hello.Field Refusal → Fields → Step
hello_step (Ok (hello_field.Token part)) f = proceed (with_bytes part.place part.size f) (part.place + part.size)
hello_step (Ok (hello_field.Provers list)) f = proceed (with_provers list.count f) list.next
hello_step (Ok (hello_field.Verifiers list)) f = proceed (with_verifiers list.count f) list.next
hello_step (Err refusal) f = stop refusal

-- The marks of a message without lists.
abbrev pub plain_marks : (bytes bit : Bool) → Marks
plain_marks bytes bit = marks bytes false false bit

-- One field of a message without lists, with the marks before it.
abbrev pub PlainStep : (message : ℕ) (bytes : List ℕ) (place : ℕ) → Marks → Result plain.Field Refusal → Type 0
PlainStep message bytes place read r =
    (f : Fields) → f.read ≡ read → (provers verifiers : List ℕ) →
    FieldStep message bytes place f provers verifiers (plain_step r f) provers verifiers

-- The same, by a key that was read and the place behind it.
abbrev pub PlainKey : (message key : ℕ) (bytes : List ℕ) (behind_key : ℕ) → Marks → Result plain.Field Refusal → Type 0
PlainKey message key bytes behind_key read r =
    (place : ℕ) → number_at bytes place ≡ value key behind_key → PlainStep message bytes place read r

-- The marks of a hello.
abbrev pub hello_marks : Found → Marks
hello_marks found = marks (is_some found.token) (is_some found.provers) (is_some found.verifiers) false

-- One field of a hello.
abbrev pub HelloStep : (bytes : List ℕ) (place : ℕ) → Found → (provers verifiers : List ℕ) → Result hello.Field Refusal → (provers' verifiers' : List ℕ) → Type 0
HelloStep bytes place found provers verifiers r provers' verifiers' =
    (f : Fields) → f.read ≡ hello_marks found → FieldStep 1 bytes place f provers verifiers (hello_step r f) provers' verifiers'

-- The fields of a message from `start` to its end.
unfoldable pub fields_of : (number : ℕ) (bytes : List ℕ) (start : ℕ) → Reading Message
fields_of number bytes start =
    judged (of_fields (form_in number) no_numbers bytes (fields_from bytes start)) (with_fields bytes (fields_from bytes start) (empty number))

-- The message that the fields are.
abbrev pub plain_in : ℕ → Result Plain Refusal → Reading Message
plain_in number (Ok plain) = read_as (made number plain.part.place plain.part.size plain.bit [] [])
plain_in number (Err refusal) = refused (refusal_number refusal)

-- The hello that the fields and the two lists are.
abbrev pub hello_in : Result Held Refusal → (provers verifiers : List ℕ) → Reading Message
hello_in (Ok held) provers verifiers =
    read_as (made 1 held.token.place held.token.size 0 (entries held.provers provers) (entries held.verifiers verifiers))
hello_in (Err refusal) provers verifiers = refused (refusal_number refusal)

-- The lists hold the suites that were counted.
abbrev pub HelloCounts : Result Held Refusal → (provers verifiers : List ℕ) → Type 0
HelloCounts (Ok held) provers verifiers = Holds held.provers provers × Holds held.verifiers verifiers
HelloCounts (Err refusal) provers verifiers = Unit {0}

-- The fields of a message that stands in lent bytes, with what follows it.
unfoldable pub inner_of : (number : ℕ) (bytes : List ℕ) (start size : ℕ) → Reading Message
inner_of number bytes start size =
    judged (of_inner number bytes 0 (block start size)) (message_in number bytes (block start size))

-- What the contract of `read_at` promises of contents and lists, before and after.
pub record Reads (number : ℕ) (r : Result Contents Refusal) (reading : Reading Message) (provers verifiers provers' verifiers' : List ℕ) : Type 0 where
  pub reads : contents_in r provers' verifiers' ≡ reading
  pub provers_left : provers' ≡ provers_after reading provers
  pub verifiers_left : verifiers' ≡ verifiers_after reading verifiers
  pub fits : Fits number r

-- The same of a message without lists, which leaves both as they are.
abbrev pub ReadsPlain : (number : ℕ) → Result Contents Refusal → Reading Message → Type 0
ReadsPlain number r reading = (provers verifiers : List ℕ) → Reads number r reading provers verifiers provers verifiers
