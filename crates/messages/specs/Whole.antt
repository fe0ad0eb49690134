-- What the private functions answer, and the numbers of contents (`flat_of`), which a `From` promises. No other public contract rests on
-- this file.
use Rattle.std.specs.Prelude.{◌≡◌, ℕ, ◌≤◌, cond, List, [], get_or, Result, Ok, Err}
use Rattle.fault.specs.Fault.{Reading, read_as, refused}
use Rattle.fault.specs.Refusals.{refusal_number}
use Rattle.fault.specs.declared.Refusal.{Refusal}
use Rattle.fields.specs.Schema.{Bytes, Provers, Verifiers, Bit, schema}
use Rattle.fields.specs.Message.{Message, made, reading_at}
use Rattle.fields.specs.Contents.{contents_in}
use Rattle.fields.specs.Fields.{contains}
use Rattle.fields.specs.declared.Contents.{Contents}
use Rattle.fields.specs.declared.Contents.TheVariants.{Hello, Plain}
use Rattle.messages.specs.Outer.{reading_of}
use Rattle.messages.specs.Numbers.{CountsFit, reading_in}
use Rattle.messages.specs.Flat.{flat}
use Rattle.messages.specs.declared.Message as answer
use Rattle.messages.specs.declared.flat.FlatMessage.{FlatMessage}
use Rattle.messages.specs.declared.outer.Outer.{Outer}

-- The outer field: which message it holds, and where the length of that stands, or why there is none.
abbrev pub Opened : Result Outer Refusal → List ℕ → Type 0
Opened (Ok outer) bytes = ((1 ≤ outer.message) × (outer.message ≤ 9)) × (reading_of bytes ≡ reading_at outer.message bytes outer.place)
Opened (Err refusal) bytes = reading_of bytes ≡ refused (refusal_number refusal)

-- A hello's counts are at most 16, and a message without lists has one of the eight numbers.
abbrev pub KnownContents : Result Contents Refusal → Type 0
KnownContents (Ok (Hello held)) = (held.provers ≤ 16) × (held.verifiers ≤ 16)
KnownContents (Ok (Plain number part bit)) = (2 ≤ number) × (number ≤ 9)
KnownContents (Err refusal) = Unit {0}

-- What is made of a thing that was read.
abbrev pub mapped : {A B : Type 0} → (A → B) → Reading A → Reading B
mapped f (read_as a) = read_as (f a)
mapped f (refused number) = refused number

-- The message with 0 and empty lists where the schema has no field.
abbrev pub carried : Message → Message
carried m =
    let row = get_or schema m.number [] in
    made m.number
    (cond (contains Bytes row) m.place 0)
    (cond (contains Bytes row) m.size 0)
    (cond (contains Bit row) m.bit 0)
    (cond (contains Provers row) m.provers [])
    (cond (contains Verifiers row) m.verifiers [])

-- The enum says what the contents say of the parts that the message carries.
abbrev pub MessageAs : Contents → answer.Message → Type 0
MessageAs c r =
    KnownContents (Ok c) → ((provers verifiers : List ℕ) → reading_in (Ok r) provers verifiers ≡ mapped carried (contents_in (Ok c) provers verifiers)) × CountsFit (Ok r)

-- The numbers of contents.
abbrev pub flat_of : Result Contents Refusal → FlatMessage
flat_of (Ok (Hello held)) = flat 0 1 0 held.provers held.verifiers held.token.place held.token.size
flat_of (Ok (Plain number part bit)) = flat 0 number bit 0 0 part.place part.size
flat_of (Err refusal) = flat (refusal_number refusal) 0 0 0 0 0 0
