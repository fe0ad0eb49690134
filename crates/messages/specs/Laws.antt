-- Laws of the definition: a refusal is given by the first fault, a message shows none, and its part lies in the bytes.
use Rattle.std.specs.Prelude.{◌≡◌, List, [], ℕ, ◌+◌, ◌≤◌, length}
use Rattle.fault.specs.Fault.{Fault, FirstIn, read_as, refused}
use Rattle.fields.specs.Message.{Message}
use Rattle.messages.specs.Outer.{faults_of, reading_of}

-- A refusal's number is that of the leftmost fault.
abbrev pub RefusedByFirst : Type 0
RefusedByFirst =
    (bytes : List ℕ) (number : ℕ) → reading_of bytes ≡ refused number → (f : Fault) × ((f.number ≡ number) × FirstIn (faults_of bytes) f)

-- A message has no fault.
abbrev pub MessageFaultless : Type 0
MessageFaultless = (bytes : List ℕ) (m : Message) → reading_of bytes ≡ read_as m → faults_of bytes ≡ []

-- A message's token or payload lies in the bytes.
abbrev pub PartLies : Type 0
PartLies = (bytes : List ℕ) (m : Message) → reading_of bytes ≡ read_as m → m.place + m.size ≤ length bytes
