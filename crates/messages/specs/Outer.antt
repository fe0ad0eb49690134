-- Request #101, the outer message: exactly one field, which holds one of the nine messages.
use Rattle.std.specs.Prelude.{ℕ, List, [], ◌∷◌}
use Rattle.wire.specs.Varint.{Number, value, fault, number_at}
use Rattle.wire.specs.Layout.{block_at, field_number}
use Rattle.fault.specs.Fault.{Fault, Reading, at, judged, or_else}
use Rattle.fields.specs.Schema.{outer_form}
use Rattle.fields.specs.Faults.{no_numbers, of_key, of_inner}
use Rattle.fields.specs.Message.{Message, empty, message_in}

-- The faults of the outer message, by the key at its first byte.
abbrev pub of_outer : List ℕ → Number → List Fault
of_outer bytes (value key next) =
    or_else (of_key outer_form no_numbers 0 key) (of_inner (field_number key) bytes next (block_at bytes next))
of_outer bytes (fault refusal) = at 0 refusal ∷ []

-- The faults of lent bytes. No bytes have no outer field: refusal 22.
unfoldable pub faults_of : List ℕ → List Fault
faults_of [] = at 0 22 ∷ []
faults_of (byte ∷ bytes) = of_outer (byte ∷ bytes) (number_at (byte ∷ bytes) 0)

-- The message by the outer key.
abbrev pub message_by : List ℕ → Number → Message
message_by bytes (value key next) = message_in (field_number key) bytes (block_at bytes next)
message_by bytes (fault refusal) = empty 0

-- What lent bytes say if they show no fault.
abbrev pub message_of : List ℕ → Message
message_of bytes = message_by bytes (number_at bytes 0)

-- What lent bytes are read as.
unfoldable pub reading_of : List ℕ → Reading Message
reading_of bytes = judged (faults_of bytes) (message_of bytes)
