-- Request #101, "Joined to the step": what the host gets for a message that arrived.
use Rattle.std.specs.Prelude.{ℕ, Option, cond, List, [], ltb, length, take}
use Rattle.std.specs.Int.NonZero.{non_zero_u32_get}
use Rattle.std.specs.Option.{option_map}
use Rattle.connection.specs.Also.{result_also}
use Rattle.event.specs.Call.{Call, call_of}
use Rattle.protocol.specs.Step.{Result, result_with, unchanged}
use Rattle.protocol.specs.declared.Answer.TheVariants.{Refused}
use Rattle.record.specs.declared.Connection.{Connection}
use Rattle.fault.specs.Fault.{Reading, read_as, refused}
use Rattle.fields.specs.Message.{Message}
use Rattle.messages.specs.Outer.{reading_of}
use Rattle.messages.specs.Numbers.{part_of}
use Rattle.arrival.specs.Arrival.{also_of, event_of}
use Rattle.token.specs.declared.Token.{Token}
use Rattle.inbound.specs.declared.Given as code

-- What the host gives with the bytes: what it says of the token, what its interface refuses of the token, if anything (`result_also`),
-- and its own lists.
pub record Given : Type 0 where
  pub token : Token
  pub token_refusal : Option ℕ
  pub our_verifiers : List ℕ
  pub our_provers : List ℕ

-- The same by its parts in their order.
abbrev pub given : Token → Option ℕ → (our_verifiers our_provers : List ℕ) → Given
given token token_refusal our_verifiers our_provers =
    record { token = token; token_refusal = token_refusal; our_verifiers = our_verifiers; our_provers = our_provers }

-- The same as the code is given it.
abbrev pub given_in : code.Given → Given
given_in g = given g.token (option_map non_zero_u32_get g.token_refusal) g.our_verifiers.now g.our_provers.now

-- The call that a message is: the event, the token or payload as a part of the bytes, our lists and the peer's.
abbrev pub call_from : Message → (bytes : List ℕ) → Given → Call
call_from m bytes g =
    call_of (event_of m.number m.bit g.token) (part_of bytes (record { place = m.place; size = m.size }))
    g.our_verifiers m.provers m.verifiers g.our_provers

-- The step's result; where the bytes are refused, that refusal, and nothing changes.
abbrev pub received_as : Connection → Reading Message → (bytes : List ℕ) → Given → (cache : List ℕ) → Result
received_as connection (read_as m) bytes g cache =
    result_also (also_of m.number g.token_refusal) connection (call_from m bytes g) cache
received_as connection (refused number) bytes g cache = result_with (unchanged (Refused number) connection) [] cache

-- What the host gets for bytes that arrived.
unfoldable pub received : Connection → (bytes : List ℕ) → Given → (cache : List ℕ) → Result
received connection bytes g cache = received_as connection (reading_of bytes) bytes g cache

-- Where the token or payload lies; 0 where there is none.
abbrev pub place_in : Reading Message → ℕ
place_in (read_as m) = m.place
place_in (refused number) = 0

-- The first entries of a list; none where it has not so many.
abbrev pub first_entries : (count : ℕ) → List ℕ → List ℕ
first_entries count list = cond (ltb (length list) count) [] (take count list)
