-- Document 01, "The forms we expect": the number and values of request #101 for each case of the enum that the code answers with,
-- and the bytes of a span.
use Rattle.std.specs.Prelude.{ℕ, ◌+◌, ◌≤◌, cond, List, [], ltb, length, take, drop, Result, Ok, Err}
use Rattle.fault.specs.Fault.{Reading, read_as, refused}
use Rattle.wire.specs.Lists.{entries}
use Rattle.fault.specs.Refusals.{refusal_number}
use Rattle.fault.specs.declared.Refusal.{Refusal}
use Rattle.fields.specs.Message.{made, empty}
use Rattle.fields.specs.Message as spec
use Rattle.wire.specs.declared.block.Span.{Span}
use Rattle.messages.specs.declared.Message.{Message}
use Rattle.messages.specs.declared.Message.TheVariants.{Hello, Close, DatExpired, Dat, ReRa, RaProver, RaVerifier, Data, Ack}

-- An answer, with the two lists that were lent: a hello's suites are the first entries of each.
abbrev pub reading_in : Result Message Refusal → (provers verifiers : List ℕ) → Reading spec.Message
reading_in (Ok (Hello held)) provers verifiers =
    read_as (made 1 held.token.place held.token.size 0 (entries held.provers provers) (entries held.verifiers verifiers))
reading_in (Ok Close) provers verifiers = read_as (empty 2)
reading_in (Ok DatExpired) provers verifiers = read_as (empty 3)
reading_in (Ok (Dat token)) provers verifiers = read_as (made 4 token.place token.size 0 [] [])
reading_in (Ok ReRa) provers verifiers = read_as (empty 5)
reading_in (Ok (RaProver payload)) provers verifiers = read_as (made 6 payload.place payload.size 0 [] [])
reading_in (Ok (RaVerifier payload)) provers verifiers = read_as (made 7 payload.place payload.size 0 [] [])
reading_in (Ok (Data payload bit)) provers verifiers = read_as (made 8 payload.place payload.size bit [] [])
reading_in (Ok (Ack bit)) provers verifiers = read_as (made 9 0 0 bit [] [])
reading_in (Err refusal) provers verifiers = refused (refusal_number refusal)

-- A hello's counts are at most 16.
abbrev pub CountsFit : Result Message Refusal → Type 0
CountsFit (Ok (Hello held)) = (held.provers ≤ 16) × (held.verifiers ≤ 16)
CountsFit (Ok Close) = Unit {0}
CountsFit (Ok DatExpired) = Unit {0}
CountsFit (Ok (Dat token)) = Unit {0}
CountsFit (Ok ReRa) = Unit {0}
CountsFit (Ok (RaProver payload)) = Unit {0}
CountsFit (Ok (RaVerifier payload)) = Unit {0}
CountsFit (Ok (Data payload bit)) = Unit {0}
CountsFit (Ok (Ack bit)) = Unit {0}
CountsFit (Err refusal) = Unit {0}

-- The bytes at a span; none where it does not lie within them.
unfoldable pub part_of : List ℕ → Span → List ℕ
part_of bytes span =
    cond (ltb (length bytes) (span.place + span.size)) [] (take span.size (drop span.place bytes))
