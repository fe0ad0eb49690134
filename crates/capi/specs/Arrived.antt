-- Request #101, "Joined to the step": a message that arrived, as a host in C hands it over.
use Rattle.std.specs.Prelude.{ℕ, ◌+◌, ◌≤◌, ◌≡◌, Option, None, Some, cond, List, [], eqb, ltb, length, take, drop}
use Rattle.record.specs.Numbers.{record_in}
use Rattle.arrival.specs.Arrival.{code_of}
use Rattle.inbound.specs.Received.{given, received}
use Rattle.token.specs.declared.Token.{Token}
use Rattle.protocol.specs.Step.{result_with, unchanged}
use Rattle.protocol.specs.declared.Answer.TheVariants.{Refused}
use Rattle.messages.specs.Flat.{reading_by}
use Rattle.messages.specs.Outer.{reading_of}
use Rattle.messages.specs.declared.flat.FlatMessage.{FlatMessage}
use Rattle.capi.specs.Returned.{returned, returned_of}
use Rattle.interface.specs.Event.{flat_event_with}
use Rattle.interface.specs.Verdict.{refused_verdict}
use Rattle.interface.specs.declared.FlatToken.{FlatToken}

-- The same token with its verdict as yes or no.
abbrev pub token_of : FlatToken → Token
token_of token = record { verdict = eqb token.verdict 1; margin = token.margin; expiry = token.expiry; now = token.now }

-- What the interface refuses of a token: a verdict that is neither 0 nor 1.
abbrev pub token_refusal : FlatToken → Option ℕ
token_refusal token = cond (ltb 1 token.verdict) (Some refused_verdict) None

-- What `menhotrac_read` promises of its answer and the two lists, as far as the step uses it.
pub record ReadFrom (bytes : List ℕ) (r : FlatMessage) (provers verifiers : List ℕ) : Type 0 where
  pub says : reading_by r provers verifiers ≡ reading_of bytes
  pub lies : r.place + r.size ≤ length bytes
  pub counts : (r.provers ≤ 16) × (r.verifiers ≤ 16)
  pub sixteen : (length provers ≡ 16) × (length verifiers ≡ 16)

-- What the exports give one after the other for bytes, which are read, made an event and stepped with, is what `inbound` gives at
-- once: the step's result, or the refusal of the bytes.
abbrev pub JoinedToStep : Type 0
JoinedToStep =
    (connection bytes cache : List ℕ) (token : FlatToken) (our_verifiers our_provers : List ℕ) (r : FlatMessage) (provers verifiers : List ℕ) →
    ReadFrom bytes r provers verifiers →
    let result = received (record_in connection) bytes (given (token_of token) (token_refusal token) our_verifiers our_provers) cache in
    (r.refusal ≡ 0 →
    returned connection (flat_event_with (code_of r.number) r.bit token) (take r.size (drop r.place bytes)) cache
    our_verifiers (take r.provers provers) (take r.verifiers verifiers) our_provers
    ≡ returned_of result)
    × ((r.refusal ≡ 0 → ⊥) → result ≡ result_with (unchanged (Refused r.refusal) (record_in connection)) [] cache)
