-- Document 01, "What the machine covers": the arguments of a call, and what the step reads of them.
use Rattle.std.specs.Prelude.{ℕ, Bool, false, ◌&&◌, cond, List, [], ◌∷◌, eqb, ltb, length}
use Rattle.suites.specs.Answer.{Answer}
use Rattle.suites.specs.Choice.{any_too_long, choice}
use Rattle.suites.specs.declared.Lists.{Lists}
use Rattle.record.specs.Limits.{Limits}
use Rattle.table.specs.Sets.{is_in}
use Rattle.event.specs.Kind.{kind_of, fields_of}
use Rattle.event.specs.declared.Event.{Event}
use Rattle.event.specs.declared.Suites.{Suites}
use Rattle.event.specs.declared.Input.{Input}

-- One call: the event, its payload and the four suite lists. The record and the cache are not in it.
pub record Call : Type 0 where
  pub event : Event
  pub payload : List ℕ
  pub our_verifiers : List ℕ
  pub peer_provers : List ℕ
  pub peer_verifiers : List ℕ
  pub our_provers : List ℕ

-- A call, by the arguments of `step`.
abbrev pub call_of : Event → (payload our_verifiers peer_provers peer_verifiers our_provers : List ℕ) → Call
call_of event payload our_verifiers peer_provers peer_verifiers our_provers = record {
  event = event;
  payload = payload;
  our_verifiers = our_verifiers;
  peer_provers = peer_provers;
  peer_verifiers = peer_verifiers;
  our_provers = our_provers;
}

-- The same, with the lists as the code is lent them.
abbrev pub call_with : Event → (payload : List ℕ) → Lists → Call
call_with event payload lists =
    call_of event payload lists.our_verifiers.now lists.peer_provers.now lists.peer_verifiers.now lists.our_provers.now

-- The events that carry a payload.
abbrev pub carries_payload : ℕ → Bool
carries_payload = is_in (2 ∷ 6 ∷ 9 ∷ 15 ∷ 16 ∷ 18 ∷ [])

-- No lists: nothing too long, nothing found.
abbrev pub no_suites : Suites
no_suites = record { too_long = false; found = false; verifier = 0; prover = 0 }

-- Both suites by the choice of the suites layer, and whether a list is too long.
abbrev pub chosen_suites : Bool → Answer → Suites
chosen_suites too_long answer = record {
  too_long = too_long;
  found = answer.verifier.found && answer.prover.found;
  verifier = answer.verifier.suite;
  prover = answer.prover.suite;
}

-- Event 11 alone carries the four lists.
abbrev pub suites_of : ℕ → List ℕ → List ℕ → List ℕ → List ℕ → Suites
suites_of code our_verifiers peer_provers peer_verifiers our_provers =
    cond (eqb code 11)
    (chosen_suites (any_too_long our_verifiers peer_provers peer_verifiers our_provers) (choice our_verifiers peer_provers peer_verifiers our_provers))
    no_suites

-- The length of a payload. One that is too long counts as 0: its event is refused, or carries no payload and this is not used.
abbrev pub short_length : Limits → ℕ → ℕ
short_length limits size = cond (ltb limits.payload size) 0 size

-- What the step reads, besides the code: the fields by the event's kind, the lengths of payload and cache, the suites.
unfoldable pub input_by : Limits → Event → (payload_length cache_length : ℕ) → Suites → Input
input_by limits event payload_length cache_length suites = record {
  tag = (fields_of (kind_of event)).tag;
  timer = (fields_of (kind_of event)).timer;
  bit = (fields_of (kind_of event)).bit;
  good = (fields_of (kind_of event)).is_good;
  seconds = (fields_of (kind_of event)).seconds;
  margin_too_large = (fields_of (kind_of event)).large_margin;
  payload_len = short_length limits payload_length;
  payload_too_long = carries_payload event.code && ltb limits.payload payload_length;
  cache_too_short = ltb cache_length limits.payload;
  suites = suites;
}

-- What the step reads of a call.
abbrev pub input_of : Limits → Call → ℕ → Input
input_of limits call cache_length =
    input_by limits call.event (length call.payload) cache_length
    (suites_of call.event.code call.our_verifiers call.peer_provers call.peer_verifiers call.our_provers)
