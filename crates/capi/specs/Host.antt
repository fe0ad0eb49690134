-- Demand 3 and the audit at the interface for C: what a host in C gets over a list of calls are the numbers of the results that they speak of.
use Rattle.std.specs.Prelude.{ℕ, ◌≡◌, false, List, [], ◌∷◌}
use Rattle.record.specs.Numbers.{record_in}
use Rattle.event.specs.Call.{Call, call_of}
use Rattle.protocol.specs.Along.{Along}
use Rattle.protocol.specs.Step.{Result}
use Rattle.capi.specs.Returned.{Returned, returned, returned_of}
use Rattle.interface.specs.Event.{event_of}
use Rattle.interface.specs.Verdict.{wrong_verdict}
use Rattle.interface.specs.declared.FlatEvent.{FlatEvent}

-- One call of a host in C, without record and cache.
pub record FlatCall : Type 0 where
  pub event : FlatEvent
  pub payload : List ℕ
  pub our_verifiers : List ℕ
  pub peer_provers : List ℕ
  pub peer_verifiers : List ℕ
  pub our_provers : List ℕ

-- The call of document 01 that it is.
abbrev pub call_in : FlatCall → Call
call_in call =
    call_of (event_of call.event) call.payload call.our_verifiers call.peer_provers call.peer_verifiers call.our_provers

-- The same for a list of calls.
abbrev pub calls_in : List FlatCall → List Call
calls_in [] = []
calls_in (call ∷ calls) = call_in call ∷ calls_in calls

-- No verdict is wrong. A call with a wrong one is refused and changes nothing: it is no call of the run.
abbrev pub AllRight : List FlatCall → Type 0
AllRight [] = Unit {0}
AllRight (call ∷ calls) = (wrong_verdict call.event ≡ false) × AllRight calls

-- What the host holds after a call: the answer, the numbers of record and actions, the cache, and the payload part that it took: `part_in` of these slots, the call's payload
-- and this cache.
pub record Got : Type 0 where
  pub answer : ℕ
  pub numbers : List ℕ
  pub slots : List ℕ
  pub cache : List ℕ
  pub part : List ℕ

-- It is what a call returns.
pub record Holds (got : Got) (gives : Returned) : Type 0 where
  pub answered : got.answer ≡ gives.answer
  pub record_left : record_in got.numbers ≡ gives.connection
  pub ordered : got.slots ≡ gives.actions
  pub cache_left : got.cache ≡ gives.cache
  pub part_taken : got.part ≡ gives.part

-- The numbers of a record, and a cache, that a host lends to a call.
pub record Lent : Type 0 where
  pub numbers : List ℕ
  pub cache : List ℕ

-- Those that it holds after a call.
abbrev pub lent_by : Got → Lent
lent_by got = record { numbers = got.numbers; cache = got.cache }

-- What the contract of `menhotrac_step` promises for a call.
abbrev pub Promised : Lent → FlatCall → Got → Type 0
Promised lent call got =
    Holds got (returned lent.numbers call.event call.payload lent.cache call.our_verifiers call.peer_provers call.peer_verifiers call.our_provers)

-- The same over a list of calls, each given the numbers and the cache that the last one left.
abbrev pub AllPromised : Lent → List FlatCall → List Got → Type 0
AllPromised = Along Promised (λ lent call got. lent_by got)

-- What it got are the numbers of these results, one by one.
abbrev pub AllShow : List Got → List Result → Type 0
AllShow = Along {Past = Unit {0}} (λ nothing got result. Holds got (returned_of result)) (λ nothing got result. nothing) tt
