-- Demand 3 and the audit at the interface for C.
-- Assumes nothing.
use mathlib.Core.Path.{◌≡◌, refl, ap, ◌∙◌}
use mathlib.Core.Bool.{Bool, true, false, cond}
use mathlib.Core.List.{List, [], ◌∷◌}
use Prim.Native.Nat.{ℕ}
use lib.Dec.{eqb}
use lib.ListN.{length}
use Rattle.std.specs.Prelude.{None, Some}
use Rattle.connection.specs.Also.{result_also}
use Rattle.decision.specs.Also.{decided_also}
use Rattle.record.specs.Numbers.{record_in}
use Rattle.event.specs.Call.{Call, input_of}
use Rattle.protocol.specs.Agreement.{AllAgree}
use Rattle.protocol.specs.Along.{Along}
use Rattle.protocol.specs.Audit.{AllAudited}
use Rattle.protocol.specs.Block.{part_of}
use Rattle.protocol.specs.Run.{results_of}
use Rattle.protocol.specs.Step.{Result, refusal_of, cache_after, decided, result_with, result_of, unchanged}
use Rattle.protocol.specs.declared.Answer.TheVariants.{Refused}
use Rattle.protocol.specs.declared.Outcome.{Outcome}
use Rattle.record.specs.Limits.{limits}
use Rattle.record.specs.WellFormed.{fresh}
use Rattle.record.specs.declared.Connection.{Connection}
use Rattle.capi.specs.Host.{FlatCall, call_in, calls_in, AllRight, Got, Holds, Lent, lent_by, AllPromised, AllShow}
use Rattle.capi.specs.Returned.{Returned, returned, returned_of}
use Rattle.interface.specs.Verdict.{refused_verdict, wrong_verdict}
use Rattle.connection.proofs.Also.{none_also}
use Rattle.protocol.proofs.Agreement.{demand3}
use Rattle.protocol.proofs.Audit.{audit}
use Rattle.protocol.proofs.Stepped.{still}

-- A call with a right verdict returns the step's result.
right : (numbers cache : List ℕ) (call : FlatCall) → wrong_verdict call.event ≡ false
    → returned numbers call.event call.payload cache call.our_verifiers call.peer_provers call.peer_verifiers call.our_provers ≡ returned_of (result_of limits (record_in numbers) (call_in call) cache)
unfolding returned
right numbers cache call e =
    ap (λ (b : Bool). returned_of (result_also (cond b (Some refused_verdict) None) (record_in numbers) (call_in call) cache)) e ∙
    ap returned_of (none_also (record_in numbers) (call_in call) cache)

-- One that the interface refuses is refused with the step's number, or with the interface's where the step refuses nothing; nothing changes.
module _ (number : ℕ) (connection : Connection) (call : Call) (cache : List ℕ) where
  abbrev refused_with : ℕ
  refused_with = let n = refusal_of limits connection call (length cache) in cond (eqb n 0) number n

  stays : result_also (Some number) connection call cache ≡ still (Refused refused_with) connection cache
  unfolding result_also decided_also decided part_of
  stays =
      ap (λ (o : Outcome). result_with o call.payload (cache_after o.answer call cache)) (by_refusal (eqb (refusal_of limits connection call (length cache)) 0) refl)
    where
      by_refusal : (b : Bool) → eqb (refusal_of limits connection call (length cache)) 0 ≡ b → decided_also (Some number) connection call.event.code (input_of limits call (length cache)) ≡ unchanged (Refused refused_with) connection
      by_refusal true e = rw e
      by_refusal false e = rw e

-- So a call with a wrong verdict changes nothing.
pub wrong_changes_nothing : (numbers cache : List ℕ) (call : FlatCall) → wrong_verdict call.event ≡ true
    → returned numbers call.event call.payload cache call.our_verifiers call.peer_provers call.peer_verifiers call.our_provers
    ≡ returned_of (still (Refused (refused_with refused_verdict (record_in numbers) (call_in call) cache)) (record_in numbers) cache)
unfolding returned
wrong_changes_nothing numbers cache call e =
    ap (λ (b : Bool). returned_of (result_also (cond b (Some refused_verdict) None) (record_in numbers) (call_in call) cache)) e ∙
    ap returned_of (stays refused_verdict (record_in numbers) (call_in call) cache)

holds_same : (got : Got) (a b : Returned) → a ≡ b → Holds got a → Holds got b
holds_same got a b e h = record {
  answered = h.answered ∙ ap (λ (r : Returned). r.answer) e;
  record_left = h.record_left ∙ ap (λ (r : Returned). r.connection) e;
  ordered = h.ordered ∙ ap (λ (r : Returned). r.actions) e;
  cache_left = h.cache_left ∙ ap (λ (r : Returned). r.cache) e;
  part_taken = h.part_taken ∙ ap (λ (r : Returned). r.part) e;
}

-- What a host got, from numbers and a cache that are those of a record and a cache.
shown : (connection : Connection) (held : List ℕ) (lent : Lent) (calls : List FlatCall) (got : List Got) → record_in lent.numbers ≡ connection → lent.cache ≡ held
    → AllRight calls → AllPromised lent calls got → AllShow got (results_of limits connection held (calls_in calls))
unfolding Along results_of
shown connection held lent [] [] r k a p = tt
shown connection held lent [] (g ∷ more) r k a p = absurd p
shown connection held lent (call ∷ calls) [] r k a p = absurd p
shown connection held lent (call ∷ calls) (g ∷ more) r k a p =
    let result = result_of limits connection (call_in call) held in
    let same = right lent.numbers lent.cache call a.0 ∙ (λ i. returned_of (result_of limits (r i) (call_in call) (k i))) in
    let h = holds_same g _ (returned_of result) same p.0 in
    (h, shown result.outcome.connection result.cache (lent_by g) calls more h.record_left h.cache_left a.1 p.1)

-- A host in C that began with a fresh record.
module _ (lent : Lent) (calls : List FlatCall) (got : List Got) (began : record_in lent.numbers ≡ fresh) (right_verdicts : AllRight calls) (promised : AllPromised lent calls got) where
  abbrev results : List Result
  results = results_of limits fresh lent.cache (calls_in calls)

  shows : AllShow got results
  shows = shown fresh lent.cache lent calls got began refl right_verdicts promised

  -- What it got are the numbers of results that agree with the history.
  pub c_host_agrees : AllShow got results × AllAgree limits (length lent.cache) (calls_in calls) results
  c_host_agrees = (shows, demand3 limits lent.cache (calls_in calls))

  -- And that the audit finds in order.
  pub c_host_audited : AllShow got results × AllAudited (calls_in calls) results
  c_host_audited = (shows, audit limits lent.cache (calls_in calls))
