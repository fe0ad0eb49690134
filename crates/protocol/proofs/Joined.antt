-- The contracts of `step` and `part` joined to demand 3 and the audit, which hold of what a host gets under them over a list of calls.
-- Assumes nothing.
use mathlib.Core.Path.{◌≡◌, refl, subst⁻¹, ap, ◌∙◌}
use mathlib.Core.List.{List, [], ◌∷◌}
use Prim.Native.Nat.{ℕ}
use lib.ListN.{length}
use Rattle.event.specs.Call.{Call}
use Rattle.record.specs.Limits.{Limits}
use Rattle.record.specs.WellFormed.{fresh}
use Rattle.protocol.specs.Agreement.{AllAgree}
use Rattle.protocol.specs.Along.{Along}
use Rattle.protocol.specs.Audit.{AllAudited}
use Rattle.protocol.specs.Block.{part_of}
use Rattle.protocol.specs.Promised.{Promised, AllPromised}
use Rattle.protocol.specs.Run.{Left, left_by, results_of}
use Rattle.protocol.specs.Step.{Result, result_of}
use Rattle.protocol.specs.declared.Outcome.{Outcome}
use Rattle.record.specs.declared.Connection.{Connection}
use Rattle.protocol.proofs.Agreement.{demand3}
use Rattle.protocol.proofs.Audit.{audit}

-- The part of the outcome and the cache that `step` promises is the result's.
pub part_of_result : (limits : Limits) (connection : Connection) (call : Call) (before after : List ℕ) (outcome : Outcome)
    → outcome ≡ (result_of limits connection call before).outcome
    → after ≡ (result_of limits connection call before).cache
    → part_of outcome.actions call.payload after ≡ (result_of limits connection call before).part
unfolding result_of
part_of_result limits connection call before after outcome e f =
    ap (λ (o : Outcome). part_of o.actions call.payload after) e ∙
    ap (λ (cache : List ℕ). part_of (result_of limits connection call before).outcome.actions call.payload cache) f

-- So what a host got for a call is its result.
pub is_result : (limits : Limits) (left : Left) (call : Call) (got : Result) → Promised limits left call got → got ≡ result_of limits left.connection call left.cache
is_result limits left call got p =
    let q = p.part ∙ part_of_result limits left.connection call left.cache got.cache got.outcome p.outcome p.cache_left in
    λ i. record { outcome = p.outcome i; cache = p.cache_left i; part = q i }

pub are_results : (limits : Limits) (left : Left) (calls : List Call) (got : List Result) → AllPromised limits left calls got → got ≡ results_of limits left.connection left.cache calls
unfolding Along results_of
are_results limits left [] [] p = refl
are_results limits left [] (got ∷ more) p = absurd p
are_results limits left (call ∷ calls) [] p = absurd p
are_results limits left (call ∷ calls) (got ∷ more) p =
    let e = is_result limits left call got p.0 in
    let rest = are_results limits (left_by got) calls more p.1 in
    λ i. e i ∷ (rest ∙ ap (λ (r : Result). results_of limits r.outcome.connection r.cache calls) e) i

-- A host that began with a fresh record.
module _ (limits : Limits) (cache : List ℕ) (calls : List Call) (got : List Result) (promised : AllPromised limits (record { connection = fresh; cache = cache }) calls got) where
  got_is : got ≡ results_of limits fresh cache calls
  got_is = are_results limits _ calls got promised

  -- Demand 3.
  pub host_agrees : AllAgree limits (length cache) calls got
  host_agrees = subst⁻¹ (AllAgree limits (length cache) calls) got_is (demand3 limits cache calls)

  -- The audit.
  pub host_audited : AllAudited calls got
  host_audited = subst⁻¹ (AllAudited calls) got_is (audit limits cache calls)
