-- The payload part that a sheet names lies within its slice.
-- Assumes nothing.
use mathlib.Core.Path.{◌≡◌, refl, sym, subst⁻¹, ◌∙◌}
use mathlib.Core.Bool.{Bool, true, false, cond}
use mathlib.Core.List.{List, [], ◌∷◌}
use Prim.Native.Nat.{ℕ, ◌≤◌}
use native.Mathlib.Omega.{arith}
use lib.Dec.{T, eqb}
use lib.ListN.{length, length-append, take}
use borrow.Author.Tests.{eqb-true}
use Rattle.std.specs.Prelude.{Option, None, Some}
use Rattle.connection.specs.Also.{result_also}
use Rattle.decision.specs.Also.{decided_also}
use Rattle.event.specs.Call.{Call, carries_payload, input_of}
use Rattle.protocol.specs.Sheet.{slots_of}
use Rattle.record.specs.Limits.{limits}
use Rattle.record.specs.declared.Connection.{Connection}
use Rattle.protocol.specs.Actions.{length_of, source_of}
use Rattle.protocol.specs.Block.{front, part_of, stored}
use Rattle.protocol.specs.Orders as order
use Rattle.protocol.specs.Step.{Result, refusal_of, step_of, cache_after, result_with, result_of, unchanged}
use Rattle.protocol.specs.declared.Answer.TheVariants.{Refused}
use Rattle.protocol.specs.declared.Actions.{Actions}
use Rattle.capi.specs.Part.{slice_by, Within, part_in}
use Rattle.protocol.proofs.Blocks.{front_of}
use Rattle.protocol.proofs.Moved.{ordered}
use Rattle.protocol.proofs.Stepped.{Stepped, refused, ignored, handled, stepped, next, moved_to, payload_length, Unrefused, unrefused}
use Rattle.record.proofs.WellFormed.{parts}
use Rattle.table.proofs.Arms.{at_keys, one_of}

-- What a result's sheet names lies within its slice.
abbrev Fits : (payload : List ℕ) → Result → Type 0
Fits payload result = result.outcome.actions.payload_len ≤ length (slice_by result.outcome.actions.payload_slice payload result.cache)

-- The length that is named, by code, with the payload and the cache before the call.
module _ (payload cache : List ℕ) (cached plen : ℕ) where
  abbrev slice_after : ℕ → ℕ → List ℕ
  slice_after k slice = slice_by slice payload (cond (eqb k 2) (stored payload cache) cache)

  abbrev FitsAt : ℕ → Type 0
  FitsAt k = length_of k cached plen ≤ length (slice_after k (source_of k))

  fits_at : cached ≤ length cache → (k : ℕ) (repeats carries : Bool) → eqb k 23 ≡ repeats → carries_payload k ≡ carries → (T (carries_payload k) → plen ≡ length payload) → FitsAt k
  fits_at short k true c r e is = subst⁻¹ FitsAt (eqb-true k 23 r) short
  fits_at short k false true r e is =
      let t = subst⁻¹ T e tt in
      let p = is t in
      let whole : plen ≤ length payload = omega arith in
      let within : plen ≤ length (stored payload cache) = simp length-append (omega arith) in
      at_keys FitsAt (2 ∷ 6 ∷ 9 ∷ 15 ∷ 16 ∷ 18 ∷ []) (within, (whole, (whole, (whole, (whole, whole))))) k (one_of (2 ∷ 6 ∷ 9 ∷ 15 ∷ 16 ∷ 18 ∷ []) k t)
  fits_at short k false false r e is = rw (r, e) (omega arith)

  -- An event that locks names nothing.
  unless_locked : (k : ℕ) (locks : Bool) → FitsAt k → cond locks 0 (length_of k cached plen) ≤ length (slice_after k (cond locks order.none (source_of k)))
  unless_locked k true f = omega arith
  unless_locked k false f = f

-- A handled call.
moved_fits : (connection : Connection) (call : Call) (cache : List ℕ) (to : ℕ) → Unrefused limits connection call cache → Fits call.payload (moved_to limits to connection call cache)
moved_fits connection call cache to u =
    let k = call.event.code in
    let input = input_of limits call (length cache) in
    let o = ordered connection k input to in
    let most = (parts limits connection u.well).length in
    let room = u.arguments.cache in
    let fits = fits_at call.payload cache connection.cached_len input.payload_len (omega arith) k (eqb k 23) (carries_payload k) refl refl (payload_length limits call (length cache) u.arguments) in
    rw (o.slice, o.length) (unless_locked call.payload cache connection.cached_len input.payload_len k (eqb to 9) fits)

-- A call of the step.
step_fits : (connection : Connection) (call : Call) (cache : List ℕ) → Fits call.payload (result_of limits connection call cache)
step_fits connection call cache = by_step (stepped limits connection call cache)
  where
    by_step : Stepped limits connection call cache → Fits call.payload (result_of limits connection call cache)
    by_step (refused n e) = subst⁻¹ (Fits call.payload) e (omega arith)
    by_step (ignored n i e) = subst⁻¹ (Fits call.payload) e (omega arith)
    by_step (handled n i e) = subst⁻¹ (Fits call.payload) e (moved_fits connection call cache (next limits connection call cache) (unrefused limits connection call cache n))

-- A call at the interface.
also_fits : (also : Option ℕ) (connection : Connection) (call : Call) (cache : List ℕ) → Fits call.payload (result_also also connection call cache)
unfolding result_also decided_also result_of
also_fits None connection call cache = step_fits connection call cache
also_fits (Some number) connection call cache = by_refusal (eqb (refusal_of limits connection call (length cache)) 0)
  where
    by_refusal : (b : Bool)
        → Fits call.payload (result_with (cond b (unchanged (Refused number) connection) (step_of limits connection call (length cache))) call.payload (cache_after (cond b (unchanged (Refused number) connection) (step_of limits connection call (length cache))).answer call cache))
    by_refusal true = omega arith
    by_refusal false = step_fits connection call cache

-- So many bytes from the start of a slice that has them are the part that actions name.
part_is : (actions : Actions) (payload cache : List ℕ) → actions.payload_len ≤ length (slice_by actions.payload_slice payload cache)
    → take actions.payload_len (slice_by actions.payload_slice payload cache) ≡ part_of actions payload cache
unfolding part_of
part_is actions payload cache = by_slice actions.payload_len (eqb actions.payload_slice order.of_cache) (eqb actions.payload_slice order.of_event)
  where
    by_slice : (n : ℕ) (b c : Bool) → n ≤ length (cond b cache (cond c payload [])) → take n (cond b cache (cond c payload [])) ≡ cond b (front n cache) (cond c (front n payload) [])
    by_slice n true c h = sym (front_of n cache h)
    by_slice n false true h = sym (front_of n payload h)
    by_slice n false false h = let z : n ≡ 0 = omega arith in rw z

-- The part as a host takes it, by the slots and the cache that a call left.
pub taken : (also : Option ℕ) (connection : Connection) (call : Call) (cache slots after : List ℕ) → slots ≡ slots_of (result_also also connection call cache).outcome.actions → after ≡ (result_also also connection call cache).cache
    → Within slots call.payload after × (part_in slots call.payload after ≡ (result_also also connection call cache).part)
unfolding result_also
taken also connection call cache slots after s k =
    let result = result_also also connection call cache in
    let fits = also_fits also connection call cache in (
      subst⁻¹ (λ (l : List ℕ). Within l call.payload after) s (subst⁻¹ (λ (l : List ℕ). Within (slots_of result.outcome.actions) call.payload l) k fits),
      (λ i. part_in (s i) call.payload (k i)) ∙ part_is result.outcome.actions call.payload result.cache fits,
    )
