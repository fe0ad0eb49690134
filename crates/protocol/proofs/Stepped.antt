-- What became of a call: refused, ignored or handled, each with what the host gets for it.
-- Assumes nothing.
use mathlib.Core.Path.{◌≡◌, refl, sym, subst⁻¹, ap, ◌∙◌}
use mathlib.Core.Bool.{Bool, true, false, not, ◌&&◌, cond}
use mathlib.Core.List.{List, [], ◌∷◌}
use Prim.Native.Nat.{ℕ, ◌<◌, ◌≤◌}
use native.Mathlib.Omega.{arith}
use lib.Dec.{T, eqb}
use lib.ListN.{length}
use borrow.Author.Tests.{eqb-true, le-ltb, ltb-false, not-false}
use Rattle.event.specs.Call.{Call, carries_payload, input_by, input_of}
use Rattle.record.specs.Limits.{Limits}
use Rattle.record.specs.WellFormed.{well_formed}
use Rattle.table.specs.Table as table
use Rattle.protocol.specs.Block.{part_of}
use Rattle.protocol.specs.Condition.{next_state}
use Rattle.protocol.specs.Faults.{early_faults, late_faults}
use Rattle.protocol.specs.Refusal.{ill_formed, exhausted, faults, refusal}
use Rattle.protocol.specs.Step.{unchanged, handled_to, decided, step_of, refusal_of, cache_after, Result, result_with, result_of}
use Rattle.protocol.specs.declared.Answer.{Answer}
use Rattle.protocol.specs.declared.Answer.TheVariants.{Handled, Ignored, Refused}
use Rattle.protocol.specs.declared.Outcome.{Outcome}
use Rattle.record.specs.declared.Connection.{Connection}
use Rattle.event.specs.declared.Input.{Input}
use Rattle.protocol.proofs.Faults.{NoneOf, none_of, none_first}

-- What a call gets that changes nothing.
abbrev pub still : Answer → Connection → (cache : List ℕ) → Result
still answer connection cache = record { outcome = unchanged answer connection; cache = cache; part = [] }

-- What a handled call gets that leads to a state.
abbrev pub moved_to : Limits → (to : ℕ) → Connection → Call → (cache : List ℕ) → Result
moved_to limits to connection call cache =
    result_with (handled_to to connection call.event.code (input_of limits call (length cache))) call.payload (cache_after Handled call cache)

module _ (limits : Limits) (connection : Connection) (call : Call) (cache : List ℕ) where
  abbrev input : Input
  input = input_of limits call (length cache)

  -- The state that would follow, or `ignored`.
  abbrev pub next : ℕ
  next = next_state connection call.event.code input

  -- The number of the call's refusal.
  abbrev pub number : ℕ
  number = refusal_of limits connection call (length cache)

  pub data Stepped : Type 0 where
    refused : eqb number 0 ≡ false → result_of limits connection call cache ≡ still (Refused number) connection cache → Stepped
    ignored : number ≡ 0 → next ≡ table.ignored → result_of limits connection call cache ≡ still Ignored connection cache → Stepped
    handled : number ≡ 0 → eqb next table.ignored ≡ false → result_of limits connection call cache ≡ moved_to limits next connection call cache → Stepped

  -- The result that goes with an outcome.
  pub result_by : (outcome : Outcome) → decided limits connection call.event.code input ≡ outcome → result_of limits connection call cache ≡ result_with outcome call.payload (cache_after outcome.answer call cache)
  unfolding result_of
  result_by outcome e = ap (λ (o : Outcome). result_with o call.payload (cache_after o.answer call cache)) e

  -- The outcome, by whether there is a refusal and whether the event is ignored.
  pub outcome_by : (free skips : Bool) → eqb number 0 ≡ free → eqb next table.ignored ≡ skips
      → decided limits connection call.event.code input ≡ cond free (cond skips (unchanged Ignored connection) (handled_to next connection call.event.code input)) (unchanged (Refused number) connection)
  unfolding decided
  outcome_by free skips e i = rw (e, i)

  stepped_by : (free skips : Bool) → eqb number 0 ≡ free → eqb next table.ignored ≡ skips → Stepped
  unfolding part_of
  stepped_by true true e i = ignored (eqb-true number 0 e) (eqb-true next table.ignored i) (result_by (unchanged Ignored connection) (outcome_by true true e i))
  stepped_by true false e i = handled (eqb-true number 0 e) i (result_by (handled_to next connection call.event.code input) (outcome_by true false e i))
  stepped_by false b e i = refused e (result_by (unchanged (Refused number) connection) (outcome_by false b e i))

  pub stepped : Stepped
  stepped = stepped_by (eqb number 0) (eqb next table.ignored) refl refl

-- What the absence of faults 1 to 6 means. (Fault 6, of the suite lists, is not needed.)
pub record Faultless (limits : Limits) (call : Call) (size : ℕ) : Type 0 where
  pub code : call.event.code < 24
  pub timer : (input_of limits call size).timer < 3
  pub bit : (input_of limits call size).bit ≤ 1
  pub payload : T (carries_payload call.event.code) → length call.payload ≤ limits.payload
  pub cache : limits.payload ≤ size

-- The other side of a conjunction that fails.
other_fails : (a b : Bool) → (a && b) ≡ false → T a → b ≡ false
other_fails true b e t = e
other_fails false b e t = absurd t

pub faultless : (limits : Limits) (call : Call) (size : ℕ) → NoneOf (early_faults call.event.code (input_of limits call size)) → Faultless limits call size
unfolding input_by
faultless limits call size none = record {
  code = let h = ltb-false 23 call.event.code none.0 in omega arith;
  timer = let h = ltb-false 2 (input_of limits call size).timer none.1.0 in omega arith;
  bit = ltb-false 1 (input_of limits call size).bit none.1.1.0;
  payload = λ t. ltb-false limits.payload (length call.payload) (other_fails (carries_payload call.event.code) _ none.1.1.1.0 t);
  cache = ltb-false size limits.payload none.1.1.1.1.0;
}

-- The length that is then read of a payload.
pub payload_length : (limits : Limits) (call : Call) (size : ℕ) → Faultless limits call size → T (carries_payload call.event.code) → (input_of limits call size).payload_len ≡ length call.payload
unfolding input_by
payload_length limits call size f t = rw (le-ltb limits.payload (length call.payload) (f.payload t))

-- What a call without refusal has: none of faults 1 to 6, a well-formed record, and a number that can be raised if it is handled.
pub record Unrefused (limits : Limits) (connection : Connection) (call : Call) (cache : List ℕ) : Type 0 where
  pub arguments : Faultless limits call (length cache)
  pub well : T (well_formed limits connection)
  pub room : eqb (next limits connection call cache) table.ignored ≡ false → eqb connection.handled limits.handled ≡ false

pub unrefused : (limits : Limits) (connection : Connection) (call : Call) (cache : List ℕ) → number limits connection call cache ≡ 0 → Unrefused limits connection call cache
unfolding refusal
unrefused limits connection call cache e =
    let code = call.event.code in
    let read = input_of limits call (length cache) in
    let n = none_of 0 (faults limits connection code read) e in
    let last = n.1.1.1.1.1.1 in
    record {
      arguments = faultless limits call (length cache) (none_first (early_faults code read) (ill_formed limits connection ∷ exhausted limits connection code read ∷ late_faults read) n);
      well = subst⁻¹ T (not-false (well_formed limits connection) last.0) tt;
      room = λ s. other_fails (not (eqb (next limits connection call cache) table.ignored)) (eqb connection.handled limits.handled) last.1.0 (subst⁻¹ (λ (b : Bool). T (not b)) s tt);
    }

-- A refused call is not handled.
pub never_refused : (n : ℕ) → Refused n ≡ Handled → ⊥
never_refused n e = let z : ◌≡◌ {A = ℕ} 0 1 = cc in omega arith

-- A handled call is not refused.
pub handled_unrefused : (limits : Limits) (connection : Connection) (call : Call) (cache : List ℕ) → (step_of limits connection call (length cache)).answer ≡ Handled → Unrefused limits connection call cache
handled_unrefused limits connection call cache h = unrefused limits connection call cache (by_number (eqb (number limits connection call cache) 0) refl)
  where
    by_number : (free : Bool) → eqb (number limits connection call cache) 0 ≡ free → number limits connection call cache ≡ 0
    by_number true e = eqb-true (number limits connection call cache) 0 e
    by_number false e =
        absurd (never_refused (number limits connection call cache) (sym (ap (λ (o : Outcome). o.answer) (outcome_by limits connection call cache false (eqb (next limits connection call cache) table.ignored) e refl)) ∙ h))
