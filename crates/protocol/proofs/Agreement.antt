-- Demand 3: after every call of any list the step agrees with the history.
-- Assumes nothing.
use mathlib.Core.Path.{◌≡◌, refl, subst, subst⁻¹, ap, ◌∙◌}
use mathlib.Core.Bool.{Bool, true, false, not, ◌&&◌, cond}
use mathlib.Core.List.{List, ◌∷◌}
use mathlib.Core.Option.{Option}
use Prim.Native.Nat.{ℕ}
use lib.Dec.{T, eqb}
use lib.ListN.{length}
use borrow.Author.Tests.{eqb-true}
use Rattle.event.specs.Call.{Call, input_of}
use Rattle.record.specs.Limits.{Limits}
use Rattle.record.specs.WellFormed.{fresh, well_formed}
use Rattle.table.specs.Table.{ignored}
use Rattle.protocol.specs.Agreement.{Block, is_handled, AgreesWith, no_past, past_after, Demand3}
use Rattle.protocol.specs.Block.{part_of}
use Rattle.protocol.specs.Condition.{next_state}
use Rattle.protocol.specs.Faults.{early_faults, late_faults, first_fault, early, late}
use Rattle.protocol.specs.History.{History, hear, counts, notes_after, counted, refusal_to, answer_to, keep, history_after, state_of}
use Rattle.protocol.specs.Refusal.{ill_formed, exhausted, refusal}
use Rattle.protocol.specs.Step.{unchanged, handled_to, result_of}
use Rattle.protocol.specs.declared.Answer.{Answer}
use Rattle.protocol.specs.declared.Answer.TheVariants.{Handled, Ignored, Refused}
use Rattle.record.specs.declared.Connection.{Connection}
use Rattle.event.specs.declared.Input.{Input}
use Rattle.protocol.proofs.Along.{along}
use Rattle.protocol.proofs.Carried.{Waits, Carried, unmoved, leads_there, heeded, moves}
use Rattle.protocol.proofs.Faults.{first_of_lem, none_of}
use Rattle.protocol.proofs.Follows.{Follows, follows_first, well_formed_lem}
use Rattle.protocol.proofs.Kept.{leads}
use Rattle.protocol.proofs.Stepped.{still, outcome_by, result_by, Faultless, faultless}
use Rattle.table.proofs.Finite.{is_true}

module _ (limits : Limits) (history : History) (accepted : Option Block) (connection : Connection) (cache : List ℕ)
    (R : Follows limits (length cache) history connection cache) (W : Waits history accepted) (call : Call) where
  abbrev code : ℕ
  code = call.event.code

  abbrev read : Input
  read = input_of limits call (length cache)

  abbrev counting : Bool
  counting = counts history.notes code (hear history read)

  -- The state that the notes lead to.
  abbrev to : ℕ
  to = state_of (notes_after history.notes code (hear history read))

  module _ (arguments : Faultless limits call (length cache)) where
    -- Without faults 1 to 6 the table ignores what does not count.
    passes_over : counting ≡ false → next_state connection code read ≡ ignored
    passes_over c = leads limits (length cache) history connection cache R call arguments ∙ ap (λ (b : Bool). cond b to ignored) c

    -- It handles what counts.
    handles : (b : Bool) → counting ≡ b → not (eqb (next_state connection code read) ignored) ≡ b
    handles true c =
        let t = subst⁻¹ T c tt in
        ap (λ (s : ℕ). not (eqb s ignored)) (leads_there limits history accepted connection cache R W call arguments t)
        ∙ ap not (heeded limits history accepted connection cache R W call arguments t)
    handles false c = ap (λ (s : ℕ). not (eqb s ignored)) (passes_over c)

    -- So fault 8 is present where the history has it.
    same_exhausted : exhausted limits connection code read ≡ (counting && eqb history.count limits.handled)
    same_exhausted = λ i. handles counting refl i && eqb (R.number i) limits.handled

  no_early : eqb (early code read) 0 ≡ true → Faultless limits call (length cache)
  no_early e = faultless limits call (length cache) (none_of 0 (early_faults code read) (eqb-true (early code read) 0 e))

  -- Fault 7 is absent.
  not_ill_formed : ill_formed limits connection ≡ false
  not_ill_formed = ap not (is_true (well_formed limits connection) (well_formed_lem limits (length cache) history connection cache R))

  -- The history's refusal is the step's.
  same_number : refusal limits connection code read ≡ refusal_to limits (length cache) history call
  unfolding refusal refusal_to
  same_number =
      first_of_lem 0 (early_faults code read) (ill_formed limits connection ∷ exhausted limits connection code read ∷ late_faults read)
      ∙ by_lower (eqb (early code read) 0) refl
    where
      by_lower : (free : Bool) → eqb (early code read) 0 ≡ free
          → cond free (first_fault 7 (ill_formed limits connection ∷ exhausted limits connection code read ∷ late_faults read)) (early code read)
          ≡ cond free (cond (counting && eqb history.count limits.handled) 8 (late read)) (early code read)
      by_lower true e = λ i. first_fault 7 (not_ill_formed i ∷ same_exhausted (no_early e) i ∷ late_faults read)
      by_lower false e = refl

  -- A call that is not handled, given its result.
  rests : (answer : Answer) → is_handled answer ≡ false → result_of limits connection call cache ≡ still answer connection cache
      → Carried limits (length cache) history accepted call answer history (result_of limits connection call cache)
  rests answer e r =
      subst⁻¹ (Carried limits (length cache) history accepted call answer history) r
      (unmoved limits (length cache) history accepted connection cache R W call answer e)

  abbrev number : ℕ
  number = refusal_to limits (length cache) history call

  -- The step refuses just where the history does.
  free_as : (free : Bool) → eqb number 0 ≡ free → eqb (refusal limits connection code read) 0 ≡ free
  free_as free e = ap (λ (n : ℕ). eqb n 0) same_number ∙ e

  arguments_fit : eqb number 0 ≡ true → Faultless limits call (length cache)
  unfolding refusal_to
  arguments_fit = by_lower (eqb (early code read) 0) refl
    where
      by_lower : (free : Bool) → eqb (early code read) 0 ≡ free
          → eqb (cond free (cond (counting && eqb history.count limits.handled) 8 (late read)) (early code read)) 0 ≡ true
          → Faultless limits call (length cache)
      by_lower true e n = no_early e
      by_lower false e n = no_early n

  -- The step and the history, by whether there is a refusal and whether the event counts.
  carried_by : (free takes : Bool) → eqb number 0 ≡ free → counting ≡ takes
      → let answer = cond free (cond takes Handled Ignored) (Refused number) in
      Carried limits (length cache) history accepted call answer (keep answer history (counted history code read call.payload)) (result_of limits connection call cache)
  unfolding part_of
  carried_by false takes e c =
      rests (Refused number) refl
      (result_by limits connection call cache (unchanged (Refused number) connection)
      (outcome_by limits connection call cache false (eqb (next_state connection code read) ignored) (free_as false e) refl
      ∙ (λ i. unchanged (Refused (same_number i)) connection)))
  carried_by true false e c =
      rests Ignored refl
      (result_by limits connection call cache (unchanged Ignored connection)
      (outcome_by limits connection call cache true true (free_as true e) (ap (λ (s : ℕ). eqb s ignored) (passes_over (arguments_fit e) c))))
  carried_by true true e c =
      let takes = subst⁻¹ T c tt in
      let there = leads_there limits history accepted connection cache R W call (arguments_fit e) takes in
      subst⁻¹ (Carried limits (length cache) history accepted call Handled (counted history code read call.payload))
      (result_by limits connection call cache (handled_to to connection code read)
      (outcome_by limits connection call cache true false (free_as true e) (ap (λ (s : ℕ). eqb s ignored) there ∙ heeded limits history accepted connection cache R W call (arguments_fit e) takes)
      ∙ (λ i. handled_to (there i) connection code read)))
      (moves limits history accepted connection cache R W call (arguments_fit e) takes)

  carried : Carried limits (length cache) history accepted call (answer_to limits (length cache) history call) (history_after limits (length cache) history call) (result_of limits connection call cache)
  unfolding answer_to history_after
  carried = carried_by (eqb number 0) counting refl refl

-- One call, with the size of the first cache.
pub one_call : (limits : Limits) (size : ℕ) (history : History) (accepted : Option Block) (connection : Connection) (cache : List ℕ)
    → Follows limits size history connection cache → Waits history accepted → (call : Call)
    → Carried limits size history accepted call (answer_to limits size history call) (history_after limits size history call) (result_of limits connection call cache)
one_call limits size history accepted connection cache R W call =
    subst (λ (s : ℕ). Carried limits s history accepted call (answer_to limits s history call) (history_after limits s history call) (result_of limits connection call cache)) R.size_is
    (carried limits history accepted connection cache (subst⁻¹ (λ (s : ℕ). Follows limits s history connection cache) R.size_is R) W call)

-- The history theorem.
pub demand3 : (limits : Limits) → Demand3 limits
demand3 limits cache calls =
    let size = length cache in
    along limits (AgreesWith limits size) (past_after limits size)
    (λ past connection cache. Follows limits size past.history connection cache × Waits past.history past.accepted)
    (λ past connection cache call i. let c = one_call limits size past.history past.accepted connection cache i.0 i.1 call in (c.agrees, (c.follows, c.waits)))
    no_past fresh cache (follows_first limits cache, λ t. absurd t) calls
