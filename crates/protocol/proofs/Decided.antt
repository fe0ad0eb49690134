-- What is decided of a call, by faults 1 to 7, the next state, the number and fault 9.
-- Assumes nothing.
use mathlib.Core.Path.{◌≡◌, refl, sym, ap, ◌∙◌}
use mathlib.Core.Bool.{Bool, true, false, not, ◌&&◌, cond}
use mathlib.Core.List.{List, [], ◌∷◌, ◌++◌}
use Prim.Native.Nat.{ℕ}
use lib.Dec.{eqb}
use borrow.Author.Tests.{eqb-true}
use Rattle.protocol.specs.Condition.{next_state}
use Rattle.record.specs.Limits.{Limits}
use Rattle.protocol.specs.Faults.{early_faults, late_faults, first_fault, late}
use Rattle.protocol.specs.Refusal.{ill_formed, exhausted, refusal}
use Rattle.protocol.specs.Step.{refusal_number, unchanged, handled_to, decided_by, decided}
use Rattle.protocol.specs.declared.Answer.TheVariants.{Ignored, Refused}
use Rattle.record.specs.declared.Connection.{Connection}
use Rattle.protocol.specs.declared.Outcome.{Outcome}
use Rattle.event.specs.declared.Input.{Input}
use Rattle.protocol.proofs.Faults.{first_of_lem, NoneOf, none_of}

module _ (limits : Limits) (connection : Connection) (code : ℕ) (input : Input) where
  -- Faults 1 to 7.
  abbrev pub lower_faults : List Bool
  lower_faults = early_faults code input ++ (ill_formed limits connection ∷ [])

  -- The refusal, of the lowest of them, the next state and whether the number is the largest.
  abbrev number_by_faults : (lower to : ℕ) (full : Bool) → ℕ
  number_by_faults lower to full = cond (eqb lower 0) (cond (not (eqb to 11) && full) 8 (late input)) lower

  -- The outcome, by the same.
  abbrev judged : (lower to : ℕ) (full : Bool) → Outcome
  judged lower to full = decided_by (number_by_faults lower to full) to connection code input

  -- The refusal, by the lower faults, fault 8 and fault 9.
  refusal_by : refusal limits connection code input ≡ number_by_faults (first_fault 1 lower_faults) (next_state connection code input) (eqb connection.handled limits.handled)
  unfolding refusal
  refusal_by = first_of_lem 0 lower_faults (exhausted limits connection code input ∷ late_faults input)

  decided_by_lem : decided limits connection code input ≡ judged (first_fault 1 lower_faults) (next_state connection code input) (eqb connection.handled limits.handled)
  unfolding decided
  decided_by_lem = rw refusal_by

  module _ (lower to : ℕ) (full : Bool) (is_lower : lower ≡ first_fault 1 lower_faults) (is_next : to ≡ next_state connection code input) (is_full : eqb connection.handled limits.handled ≡ full) where
    as_judged : judged lower to full ≡ decided limits connection code input
    as_judged =
        ap (λ (l : ℕ). judged l to full) is_lower ∙
        ap (λ (t : ℕ). judged (first_fault 1 lower_faults) t full) is_next ∙
        ap (λ (f : Bool). judged (first_fault 1 lower_faults) (next_state connection code input) f) (sym is_full) ∙
        sym decided_by_lem

    pub refused : eqb lower 0 ≡ false → unchanged (Refused lower) connection ≡ decided limits connection code input
    refused e = rw (e, e) at as_judged

    pub ignored : lower ≡ 0 → to ≡ 11 → cond (eqb (late input) 0) (unchanged Ignored connection) (unchanged (Refused (late input)) connection) ≡ decided limits connection code input
    ignored e i = rw (e, i) at as_judged

    pub refused_full : lower ≡ 0 → eqb to 11 ≡ false → full ≡ true → unchanged (Refused 8) connection ≡ decided limits connection code input
    refused_full e i f = rw (e, i, f) at as_judged

    pub handled : lower ≡ 0 → eqb to 11 ≡ false → full ≡ false → cond (eqb (late input) 0) (handled_to to connection code input) (unchanged (Refused (late input)) connection) ≡ decided limits connection code input
    handled e i f = rw (e, i, f) at as_judged

  -- What the lower faults say where none is present.
  pub no_faults : 0 ≡ first_fault 1 lower_faults → NoneOf lower_faults
  no_faults e = none_of 0 lower_faults (sym e)

  number_by : (n to : ℕ) (none ignores : Bool) → eqb n 0 ≡ none → eqb to 11 ≡ ignores → refusal_number (decided_by n to connection code input).answer ≡ n
  number_by n to true true e i = rw (e, i) (sym (eqb-true n 0 e))
  number_by n to true false e i = rw (e, i) (sym (eqb-true n 0 e))
  number_by n to false ignores e i = rw e refl

  pub number_is : refusal_number (decided limits connection code input).answer ≡ refusal limits connection code input
  unfolding decided
  number_is =
      let n = refusal limits connection code input in
      let to = next_state connection code input in
      number_by n to (eqb n 0) (eqb to 11) refl refl
