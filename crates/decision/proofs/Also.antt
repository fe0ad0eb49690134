-- What is decided where the host's interface may refuse too: by the lowest fault, the state that follows, the number, and fault 9 or the
-- interface's refusal.
-- Assumes nothing.
use mathlib.Core.Path.{◌≡◌, refl, sym, subst, ap, ◌∙◌}
use mathlib.Core.Bool.{Bool, true, false, not, ◌&&◌, cond}
use Prim.Native.Nat.{ℕ, ◌<◌}
use native.Mathlib.Omega.{arith}
use lib.Dec.{T, eqb, eqb→eq}
use borrow.Author.Tests.{eq-eqb, ne_eqb, ltb-false, not-false}
use Rattle.std.specs.Prelude.{Option, None, Some}
use Rattle.record.specs.Limits.{limits}
use Rattle.record.specs.WellFormed.{well_formed}
use Rattle.record.specs.declared.Connection.{Connection}
use Rattle.event.specs.declared.Input.{Input}
use Rattle.effects.proofs.Effects.{next_event, is_moving, moving_is, by_event_lem, by_locking_lem}
use Rattle.effects.specs.ByEvent.{by_event, by_locking, moving_code}
use Rattle.guards.specs.Numbered.{refusal_numbered}
use Rattle.protocol.specs.Condition.{next_state}
use Rattle.protocol.specs.Faults.{first_fault}
use Rattle.protocol.specs.Step.{refusal_number, unchanged, handled_to, decided}
use Rattle.protocol.specs.declared.Answer.TheVariants.{Ignored, Refused}
use Rattle.protocol.specs.declared.Outcome.{Outcome}
use Rattle.protocol.proofs.Decided.{number_is, lower_faults}
use Rattle.protocol.proofs.Decided as judged
use Rattle.table.proofs.Options.{some_by, none_by}
use Rattle.table.specs.Cell.{following}
use Rattle.decision.specs.Also.{decided_also}
use Rattle.decision.specs.Lent.{unmoved_answer}

-- The lowest of the faults 1 to 7.
abbrev pub lowest : Connection → (code : ℕ) → Input → ℕ
lowest connection code input = first_fault 1 (lower_faults limits connection code input)

is_zero : (n k : ℕ) → eqb n k ≡ true → n ≡ k
is_zero n k e = eqb→eq n k (subst (λ (b : Bool). T b) (sym e) tt)

-- An outcome that refuses nothing, or a refusal that comes in its place.
abbrev pub late_outcome : Option ℕ → Connection → Outcome → Outcome
late_outcome None connection o = o
late_outcome (Some number) connection o = unchanged (Refused number) connection

-- What is decided, of the step's own outcome: where that refuses, and where it refuses nothing.
of_refused : (also : Option ℕ) (connection : Connection) (code : ℕ) (input : Input) (o : Outcome) → eqb (refusal_number o.answer) 0 ≡ false → o ≡ decided limits connection code input
    → o ≡ decided_also also connection code input
unfolding decided_also
of_refused None connection code input o n e = e
of_refused (Some k) connection code input o n e =
    let m = sym n ∙ ap (λ (x : Outcome). eqb (refusal_number x.answer) 0) e ∙ ap (λ (r : ℕ). eqb r 0) (number_is limits connection code input) in
    e ∙ (λ i. cond (m i) (unchanged (Refused k) connection) (decided limits connection code input))

of_others : (also : Option ℕ) (connection : Connection) (code : ℕ) (input : Input) (o : Outcome) → refusal_number o.answer ≡ 0 → o ≡ decided limits connection code input
    → late_outcome also connection o ≡ decided_also also connection code input
unfolding decided_also
of_others None connection code input o z e = e
of_others (Some k) connection code input o z e =
    let m = ap (λ (r : ℕ). eqb r 0) (sym z ∙ ap (λ (x : Outcome). refusal_number x.answer) e ∙ number_is limits connection code input) in
    λ i. cond (m i) (unchanged (Refused k) connection) (decided limits connection code input)

module _ (also : Option ℕ) (connection : Connection) (code : ℕ) (input : Input) where
  abbrev also_decided : Outcome
  also_decided = decided_also also connection code input

  -- The step refuses.
  refused_also : (number : ℕ) → eqb number 0 ≡ false → unchanged (Refused number) connection ≡ decided limits connection code input → unchanged (Refused number) connection ≡ also_decided
  refused_also number n e = of_refused also connection code input (unchanged (Refused number) connection) n e

  -- It gives an outcome unless fault 9 is present. Then what is decided goes by refusal 9 or, without its fault, that of the interface.
  late_also : (large : Bool) → (o : Outcome) → refusal_number o.answer ≡ 0
      → cond (eqb (cond large 9 0) 0) o (unchanged (Refused (cond large 9 0)) connection) ≡ decided limits connection code input
      → late_outcome (cond large (Some 9) also) connection o ≡ also_decided
  late_also true o z e = of_refused also connection code input (unchanged (Refused 9) connection) refl e
  late_also false o z e = of_others also connection code input o z e

  -- A fault from 1 to 7 is present.
  pub by_fault : (fault : ℕ) → refusal_numbered (lowest connection code input) ≡ Some fault → unchanged (Refused fault) connection ≡ also_decided
  by_fault fault e =
      let (some, is) = some_by (eqb (lowest connection code input) 0) (lowest connection code input) fault e in
      subst (λ (n : ℕ). unchanged (Refused n) connection ≡ also_decided) is
      (refused_also (lowest connection code input) some (judged.refused limits connection code input (lowest connection code input) (next_state connection code input) _ refl refl refl some))

  -- None of them is.
  module _ (none : refusal_numbered (lowest connection code input) ≡ None) where
    no_fault : lowest connection code input ≡ 0
    no_fault = is_zero _ 0 (none_by (eqb (lowest connection code input) 0) (lowest connection code input) none)

    -- The code is known and the record is well formed.
    known : code < 24
    known = let h = ltb-false 23 code (judged.no_faults limits connection code input (sym no_fault)).0 in omega arith

    well : T (well_formed limits connection)
    well =
        let w = (judged.no_faults limits connection code input (sym no_fault)).1.1.1.1.1.1.0 in
        subst (λ (b : Bool). T b) (sym (not-false (well_formed limits connection) w)) tt

    -- The event is ignored.
    pub by_table : following (next_state connection code input) ≡ None → unchanged (unmoved_answer (cond input.margin_too_large (Some 9) also)) connection ≡ also_decided
    by_table e = chosen (cond input.margin_too_large (Some 9) also)
        (late_also input.margin_too_large (unchanged Ignored connection) refl
        (judged.ignored limits connection code input (lowest connection code input) (next_state connection code input) _ refl refl refl no_fault
        (is_zero _ 11 (none_by (eqb (next_state connection code input) 11) (next_state connection code input) e))))
      where
        chosen : (late : Option ℕ) → late_outcome late connection (unchanged Ignored connection) ≡ also_decided → unchanged (unmoved_answer late) connection ≡ also_decided
        chosen None e = e
        chosen (Some number) e = e

    -- The table lists it.
    module _ (to : ℕ) (next : following (next_state connection code input) ≡ Some to) where
      heard : eqb (next_state connection code input) 11 ≡ false
      heard = (some_by (eqb (next_state connection code input) 11) (next_state connection code input) to next).0

      pub follows : next_state connection code input ≡ to
      follows = (some_by (eqb (next_state connection code input) 11) (next_state connection code input) to next).1

      heard_to : eqb to 11 ≡ false
      heard_to = subst (λ (t : ℕ). eqb t 11 ≡ false) follows heard

      -- What the functions for the events do is what the definitions say: for one that locks, and for one that moves on.
      pub locks : to ≡ 9 → by_locking code (next_event connection input to) ≡ handled_to (next_state connection code input) connection code input
      locks e = by_locking_lem connection code input to ∙ ap (λ (t : ℕ). handled_to t connection code input) (sym e ∙ sym follows)

      pub moves : (to ≡ 9 → ⊥) → by_event (moving_code code) (next_event connection input to) ≡ handled_to (next_state connection code input) connection code input
      moves stays =
          let stays_to = ne_eqb to 9 stays in
          ap (λ (k : ℕ). by_event k (next_event connection input to)) (moving_is code (is_moving limits connection code input to well known follows heard_to stays_to)) ∙
          by_event_lem limits connection code input to well known follows heard_to stays_to ∙
          ap (λ (t : ℕ). handled_to t connection code input) (sym follows)

      -- The number is the largest.
      pub by_number : connection.handled ≡ 4294967295 → unchanged (Refused 8) connection ≡ also_decided
      by_number full =
          refused_also 8 refl
          (judged.refused_full limits connection code input (lowest connection code input) (next_state connection code input) true refl refl (eq-eqb connection.handled 4294967295 full) no_fault heard refl)

      -- It is not.
      module _ (room : connection.handled ≡ 4294967295 → ⊥) where
        goes : late_outcome (cond input.margin_too_large (Some 9) also) connection (handled_to (next_state connection code input) connection code input) ≡ also_decided
        goes =
            late_also input.margin_too_large (handled_to (next_state connection code input) connection code input) refl
            (judged.handled limits connection code input (lowest connection code input) (next_state connection code input) false refl refl (ne_eqb connection.handled 4294967295 room) no_fault heard refl)

        pub by_late_fault : (refusal : ℕ) → cond input.margin_too_large (Some 9) also ≡ Some refusal → unchanged (Refused refusal) connection ≡ also_decided
        by_late_fault refusal e = rw e at goes

        pub by_handling : cond input.margin_too_large (Some 9) also ≡ None → handled_to (next_state connection code input) connection code input ≡ also_decided
        by_handling e = rw e at goes
