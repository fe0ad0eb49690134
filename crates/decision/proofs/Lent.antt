-- An outcome that is written over a lent record.
-- Assumes nothing.
use mathlib.Core.Path.{◌≡◌, refl, subst, ◌∙◌}
use mathlib.Core.List.{List}
use Prim.Native.Nat.{ℕ}
use Rattle.std.specs.Prelude.{Option, None, Some}
use Rattle.event.specs.declared.Input.{Input}
use Rattle.record.specs.Numbers.{record_in}
use Rattle.protocol.specs.Sheet.{slots_of}
use Rattle.flat.specs.Written.{Written}
use Rattle.record.specs.declared.Connection.{Connection}
use Rattle.protocol.specs.Actions.{no_actions}
use Rattle.protocol.specs.Step.{unchanged, handled_to}
use Rattle.protocol.specs.declared.Answer.{Answer}
use Rattle.protocol.specs.declared.Outcome.{Outcome}
use Rattle.decision.specs.Lent.{record_after, lent, unmoved_answer}

module _ (before : Connection) (answer : Answer) (numbers slots : List ℕ) (p : Outcome) where
  -- A call that is refused or ignored: the numbers are not written, and the sheet is empty.
  pub unmoved_written : (refusal : Option ℕ) (connection : Connection) → unchanged (unmoved_answer refusal) connection ≡ p → answer ≡ unmoved_answer refusal → record_in numbers ≡ before → slots ≡ slots_of no_actions
      → Written (lent before p) answer numbers slots
  unmoved_written refusal connection e a r o =
      subst (λ (x : Outcome). Written (lent before x) answer numbers slots) e (record { answered = a; record_left = r ∙ stays refusal; ordered = o })
    where
      stays : (refusal : Option ℕ) → before ≡ record_after (unmoved_answer refusal) connection before
      stays None = refl
      stays (Some number) = refl

  -- A handled event: the numbers are those of its outcome.
  pub handled_written : (to : ℕ) (connection : Connection) (code : ℕ) (input : Input) → handled_to to connection code input ≡ p → Written (handled_to to connection code input) answer numbers slots
      → Written (lent before p) answer numbers slots
  handled_written to connection code input = subst (λ (x : Outcome). Written (lent before x) answer numbers slots)
