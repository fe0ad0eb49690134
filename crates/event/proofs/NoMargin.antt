-- Request #104: with margin 0 the step reads of a token what document 01 has it read.
-- Assumes nothing.
use mathlib.Core.Path.{◌≡◌, ap}
use mathlib.Core.Bool.{Bool, false}
use lib.IntN.{ℤ, ◌-ℤ◌}
use Rattle.token.specs.Answer.{Answer}
use Rattle.token.specs.Good.{good, good_seconds}
use Rattle.token.specs.SecondsLeft.{clamped}
use Rattle.token.proofs.NoMargin.{no_margin}
use Rattle.event.specs.Kind.{fields, fields_of}
use Rattle.event.specs.declared.EventKind.TheVariants.{Token}

-- Whether the token is good, and its seconds, are those of expiry minus now, and fault 9 is absent.
pub read_without_margin : (verdict : Bool) (expiry now : ℤ) → let left = clamped (expiry -ℤ now) in
    fields_of (Token (record { verdict = verdict; margin = 0; expiry = expiry; now = now })) ≡ fields 0 0 0 (good verdict left) (good_seconds verdict left) false
read_without_margin verdict expiry now =
    ap (λ (answer : Answer). fields 0 0 0 (good verdict answer.seconds) (good_seconds verdict answer.seconds) false) (no_margin expiry now)
