-- The answer of `seconds_left` on each path: the first tests keep every subtraction within 64 bits, so what is clamped is the exact difference.
use Rattle.std.proofs.Common.{◌≡◌, arith, sym, ◌∙◌, ℕ, ◌≤◌, false, ℤ, pos, neg_ℤ, ◌-ℤ◌, ◌<ℤ◌, ◌≤ℤ◌}
use Rattle.std.proofs.lemmas.Grind.{common_steps}
use Rattle.std.proofs.lemmas.Int.{ints}
use Rattle.token.specs.Answer.{left, time_left}
use Rattle.token.specs.SecondsLeft.{day, seconds_left, margin_too_large}
use Rattle.token.proofs.seconds_left.Goals.{Else-margin_too_large, Joined-expiry-lt0, Else-most-apart}
use Rattle.token.proofs.seconds_left.Goals as goal

-- The answer where what is clamped lies below the bounds, above them and within them.
low : (expiry now : ℤ) (margin : ℕ) → margin_too_large margin ≡ false → ((expiry -ℤ now) -ℤ pos margin) <ℤ neg_ℤ day → left (neg_ℤ day) ≡ time_left expiry now margin
unfolding time_left seconds_left
low expiry now margin taken below = grind (arith, ints)

high : (expiry now : ℤ) (margin : ℕ) → margin_too_large margin ≡ false → day <ℤ ((expiry -ℤ now) -ℤ pos margin) → left day ≡ time_left expiry now margin
unfolding time_left seconds_left
high expiry now margin taken above = grind (arith, ints)

within : (expiry now : ℤ) (margin : ℕ) (z : ℤ) → margin_too_large margin ≡ false → z ≡ ((expiry -ℤ now) -ℤ pos margin) → neg_ℤ day ≤ℤ z → z ≤ℤ day → left z ≡ time_left expiry now margin
unfolding time_left seconds_left
within expiry now margin z taken exact least most = grind (arith, ints)

pub returns-then-margin_too_large : goal.returns-then-margin_too_large
unfolding time_left
returns-then-margin_too_large c = grind arith

pub returns-then-expiry-least : goal.returns-then-expiry-least
unfolding time_left seconds_left
returns-then-expiry-least c = grind (arith, ints)

pub returns-then-now-expiry : goal.returns-then-now-expiry
unfolding time_left seconds_left
returns-then-now-expiry c = grind (arith, ints)

pub overflow_sub-apart : goal.overflow_sub-apart
overflow_sub-apart c = grind (arith, common_steps)

-- A margin that is taken, and is at most 300.
taken : (c : Else-margin_too_large) → margin_too_large c.args.margin ≡ false
taken c = sym c.margin_too_large.ensures ∙ c.if-margin_too_large.false

few : (c : Else-margin_too_large) → c.args.margin ≤ 300
few c = grind arith

pub returns-then-apart-least : goal.returns-then-apart-least
returns-then-apart-least c =
    let fits = overflow_sub-apart (goal.at.returns-then-apart-least c).Joined-expiry-lt0 in
    let m = few (goal.at.returns-then-apart-least c).Else-margin_too_large in
    low _ _ _ (taken (goal.at.returns-then-apart-least c).Else-margin_too_large) (omega (arith, ints))

pub returns-then-most-apart : goal.returns-then-most-apart
returns-then-most-apart c =
    let fits = overflow_sub-apart (goal.at.returns-then-most-apart c).Joined-expiry-lt0 in
    let m = few (goal.at.returns-then-most-apart c).Else-margin_too_large in
    high _ _ _ (taken (goal.at.returns-then-most-apart c).Else-margin_too_large) (omega (arith, ints))

pub overflow_sub-left : goal.overflow_sub-left
overflow_sub-left c = grind (arith, common_steps)

pub returns : goal.returns
returns c =
    let fits = overflow_sub-apart (goal.at.returns c).Joined-expiry-lt0 in
    let m = few (goal.at.returns c).Else-margin_too_large in
    let rest = overflow_sub-left (goal.at.returns c).Else-most-apart in
    within _ _ _ _ (taken (goal.at.returns c).Else-margin_too_large) (omega (arith, ints)) (omega (arith, ints)) (omega (arith, ints))
