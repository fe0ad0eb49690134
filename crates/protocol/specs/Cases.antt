-- Document 01, "The boot run and its neighbours": cases 1 to 12, as one statement over a list of them.
use Rattle.std.specs.Prelude.{ℕ, ◌≡◌, Bool, true, false, List, [], ◌∷◌, ℤ, pos, negsuc, get_or, replicate}
use Rattle.token.specs.Answer.{left, time_left}
use Rattle.event.specs.Call.{Call, call_of}
use Rattle.record.specs.Limits.{limits}
use Rattle.protocol.specs.Orders as order
use Rattle.protocol.specs.Run.{results_of}
use Rattle.protocol.specs.Step.{Result, unchanged}
use Rattle.record.specs.WellFormed.{fresh}
use Rattle.protocol.specs.declared.Answer.{Answer}
use Rattle.protocol.specs.declared.Answer.TheVariants.{Handled, Ignored}
use Rattle.event.specs.declared.Event.{Event}

-- An event with these fields; the others are 0, the margin too, which document 01's cases don't have.
abbrev pub event : (code tag bit : ℕ) (verdict : Bool) (expiry now : ℤ) → Event
event code tag bit verdict expiry now = record { code = code; tag = tag; timer = 0; bit = bit; token = record { verdict = verdict; margin = 0; expiry = expiry; now = now } }

-- A call without payload and lists.
abbrev pub plain : (code tag bit : ℕ) → Call
plain code tag bit = call_of (event code tag bit false (pos 0) (pos 0)) [] [] [] [] []

-- A hello with the boot run's lists, at time 1,000.
abbrev pub hello : (expiry : ℤ) → Call
hello expiry = call_of (event 11 0 0 true expiry (pos 1000)) [] (7 ∷ 3 ∷ []) (3 ∷ 7 ∷ []) (3 ∷ []) (3 ∷ 7 ∷ [])

-- The boot run.
abbrev pub boot : List Call
boot =
    plain 0 0 0
    ∷ hello (pos 1060)
    ∷ plain 7 2 0
    ∷ plain 4 1 0
    ∷ plain 4 2 0
    ∷ call_of (event 2 0 0 false (pos 0) (pos 0)) (1 ∷ 2 ∷ 3 ∷ 4 ∷ 5 ∷ []) [] [] [] []
    ∷ plain 17 0 0
    ∷ plain 7 2 0
    ∷ plain 19 0 0
    ∷ plain 7 6 0
    ∷ []

-- What a case tells of a call.
pub record Told : Type 0 where
  pub state : ℕ
  pub number : ℕ
  pub answer : Answer
  pub message : ℕ
  pub seconds : ℕ
  pub verifier_suite : ℕ
  pub prover_suite : ℕ
  pub part : List ℕ

-- What a result tells.
abbrev pub told_of : Result → Told
told_of result = record {
  state = result.outcome.connection.state;
  number = result.outcome.connection.handled;
  answer = result.outcome.answer;
  message = result.outcome.actions.message;
  seconds = result.outcome.actions.dat_seconds;
  verifier_suite = result.outcome.actions.verifier_suite;
  prover_suite = result.outcome.actions.prover_suite;
  part = result.part;
}

-- The fields in their order.
abbrev pub told : (state number : ℕ) → Answer → (message seconds verifier_suite prover_suite : ℕ) (part : List ℕ) → Told
told state number answer message seconds verifier_suite prover_suite part = record {
  state = state;
  number = number;
  answer = answer;
  message = message;
  seconds = seconds;
  verifier_suite = verifier_suite;
  prover_suite = prover_suite;
  part = part;
}

-- Where there is no such call.
abbrev pub no_result : Result
no_result = record { outcome = unchanged Ignored fresh; cache = []; part = [] }

-- A case: the call at a place of a list of calls, from fresh with a cache of 4,096 zeros; or a token's seconds left.
pub data Case : Type 0 where
  call : List Call → (place : ℕ) → Told → Case
  time : (expiry now seconds : ℤ) → Case

-- The case holds of the definitions.
unfoldable pub Holds : Case → Type 0
Holds (call calls place t) = told_of (get_or (results_of limits fresh (replicate limits.payload 0) calls) place no_result) ≡ t
Holds (time expiry now seconds) = time_left expiry now 0 ≡ left seconds

-- So do all of a list.
unfoldable pub AllHold : List Case → Type 0
AllHold [] = Unit {0}
AllHold (case ∷ cases) = Holds case × AllHold cases

-- The largest 64-bit value.
abbrev pub largest : ℤ
largest = pos 9223372036854775807

-- The smallest 64-bit value.
abbrev pub smallest : ℤ
smallest = negsuc 9223372036854775807

-- Cases 1 to 10 are the boot run's calls, 11 a token that expires now, 12 the two ends of 64 bits.
abbrev pub cases : List Case
cases =
    call boot 0 (told 1 1 Handled order.HELLO 0 0 0 [])
    ∷ call boot 1 (told 2 2 Handled order.none 60 7 3 [])
    ∷ call boot 2 (told 4 3 Handled order.none 0 0 0 [])
    ∷ call boot 3 (told 4 3 Ignored order.none 0 0 0 [])
    ∷ call boot 4 (told 7 4 Handled order.none 0 0 0 [])
    ∷ call boot 5 (told 8 5 Handled order.DATA 0 0 0 (1 ∷ 2 ∷ 3 ∷ 4 ∷ 5 ∷ []))
    ∷ call boot 6 (told 3 6 Handled order.none 0 0 0 [])
    ∷ call boot 7 (told 3 6 Ignored order.none 0 0 0 [])
    ∷ call boot 8 (told 3 7 Handled order.none 0 0 0 [])
    ∷ call boot 9 (told 7 8 Handled order.none 0 0 0 [])
    ∷ call (plain 0 0 0 ∷ hello (pos 1000) ∷ []) 1 (told 9 2 Handled order.CLOSE 0 0 0 [])
    ∷ time (pos 1000) (pos 1000) (pos 0)
    ∷ time largest smallest (pos 86400)
    ∷ time smallest largest (negsuc 86399)
    ∷ []
