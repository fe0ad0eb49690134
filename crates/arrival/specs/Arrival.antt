-- Request #101, "Joined to the step": the event that a message is.
use Rattle.std.specs.Prelude.{ℕ, ◌||◌, Option, None, cond, [], ◌∷◌, eqb, get_or}
use Rattle.event.specs.declared.Event.{Event}
use Rattle.token.specs.declared.Token.{Token}

-- The codes of the messages 1 to 9. Any other number gets 24, which is no event's code.
abbrev pub code_of : ℕ → ℕ
code_of number =
    get_or
    (24
    ∷ 11  -- HELLO
    ∷ 12  -- CLOSE
    ∷ 14  -- DAT_EXPIRED
    ∷ 13  -- DAT
    ∷ 17  -- RE_RA
    ∷ 15  -- RA_PROVER
    ∷ 16  -- RA_VERIFIER
    ∷ 18  -- DATA
    ∷ 19  -- ACK
    ∷ [])
    number 24

-- An event with a bit, and with what the host says of the token. A message carries no tag and names no timer.
abbrev pub event_with : (code bit : ℕ) → Token → Event
event_with code bit token = record {
  code = code;
  tag = 0;
  timer = 0;
  bit = bit;
  token = token;
}

-- The event that a message is.
abbrev pub event_of : (number bit : ℕ) → Token → Event
event_of number bit token = event_with (code_of number) bit token

-- `token_refusal` is what the host's interface refuses of the token, if anything. It counts for HELLO and DAT alone, which
-- carry one.
abbrev pub also_of : (number : ℕ) (token_refusal : Option ℕ) → Option ℕ
also_of number token_refusal = cond (eqb number 1 || eqb number 4) token_refusal None
