-- Document 01, "The record and its tags" and "The published table": the condition of each event, and the state that follows.
use Rattle.std.specs.Prelude.{ℕ, Bool, true, not, ◌&&◌, List, [], ◌∷◌, eqb, get_or}
use Rattle.event.specs.Kind.{named}
use Rattle.table.specs.Table.{cell, settled}
use Rattle.record.specs.Tags.{tag_of}
use Rattle.record.specs.Timer.{Timer, HP, HV, DAT, RA, ACK}
use Rattle.record.specs.declared.Connection.{Connection}
use Rattle.event.specs.declared.Input.{Input}

-- A condition: the event is live, the hello or the token is good, the bit is the expected one or the next-send bit of a waiting block; or there is none.
pub data Condition : Type 0 where
  live : Timer → Condition
  good_hello good_token expected_bit next_send_bit nothing : Condition

-- The conditions of codes 0 to 23.
abbrev pub conditions : (name : ℕ) → List Condition
conditions name =
    nothing ∷ nothing ∷ nothing ∷ nothing  -- 0 to 3
    ∷ live HV ∷ live HV ∷ live HV  -- 4 to 6, from the verifier
    ∷ live HP ∷ live HP ∷ live HP  -- 7 to 9, from the prover
    ∷ nothing ∷ good_hello ∷ nothing ∷ good_token  -- 10 to 13
    ∷ nothing ∷ nothing ∷ nothing ∷ nothing  -- 14 to 17
    ∷ expected_bit ∷ next_send_bit  -- 18, 19
    ∷ live (named name) ∷ live DAT ∷ live RA ∷ live ACK  -- 20 to 23, from timers
    ∷ []

-- The condition of a code; one above 23 has none.
abbrev pub condition_of : (code name : ℕ) → Condition
condition_of code name = get_or (conditions name) code nothing

-- An event is live if its tag isn't 0 and equals the record's tag of that driver or timer.
abbrev pub is_live : (tag own : ℕ) → Bool
is_live tag own = not (eqb tag 0) && eqb tag own

-- Whether a condition holds for the record and the event.
abbrev pub meets : Connection → Input → Condition → Bool
meets connection input (live timer) = is_live input.tag (tag_of connection timer)
meets connection input good_hello = input.good && input.suites.found
meets connection input good_token = input.good
meets connection input expected_bit = eqb input.bit connection.expected_bit
meets connection input next_send_bit = eqb connection.awaiting_ack 1 && eqb input.bit connection.next_send_bit
meets connection input nothing = true

-- Whether the event's condition holds.
unfoldable pub holds : Connection → (code : ℕ) → Input → Bool
holds connection code input = meets connection input (condition_of code input.timer)

-- What the published table has for a state, a flag, a code and its condition: the state that follows, or `ignored`.
abbrev pub next_by : (state flag code : ℕ) (held : Bool) → ℕ
next_by state flag code held = settled flag (cell state code held)

-- The state that follows, or `ignored`.
unfoldable pub next_state : Connection → (code : ℕ) → Input → ℕ
next_state connection code input =
    next_by connection.state connection.awaiting_ack code (holds connection code input)
