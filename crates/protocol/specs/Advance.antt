-- Document 01, "The record and its tags" and "The published table": the record after a handled event.
use Rattle.std.specs.Prelude.{ℕ, ◌+◌, cond, eqb}
use Rattle.record.specs.Tags.{tag_of}
use Rattle.record.specs.Timer.{Timer, H, HP, HV, DAT, RA, ACK}
use Rattle.protocol.specs.Timers.{starts, ends, tag_after}
use Rattle.record.specs.WellFormed.{cleared}
use Rattle.record.specs.declared.Connection.{Connection}
use Rattle.event.specs.declared.Input.{Input}

-- A handled event raises the number by 1.
abbrev pub raised : Connection → ℕ
raised connection = connection.handled + 1

-- The other bit.
abbrev pub flipped : ℕ → ℕ
flipped bit = cond (eqb bit 0) 1 0

-- Locking sets state 9 and everything else 0 but the number.
abbrev pub locked : (number : ℕ) → Connection
locked number = cleared 9 number

-- 2 sets the flag, 19 clears it.
abbrev pub flag_after : (code flag : ℕ) → ℕ
flag_after code flag = cond (eqb code 2) 1 (cond (eqb code 19) 0 flag)

-- 2 keeps the payload's length, 19 clears it.
abbrev pub length_after : (code payload_len cached_len : ℕ) → ℕ
length_after code payload_len cached_len = cond (eqb code 2) payload_len (cond (eqb code 19) 0 cached_len)

-- 19 flips the next-send bit.
abbrev pub next_send_after : (code bit : ℕ) → ℕ
next_send_after code bit = cond (eqb code 19) (flipped bit) bit

-- 18 flips the expected bit.
abbrev pub expected_after : (code bit : ℕ) → ℕ
expected_after code bit = cond (eqb code 18) (flipped bit) bit

-- The record after an event that doesn't lock; the tags are given.
abbrev pub moved : (Timer → ℕ) → (number : ℕ) → Connection → (code : ℕ) → Input → (to : ℕ) → Connection
moved tags number connection code input to = record {
  state = to;
  awaiting_ack = flag_after code connection.awaiting_ack;
  next_send_bit = next_send_after code connection.next_send_bit;
  expected_bit = expected_after code connection.expected_bit;
  cached_len = length_after code input.payload_len connection.cached_len;
  handled = number;
  h = tags H;
  prover = tags HP;
  verifier = tags HV;
  dat = tags DAT;
  ra = tags RA;
  ack = tags ACK;
}

-- Each timer's tag by its rules.
abbrev pub tags_after : Connection → (code to : ℕ) → Timer → ℕ
tags_after connection code to timer =
    tag_after (starts timer code connection.state to) (ends timer to)
    (raised connection) (tag_of connection timer)

-- The record after a handled event that leads to a state.
unfoldable pub advance : Connection → (code : ℕ) → Input → (to : ℕ) → Connection
advance connection code input to =
    cond (eqb to 9) (locked (raised connection))
    (moved (tags_after connection code to) (raised connection) connection code input to)
