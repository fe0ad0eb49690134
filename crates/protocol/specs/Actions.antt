-- Document 01, "Order sheet" and "Timers": the actions that a handled event orders.
use Rattle.std.specs.Prelude.{ℕ, Bool, false, not, ◌&&◌, cond, [], ◌∷◌, eqb}
use Rattle.protocol.specs.Orders as order
use Rattle.table.specs.Sets.{is_in}
use Rattle.event.specs.Call.{carries_payload}
use Rattle.record.specs.Tags.{tag_of}
use Rattle.record.specs.Timer.{Timer, H, HP, HV, DAT, RA, ACK}
use Rattle.protocol.specs.Timers.{starts, ends, reports, starts_prover, starts_verifier, timer_order}
use Rattle.protocol.specs.declared.Actions.{Actions}
use Rattle.record.specs.declared.Connection.{Connection}
use Rattle.event.specs.declared.Input.{Input}

-- The empty order sheet.
abbrev pub no_actions : Actions
no_actions = record {
  message = order.none;
  prover = order.none;
  verifier = order.none;
  h = order.none;
  hp = order.none;
  hv = order.none;
  dat = order.none;
  ra = order.none;
  ack = order.none;
  dat_seconds = 0;
  bit = 0;
  deliver = false;
  verifier_suite = 0;
  prover_suite = 0;
  payload_slice = order.none;
  payload_len = 0;
}

-- Locking sends CLOSE; 10 and 12 lock silently.
abbrev pub closing : (code : ℕ) → ℕ
closing code = cond (is_in (10 ∷ 12 ∷ []) code) order.none order.CLOSE

-- A running driver is stopped, unless it has reported OK or FAILED.
abbrev pub stopped : (reported : Bool) (tag : ℕ) → ℕ
stopped reported tag = cond (not reported && not (eqb tag 0)) order.stop order.none

-- The actions of an event that locks; the orders to the timers are given.
abbrev pub locking_actions : (Timer → ℕ) → Connection → (code : ℕ) → Actions
locking_actions orders connection code = record {
  message = closing code;
  prover = stopped (is_in (7 ∷ 8 ∷ []) code) connection.prover;
  verifier = stopped (is_in (4 ∷ 5 ∷ []) code) connection.verifier;
  h = orders H;
  hp = orders HP;
  hv = orders HV;
  dat = orders DAT;
  ra = orders RA;
  ack = orders ACK;
  dat_seconds = 0;
  bit = 0;
  deliver = false;
  verifier_suite = 0;
  prover_suite = 0;
  payload_slice = order.none;
  payload_len = 0;
}

-- The message of an event that doesn't lock.
abbrev pub message_of : (code : ℕ) → ℕ
message_of code =
    cond (eqb code 0) order.HELLO
    (cond (is_in (2 ∷ 23 ∷ []) code) order.DATA
    (cond (is_in (3 ∷ 22 ∷ []) code) order.RE_RA
    (cond (eqb code 6) order.RA_VERIFIER
    (cond (eqb code 9) order.RA_PROVER
    (cond (eqb code 14) order.DAT
    (cond (eqb code 18) order.ACK
    (cond (eqb code 21) order.DAT_EXPIRED order.none)))))))

-- The prover's order: event 16 is passed to it.
abbrev pub prover_order : (code : ℕ) → ℕ
prover_order code = cond (starts_prover code) order.start (cond (eqb code 16) order.forward order.none)

-- The verifier's order: event 21 stops it if it runs, event 15 is passed to it.
abbrev pub verifier_order : (code tag : ℕ) → ℕ
verifier_order code tag =
    cond (starts_verifier code) order.start
    (cond (eqb code 21) (stopped false tag)
    (cond (eqb code 15) order.forward order.none))

-- The bit of DATA is the next-send bit, that of ACK the event's.
abbrev pub bit_of : (code next_send bit : ℕ) → ℕ
bit_of code next_send bit = cond (is_in (2 ∷ 23 ∷ []) code) next_send (cond (eqb code 18) bit 0)

-- The slice of the payload: the cache for 2 and 23, the event's payload for 6, 9, 15, 16, 18.
abbrev pub source_of : (code : ℕ) → ℕ
source_of code =
    cond (is_in (2 ∷ 23 ∷ []) code) order.of_cache
    (cond (is_in (6 ∷ 9 ∷ 15 ∷ 16 ∷ 18 ∷ []) code) order.of_event order.none)

-- Its length: the cached length for 23, the length of the event's payload if it carries one, else 0.
abbrev pub length_of : (code cached_len payload_len : ℕ) → ℕ
length_of code cached_len payload_len = cond (eqb code 23) cached_len (cond (carries_payload code) payload_len 0)

-- The actions of an event that doesn't lock; the orders to the timers are given. They have both suites on opening.
abbrev pub moving_actions : (Timer → ℕ) → Connection → (code : ℕ) → Input → Actions
moving_actions orders connection code input = record {
  message = message_of code;
  prover = prover_order code;
  verifier = verifier_order code connection.verifier;
  h = orders H;
  hp = orders HP;
  hv = orders HV;
  dat = orders DAT;
  ra = orders RA;
  ack = orders ACK;
  dat_seconds = cond (eqb (orders DAT) order.start) input.seconds 0;
  bit = bit_of code connection.next_send_bit input.bit;
  deliver = eqb code 18;
  verifier_suite = cond (eqb code 11) input.suites.verifier 0;
  prover_suite = cond (eqb code 11) input.suites.prover 0;
  payload_slice = source_of code;
  payload_len = length_of code connection.cached_len input.payload_len;
}

-- Each timer's order by its rules.
abbrev pub orders_of : Connection → (code : ℕ) → Input → (to : ℕ) → Timer → ℕ
orders_of connection code input to timer =
    timer_order (starts timer code connection.state to) (ends timer to)
    (reports timer code input.timer) (tag_of connection timer)

-- The actions of a handled event that leads to a state.
unfoldable pub actions_of : Connection → (code : ℕ) → Input → (to : ℕ) → Actions
actions_of connection code input to =
    cond (eqb to 9) (locking_actions (orders_of connection code input to) connection code)
    (moving_actions (orders_of connection code input to) connection code input)
