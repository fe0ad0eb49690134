-- The record of a handled event, and of its sheet what blocks need, field by field, whether it locks or not.
-- Assumes nothing.
use mathlib.Core.Path.{◌≡◌, refl, sym}
use mathlib.Core.Bool.{Bool, true, false, cond}
use Prim.Native.Nat.{ℕ}
use lib.Dec.{eqb}
use borrow.Author.Tests.{eqb-true}
use Rattle.record.specs.Tags.{tag_of}
use Rattle.record.specs.Timer.{Timer, H, HP, HV, DAT, RA, ACK}
use Rattle.protocol.specs.Actions.{closing, message_of, bit_of, source_of, length_of, locking_actions, moving_actions, orders_of, actions_of}
use Rattle.protocol.specs.Advance.{raised, flag_after, length_after, next_send_after, expected_after, locked, moved, tags_after, advance}
use Rattle.protocol.specs.Orders as order
use Rattle.protocol.specs.declared.Actions.{Actions}
use Rattle.record.specs.declared.Connection.{Connection}
use Rattle.event.specs.declared.Input.{Input}

-- The message of an event that locks, or doesn't.
abbrev pub message_by : (locks : Bool) (code : ℕ) → ℕ
message_by locks code = cond locks (closing code) (message_of code)

module _ (c : Connection) (code : ℕ) (input : Input) (to : ℕ) where
  pub record Advanced (locks : Bool) (r : Connection) : Type 0 where
    pub state : r.state ≡ to
    pub flag : r.awaiting_ack ≡ cond locks 0 (flag_after code c.awaiting_ack)
    pub next_send : r.next_send_bit ≡ cond locks 0 (next_send_after code c.next_send_bit)
    pub expected : r.expected_bit ≡ cond locks 0 (expected_after code c.expected_bit)
    pub length : r.cached_len ≡ cond locks 0 (length_after code input.payload_len c.cached_len)
    pub number : r.handled ≡ raised c
    pub tag : (timer : Timer) → tag_of r timer ≡ tags_after c code to timer

  -- Locking ends every timer and starts none.
  no_tag : (timer : Timer) → to ≡ 9 → tag_of (locked (raised c)) timer ≡ tags_after c code to timer
  no_tag H e = rw e
  no_tag HP e = rw e
  no_tag HV e = rw e
  no_tag DAT e = rw e
  no_tag RA e = rw e
  no_tag ACK e = rw e

  moved_tag : (timer : Timer) → tag_of (moved (tags_after c code to) (raised c) c code input to) timer ≡ tags_after c code to timer
  moved_tag H = refl
  moved_tag HP = refl
  moved_tag HV = refl
  moved_tag DAT = refl
  moved_tag RA = refl
  moved_tag ACK = refl

  advanced_by : (locks : Bool) → eqb to 9 ≡ locks → Advanced locks (cond locks (locked (raised c)) (moved (tags_after c code to) (raised c) c code input to))
  advanced_by true e = record {
    state = sym (eqb-true to 9 e);
    flag = refl;
    next_send = refl;
    expected = refl;
    length = refl;
    number = refl;
    tag = λ timer. no_tag timer (eqb-true to 9 e);
  }
  advanced_by false e = record {
    state = refl;
    flag = refl;
    next_send = refl;
    expected = refl;
    length = refl;
    number = refl;
    tag = moved_tag;
  }

  pub advanced : Advanced (eqb to 9) (advance c code input to)
  unfolding advance
  advanced = advanced_by (eqb to 9) refl

  pub record Ordered (locks : Bool) (a : Actions) : Type 0 where
    pub message : a.message ≡ message_by locks code
    pub bit : a.bit ≡ cond locks 0 (bit_of code c.next_send_bit input.bit)
    pub deliver : a.deliver ≡ cond locks false (eqb code 18)
    pub slice : a.payload_slice ≡ cond locks order.none (source_of code)
    pub length : a.payload_len ≡ cond locks 0 (length_of code c.cached_len input.payload_len)

  ordered_by : (locks : Bool) (orders : Timer → ℕ) → Ordered locks (cond locks (locking_actions orders c code) (moving_actions orders c code input))
  ordered_by true orders = record { message = refl; bit = refl; deliver = refl; slice = refl; length = refl }
  ordered_by false orders = record { message = refl; bit = refl; deliver = refl; slice = refl; length = refl }

  pub ordered : Ordered (eqb to 9) (actions_of c code input to)
  unfolding actions_of
  ordered = ordered_by (eqb to 9) (orders_of c code input to)
