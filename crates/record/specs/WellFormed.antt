-- Document 01, "The record and its tags": the fresh record, and which records are well formed.
use Rattle.std.specs.Prelude.{ℕ, Bool, true, not, ◌&&◌, ◌||◌, cond, [], ◌∷◌, eqb, leb}
use Rattle.record.specs.Limits.{Limits}
use Rattle.table.specs.Sets.{is_in}
use Rattle.record.specs.Tags.{runs_in}
use Rattle.record.specs.Timer.{Timer, H, HP, HV, DAT, RA, ACK}
use Rattle.record.specs.declared.Connection.{Connection}

-- A record with a state and a number, all else 0.
abbrev pub cleared : (state number : ℕ) → Connection
cleared state number = record {
  state = state;
  awaiting_ack = 0;
  next_send_bit = 0;
  expected_bit = 0;
  cached_len = 0;
  handled = number;
  h = 0;
  prover = 0;
  verifier = 0;
  dat = 0;
  ra = 0;
  ack = 0;
}

-- State 0, all else 0.
abbrev pub fresh : Connection
fresh = cleared 0 0

-- State at most 9; bits and flag 0 or 1; length at most the payload limit, and 0 when the flag is 0.
abbrev pub fields_fit : Limits → Connection → Bool
fields_fit limits connection =
    leb connection.state 9
    && leb connection.awaiting_ack 1
    && leb connection.next_send_bit 1
    && leb connection.expected_bit 1
    && leb connection.cached_len limits.payload
    && (eqb connection.cached_len 0 || not (eqb connection.awaiting_ack 0))

-- No tag above the number.
abbrev pub tags_at_most : ℕ → Connection → Bool
tags_at_most number connection =
    leb connection.h number
    && leb connection.prover number
    && leb connection.verifier number
    && leb connection.dat number
    && leb connection.ra number
    && leb connection.ack number

-- Flag 0 in 0, 1, 7, 9 and 1 in 8.
abbrev pub flag_fits : (state flag : ℕ) → Bool
flag_fits state flag = cond (is_in (0 ∷ 1 ∷ 7 ∷ 9 ∷ []) state) (eqb flag 0) (cond (eqb state 8) (eqb flag 1) true)

-- Bits 0 in 0, 1, 9.
abbrev pub bits_fit : (state next_send expected : ℕ) → Bool
bits_fit state next_send expected = cond (is_in (0 ∷ 1 ∷ 9 ∷ []) state) (eqb next_send 0 && eqb expected 0) true

-- Number 0 in state 0.
abbrev pub number_fits : (state number : ℕ) → Bool
number_fits state number = cond (eqb state 0) (eqb number 0) true

-- A timer's tag is on just where the timer runs.
abbrev pub on_just_in : Timer → (state tag : ℕ) → Bool
on_just_in timer state tag = cond (runs_in timer state) (not (eqb tag 0)) (eqb tag 0)

-- What a record has to be in its state.
abbrev pub fits_state : (state : ℕ) → Connection → Bool
fits_state state connection =
    number_fits state connection.handled
    && bits_fit state connection.next_send_bit connection.expected_bit
    && flag_fits state connection.awaiting_ack
    && on_just_in H state connection.h
    && on_just_in HP state connection.prover
    && on_just_in HV state connection.verifier
    && on_just_in DAT state connection.dat
    && on_just_in RA state connection.ra
    && on_just_in ACK state connection.ack

-- The whole list of document 01, as request #102 amends it.
unfoldable pub well_formed : Limits → Connection → Bool
well_formed limits connection =
    fields_fit limits connection && tags_at_most connection.handled connection && fits_state connection.state connection
