-- An order sheet is read back from its slots.
-- Assumes nothing.
use mathlib.Core.Path.{◌≡◌, refl}
use mathlib.Core.Bool.{Bool, true, false}
use lib.Dec.{eqb}
use Rattle.protocol.specs.Sheet.{as_number, slots_of, actions_in}
use Rattle.protocol.specs.declared.Actions.{Actions}

number_back : (b : Bool) → eqb (as_number b) 1 ≡ b
number_back true = refl
number_back false = refl

pub actions_back : (a : Actions) → actions_in (slots_of a) ≡ a
actions_back a = λ i. record {
  message = a.message;
  prover = a.prover;
  verifier = a.verifier;
  h = a.h;
  hp = a.hp;
  hv = a.hv;
  dat = a.dat;
  ra = a.ra;
  ack = a.ack;
  dat_seconds = a.dat_seconds;
  bit = a.bit;
  deliver = number_back a.deliver i;
  verifier_suite = a.verifier_suite;
  prover_suite = a.prover_suite;
  payload_slice = a.payload_slice;
  payload_len = a.payload_len;
}
