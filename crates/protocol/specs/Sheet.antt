-- The order sheet as a host in C holds it: sixteen numbers, in the order of `Actions`.
use Rattle.std.specs.Prelude.{ℕ, Bool, cond, List, [], ◌∷◌, eqb, get_or}
use Rattle.protocol.specs.declared.Actions.{Actions}

-- Yes or no as a number.
abbrev pub as_number : Bool → ℕ
as_number held = cond held 1 0

-- The slots of an order sheet.
abbrev pub slots_of : Actions → List ℕ
slots_of actions =
    actions.message
    ∷ actions.prover
    ∷ actions.verifier
    ∷ actions.h
    ∷ actions.hp
    ∷ actions.hv
    ∷ actions.dat
    ∷ actions.ra
    ∷ actions.ack
    ∷ actions.dat_seconds
    ∷ actions.bit
    ∷ as_number actions.deliver
    ∷ actions.verifier_suite
    ∷ actions.prover_suite
    ∷ actions.payload_slice
    ∷ actions.payload_len
    ∷ []

-- The order sheet that sixteen numbers are.
abbrev pub actions_in : List ℕ → Actions
actions_in slots = record {
  message = get_or slots 0 0;
  prover = get_or slots 1 0;
  verifier = get_or slots 2 0;
  h = get_or slots 3 0;
  hp = get_or slots 4 0;
  hv = get_or slots 5 0;
  dat = get_or slots 6 0;
  ra = get_or slots 7 0;
  ack = get_or slots 8 0;
  dat_seconds = get_or slots 9 0;
  bit = get_or slots 10 0;
  deliver = eqb (get_or slots 11 0) 1;
  verifier_suite = get_or slots 12 0;
  prover_suite = get_or slots 13 0;
  payload_slice = get_or slots 14 0;
  payload_len = get_or slots 15 0;
}
