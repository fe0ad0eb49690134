-- The record as a host in C holds it: twelve numbers, in document 01's order.
use Rattle.std.specs.Prelude.{ℕ, List, [], ◌∷◌, get_or}
use Rattle.record.specs.declared.Connection.{Connection}

-- The fields of a record, in document 01's order.
abbrev pub numbers_of : Connection → List ℕ
numbers_of connection =
    connection.state
    ∷ connection.awaiting_ack
    ∷ connection.next_send_bit
    ∷ connection.expected_bit
    ∷ connection.cached_len
    ∷ connection.handled
    ∷ connection.h
    ∷ connection.prover
    ∷ connection.verifier
    ∷ connection.dat
    ∷ connection.ra
    ∷ connection.ack
    ∷ []

-- The record that twelve numbers are.
abbrev pub record_in : List ℕ → Connection
record_in numbers = record {
  state = get_or numbers 0 0;
  awaiting_ack = get_or numbers 1 0;
  next_send_bit = get_or numbers 2 0;
  expected_bit = get_or numbers 3 0;
  cached_len = get_or numbers 4 0;
  handled = get_or numbers 5 0;
  h = get_or numbers 6 0;
  prover = get_or numbers 7 0;
  verifier = get_or numbers 8 0;
  dat = get_or numbers 9 0;
  ra = get_or numbers 10 0;
  ack = get_or numbers 11 0;
}
