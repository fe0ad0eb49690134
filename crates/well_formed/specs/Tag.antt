-- Tags in a state, as the code has them. No definition rests on this file: private functions promise it.
use Rattle.std.specs.Prelude.{ℕ, Bool, not, ◌&&◌, cond, eqb}
use Rattle.record.specs.declared.Connection.{Connection}
use Rattle.well_formed.specs.declared.by_state.Tags.{Tags}

-- A tag is on where its driver or timer runs, and off elsewhere.
abbrev pub on_just : (runs : Bool) (tag : ℕ) → Bool
on_just runs tag = cond runs (not (eqb tag 0)) (eqb tag 0)

-- Just the tags of a record are on that are to be.
abbrev pub tags_fit : (on : Tags) → Connection → Bool
tags_fit on connection =
    on_just on.h connection.h
    && on_just on.prover connection.prover
    && on_just on.verifier connection.verifier
    && on_just on.dat connection.dat
    && on_just on.ra connection.ra
    && on_just on.ack connection.ack
