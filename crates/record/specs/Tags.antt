-- Document 01, "The record and its tags": the tags of the timers, and where each runs.
use Rattle.std.specs.Prelude.{ℕ, Bool, [], ◌∷◌}
use Rattle.table.specs.Sets.{is_in}
use Rattle.record.specs.Timer.{Timer, H, HP, HV, DAT, RA, ACK}
use Rattle.record.specs.declared.Connection.{Connection}

-- A timer's tag. HP shares the prover's and HV the verifier's.
abbrev pub tag_of : Connection → Timer → ℕ
tag_of connection H = connection.h
tag_of connection HP = connection.prover
tag_of connection HV = connection.verifier
tag_of connection DAT = connection.dat
tag_of connection RA = connection.ra
tag_of connection ACK = connection.ack

-- The states in which a timer runs: its tag is on just there. RA is off in 5 and 6 by request #102.
abbrev pub runs_in : Timer → ℕ → Bool
runs_in H = is_in (1 ∷ 5 ∷ 6 ∷ [])
runs_in HP = is_in (2 ∷ 3 ∷ 5 ∷ [])
runs_in HV = is_in (2 ∷ 4 ∷ [])
runs_in DAT = is_in (2 ∷ 3 ∷ 4 ∷ 7 ∷ 8 ∷ [])
runs_in RA = is_in (3 ∷ 7 ∷ 8 ∷ [])
runs_in ACK = is_in (8 ∷ [])
