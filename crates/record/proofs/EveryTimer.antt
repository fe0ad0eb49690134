-- A test of every timer, which antt computes, and what it says of one.
-- Assumes nothing.
use mathlib.Core.Bool.{Bool, ◌&&◌}
use lib.Dec.{T}
use Rattle.record.specs.Timer.{Timer, H, HP, HV, DAT, RA, ACK}
use Rattle.table.proofs.Finite.{and_left, and_right}

abbrev pub timers : (Timer → Bool) → Bool
timers p = p H && (p HP && (p HV && (p DAT && (p RA && p ACK))))

pub timers_at : (p : Timer → Bool) → T (timers p) → (timer : Timer) → T (p timer)
timers_at p t H = search and_left
timers_at p t HP = search (and_left, and_right) depth 16
timers_at p t HV = search (and_left, and_right) depth 16
timers_at p t DAT = search (and_left, and_right) depth 16
timers_at p t RA = search (and_left, and_right) depth 16
timers_at p t ACK = search (and_left, and_right) depth 16
