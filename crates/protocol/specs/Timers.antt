-- Document 01, "Timers", as request #102 amends it: when each timer starts, and when it ends.
-- RA goes by its states like the others: event 4 alone leads into them, and out of them lead just what starts a verifier, 21 and locking.
use Rattle.std.specs.Prelude.{ℕ, Bool, false, not, ◌&&◌, ◌||◌, cond, [], ◌∷◌, eqb}
use Rattle.protocol.specs.Orders.{none, start, cancel}
use Rattle.record.specs.Tags.{runs_in}
use Rattle.record.specs.Timer.{Timer, H, HP, HV, DAT, RA, ACK}
use Rattle.table.specs.Sets.{is_in}

-- The events that start the prover in the published table. Event 11 does so only if it does not lock.
abbrev pub starts_prover : ℕ → Bool
starts_prover = is_in (11 ∷ 14 ∷ 17 ∷ [])

-- Those that start the verifier. Events 11 and 13 do so only if they do not lock.
abbrev pub starts_verifier : ℕ → Bool
starts_verifier = is_in (3 ∷ 11 ∷ 13 ∷ 22 ∷ [])

-- The events that start a timer that may be running: HP and HV with every start of their driver, ACK with every repeat.
abbrev pub starts_again : Timer → (code : ℕ) → Bool
starts_again H code = false
starts_again HP code = starts_prover code
starts_again HV code = starts_verifier code
starts_again DAT code = false
starts_again RA code = false
starts_again ACK code = eqb code 23

-- A timer starts on coming into its states, or again within them. State 9 is no timer's, so locking starts none.
abbrev pub starts : Timer → (code from to : ℕ) → Bool
starts timer code from to = runs_in timer to && (not (runs_in timer from) || starts_again timer code)

-- A timer ends, or is off already, where the next state is none of its states.
abbrev pub ends : Timer → (to : ℕ) → Bool
ends timer to = not (runs_in timer to)

-- Whether the event reports this timer. Event 20 names one of the handshake timers: 0 H, 1 HP, 2 HV.
abbrev pub reports : Timer → (code name : ℕ) → Bool
reports H code name = eqb code 20 && eqb name 0
reports HP code name = eqb code 20 && eqb name 1
reports HV code name = eqb code 20 && eqb name 2
reports DAT code name = eqb code 21
reports RA code name = eqb code 22
reports ACK code name = eqb code 23

-- The tag after an event: what starts carries the new number, what ends has 0.
abbrev pub tag_after : (started ended : Bool) (number tag : ℕ) → ℕ
tag_after started ended number tag = cond started number (cond ended 0 tag)

-- The order to a timer: starting what runs is one start; the timer that reports, or one with tag 0, gets no cancel.
abbrev pub timer_order : (started ended reported : Bool) (tag : ℕ) → ℕ
timer_order started ended reported tag = cond started start (cond (ended && not reported && not (eqb tag 0)) cancel none)
