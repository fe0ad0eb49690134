-- Document 01, "The five notes": what the notes can say. None of them names a state.
use Rattle.std.specs.Prelude.{Bool, true, false, not, ◌&&◌}

-- The opening note: `hello_sent` is document 01's "greeted", `opened` its "open".
pub data Opening : Type 0 where
  fresh hello_sent opened locked : Opening

-- The prover note and the verifier note: the latest run of the driver. It is off before the opening, the verifier also while the token is missing.
pub data DriverRun : Type 0 where
  off running good : DriverRun

-- The five notes, but for the bits and the bytes of the block.
pub record Notes : Type 0 where
  -- Opening.
  pub opening : Opening
  -- Token: whether it is current. Open and not current, it is missing.
  pub current : Bool
  -- Prover.
  pub prover : DriverRun
  -- Verifier.
  pub verifier : DriverRun
  -- Block: whether one was accepted that is not yet acknowledged.
  pub waiting : Bool

-- No event has been counted.
abbrev pub is_fresh : Opening → Bool
is_fresh fresh = true
is_fresh hello_sent = false
is_fresh opened = false
is_fresh locked = false

-- Our hello is sent, the peer's is awaited.
abbrev pub is_hello_sent : Opening → Bool
is_hello_sent fresh = false
is_hello_sent hello_sent = true
is_hello_sent opened = false
is_hello_sent locked = false

-- Open.
abbrev pub is_open : Opening → Bool
is_open fresh = false
is_open hello_sent = false
is_open opened = true
is_open locked = false

-- The run goes on.
abbrev pub is_running : DriverRun → Bool
is_running off = false
is_running running = true
is_running good = false

-- The run has succeeded.
abbrev pub is_good : DriverRun → Bool
is_good off = false
is_good running = false
is_good good = true

-- The token is missing.
abbrev pub is_missing : Notes → Bool
is_missing notes = is_open notes.opening && not notes.current

-- Open, the token current, both runs good.
abbrev pub attested : Notes → Bool
attested notes = is_open notes.opening && notes.current && is_good notes.prover && is_good notes.verifier
