-- Document 01, "Order sheet": numbers for its slots. The paper names the orders; the messages' numbers are request #101's, the others ours.
use Rattle.std.specs.Prelude.{ℕ}

-- No message, no order, no payload.
abbrev pub none : ℕ
none = 0

-- The message HELLO.
abbrev pub HELLO : ℕ
HELLO = 1

-- The message CLOSE.
abbrev pub CLOSE : ℕ
CLOSE = 2

-- The message DAT_EXPIRED.
abbrev pub DAT_EXPIRED : ℕ
DAT_EXPIRED = 3

-- The message DAT.
abbrev pub DAT : ℕ
DAT = 4

-- The message RE_RA.
abbrev pub RE_RA : ℕ
RE_RA = 5

-- The message RA_PROVER.
abbrev pub RA_PROVER : ℕ
RA_PROVER = 6

-- The message RA_VERIFIER.
abbrev pub RA_VERIFIER : ℕ
RA_VERIFIER = 7

-- The message DATA.
abbrev pub DATA : ℕ
DATA = 8

-- The message ACK.
abbrev pub ACK : ℕ
ACK = 9

-- A driver or a timer is started.
abbrev pub start : ℕ
start = 1

-- A driver is stopped.
abbrev pub stop : ℕ
stop = 2

-- A message is passed on to a driver.
abbrev pub forward : ℕ
forward = 3

-- A timer is cancelled.
abbrev pub cancel : ℕ
cancel = 2

-- The payload is a part of the event's.
abbrev pub of_event : ℕ
of_event = 1

-- The payload is a part of the cache.
abbrev pub of_cache : ℕ
of_cache = 2
