-- An event as a host in C hands it over: the verdict on a token is a number.
use Rattle.std.specs.Prelude.{ℕ, eqb}
use Rattle.event.specs.declared.Event.{Event}
use Rattle.interface.specs.declared.FlatEvent.{FlatEvent}
use Rattle.interface.specs.declared.FlatToken.{FlatToken}

-- The event of document 01.
abbrev pub event_of : FlatEvent → Event
event_of flat = record {
  code = flat.code;
  tag = flat.tag;
  timer = flat.timer;
  bit = flat.bit;
  token = record { verdict = eqb flat.verdict 1; margin = flat.margin; expiry = flat.expiry; now = flat.now };
}

-- An event with a bit, and with what the host says of the token. A message carries no tag and names no timer.
abbrev pub flat_event_with : (code bit : ℕ) → FlatToken → FlatEvent
flat_event_with code bit token = record {
  code = code;
  tag = 0;
  timer = 0;
  bit = bit;
  verdict = token.verdict;
  margin = token.margin;
  expiry = token.expiry;
  now = token.now;
}
