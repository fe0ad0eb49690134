-- Document 01, "What the machine covers" and "Shortcuts that look right", and request #104: the kind of an event, which its code fixes.
-- A field is read only from the kind that carries it. Payload and suite lists are slices: see `Call`.
use Rattle.std.specs.Prelude.{ℕ, Bool, false, cond, List, [], ◌∷◌, eqb, get_or}
use Rattle.record.specs.Timer.{Timer, H, HP, HV}
use Rattle.token.specs.Answer.{time_left}
use Rattle.token.specs.Good.{good, good_seconds}
use Rattle.token.specs.SecondsLeft.{margin_too_large}
use Rattle.event.specs.declared.Event.{Event}
use Rattle.event.specs.declared.EventKind.{EventKind}
use Rattle.event.specs.declared.EventKind.TheVariants.{Plain, Tagged, HandshakeTimeout, Bit, Token}

-- The kinds of codes 0 to 23: 4 to 9 and 20 to 23 carry a tag, 20 also the name of its timer, 18 and 19 a bit, 11 and 13 a token.
abbrev pub kinds : Event → List EventKind
kinds event =
    let tagged = Tagged event.tag in
    let timeout = HandshakeTimeout event.tag event.timer in
    let bit = Bit event.bit in
    let token = Token event.token in
    Plain ∷ Plain ∷ Plain ∷ Plain  -- 0 to 3
    ∷ tagged ∷ tagged ∷ tagged ∷ tagged ∷ tagged ∷ tagged  -- 4 to 9
    ∷ Plain ∷ token ∷ Plain ∷ token  -- 10 to 13
    ∷ Plain ∷ Plain ∷ Plain ∷ Plain  -- 14 to 17
    ∷ bit ∷ bit  -- 18, 19
    ∷ timeout ∷ tagged ∷ tagged ∷ tagged  -- 20 to 23
    ∷ []

-- The kind of a code; above 23 there is nothing to read.
abbrev pub kind_at : (code : ℕ) → Event → EventKind
kind_at code event = get_or (kinds event) code Plain

-- The kind of an event.
unfoldable pub kind_of : Event → EventKind
kind_of event = kind_at event.code event

-- The fields of an event, whether its token is good, the seconds left of a good token, and whether its margin is too large.
pub record Fields : Type 0 where
  pub tag : ℕ
  pub timer : ℕ
  pub bit : ℕ
  pub is_good : Bool
  pub seconds : ℕ
  pub large_margin : Bool

-- The fields in their order.
abbrev pub fields : (tag timer bit : ℕ) (is_good : Bool) (seconds : ℕ) (large_margin : Bool) → Fields
fields tag timer bit is_good seconds large_margin = record {
  tag = tag;
  timer = timer;
  bit = bit;
  is_good = is_good;
  seconds = seconds;
  large_margin = large_margin;
}

-- The fields that a kind carries. The others are not read: they count as 0, there is no good token, and no margin too large.
abbrev pub fields_of : EventKind → Fields
fields_of Plain = fields 0 0 0 false 0 false
fields_of (Tagged tag) = fields tag 0 0 false 0 false
fields_of (HandshakeTimeout tag timer) = fields tag timer 0 false 0 false
fields_of (Bit bit) = fields 0 0 bit false 0 false
fields_of (Token token) =
    let left = (time_left token.expiry token.now token.margin).seconds in
    fields 0 0 0 (good token.verdict left) (good_seconds token.verdict left) (margin_too_large token.margin)

-- The handshake timer that event 20 names: 0 H, 1 HP, 2 HV.
abbrev pub named : ℕ → Timer
named name = cond (eqb name 0) H (cond (eqb name 1) HP HV)
