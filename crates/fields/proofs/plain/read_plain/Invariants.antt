-- The fields read so far, with those to come, are the message.
use Rattle.std.proofs.Common.{ℕ, ◌-◌, [], length, Option, is_some, unwrap_or}
use Rattle.wire.specs.declared.block.Span.{Span}
use Rattle.fields.specs.Fields.{Fields, fields}
use Rattle.fields.specs.Steps.{plain_marks}
use Rattle.fields.proofs.Onward.{Onward, span_or_none}
use Rattle.fields.proofs.plain.read_plain.Given as goal

-- What the locals hold.
abbrev pub state : Option Span → Option ℕ → Fields
state part bit =
    let span = span_or_none part in
    fields (plain_marks (is_some part) (is_some bit)) span.place span.size (unwrap_or bit 0) 0 0

abbrev pub invariant-loop-at : goal.invariant-loop-at
invariant-loop-at l = Onward l.message.number l.bytes l.start (state l.part l.bit) [] [] l.at

abbrev pub decreases-loop-at : goal.decreases-loop-at
decreases-loop-at l = length l.bytes - l.at
