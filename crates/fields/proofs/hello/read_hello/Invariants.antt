-- The fields read so far, with those to come, are the message.
use Rattle.std.proofs.Common.{◌-◌, length, unwrap_or}
use Rattle.fields.specs.Fields.{Fields, Tidy, fields}
use Rattle.fields.specs.Steps.{hello_marks}
use Rattle.fields.specs.declared.hello.Found.{Found}
use Rattle.fields.proofs.Onward.{Onward, span_or_none}
use Rattle.fields.proofs.hello.read_hello.Given as goal

-- What the locals hold.
abbrev pub state : Found → Fields
state found =
    let token = span_or_none found.token in
    fields (hello_marks found) token.place token.size 0 (unwrap_or found.provers 0) (unwrap_or found.verifiers 0)

abbrev pub invariant-loop-at : goal.invariant-loop-at
invariant-loop-at l =
    Onward 1 l.bytes l.start (state l.found) l.provers l.verifiers l.at × Tidy (state l.found) l.provers l.verifiers

abbrev pub decreases-loop-at : goal.decreases-loop-at
decreases-loop-at l = length l.bytes - l.at
