-- An outcome over a record that is lent in numbers, as `decide` promises it. No definition rests on this file.
use Rattle.std.specs.Prelude.{ℕ, Option, None, Some}
use Rattle.record.specs.declared.Connection.{Connection}
use Rattle.protocol.specs.declared.Answer.{Answer}
use Rattle.protocol.specs.declared.Answer.TheVariants.{Handled, Ignored, Refused}
use Rattle.protocol.specs.declared.Outcome.{Outcome}

-- The record that is lent, after an answer: only a handled event writes it.
abbrev pub record_after : Answer → (after before : Connection) → Connection
record_after Handled after before = after
record_after Ignored after before = before
record_after (Refused number) after before = before

-- The outcome with the lent record as it is then.
abbrev pub lent : (before : Connection) → Outcome → Outcome
lent before outcome = record {
  answer = outcome.answer;
  connection = record_after outcome.answer outcome.connection before;
  actions = outcome.actions;
}

-- The answer where nothing moves: refused or, without a refusal, ignored.
abbrev pub unmoved_answer : Option ℕ → Answer
unmoved_answer None = Ignored
unmoved_answer (Some number) = Refused number
