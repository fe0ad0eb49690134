use Rattle.std.proofs.Common.{ap, ◌∙◌, List, ℕ, ◌<◌, arith, rules}
use Rattle.wire.specs.Varint.{said, number_from, number_at}
use Rattle.wire.proofs.Varints.{from_place, none_there, one_byte, two_bytes}
use Rattle.wire.proofs.Place.number.Goals as goal

pub returns-then-at-bytes : goal.returns-then-at-bytes
returns-then-at-bytes c = none_there _ _ c.if-at-bytes.true

pub returns-then-first-lt-MORE : goal.returns-then-first-lt-MORE
returns-then-first-lt-MORE c = one_byte _ _ _ c.if-at-bytes.false c.from-first.ensures c.if-first-lt-MORE.true

pub returns-then-second-lt-MORE : goal.returns-then-second-lt-MORE
returns-then-second-lt-MORE c =
    let a_byte : c.from-first.result < 256 = search rules in
    two_bytes c.args.self.bytes.now c.args.self.at _ c.if-at-bytes.false c.from-first.ensures
    _ c.if-first-lt-MORE.false a_byte (omega (arith, c.if-bytes-at-gt1.true)) c.from-second.ensures c.if-second-lt-MORE.true

pub returns : goal.returns
unfolding number_at
returns c =
    c.long_number.ensures
    ∙ ap (λ (l : List ℕ). number_from c.args.self.at (said 10 l)) (from_place c.args.self.bytes.now c.args.self.at)
