-- What is left of the bytes says what is left of the number.
use Rattle.std.proofs.Common.{◌-◌, ◌≡◌, ◌≤◌, ◌<◌, ◌^◌, drop}
use Rattle.wire.specs.Varint.{said}
use Rattle.wire.specs.Bytes.{behind}
use Rattle.wire.proofs.varint.first_bytes.Given as goal

abbrev pub invariant-loop-at : goal.invariant-loop-at
invariant-loop-at l =
    (l.at ≤ l.most)
    × (l.scale ≡ 128 ^ l.at)
    × (l.low < l.scale)
    × (said 10 l.bytes ≡ behind l.low l.scale l.at (said (10 - l.at) (drop l.at l.bytes)))
