use Rattle.std.proofs.Common.{◌≡◌, ap, ◌∙◌, ℕ, suc, ◌+◌, ◌-◌, ◌<◌, drop, arith}
use Rattle.wire.specs.Varint.{said}
use Rattle.wire.specs.Bytes.{behind}
use Rattle.wire.proofs.Varints.{ended, last, more, product, heavier}
use Rattle.wire.proofs.varint.first_bytes.Goals as goal

pub returns-then-byte-lt-MORE : goal.returns-then-byte-lt-MORE
returns-then-byte-lt-MORE c =
    let l = c.loop-at in
    let e = c.from-byte.ensures in
    l.invariant.3
    ∙ last _ l.low l.scale l.at c.loop-at-test.true (10 - l.at) (omega arith) (omega arith)
    ∙ rw (e)

pub loop-at-preserved : goal.loop-at-preserved
loop-at-preserved c =
    let l = c.loop-at in
    let b = c.args.bytes.now in
    let e = c.from-byte.ensures in
    let seven_bits : c.from-byte.result - 128 < 128 = omega (arith, c.type_inv.bytes l.at) in
    let n : 10 - l.at ≡ suc (10 - (l.at + 1)) = omega arith in (
      omega arith,
      heavier l.at l.scale l.invariant.1,
      omega (arith, product l.scale _ seven_bits),
      l.invariant.3
          ∙ ap (λ (k : ℕ). behind l.low l.scale l.at (said k (drop l.at b))) n
          ∙ rw (e) (more b l.low l.scale l.at c.loop-at-test.true (10 - (l.at + 1)) (omega arith)),
    )

pub returns : goal.returns
returns c =
    let l = c.loop-at in
    l.invariant.3 ∙ ended _ l.low l.scale l.at (10 - l.at) (omega arith) (omega arith)
