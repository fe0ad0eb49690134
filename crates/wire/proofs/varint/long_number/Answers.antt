use Rattle.std.proofs.Common.{sym, ap, subst, ◌∙◌, length, arith}
use Rattle.wire.specs.Varint.{number_from}
use Rattle.wire.proofs.Places.{Fits, fits}
use Rattle.wire.proofs.Varints.{tenth_large, tenth_zero}
use Rattle.wire.proofs.varint.long_number.Goals as goal

pub overflow_add-place : goal.overflow_add-place
overflow_add-place c =
    let b = c.args.bytes.now in
    omega (arith, (subst (Fits (length b)) c.in-Value.ensures (fits 10 b)).1, c.requires)

pub returns-then-bytes-gt-LARGEST_TENTH : goal.returns-then-bytes-gt-LARGEST_TENTH
returns-then-bytes-gt-LARGEST_TENTH c =
    tenth_large c.args.bytes.now c.args.place _ c.in-More.ensures.0 (omega (arith, c.if-bytes-gt-LARGEST_TENTH.true))
    ∙ sym (ap (number_from c.args.place) c.in-More.ensures.1)

pub returns-else-bytes-gt-LARGEST_TENTH : goal.returns-else-bytes-gt-LARGEST_TENTH
returns-else-bytes-gt-LARGEST_TENTH c =
    c.fitting-in-More.ensures
    ∙ tenth_zero c.args.bytes.now c.args.place _ c.in-More.ensures.0 (omega (arith, c.if-bytes-gt-LARGEST_TENTH.false))
    ∙ sym (ap (number_from c.args.place) c.in-More.ensures.1)
