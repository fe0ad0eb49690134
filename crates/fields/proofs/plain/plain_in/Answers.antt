use Rattle.std.proofs.Common.{sym}
use Rattle.fault.specs.declared.Refusal.TheVariants.{UnexpectedField}
use Rattle.fault.proofs.Passed.{passed_on}
use Rattle.fields.proofs.Inner.{inner_read, inner_refused, inner_trailing, reads_as, reads_plain, reads_refused}
use Rattle.fields.proofs.plain.plain_in.Goals as goal

pub returns-in_err-plain : goal.returns-in_err-plain
returns-in_err-plain c =
    let a = c.args in
    rw (passed_on _ c.from_residual.ensures.1)
    (λ provers verifiers. reads_as _ _ _ _ provers verifiers provers verifiers (sym (inner_refused a.message.number a.bytes.now a.part.place a.part.size c.requires _ c.in_err-plain.ensures))
    (reads_refused _ _ provers verifiers))

pub returns-then-end-bytes : goal.returns-then-end-bytes
returns-then-end-bytes c =
    let a = c.args in
    λ provers verifiers. reads_as _ _ _ _ provers verifiers provers verifiers (sym (inner_trailing a.message.number a.bytes.now a.part.place a.part.size c.requires _ c.in_ok-plain.ensures c.if-end-bytes.true))
    (reads_refused _ UnexpectedField provers verifiers)

pub returns : goal.returns
returns c =
    let a = c.args in
    λ provers verifiers. reads_as _ _ _ _ provers verifiers provers verifiers (sym (inner_read a.message.number a.bytes.now a.part.place a.part.size c.requires _ c.in_ok-plain.ensures c.if-end-bytes.false))
    (reads_plain a.message.number _ _ c.args.message.not_hello provers verifiers)
