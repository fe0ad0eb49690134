use Rattle.std.proofs.Common.{sym}
use Rattle.fault.specs.declared.Refusal.TheVariants.{UnexpectedField}
use Rattle.fault.proofs.Passed.{passed_on}
use Rattle.fields.proofs.Inner.{inner_read, inner_refused, inner_trailing, reads_as, reads_hello, reads_refused}
use Rattle.fields.proofs.hello.hello_in.Goals as goal

pub returns-in_err-held : goal.returns-in_err-held
returns-in_err-held c =
    let a = c.args in
    rw (passed_on _ c.from_residual.ensures.1)
    (reads_as _ _ _ _ _ _ _ _ (sym (inner_refused 1 a.bytes.now a.part.place a.part.size c.requires _ c.in_err-held.ensures.reads))
    (reads_refused _ _ a.provers.now a.verifiers.now))

pub returns-then-end-bytes : goal.returns-then-end-bytes
returns-then-end-bytes c =
    let a = c.args in
    reads_as _ _ _ _ _ _ _ _ (sym (inner_trailing 1 a.bytes.now a.part.place a.part.size c.requires _ c.in_ok-held.ensures.reads c.if-end-bytes.true))
    (reads_refused _ UnexpectedField a.provers.now a.verifiers.now)

pub returns : goal.returns
returns c =
    let a = c.args in
    let lists = c.read_hello.new in
    let t = c.in_ok-held.ensures.counts in
    reads_as _ _ _ _ _ _ _ _ (sym (inner_read 1 a.bytes.now a.part.place a.part.size c.requires _ c.in_ok-held.ensures.reads c.if-end-bytes.false))
    (reads_hello _ a.provers.now a.verifiers.now lists.provers lists.verifiers t.0 t.1)
