use Rattle.std.proofs.Common.{sym}
use Rattle.fault.proofs.Passed.{passed_on}
use Rattle.fields.proofs.Inner.{cut_off, inside, reads_as, reads_number, reads_refused}
use Rattle.fields.proofs.read_at.Goals as goal

pub returns-in_err-part : goal.returns-in_err-part
returns-in_err-part c =
    let a = c.args in
    let r =
    reads_as _ _ _ _ _ _ _ _ (cut_off a.message a.place.bytes.now a.place.at _ (sym c.in_err-part.ensures))
    (reads_refused a.message _ a.provers.now a.verifiers.now)
    in
    rw (passed_on _ c.from_residual.ensures.1) (record { reads = r.reads; provers_left = r.provers_left; verifiers_left = r.verifiers_left; fits = r.fits })

pub returns-then-message-eq-HELLO : goal.returns-then-message-eq-HELLO
returns-then-message-eq-HELLO c =
    let a = c.args in
    let r =
    reads_as _ _ _ _ _ _ _ _ (inside a.message a.place.bytes.now a.place.at _ _ (sym c.in_ok-part.ensures))
    (reads_number 1 a.message c.if-message-eq-HELLO.true _ _ _ _ _ _ _ _ c.hello_in.ensures)
    in
    record { reads = r.reads; provers_left = r.provers_left; verifiers_left = r.verifiers_left; fits = r.fits }

pub returns : goal.returns
returns c =
    let a = c.args in
    let r =
    reads_as _ _ _ _ _ _ _ _ (inside a.message a.place.bytes.now a.place.at _ _ (sym c.in_ok-part.ensures))
    (c.plain_in.ensures a.provers.now a.verifiers.now)
    in
    record { reads = r.reads; provers_left = r.provers_left; verifiers_left = r.verifiers_left; fits = r.fits }
