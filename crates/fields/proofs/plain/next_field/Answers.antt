use Rattle.std.proofs.Common.{sym}
use Rattle.fault.proofs.Passed.{passed_on}
use Rattle.fields.proofs.OneField.{key_faulty}
use Rattle.fields.proofs.plain.next_field.Goals as goal

pub returns-in_err-key : goal.returns-in_err-key
returns-in_err-key c =
    let a = c.args in
    rw (passed_on _ c.from_residual.ensures.1)
    (λ f m provers verifiers. key_faulty a.message.number a.place.bytes.now a.place.at f provers verifiers _ (sym c.in_err-key.ensures))

pub returns-in_err-field : goal.returns-in_err-field
returns-in_err-field c = rw (passed_on _ c.from_residual-in_err-field.ensures.1) (c.in_err-field.ensures c.args.has_bit c.args.place.at (sym c.in_ok-key.ensures))

pub returns-then-message-lt-DATA : goal.returns-then-message-lt-DATA
returns-then-message-lt-DATA c = c.in_ok-field.ensures c.args.has_bit c.args.place.at (sym c.in_ok-key.ensures)

pub returns-in_err-field-3 : goal.returns-in_err-field-3
returns-in_err-field-3 c = rw (passed_on _ c.from_residual-in_err-field-3.ensures.1) (c.in_err-field-3.ensures c.args.has_bytes c.args.place.at (sym c.in_ok-key.ensures))

pub returns : goal.returns
returns c = c.in_ok-field-3.ensures c.args.has_bytes c.args.place.at (sym c.in_ok-key.ensures)
