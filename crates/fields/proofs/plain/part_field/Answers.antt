use Rattle.std.proofs.Common.{refl, Ok, Err}
use Rattle.fault.proofs.Passed.{passed_on}
use Rattle.fields.specs.Schema.{Bytes}
use Rattle.fields.specs.Steps.{plain_marks}
use Rattle.fields.specs.declared.plain.Field.TheVariants as field
use Rattle.fields.proofs.Content.{bytes_content}
use Rattle.fields.proofs.Fitting.{plain_met}
use Rattle.fields.proofs.FittingKeys.{has_bytes, has_part, is_met_in, part_refuses}
use Rattle.fields.proofs.OneField.{key_refused}
use Rattle.fields.proofs.plain.part_field.Goals as goal

pub returns-in_err-part : goal.returns-in_err-part
returns-in_err-part c =
    let t = is_met_in (has_part c.args.message.number) _ 10 c.args.has_bytes c.if-has_part-key.true in
    rw (passed_on _ c.from_residual.ensures.1)
    (λ bit. plain_met _ _ _ _ (plain_marks _ bit) Bytes 10 t.1.0 (has_bytes _ t.0) refl refl t.1.1 (Err _) (λ f p v. bytes_content _ _ f p v (Err _) c.in_err-part.ensures))

pub returns-then-has_part-key : goal.returns-then-has_part-key
returns-then-has_part-key c bit =
    let t = is_met_in (has_part c.args.message.number) _ 10 c.args.has_bytes c.if-has_part-key.true in
    plain_met _ _ _ _ (plain_marks _ bit) Bytes 10 t.1.0 (has_bytes _ t.0) refl refl t.1.1 (Ok (field.Bytes _)) (λ f p v. bytes_content _ _ f p v (Ok _) c.in_ok-part.ensures)

pub returns : goal.returns
returns c =
    let a = c.args in
    λ bit place e f m provers verifiers.
    key_refused a.message.number a.content.bytes.now place f provers verifiers _ _ e (plain_marks a.has_bytes bit) m
    _ (part_refuses a.key a.message.number a.has_bytes bit a.message.not_hello c.requires c.if-has_part-key.false) _ c.misfit.ensures
