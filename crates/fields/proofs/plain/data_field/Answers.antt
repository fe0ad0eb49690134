use Rattle.std.proofs.Common.{refl, Ok, Err}
use Rattle.fault.proofs.Passed.{passed_on}
use Rattle.fields.specs.Schema.{Bytes, Bit, form_in}
use Rattle.fields.specs.Steps.{plain_marks}
use Rattle.fields.specs.declared.plain.Field.TheVariants as field
use Rattle.fields.proofs.Content.{bit_content, bytes_content}
use Rattle.fields.proofs.Fitting.{plain_met}
use Rattle.fields.proofs.FittingKeys.{data_refuses, is_met}
use Rattle.fields.proofs.OneField.{key_refused}
use Rattle.fields.proofs.plain.data_field.Goals as goal

pub returns-in_err-part : goal.returns-in_err-part
unfolding form_in
returns-in_err-part c =
    let t = is_met _ 10 c.args.has_bytes c.if-key-has_bytes.true in
    rw (passed_on _ c.from_residual.ensures.1)
    (plain_met 8 _ _ _ (plain_marks _ _) Bytes 10 t.0 refl refl refl t.1 (Err _) (λ f p v. bytes_content _ _ f p v (Err _) c.in_err-part.ensures))

pub returns-then-key-has_bytes : goal.returns-then-key-has_bytes
unfolding form_in
returns-then-key-has_bytes c =
    let t = is_met _ 10 c.args.has_bytes c.if-key-has_bytes.true in
    plain_met 8 _ _ _ (plain_marks _ _) Bytes 10 t.0 refl refl refl t.1 (Ok (field.Bytes _)) (λ f p v. bytes_content _ _ f p v (Ok _) c.in_ok-part.ensures)

pub returns-in_err-bit : goal.returns-in_err-bit
unfolding form_in
returns-in_err-bit c =
    let t = is_met _ 16 c.args.has_bit c.if-key-has_bit.true in
    rw (passed_on _ c.from_residual-in_err-bit.ensures.1)
    (plain_met 8 _ _ _ (plain_marks _ _) Bit 16 t.0 refl refl refl t.1 (Err _) (λ f p v. bit_content _ _ f p v (Err _) c.in_err-bit.ensures))

pub returns-then-key-has_bit : goal.returns-then-key-has_bit
unfolding form_in
returns-then-key-has_bit c =
    let t = is_met _ 16 c.args.has_bit c.if-key-has_bit.true in
    plain_met 8 _ _ _ (plain_marks _ _) Bit 16 t.0 refl refl refl t.1 (Ok (field.Bit _)) (λ f p v. bit_content _ _ f p v (Ok _) c.in_ok-bit.ensures)

pub returns : goal.returns
returns c =
    let a = c.args in
    λ place e f m provers verifiers.
    key_refused 8 a.content.bytes.now place f provers verifiers _ _ e (plain_marks a.has_bytes a.has_bit) m
    _ (data_refuses a.key a.has_bytes a.has_bit c.if-key-has_bytes.false c.if-key-has_bit.false) _ c.misfit.ensures
