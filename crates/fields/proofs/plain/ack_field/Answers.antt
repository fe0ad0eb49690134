use Rattle.std.proofs.Common.{refl, ap, ℕ, eqb, eqb-true, Ok, Err}
use Rattle.fault.proofs.Passed.{passed_on}
use Rattle.fields.specs.Schema.{Bit, form_in}
use Rattle.fields.specs.Steps.{plain_marks}
use Rattle.fields.specs.declared.plain.Field.TheVariants as field
use Rattle.fields.proofs.Content.{bit_content}
use Rattle.fields.proofs.Fitting.{plain_met}
use Rattle.fields.proofs.FittingKeys.{ack_refuses, is_met_in}
use Rattle.fields.proofs.OneField.{key_refused}
use Rattle.fields.proofs.plain.ack_field.Goals as goal

pub returns-in_err-bit : goal.returns-in_err-bit
unfolding form_in
returns-in_err-bit c =
    let t = is_met_in (eqb c.args.message 9) _ 8 c.args.has_bit c.if-is_ack-key.true in
    rw (passed_on _ c.from_residual.ensures.1)
    (λ bytes. plain_met _ _ _ _ (plain_marks bytes _) Bit 8 t.1.0 (ap (λ (n : ℕ). form_in n 1) (eqb-true _ 9 t.0)) refl refl t.1.1 (Err _) (λ f p v. bit_content _ _ f p v (Err _) c.in_err-bit.ensures))

pub returns-then-is_ack-key : goal.returns-then-is_ack-key
unfolding form_in
returns-then-is_ack-key c bytes =
    let t = is_met_in (eqb c.args.message 9) _ 8 c.args.has_bit c.if-is_ack-key.true in
    plain_met _ _ _ _ (plain_marks bytes _) Bit 8 t.1.0 (ap (λ (n : ℕ). form_in n 1) (eqb-true _ 9 t.0)) refl refl t.1.1 (Ok (field.Bit _)) (λ f p v. bit_content _ _ f p v (Ok _) c.in_ok-bit.ensures)

pub returns : goal.returns
returns c =
    let a = c.args in
    λ bytes place e f m provers verifiers.
    key_refused a.message a.content.bytes.now place f provers verifiers _ _ e (plain_marks bytes a.has_bit) m
    _ (ack_refuses a.key a.message bytes a.has_bit c.requires c.if-is_ack-key.false) _ c.misfit.ensures
