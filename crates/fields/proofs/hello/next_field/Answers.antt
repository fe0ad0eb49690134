use Rattle.std.proofs.Common.{◌≡◌, refl, sym, ◌∙◌, false, Ok, Err}
use Rattle.fault.proofs.Passed.{passed_on}
use Rattle.fields.specs.Schema.{Bytes, Provers, Verifiers, form_in}
use Rattle.fields.specs.Fields.{marks}
use Rattle.fields.specs.declared.hello.Field.TheVariants as field
use Rattle.fields.proofs.Content.{bytes_content, provers_content, verifiers_content}
use Rattle.fields.proofs.Fitting.{hello_met}
use Rattle.fields.proofs.FittingKeys.{hello_refuses, is_met}
use Rattle.fields.proofs.OneField.{key_faulty, key_refused}
use Rattle.fields.proofs.hello.next_field.Goals as goal

pub returns-in_err-key : goal.returns-in_err-key
returns-in_err-key c =
    let a = c.args in
    rw (passed_on _ c.from_residual.ensures.1)
    (λ f m. key_faulty 1 a.place.bytes.now a.place.at f a.provers.now a.verifiers.now _ (sym c.in_err-key.ensures))

pub returns-in_err-token : goal.returns-in_err-token
unfolding form_in
returns-in_err-token c =
    let t = is_met _ 10 c.is_some-has_token.result c.if-key-has_token.true in
    rw (passed_on _ c.from_residual-in_err-token.ensures.1) (hello_met _ _ _ _ (sym c.in_ok-key.ensures) _ Bytes 10 t.0 refl refl refl (sym c.is_some-has_token.ensures ∙ t.1) (Err _) _ _ _ _ (λ f. bytes_content _ _ f _ _ (Err _) c.in_err-token.ensures))

pub returns-then-key-has_token : goal.returns-then-key-has_token
unfolding form_in
returns-then-key-has_token c =
    let t = is_met _ 10 c.is_some-has_token.result c.if-key-has_token.true in
    hello_met _ _ _ _ (sym c.in_ok-key.ensures) _ Bytes 10 t.0 refl refl refl (sym c.is_some-has_token.ensures ∙ t.1) (Ok (field.Token _)) _ _ _ _ (λ f. bytes_content _ _ f _ _ (Ok _) c.in_ok-token.ensures)

pub returns-in_err-list : goal.returns-in_err-list
unfolding form_in
returns-in_err-list c =
    let t = is_met _ 18 c.is_some-has_provers.result c.if-key-has_provers.true in
    rw (passed_on _ c.from_residual-in_err-list.ensures.1) (hello_met _ _ _ _ (sym c.in_ok-key.ensures) _ Provers 18 t.0 refl refl refl (sym c.is_some-has_provers.ensures ∙ t.1) (Err _) _ _ _ _ (λ f. provers_content _ _ f _ _ _ (Err _) c.in_err-list.ensures.suites_after c.in_err-list.ensures.stored))

pub returns-then-key-has_provers : goal.returns-then-key-has_provers
unfolding form_in
returns-then-key-has_provers c =
    let t = is_met _ 18 c.is_some-has_provers.result c.if-key-has_provers.true in
    hello_met _ _ _ _ (sym c.in_ok-key.ensures) _ Provers 18 t.0 refl refl refl (sym c.is_some-has_provers.ensures ∙ t.1) (Ok (field.Provers _)) _ _ _ _ (λ f. provers_content _ _ f _ _ _ (Ok _) c.in_ok-list.ensures.suites_after c.in_ok-list.ensures.stored)

pub returns-in_err-list-2 : goal.returns-in_err-list-2
unfolding form_in
returns-in_err-list-2 c =
    let t = is_met _ 26 c.is_some-has_verifiers.result c.if-key-has_verifiers.true in
    rw (passed_on _ c.from_residual-in_err-list-2.ensures.1) (hello_met _ _ _ _ (sym c.in_ok-key.ensures) _ Verifiers 26 t.0 refl refl refl (sym c.is_some-has_verifiers.ensures ∙ t.1) (Err _) _ _ _ _ (λ f. verifiers_content _ _ f _ _ _ (Err _) c.in_err-list-2.ensures.suites_after c.in_err-list-2.ensures.stored))

pub returns-then-key-has_verifiers : goal.returns-then-key-has_verifiers
unfolding form_in
returns-then-key-has_verifiers c =
    let t = is_met _ 26 c.is_some-has_verifiers.result c.if-key-has_verifiers.true in
    hello_met _ _ _ _ (sym c.in_ok-key.ensures) _ Verifiers 26 t.0 refl refl refl (sym c.is_some-has_verifiers.ensures ∙ t.1) (Ok (field.Verifiers _)) _ _ _ _ (λ f. verifiers_content _ _ f _ _ _ (Ok _) c.in_ok-list-2.ensures.suites_after c.in_ok-list-2.ensures.stored)

pub returns : goal.returns
returns c =
    let a = c.args in
    let t = c.is_some-has_token in
    let p = c.is_some-has_provers in
    let v = c.is_some-has_verifiers in
    let same : marks _ _ _ false ≡ marks t.result p.result v.result false = λ i. marks (sym t.ensures i) (sym p.ensures i) (sym v.ensures i) false in
    λ f m.
    key_refused 1 a.place.bytes.now a.place.at f a.provers.now a.verifiers.now _ _ (sym c.in_ok-key.ensures) (marks t.result p.result v.result false) (m ∙ same)
    _ (hello_refuses _ t.result p.result v.result c.if-key-has_token.false c.if-key-has_provers.false c.if-key-has_verifiers.false) _ c.misfit.ensures
