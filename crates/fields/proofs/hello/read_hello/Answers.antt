use Rattle.std.proofs.Common.{refl, ap, arith, Ok}
use Rattle.fault.proofs.Passed.{passed_on}
use Rattle.fields.specs.Steps.{hello_step}
use Rattle.fields.specs.declared.hello.Field.{Field}
use Rattle.fields.proofs.Onward.{begins, ends, stops, further, goes_on, stays_tidy, tidy_first}
use Rattle.fields.proofs.hello.read_hello.Invariants.{state}
use Rattle.fields.proofs.hello.read_hello.Goals as goal

pub loop-at-init : goal.loop-at-init
loop-at-init c =
    let a = c.args in
    (begins 1 a.bytes.now a.start a.provers.now a.verifiers.now, tidy_first a.provers.now a.verifiers.now c.requires.0 c.requires.1)

pub returns-in_err-field-clause-reads : goal.returns-in_err-field-clause-reads
returns-in_err-field-clause-reads c =
    let l = c.loop-at in
    let f = state l.found in
    rw (passed_on _ c.from_residual.ensures.1)
    (stops _ _ _ f _ _ _ l.invariant.0 c.loop-at-test.true _ _ _ (c.in_err-field.ensures f refl) _ refl)

pub overflow_add-at : goal.overflow_add-at
overflow_add-at c =
    let l = c.loop-at in
    let f = state l.found in
    omega (arith, (further _ _ _ f _ _ _ l.invariant.0 c.loop-at-test.true _ _ _ (c.in_ok-field.ensures f refl) _ _ (ap (λ (d : Field). hello_step (Ok d) f) c.in-Token.is)).1)

-- A field that was read ends further right, in the message.
pub loop-at-smaller-in-Token : goal.loop-at-smaller-in-Token
loop-at-smaller-in-Token c =
    let l = c.loop-at in
    let f = state l.found in
    let e = further _ _ _ f _ _ _ l.invariant.0 c.loop-at-test.true _ _ _ (c.in_ok-field.ensures f refl) _ _ (ap (λ (d : Field). hello_step (Ok d) f) c.in-Token.is) in
    omega (arith, e.0, e.1)

pub loop-at-smaller-in-Provers : goal.loop-at-smaller-in-Provers
loop-at-smaller-in-Provers c =
    let l = c.loop-at in
    let f = state l.found in
    let e = further _ _ _ f _ _ _ l.invariant.0 c.loop-at-test.true _ _ _ (c.in_ok-field.ensures f refl) _ _ (ap (λ (d : Field). hello_step (Ok d) f) c.in-Provers.is) in
    omega (arith, e.0, e.1)

pub loop-at-smaller : goal.loop-at-smaller
loop-at-smaller c =
    let l = c.loop-at in
    let f = state l.found in
    let e = further _ _ _ f _ _ _ l.invariant.0 c.loop-at-test.true _ _ _ (c.in_ok-field.ensures f refl) _ _ (ap (λ (d : Field). hello_step (Ok d) f) c.in-Verifiers.is) in
    omega (arith, e.0, e.1)

-- What is read goes on from there, and the lists hold what was counted.
pub loop-at-preserved-in-Token : goal.loop-at-preserved-in-Token
loop-at-preserved-in-Token c =
    let l = c.loop-at in
    let f = state l.found in
    let s = c.in_ok-field.ensures f refl in
    let e = ap (λ (d : Field). hello_step (Ok d) f) c.in-Token.is in
    (goes_on _ _ _ f _ _ _ l.invariant.0 c.loop-at-test.true _ _ _ s _ _ e, stays_tidy s l.invariant.1 e)

pub loop-at-preserved-in-Provers : goal.loop-at-preserved-in-Provers
loop-at-preserved-in-Provers c =
    let l = c.loop-at in
    let f = state l.found in
    let s = c.in_ok-field.ensures f refl in
    let e = ap (λ (d : Field). hello_step (Ok d) f) c.in-Provers.is in
    (goes_on _ _ _ f _ _ _ l.invariant.0 c.loop-at-test.true _ _ _ s _ _ e, stays_tidy s l.invariant.1 e)

pub loop-at-preserved : goal.loop-at-preserved
loop-at-preserved c =
    let l = c.loop-at in
    let f = state l.found in
    let s = c.in_ok-field.ensures f refl in
    let e = ap (λ (d : Field). hello_step (Ok d) f) c.in-Verifiers.is in
    (goes_on _ _ _ f _ _ _ l.invariant.0 c.loop-at-test.true _ _ _ s _ _ e, stays_tidy s l.invariant.1 e)

pub returns-clause-reads : goal.returns-clause-reads
returns-clause-reads c =
    let l = c.loop-at in
    rw (c.unwrap_or.ensures, c.unwrap_or-2.ensures, c.unwrap_or-3.ensures) (ends _ _ _ (state l.found) _ _ _ l.invariant.0 c.loop-at-test.false)
