use Rattle.std.proofs.Common.{◌≡◌, refl, sym, ap, [], arith, Bool, Ok}
use Rattle.fault.proofs.Passed.{passed_on}
use Rattle.fields.specs.Steps.{plain_marks, plain_step}
use Rattle.fields.specs.declared.plain.Field.{Field}
use Rattle.fields.proofs.Onward.{begins, ends, stops, further, goes_on}
use Rattle.fields.proofs.plain.read_plain.Invariants.{state}
use Rattle.fields.proofs.plain.read_plain.Goals as goal

-- The marks before a field say which of the two have been read.
same_marks : {bytes bit has_bytes has_bit : Bool} → has_bytes ≡ bytes → has_bit ≡ bit → plain_marks bytes bit ≡ plain_marks has_bytes has_bit
same_marks e k = λ i. plain_marks (sym e i) (sym k i)

pub loop-at-init : goal.loop-at-init
loop-at-init c = begins c.args.message.number c.args.bytes.now c.args.start [] []

pub returns-in_err-field : goal.returns-in_err-field
returns-in_err-field c =
    let l = c.loop-at in
    let f = state l.part l.bit in
    rw (passed_on _ c.from_residual.ensures.1)
    (stops _ _ _ f [] [] _ l.invariant c.loop-at-test.true _ [] [] (c.in_err-field.ensures f (same_marks c.is_some.ensures c.is_some-in-loop-at.ensures) [] []) _ refl)

pub overflow_add-at : goal.overflow_add-at
overflow_add-at c =
    let l = c.loop-at in
    let f = state l.part l.bit in
    let s = c.in_ok-field.ensures f (same_marks c.is_some.ensures c.is_some-in-loop-at.ensures) [] [] in
    omega (arith, (further _ _ _ f [] [] _ l.invariant c.loop-at-test.true _ [] [] s _ _ (ap (λ (d : Field). plain_step (Ok d) f) c.in-Bytes.is)).1)

-- A field that was read ends further right, in the message.
pub loop-at-smaller-in-Bytes : goal.loop-at-smaller-in-Bytes
loop-at-smaller-in-Bytes c =
    let l = c.loop-at in
    let f = state l.part l.bit in
    let s = c.in_ok-field.ensures f (same_marks c.is_some.ensures c.is_some-in-loop-at.ensures) [] [] in
    let e = further _ _ _ f [] [] _ l.invariant c.loop-at-test.true _ [] [] s _ _ (ap (λ (d : Field). plain_step (Ok d) f) c.in-Bytes.is) in
    omega (arith, e.0, e.1)

pub loop-at-smaller : goal.loop-at-smaller
loop-at-smaller c =
    let l = c.loop-at in
    let f = state l.part l.bit in
    let s = c.in_ok-field.ensures f (same_marks c.is_some.ensures c.is_some-in-loop-at.ensures) [] [] in
    let e = further _ _ _ f [] [] _ l.invariant c.loop-at-test.true _ [] [] s _ _ (ap (λ (d : Field). plain_step (Ok d) f) c.in-Bit.is) in
    omega (arith, e.0, e.1)

-- What is read of bytes and of a bit goes on from there.
pub loop-at-preserved-in-Bytes : goal.loop-at-preserved-in-Bytes
loop-at-preserved-in-Bytes c =
    let l = c.loop-at in
    let f = state l.part l.bit in
    let s = c.in_ok-field.ensures f (same_marks c.is_some.ensures c.is_some-in-loop-at.ensures) [] [] in
    goes_on _ _ _ f [] [] _ l.invariant c.loop-at-test.true _ [] [] s _ _ (ap (λ (d : Field). plain_step (Ok d) f) c.in-Bytes.is)

pub loop-at-preserved : goal.loop-at-preserved
loop-at-preserved c =
    let l = c.loop-at in
    let f = state l.part l.bit in
    let s = c.in_ok-field.ensures f (same_marks c.is_some.ensures c.is_some-in-loop-at.ensures) [] [] in
    goes_on _ _ _ f [] [] _ l.invariant c.loop-at-test.true _ [] [] s _ _ (ap (λ (d : Field). plain_step (Ok d) f) c.in-Bit.is)

pub returns : goal.returns
returns c =
    let l = c.loop-at in
    rw (c.unwrap_or.ensures, c.unwrap_or-2.ensures) (ends _ _ _ (state l.part l.bit) [] [] _ l.invariant c.loop-at-test.false)
