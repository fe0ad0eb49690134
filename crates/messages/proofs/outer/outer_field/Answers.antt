use Rattle.std.proofs.Common.{◌≡◌, ◌≢◌, sym, length, rules}
use Rattle.fault.proofs.Passed.{passed_on}
use Rattle.messages.proofs.Opening.{known, no_bytes, outer_faulty, outer_located, outer_mistyped, outer_unexpected}
use Rattle.messages.proofs.outer.outer_field.Goals as goal

pub returns : goal.returns
returns c =
    let some : length c.args.bytes.now ≢ 0 = search rules in
    (known _ c.if-key.false, outer_located _ some _ _ (sym c.in_ok-key.ensures) c.if-key.false c.if-key-ne-LENGTH_DELIMITED.false)

pub returns-then-is_empty : goal.returns-then-is_empty
returns-then-is_empty c =
    let e : length c.args.bytes.now ≡ 0 = search rules in
    no_bytes _ e

pub returns-in_err-key : goal.returns-in_err-key
returns-in_err-key c =
    let some : length c.args.bytes.now ≢ 0 = search rules in
    rw (passed_on _ c.from_residual.ensures.1) (outer_faulty _ some _ (sym c.in_err-key.ensures))

pub returns-then-key : goal.returns-then-key
returns-then-key c =
    let some : length c.args.bytes.now ≢ 0 = search rules in
    outer_unexpected _ some _ _ (sym c.in_ok-key.ensures) c.if-key.true

pub returns-then-key-ne-LENGTH_DELIMITED : goal.returns-then-key-ne-LENGTH_DELIMITED
returns-then-key-ne-LENGTH_DELIMITED c =
    let some : length c.args.bytes.now ≢ 0 = search rules in
    outer_mistyped _ some _ _ (sym c.in_ok-key.ensures) c.if-key.false c.if-key-ne-LENGTH_DELIMITED.true
