use Rattle.std.proofs.Common.{sym, ap, subst, ◌∙◌, List, ℕ, ◌-◌, length, take, drop, length-drop, arith}
use Rattle.fault.proofs.Passed.{passed_on}
use Rattle.wire.specs.Varint.{said, number_from, number_at}
use Rattle.wire.specs.Bytes.{SaidBy}
use Rattle.wire.specs.declared.varint.Said.{Said}
use Rattle.wire.specs.declared.varint.Said.TheVariants.{Value, Cut}
use Rattle.wire.proofs.Places.{Fits, fits}
use Rattle.wire.proofs.Varints.{from_place}
use Rattle.wire.proofs.Place.entry.Goals as goal

-- What the first five bytes say is said of those from the place on.
said_by : (bytes : List ℕ) (place : ℕ) (r : Said) → SaidBy 5 r (take (length bytes - place) (drop place bytes)) → SaidBy 5 r (drop place bytes)
said_by bytes place r s = subst (λ (l : List ℕ). SaidBy 5 r l) (from_place bytes place) s

pub overflow_add-self : goal.overflow_add-self
overflow_add-self c =
    let b = c.args.self.bytes.now in
    let e = said_by b c.args.self.at (Value c.in-Value.number c.in-Value.width) c.in-Value.ensures in
    omega (arith, (subst (Fits (length (drop c.args.self.at b))) e (fits 10 (drop c.args.self.at b))).1, length-drop c.args.self.at b, c.requires)

pub returns-in_ok-entry-in-Value : goal.returns-in_ok-entry-in-Value
unfolding number_at
returns-in_ok-entry-in-Value c = c.in_ok-entry-in-Value.ensures ∙ ap (number_from c.args.self.at) (sym (said_by c.args.self.bytes.now c.args.self.at (Value c.in-Value.number c.in-Value.width) c.in-Value.ensures))

pub returns-in_err-entry-in-Value : goal.returns-in_err-entry-in-Value
unfolding number_at
returns-in_err-entry-in-Value c =
    rw (passed_on _ c.from_residual-in_err-entry-in-Value.ensures.1)
    (c.in_err-entry-in-Value.ensures ∙ ap (number_from c.args.self.at) (sym (said_by c.args.self.bytes.now c.args.self.at (Value c.in-Value.number c.in-Value.width) c.in-Value.ensures)))

pub returns-in-Cut : goal.returns-in-Cut
unfolding number_at
returns-in-Cut c = ap (number_from c.args.self.at) (sym (said_by c.args.self.bytes.now c.args.self.at Cut c.in-Cut.ensures))

pub returns-in_ok-entry-in-More : goal.returns-in_ok-entry-in-More
unfolding number_at
returns-in_ok-entry-in-More c =
    c.in_ok-entry-in-More.ensures
    ∙ ap (λ (l : List ℕ). number_from c.args.self.at (said 10 l)) (from_place c.args.self.bytes.now c.args.self.at)

pub returns-in_err-entry-in-More : goal.returns-in_err-entry-in-More
unfolding number_at
returns-in_err-entry-in-More c =
    rw (passed_on _ c.from_residual-in_err-entry-in-More.ensures.1)
    (c.in_err-entry-in-More.ensures
    ∙ ap (λ (l : List ℕ). number_from c.args.self.at (said 10 l)) (from_place c.args.self.bytes.now c.args.self.at))
