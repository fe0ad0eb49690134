use Rattle.std.proofs.Common.{◌≡◌, refl, sym, ap, ◌∙◌, [], ◌∷◌, ◌++◌, ℕ, suc, ◌+◌, ◌-◌, length, length-append, arith}
use Rattle.fault.specs.Fault.{judged}
use Rattle.wire.specs.Layout.{entries_from}
use Rattle.wire.specs.Lists.{of_entries, suites_from, entries}
use Rattle.wire.specs.Bytes.{list_from}
use Rattle.wire.specs.Parts.{listed}
use Rattle.fault.proofs.Passed.{passed_on}
use Rattle.wire.proofs.Lists.{entry_faulty, one_too_many, entry_taken, list_ends, one_stored, padded_entries}
use Rattle.wire.proofs.Places.{after_read}
use Rattle.wire.proofs.list.entries.Goals as goal

pub loop-at-init : goal.loop-at-init
unfolding list_from
loop-at-init c = ([], refl, omega arith, c.requires, refl)

pub returns-in_err-suite-clause-suites_after : goal.returns-in_err-suite-clause-suites_after
returns-in_err-suite-clause-suites_after c =
    let l = c.loop-at in
    rw (passed_on _ c.from_residual.ensures.1) (sym (entry_faulty _ l.at c.loop-at-test.true _ (16 - l.count) _ (sym c.in_err-suite.ensures)) ∙ l.invariant.4)

pub returns-then-count-eq-MAX_ENTRIES-clause-suites_after : goal.returns-then-count-eq-MAX_ENTRIES-clause-suites_after
returns-then-count-eq-MAX_ENTRIES-clause-suites_after c =
    let l = c.loop-at in
    let s = c.args.bytes.now in
    let full : 16 - l.count ≡ 0 = omega (arith, c.if-count-eq-MAX_ENTRIES.true) in
    sym (ap (λ (n : ℕ). judged (of_entries s n (entries_from s l.at)) (listed (l.invariant.0 ++ suites_from s l.at) (length s))) full
    ∙ one_too_many s l.at c.loop-at-test.true _ _ (sym c.in_ok-suite.ensures) _)
    ∙ l.invariant.4

pub loop-at-smaller : goal.loop-at-smaller
loop-at-smaller c =
    let l = c.loop-at in
    omega (arith, (after_read _ l.at _ _ (sym c.in_ok-suite.ensures)).0, c.loop-at-test.true)

pub loop-at-preserved : goal.loop-at-preserved
loop-at-preserved c =
    let l = c.loop-at in
    let s = c.args.bytes.now in
    let suite = c.in_ok-suite.suite.value in
    let more : 16 - l.count ≡ suc (16 - (l.count + 1)) = omega (arith, c.if-count-eq-MAX_ENTRIES.false, l.invariant.2) in (
      l.invariant.0 ++ (suite ∷ []),
      length-append l.invariant.0 (suite ∷ []) ∙ ap (λ (n : ℕ). n + 1) l.invariant.1,
      omega (arith, c.if-count-eq-MAX_ENTRIES.false, l.invariant.2),
      rw (l.invariant.3, ← l.invariant.1) (one_stored l.invariant.0 suite (omega (arith, c.if-count-eq-MAX_ENTRIES.false, l.invariant.2, l.invariant.1))),
      entry_taken s l.at c.loop-at-test.true suite _ (sym c.in_ok-suite.ensures) (16 - (l.count + 1)) l.invariant.0
          ∙ ap (λ (n : ℕ). judged (of_entries s n (entries_from s l.at)) (listed (l.invariant.0 ++ suites_from s l.at) (length s))) (sym more)
          ∙ l.invariant.4,
    )

pub returns-clause-suites_after : goal.returns-clause-suites_after
returns-clause-suites_after c =
    let l = c.loop-at in
    let all : entries l.count l.suites ≡ l.invariant.0 =
    rw (l.invariant.3, ← l.invariant.1) (padded_entries l.invariant.0 (omega (arith, l.invariant.1, l.invariant.2)))
    in
    rw (all) (list_ends _ l.at (16 - l.count) l.invariant.0 c.loop-at-test.false ∙ l.invariant.4)
