use Rattle.std.proofs.Common.{◌≡◌, ℕ, true, Bool, List, ◌+◌, ◌*◌, ◌/◌, ◌<◌, ◌≤◌, length, get_or, drop, sym, ap, ◌∙◌, arith}
use Rattle.std.proofs.lemmas.Option.{slice_get_past, slice_get-get_or}
use Rattle.std.specs.List.{slice_get}
use borrow.Author.Tests.{eq-eqb, ne_eqb}
use Rattle.suites.specs.Answer.{Found}
use Rattle.suites.specs.Choice.{first_found, found_in}
use Rattle.suites.specs.Numbers.{found_of}
use Rattle.suites.proofs.Found.{here, later, at_end, among, past, in_group}
use Rattle.suites.proofs.first_common.Goals as goal

abbrev is_found : Found → Bool
is_found f = f.found

-- The search is left at `i`, where a verifier is found.
stopped :
    (verifiers provers : List ℕ) (i : ℕ) →
    i < length verifiers →
    first_found verifiers provers ≡ first_found (drop i verifiers) provers →
    found_in provers (get_or verifiers i 0) ≡ true →
    found_of (slice_get verifiers i) ≡ first_found verifiers provers
stopped verifiers provers i h e t = rw (slice_get-get_or verifiers i 0 h) (sym (e ∙ here _ verifiers i h t))

-- The search ends without one.
ended :
    (verifiers provers : List ℕ) (place i : ℕ) →
    place ≡ length verifiers →
    length verifiers ≤ i →
    first_found verifiers provers ≡ first_found (drop i verifiers) provers →
    found_of (slice_get verifiers place) ≡ first_found verifiers provers
ended verifiers provers place i p h e = rw (slice_get_past verifiers place (omega arith)) (sym (e ∙ at_end _ verifiers i h))

pub loop-group-preserved : goal.loop-group-preserved
loop-group-preserved c =
    let l = c.loop-group in
    let provers = c.args.provers.now in
    let few : l.group-index < length provers / 8 = omega (arith, c.as_chunks.ensures.front_len) in
    let is = in_group _ _ l.group-index provers _ _ c.as_chunks.ensures.front few c.contains.ensures.value in
    let same = l.invariant.same ∙ past _ provers (l.group-index * 8) 8 ((l.group-index + 1) * 8) (omega arith) (sym is ∙ c.if-contains.false) in
    record { none_yet = l.invariant.none_yet; same = same }

pub loop-prover-preserved : goal.loop-prover-preserved
loop-prover-preserved c =
    let l = c.loop-prover in
    record { none_yet = l.invariant.none_yet; same = l.invariant.same ∙ ap is_found (later _ _ l.prover-index c.loop-prover-test.true (ne_eqb _ _ c.if-suite-prover.false)) }

pub search-preserved : goal.search-preserved
search-preserved c =
    let l = c.loop-prover in
    let o = c.search in
    record { none_yet = l.invariant.none_yet; same = o.invariant.same ∙ later _ _ o.i c.search-test.true (l.invariant.same ∙ ap is_found (at_end _ _ l.prover-index c.loop-prover-test.false)) }

pub returns-after-search : goal.returns-after-search
returns-after-search c =
    let o = c.search in
    ended _ _ o.place o.i o.invariant.none_yet c.search-test.false o.invariant.same

pub returns-then-contains : goal.returns-then-contains
returns-then-contains c =
    let l = c.loop-group in
    let provers = c.args.provers.now in
    let few : l.group-index < length provers / 8 = omega (arith, c.as_chunks.ensures.front_len) in
    let is = in_group _ _ l.group-index provers _ _ c.as_chunks.ensures.front few c.contains.ensures.value in
    let o = c.search in
    stopped _ _ o.i c.search-test.true o.invariant.same (l.invariant.same ∙ among _ provers (l.group-index * 8) 8 (sym is ∙ c.if-contains.true))

pub returns-then-suite-prover : goal.returns-then-suite-prover
returns-then-suite-prover c =
    let l = c.loop-prover in
    let o = c.search in
    stopped _ _ o.i c.search-test.true o.invariant.same (l.invariant.same ∙ ap is_found (here _ _ l.prover-index c.loop-prover-test.true (eq-eqb _ _ c.if-suite-prover.true)))
