-- The values of the definitions for each case of what `read_at` answers, and what the lent lists hold afterwards.
use Rattle.std.specs.Prelude.{◌≡◌, ℕ, ◌≤◌, cond, List, [], eqb, Result, Ok, Err}
use Rattle.fault.specs.Fault.{Reading, read_as, refused}
use Rattle.wire.specs.Lists.{entries, padded}
use Rattle.fault.specs.Refusals.{refusal_number}
use Rattle.fault.specs.declared.Refusal.{Refusal}
use Rattle.fields.specs.Message.{Message, made}
use Rattle.fields.specs.declared.Contents.{Contents}
use Rattle.fields.specs.declared.Contents.TheVariants.{Hello, Plain}

-- What was read, with the two lists that were lent: a hello's suites are the first entries of each.
abbrev pub contents_in : Result Contents Refusal → (provers verifiers : List ℕ) → Reading Message
contents_in (Ok (Hello held)) provers verifiers =
    read_as (made 1 held.token.place held.token.size 0 (entries held.provers provers) (entries held.verifiers verifiers))
contents_in (Ok (Plain number part bit)) provers verifiers = read_as (made number part.place part.size bit [] [])
contents_in (Err refusal) provers verifiers = refused (refusal_number refusal)

-- What was read fits the message's number: a hello's counts are at most 16, and any other message has its number.
abbrev pub Fits : (message : ℕ) → Result Contents Refusal → Type 0
Fits message (Ok (Hello held)) = (message ≡ 1) × ((held.provers ≤ 16) × (held.verifiers ≤ 16))
Fits message (Ok (Plain number part bit)) = (number ≡ message) × (message ≡ 1 → ⊥)
Fits message (Err refusal) = Unit {0}

-- What stands in the two lent lists after a reading: a hello's suites and then zeros; else they keep their entries.
abbrev pub provers_after : Reading Message → List ℕ → List ℕ
provers_after (read_as m) provers = cond (eqb m.number 1) (padded m.provers) provers
provers_after (refused number) provers = provers

-- The same of the second list.
abbrev pub verifiers_after : Reading Message → List ℕ → List ℕ
verifiers_after (read_as m) verifiers = cond (eqb m.number 1) (padded m.verifiers) verifiers
verifiers_after (refused number) verifiers = verifiers
