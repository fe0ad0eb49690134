-- A message as numbers: a refusal's number, 0 for none, and what the message carries.
use Rattle.std.specs.Prelude.{◌≡◌, ℕ, ◌≤◌, cond, List, eqb, length}
use Rattle.fault.specs.Fault.{Reading, read_as, refused}
use Rattle.wire.specs.Lists.{entries}
use Rattle.fields.specs.Message.{made}
use Rattle.fields.specs.Message as spec
use Rattle.messages.specs.declared.flat.FlatMessage.{FlatMessage}

-- The numbers in their order.
abbrev pub flat : (refusal number bit provers verifiers place size : ℕ) → FlatMessage
flat refusal number bit provers verifiers place size = record {
  refusal = refusal;
  number = number;
  bit = bit;
  provers = provers;
  verifiers = verifiers;
  place = place;
  size = size;
}

-- The numbers of a reading; the counts are the lengths of the two lists.
abbrev pub flat_in : Reading spec.Message → FlatMessage
flat_in (read_as m) = flat 0 m.number m.bit (length m.provers) (length m.verifiers) m.place m.size
flat_in (refused number) = flat number 0 0 0 0 0 0

-- What the numbers say, with the two lists.
abbrev pub reading_by : FlatMessage → (provers verifiers : List ℕ) → Reading spec.Message
reading_by m provers verifiers =
    cond (eqb m.refusal 0)
    (read_as (made m.number m.place m.size m.bit (entries m.provers provers) (entries m.verifiers verifiers)))
    (refused m.refusal)

-- A refusal's number is one of request #101's, and a message's is one of the nine; of refused bytes the message's number is 0.
abbrev pub Known : FlatMessage → Type 0
Known m =
    (m.refusal ≡ 0 → (1 ≤ m.number) × (m.number ≤ 9))
    × ((m.refusal ≡ 0 → ⊥) → (m.number ≡ 0) × ((21 ≤ m.refusal) × (m.refusal ≤ 25)))
