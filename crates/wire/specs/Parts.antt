-- The values of the definitions for each case of the results that the code answers with.
use Rattle.std.specs.Prelude.{◌≡◌, ℕ, ◌≤◌, List, [], Result, Ok, Err}
use Rattle.wire.specs.Varint.{Number, value, fault}
use Rattle.wire.specs.Layout.{Block, block, faulty, block_at, after_block}
use Rattle.fault.specs.Fault.{Reading, read_as, refused, judged}
use Rattle.wire.specs.Lists.{of_list, suites_in, entries, padded}
use Rattle.fault.specs.Refusals.{refusal_number}
use Rattle.fault.specs.declared.Refusal.{Refusal}
use Rattle.wire.specs.declared.varint.Varint.{Varint}
use Rattle.wire.specs.declared.block.Span.{Span}
use Rattle.wire.specs.declared.list.Packed.{Packed}

-- A varint.
abbrev pub number_of : Result Varint Refusal → Number
number_of (Ok varint) = value varint.value varint.next
number_of (Err refusal) = fault (refusal_number refusal)

-- A length-delimited part.
abbrev pub block_of : Result Span Refusal → Block
block_of (Ok part) = block part.place part.size
block_of (Err refusal) = faulty (refusal_number refusal)

-- The suites of a packed list, and the place after it.
pub record Listed : Type 0 where
  pub suites : List ℕ
  pub next : ℕ

-- The same by its parts in their order.
abbrev pub listed : List ℕ → ℕ → Listed
listed suites next = record { suites = suites; next = next }

-- The packed list at a place.
unfoldable pub packed_at : List ℕ → ℕ → Reading Listed
packed_at bytes place =
    judged (of_list bytes place (block_at bytes place))
    (listed (suites_in bytes (block_at bytes place)) (after_block bytes (block_at bytes place)))

-- A packed list, with the list that its suites were written to.
abbrev pub packed_of : Result Packed Refusal → List ℕ → Reading Listed
packed_of (Ok list) suites = read_as (listed (entries list.count suites) list.next)
packed_of (Err refusal) suites = refused (refusal_number refusal)

-- A list of sixteen entries holds so many suites, and then zeros.
abbrev pub Holds : ℕ → List ℕ → Type 0
Holds count list = (count ≤ 16) × (list ≡ padded (entries count list))

-- What the list holds that suites were written to: those that were counted, and then zeros; after a fault, zeros alone.
abbrev pub Stored : Result Packed Refusal → List ℕ → Type 0
Stored (Ok list) suites = Holds list.count suites
Stored (Err refusal) suites = suites ≡ padded []
