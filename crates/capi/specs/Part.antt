-- Document 01, "Order sheet": the payload part as a host in C takes it, so many bytes from the start of a slice.
use Rattle.std.specs.Prelude.{ℕ, ◌≤◌, cond, List, [], eqb, length, get_or, take}
use Rattle.protocol.specs.Orders as order

-- The slice that a number names: the cache, the event's payload, or none.
abbrev pub slice_by : (slice : ℕ) (payload cache : List ℕ) → List ℕ
slice_by slice payload cache = cond (eqb slice order.of_cache) cache (cond (eqb slice order.of_event) payload [])

-- The slice that the slots name.
abbrev pub slice_in : (slots payload cache : List ℕ) → List ℕ
slice_in slots = slice_by (get_or slots 14 0)

-- How many of its bytes.
abbrev pub length_in : (slots : List ℕ) → ℕ
length_in slots = get_or slots 15 0

-- The slice has that many bytes: a host that takes them reads nothing else.
abbrev pub Within : (slots payload cache : List ℕ) → Type 0
Within slots payload cache = length_in slots ≤ length (slice_in slots payload cache)

-- The part: those bytes.
abbrev pub part_in : (slots payload cache : List ℕ) → List ℕ
part_in slots payload cache = take (length_in slots) (slice_in slots payload cache)
