-- The public wire format, "Packed Repeated Fields": varints that stand one behind the other in a length-delimited part. Request
-- #101 has at most 16 of them.
use Rattle.std.specs.Prelude.{ℕ, zero, suc, ◌+◌, ◌-◌, List, [], ◌∷◌, ◌++◌, map, length, take, replicate}
use Rattle.wire.specs.Varint.{Number, value, fault, number_at}
use Rattle.wire.specs.Layout.{Block, block, faulty, entries_from}
use Rattle.fault.specs.Fault.{Fault, at}

-- The faults of a number at a place.
abbrev pub of_number : ℕ → Number → List Fault
of_number place (value number next) = []
of_number place (fault refusal) = at place refusal ∷ []

-- The faults of the entries of a packed list, of which `room` more may come: any further one shows refusal 25.
unfoldable pub of_entries : (list : List ℕ) (room : ℕ) → List ℕ → List Fault
of_entries list room [] = []
of_entries list zero (place ∷ places) =
    of_number place (number_at list place) ++ (at place 25 ∷ of_entries list zero places)
of_entries list (suc room) (place ∷ places) =
    of_number place (number_at list place) ++ of_entries list room places

-- The faults of a packed list of at most 16 suites, whose length stands at `place`. Its entries end where it does.
abbrev pub of_list : List ℕ → (place : ℕ) → Block → List Fault
of_list message place (block start size) =
    of_entries (take (start + size) message) 16 (entries_from (take (start + size) message) start)
of_list message place (faulty refusal) = at place refusal ∷ []

-- The number that was read. After a fault nothing is read, and the 0 is not used.
abbrev pub number_in : Number → ℕ
number_in (value number next) = number
number_in (fault refusal) = 0

-- The entries of a packed list, from `start` to the list's end.
abbrev pub suites_from : (list : List ℕ) (start : ℕ) → List ℕ
suites_from list start = map (λ place. number_in (number_at list place)) (entries_from list start)

-- The suites of a packed list. Of a faulty part nothing is read.
abbrev pub suites_in : List ℕ → Block → List ℕ
suites_in message (block start size) = suites_from (take (start + size) message) start
suites_in message (faulty refusal) = []

-- The first `count` entries of a list, and 0 for each that it lacks: always `count` of them.
abbrev pub entries : (count : ℕ) → List ℕ → List ℕ
entries count list = take count list ++ replicate (count - length list) 0

-- A list of suites in sixteen entries, the others 0.
abbrev pub padded : List ℕ → List ℕ
padded suites = suites ++ replicate (16 - length suites) 0
