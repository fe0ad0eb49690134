-- What the private functions answer that read a number byte by byte and a list entry by entry. No public contract rests on
-- this file.
use Rattle.std.specs.Prelude.{◌≡◌, ℕ, ◌+◌, ◌-◌, ◌*◌, ◌^◌, ◌<◌, List, length, drop}
use Rattle.wire.specs.Varint.{Said, says, cut, endless, said}
use Rattle.wire.specs.Layout.{entries_from}
use Rattle.fault.specs.Fault.{Reading, judged}
use Rattle.wire.specs.Lists.{of_entries, suites_from}
use Rattle.wire.specs.Parts.{Listed, listed}
use Rattle.wire.specs.declared.varint.Said as first
use Rattle.wire.specs.declared.varint.Said.TheVariants as first_say

-- What is said by bytes behind `width` others, which say `low` and whose next bit would count `scale`.
abbrev pub behind : (low scale width : ℕ) → Said → Said
behind low scale width (says number more) = says (low + scale * number) (width + more)
behind low scale width cut = cut
behind low scale width endless = endless

-- What the first `most` bytes say, of all that the bytes say; where each announces more, a further byte is there.
abbrev pub SaidBy : (most : ℕ) → first.Said → List ℕ → Type 0
SaidBy most (first_say.Value number width) bytes = said 10 bytes ≡ says number width
SaidBy most first_say.Cut bytes = said 10 bytes ≡ cut
SaidBy most (first_say.More low) bytes =
    (most < length bytes) × (said 10 bytes ≡ behind low (128 ^ most) most (said (10 - most) (drop most bytes)))

-- A packed list from `start` to the end of the bytes.
unfoldable pub list_from : List ℕ → ℕ → Reading Listed
list_from bytes start = judged (of_entries bytes 16 (entries_from bytes start)) (listed (suites_from bytes start) (length bytes))
