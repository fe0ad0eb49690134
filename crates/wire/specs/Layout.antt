-- The public wire format, "Message Structure": where the parts of a message stand. A message is given as the bytes up to its
-- end, so that places count from the first byte that was lent, and nothing behind the end can be read.
use Rattle.std.specs.Prelude.{ℕ, zero, suc, ◌+◌, ◌-◌, ◌/◌, ◌%◌, cond, List, [], ◌∷◌, eqb, ltb, length}
use Rattle.wire.specs.Varint.{Number, value, fault, number_at}

-- The places where parts begin that stand one behind the other. `left` bytes remain from `place` on, the next part begins at
-- `next`, and `after` gives the place after the part at a place, which lies right of it.
unfoldable pub places : (after : ℕ → ℕ) → (place next left : ℕ) → List ℕ
places after place next zero = []
places after place next (suc left) =
    cond (ltb place next)
    (places after (suc place) next left)
    (place ∷ places after (suc place) (after place) left)

-- The places of the parts from `start` to the message's end.
abbrev pub parts_from : (message : List ℕ) (after : ℕ → ℕ) (start : ℕ) → List ℕ
parts_from message after start = places after start start (length message - start)

-- The place after a number. After a faulty one no part follows: the message's end.
abbrev pub after_number : List ℕ → Number → ℕ
after_number message (value number next) = next
after_number message (fault refusal) = length message

-- A length-delimited part: where its bytes begin and how many they are, or the refusal that its length shows.
pub data Block : Type 0 where
  block : (start size : ℕ) → Block
  faulty : (refusal : ℕ) → Block

-- A length that runs past the message's end is refusal 21.
abbrev pub bounded : List ℕ → Number → Block
bounded message (value size start) = cond (ltb (length message) (start + size)) (faulty 21) (block start size)
bounded message (fault refusal) = faulty refusal

-- The length-delimited part at a place.
abbrev pub block_at : List ℕ → ℕ → Block
block_at message place = bounded message (number_at message place)

-- The place after a length-delimited part; after a faulty one, the message's end.
abbrev pub after_block : List ℕ → Block → ℕ
after_block message (block start size) = start + size
after_block message (faulty refusal) = length message

-- A key is eight times the field's number, plus the wire type.
abbrev pub field_number : ℕ → ℕ
field_number key = key / 8

-- The wire type in a key.
abbrev pub wire_type : ℕ → ℕ
wire_type key = key % 8

-- The place after what a key announces: wire type 0 is a varint, 2 length-delimited. The public format has other types. No field
-- of ours has one, so their key shows a fault, and what follows it does not matter: they, and a faulty key, end the message.
abbrev pub after_key : List ℕ → Number → ℕ
after_key message (value key next) =
    cond (eqb (wire_type key) 0)
    (after_number message (number_at message next))
    (cond (eqb (wire_type key) 2) (after_block message (block_at message next)) (length message))
after_key message (fault refusal) = length message

-- The places of a message's fields, the first of them at `start`.
abbrev pub fields_from : List ℕ → ℕ → List ℕ
fields_from message start = parts_from message (λ place. after_key message (number_at message place)) start

-- The places of the entries of a packed list, the first of them at `start`. Like a message it is given as the bytes up to its end.
abbrev pub entries_from : List ℕ → ℕ → List ℕ
entries_from list start = parts_from list (λ place. after_number list (number_at list place)) start
