-- The public wire format, "Base 128 Varints": seven bits a byte, the lowest first, the eighth bit set in all but the last.
use Rattle.std.specs.Prelude.{ℕ, zero, suc, ◌+◌, ◌-◌, ◌*◌, cond, List, [], ◌∷◌, ltb, drop}

-- The varint that bytes begin with: its value and how many of them it has; or they end before it does; or as many as it may have
-- each announce more.
pub data Said : Type 0 where
  says : (value width : ℕ) → Said
  cut : Said
  endless : Said

-- Seven low bits, and above them those of the later bytes.
abbrev pub below : ℕ → Said → Said
below low (says value width) = says (low + 128 * value) (suc width)
below low cut = cut
below low endless = endless

-- The varint in at most n bytes, `endless` if n bytes each announce more. The value is exact, however large.
unfoldable pub said : ℕ → List ℕ → Said
said zero bytes = endless
said (suc n) [] = cut
said (suc n) (byte ∷ bytes) = cond (ltb byte 128) (says byte 1) (below (byte - 128) (said n bytes))

-- A number that was read, with the place after it, or the refusal that its bytes show.
pub data Number : Type 0 where
  value : (number next : ℕ) → Number
  fault : (refusal : ℕ) → Number

-- A varint at a place: cut is refusal 21; endless, or too large for 32 bits, is 24.
abbrev pub number_from : (place : ℕ) → Said → Number
number_from place (says number width) = cond (ltb 4294967295 number) (fault 24) (value number (place + width))
number_from place cut = fault 21
number_from place endless = fault 24

-- The number at a place of a message.
unfoldable pub number_at : List ℕ → ℕ → Number
number_at message place = number_from place (said 10 (drop place message))

-- A bit above 1 is refusal 24.
abbrev pub as_bit : Number → Number
as_bit (value number next) = cond (ltb 1 number) (fault 24) (value number next)
as_bit (fault refusal) = fault refusal

-- The bit at a place of a message.
abbrev pub bit_at : List ℕ → ℕ → Number
bit_at message place = as_bit (number_at message place)
