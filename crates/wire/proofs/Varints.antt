-- How a varint is read from byte to byte.
use mathlib.Core.Path.{◌≡◌, refl}
use mathlib.Core.Bool.{Bool, true, false, cond}
use mathlib.Core.List.{List, ◌∷◌}
use Prim.Native.Nat.{ℕ, zero, suc, ◌+◌, ◌-◌, ◌*◌, ◌^◌, ◌<◌, ◌≤◌}
use native.Mathlib.Nat.{zero-add, one-mul, mul-add, mul_assoc, mul_comm, mul-le-mul, mul-zero, add-zero, add_assoc, pow-suc, pow-le-pow_right}
use native.Mathlib.Numerals.{add-one}
use native.Mathlib.Omega.{arith}
use borrow.Author.Tests.{lt-ltb, le-ltb}
use lib.Dec.{ltb}
use lib.ListN.{length, get_or, take, drop, length-drop, drop_of_length-le}
use lib.Seq.{take_all, drop-cons}
use Rattle.wire.specs.Varint.{Said, says, cut, endless, below, said, value, fault, number_from, number_at}
use Rattle.wire.specs.Bytes.{behind}

-- Nothing has been read.
pub whole : (s : Said) → s ≡ behind 0 1 0 s
whole (says number width) = rw (zero-add, one-mul, zero-add)
whole cut = refl
whole endless = refl

module _ (bytes : List ℕ) (low scale at : ℕ) where
  pub ended : (n : ℕ) → 0 < n → length bytes ≤ at → behind low scale at (said n (drop at bytes)) ≡ cut
  unfolding said
  ended zero p h = absurd (omega arith)
  ended (suc n) p h = rw (drop_of_length-le bytes {i = at} h)

  module _ (h : at < length bytes) where
    pub last : (n : ℕ) → 0 < n → get_or bytes at 0 < 128 →
        behind low scale at (said n (drop at bytes)) ≡ says (low + scale * get_or bytes at 0) (at + 1)
    unfolding said
    last zero p k = absurd (omega arith)
    last (suc n) p k = rw (drop-cons bytes at 0 h, lt-ltb (get_or bytes at 0) 128 k)

    pub more : (n : ℕ) → 128 ≤ get_or bytes at 0 →
        behind low scale at (said (suc n) (drop at bytes))
        ≡ behind (low + scale * (get_or bytes at 0 - 128)) (scale * 128) (at + 1) (said n (drop (at + 1) bytes))
    unfolding said
    more n k =
        let d : drop at bytes ≡ get_or bytes at 0 ∷ drop (at + 1) bytes = rw (add-one at, drop-cons bytes at 0 h) in
        rw (d, le-ltb (get_or bytes at 0) 128 k) (joined (get_or bytes at 0 - 128) (said n (drop (at + 1) bytes)))
      where
        joined : (b : ℕ) (s : Said) → behind low scale at (below b s) ≡ behind (low + scale * b) (scale * 128) (at + 1) s
        joined b (says number width) =
            let p : at + suc width ≡ at + 1 + width = omega arith in
            let q : low + scale * (b + 128 * number) ≡ low + scale * b + scale * 128 * number = rw (mul-add, mul_assoc, add_assoc) in
            rw (p, q)
        joined b cut = refl
        joined b endless = refl

-- The weight of a byte's lowest bit, behind `at` bytes.
pub light : (at scale : ℕ) → at < 9 → scale ≡ 128 ^ at → scale ≤ 72057594037927936
light at scale h weight = rw (weight) (pow-le-pow_right {n = 128} (omega arith) {i = at} {j = 8} (omega arith))

-- The weight of a byte's lowest bit, behind one byte more.
pub heavier : (at scale : ℕ) → scale ≡ 128 ^ at → scale * 128 ≡ 128 ^ (at + 1)
heavier at scale weight = rw (add-one at, weight, pow-suc)

pub product : (scale b : ℕ) → b < 128 → scale * b ≤ 127 * scale
product scale b h = rw (mul_comm scale b) (mul-le-mul {n₁ = b} {m₁ = scale} {n₂ = 127} {m₂ = scale} (omega arith) (omega arith))

-- The tenth byte: with any bit set the number is too large.
module _ (bytes : List ℕ) (place low : ℕ) (h : 9 < length bytes) where
  pub tenth_large : 0 < get_or bytes 9 0 → fault 24 ≡ number_from place (behind low 9223372036854775808 9 (said 1 (drop 9 bytes)))
  unfolding said
  tenth_large k = rw (drop-cons bytes 9 0 h) (by_size (get_or bytes 9 0) k (ltb (get_or bytes 9 0) 128))
    where
      by_size : (b : ℕ) → 0 < b → (t : Bool) → fault 24 ≡ number_from place (behind low 9223372036854775808 9 (cond t (says b 1) (below (b - 128) endless)))
      by_size b k true = rw (lt-ltb 4294967295 (low + 9223372036854775808 * b) (omega arith))
      by_size b k false = refl

  pub tenth_zero : get_or bytes 9 0 ≤ 0 →
      cond (ltb 4294967295 low) (fault 24) (value low (place + 10)) ≡ number_from place (behind low 9223372036854775808 9 (said 1 (drop 9 bytes)))
  tenth_zero k =
      let z : get_or bytes 9 0 ≡ 0 = omega arith in
      rw (last bytes low 9223372036854775808 9 h 1 (omega arith) (omega arith), z, mul-zero, add-zero)

-- A part up to the end of the bytes is what follows its first place.
pub from_place : (bytes : List ℕ) (place : ℕ) → take (length bytes - place) (drop place bytes) ≡ drop place bytes
from_place bytes place = take_all (length bytes - place) (drop place bytes) (omega (arith, length-drop place bytes))

-- A number of no byte, of one and of two.
pub none_there : (bytes : List ℕ) (place : ℕ) → length bytes ≤ place → fault 21 ≡ number_at bytes place
unfolding number_at said
none_there bytes place h = rw (drop_of_length-le bytes {i = place} h)

module _ (bytes : List ℕ) (place first : ℕ) (h : place < length bytes) (e : first ≡ get_or bytes place 0) where
  pub one_byte : first < 128 → value first (place + 1) ≡ number_at bytes place
  unfolding number_at said
  one_byte k =
      let l : get_or bytes place 0 < 128 = omega (arith, e, k) in
      rw (e, drop-cons bytes place 0 h, lt-ltb (get_or bytes place 0) 128 l, le-ltb 4294967295 (get_or bytes place 0) (omega arith))

  pub two_bytes : (second : ℕ) → 128 ≤ first → first < 256 → place + 1 < length bytes → second ≡ get_or bytes (place + 1) 0 → second < 128 →
      value (first - 128 + 128 * second) (place + 2) ≡ number_at bytes place
  unfolding number_at said
  two_bytes second k m h' e' k' =
      let a : 128 ≤ get_or bytes place 0 = omega (arith, e, k) in
      let b : get_or bytes (place + 1) 0 < 128 = omega (arith, e', k') in
      let c : get_or bytes place 0 < 256 = omega (arith, e, m) in
      let d : drop place bytes ≡ get_or bytes place 0 ∷ get_or bytes (place + 1) 0 ∷ drop (suc (place + 1)) bytes =
      rw (drop-cons bytes place 0 h, ← add-one place, drop-cons bytes (place + 1) 0 h')
      in
      rw (
        e,
        e',
        d,
        le-ltb (get_or bytes place 0) 128 a,
        lt-ltb (get_or bytes (place + 1) 0) 128 b,
        le-ltb 4294967295 (get_or bytes place 0 - 128 + 128 * get_or bytes (place + 1) 0) (omega (arith, b, c)),
      )
