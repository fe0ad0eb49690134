-- Where the parts of a message stand, from one part to the next.
use mathlib.Core.Path.{◌≡◌, refl, ap, subst}
use mathlib.Core.Bool.{Bool, true, false, cond}
use mathlib.Core.List.{List, [], ◌∷◌}
use Prim.Native.Nat.{ℕ, zero, suc, ◌+◌, ◌-◌, ◌*◌, ◌<◌, ◌≤◌}
use native.Mathlib.Decide.{ℕ_discrete}
use native.Mathlib.Omega.{arith}
use borrow.Author.Tests.{lt-ltb, le-ltb, ltb-false}
use lib.Dec.{ltb}
use lib.ListN.{length, drop, length-drop}
use Rattle.wire.specs.Varint.{Said, says, cut, endless, below, said, Number, value, fault, number_from, number_at}
use Rattle.wire.specs.Layout.{places, parts_from, Block, block, faulty, bounded, block_at}

-- The bytes of the part before are passed over at once.
pass : (after : ℕ → ℕ) (place next left : ℕ) → place ≤ next → places after place next left ≡ places after next next (left - (next - place))
unfolding places
pass after place next zero h =
    let e : 0 - (next - place) ≡ 0 = omega arith in
    rw (e)
pass after place next (suc left) h = by_place (ℕ_discrete place next) (λ k. pass after (suc place) next left k)
  where
    by_place : Dec (place ≡ next) → (suc place ≤ next → places after (suc place) next left ≡ places after next next (left - (next - suc place))) →
        cond (ltb place next) (places after (suc place) next left) (place ∷ places after (suc place) (after place) left)
        ≡ places after next next (suc left - (next - place))
    by_place (yes e) ih =
        let d : suc left - (next - place) ≡ suc left = omega (arith, e) in
        rw (d, e, le-ltb next next (omega arith))
    by_place (no e) ih =
        let d : suc left - (next - place) ≡ left - (next - suc place) = omega (arith, e) in
        rw (d, lt-ltb place next (omega (arith, e))) (ih (omega (arith, e)))

module _ (message : List ℕ) (after : ℕ → ℕ) (start : ℕ) where
  pub at_end : length message ≤ start → parts_from message after start ≡ []
  unfolding places
  at_end h =
      let e : length message - start ≡ 0 = omega arith in
      rw (e)

  pub one_more : start < length message → start < after start → parts_from message after start ≡ start ∷ parts_from message after (after start)
  unfolding places
  one_more h k =
      let e : length message - start ≡ suc (length message - suc start) = omega arith in
      let d : length message - suc start - (after start - suc start) ≡ length message - after start = omega arith in
      rw (e, le-ltb start start (omega arith), ← d)
      (ap (λ (l : List ℕ). start ∷ l) (pass after (suc start) (after start) (length message - suc start) k))

-- What is said is said by at least one byte, and by bytes that are there.
abbrev pub Fits : ℕ → Said → Type 0
Fits size (says number width) = (1 ≤ width) × (width ≤ size)
Fits size cut = Unit {0}
Fits size endless = Unit {0}

longer : (low size : ℕ) (s : Said) → Fits size s → Fits (suc size) (below low s)
longer low size (says number width) f = (omega arith, omega (arith, f.1))
longer low size cut f = tt
longer low size endless f = tt

pub fits : (n : ℕ) (bytes : List ℕ) → Fits (length bytes) (said n bytes)
unfolding said
fits zero bytes = tt
fits (suc n) [] = tt
fits (suc n) (b ∷ bytes) = by_size (ltb b 128) (longer (b - 128) (length bytes) (said n bytes) (fits n bytes))
  where
    by_size : (t : Bool) → Fits (suc (length bytes)) (below (b - 128) (said n bytes)) → Fits (suc (length bytes)) (cond t (says b 1) (below (b - 128) (said n bytes)))
    by_size true f = (omega arith, omega arith)
    by_size false f = f

-- Where a number and what follows it stand; a fault is a cut if no byte is there.
abbrev pub Stands : (message : List ℕ) (place : ℕ) → Number → Type 0
Stands message place (value number next) = (place < next) × (next ≤ length message)
Stands message place (fault refusal) =
    place ≤ length message → (21 ≤ refusal) × (refusal ≤ 25) × (32 * place + refusal ≤ 32 * length message + 21)

-- Some bytes are there unless the varint is cut.
abbrev There : ℕ → Said → Type 0
There size (says number width) = Unit {0}
There size cut = Unit {0}
There size endless = 1 ≤ size

there : (bytes : List ℕ) → There (length bytes) (said 10 bytes)
unfolding said
there [] = tt
there (b ∷ bytes) = by_said (said 10 (b ∷ bytes))
  where
    by_said : (s : Said) → There (suc (length bytes)) s
    by_said (says number width) = tt
    by_said cut = tt
    by_said endless = omega arith

pub stands : (message : List ℕ) (place : ℕ) → Stands message place (number_at message place)
unfolding number_at
stands message place =
    by_said (said 10 (drop place message))
    (subst (λ (n : ℕ). Fits n (said 10 (drop place message))) (length-drop place message) (fits 10 (drop place message)))
    (subst (λ (n : ℕ). There n (said 10 (drop place message))) (length-drop place message) (there (drop place message)))
  where
    by_size : (number width : ℕ) (t : Bool) → Fits (length message - place) (says number width) → Stands message place (cond t (fault 24) (value number (place + width)))
    by_size number width true f = λ h. (omega arith, omega arith, omega (arith, f.0, f.1))
    by_size number width false f = (omega (arith, f.0), omega (arith, f.0, f.1))

    by_said : (s : Said) → Fits (length message - place) s → There (length message - place) s → Stands message place (number_from place s)
    by_said (says number width) f u = by_size number width (ltb 4294967295 number) f
    by_said cut f u = λ h. (omega arith, omega arith, omega arith)
    by_said endless f u = λ h. (omega arith, omega arith, omega (arith, u))

module _ (message : List ℕ) (place number next : ℕ) (e : number_at message place ≡ value number next) where
  -- A number that was read has its bytes in the message.
  pub after_read : (place < next) × (next ≤ length message)
  after_read = subst (Stands message place) e (stands message place)

  -- A part of so many bytes.
  pub runs_past : length message - next < number → faulty 21 ≡ block_at message place
  runs_past h = rw (e, lt-ltb (length message) (next + number) (omega (arith, after_read.1)))

  pub within : number ≤ length message - next → block next number ≡ block_at message place
  within h = rw (e, le-ltb (length message) (next + number) (omega (arith, after_read.1)))

-- A part that was found lies in the message, behind its length.
abbrev pub BlockStands : (message : List ℕ) (place : ℕ) → Block → Type 0
BlockStands message place (block start size) = (place < start) × (start + size ≤ length message)
BlockStands message place (faulty refusal) =
    place ≤ length message → (21 ≤ refusal) × (refusal ≤ 25) × (32 * place + refusal ≤ 32 * length message + 21)

pub block_stands : (message : List ℕ) (place : ℕ) → BlockStands message place (block_at message place)
block_stands message place = by_number (number_at message place) (stands message place)
  where
    by_size : (size start : ℕ) (t : Bool) → ltb (length message) (start + size) ≡ t → (place < start) × (start ≤ length message) →
        BlockStands message place (cond t (faulty 21) (block start size))
    by_size size start true e s = λ h. (omega arith, omega arith, omega arith)
    by_size size start false e s = (s.0, ltb-false (length message) (start + size) e)

    by_number : (n : Number) → Stands message place n → BlockStands message place (bounded message n)
    by_number (value size start) s = by_size size start (ltb (length message) (start + size)) refl s
    by_number (fault refusal) s = s

pub block_within : (message : List ℕ) (place start size : ℕ) → block_at message place ≡ block start size → (place < start) × (start + size ≤ length message)
block_within message place start size e = subst (BlockStands message place) e (block_stands message place)
