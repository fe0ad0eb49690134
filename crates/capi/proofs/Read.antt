-- What was read, as numbers.
use mathlib.Core.Path.{◌≡◌, refl}
use mathlib.Core.List.{List}
use Prim.Native.Nat.{ℕ, ◌+◌, ◌≤◌}
use native.Mathlib.Omega.{arith}
use lib.ListN.{length}
use Rattle.messages.proofs.Laws.{part_lies}
use Rattle.fault.specs.Fault.{Reading, read_as, refused}
use Rattle.messages.specs.Flat.{flat_in}
use Rattle.fields.specs.Message.{Message}
use Rattle.messages.specs.Outer.{reading_of}

-- The token or payload lies in the bytes.
pub lies : (bytes : List ℕ) → (flat_in (reading_of bytes)).place + (flat_in (reading_of bytes)).size ≤ length bytes
lies bytes = by_reading (reading_of bytes) refl
  where
    by_reading : (r : Reading Message) → reading_of bytes ≡ r → (flat_in r).place + (flat_in r).size ≤ length bytes
    by_reading (read_as m) e = part_lies bytes m e
    by_reading (refused number) e = omega arith
