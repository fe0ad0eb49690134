-- The two lists have sixteen entries after reading if they had them before.
use mathlib.Core.Path.{◌≡◌}
use mathlib.Core.List.{List, append-nil}
use Prim.Native.Nat.{ℕ, ◌-◌, ◌≤◌}
use native.Mathlib.Omega.{arith}
use lib.ListN.{length, take, length-append, length-take, length-replicate}
use mathlib.Core.Bool.{Bool, true, false, cond}
use lib.Dec.{eqb}
use Rattle.fault.specs.Fault.{Reading, read_as, refused}
use Rattle.wire.specs.Lists.{entries, padded}
use Rattle.wire.proofs.Lists.{length_padded}
use Rattle.fields.specs.Message as spec
use Rattle.fields.specs.Contents.{provers_after, verifiers_after}
use Rattle.messages.specs.Flat.{flat_in}

pub length_entries : (count : ℕ) (list : List ℕ) → length (entries count list) ≡ count
length_entries count list = rw (length-append, length-take, length-replicate) (omega arith)

-- A list of sixteen has every entry that is counted.
pub all_there : (count : ℕ) (list : List ℕ) → length list ≡ 16 → count ≤ 16 → entries count list ≡ take count list
all_there count list e h =
    let z : count - 16 ≡ 0 = omega arith in
    rw (e, z, append-nil)

-- The lists after a reading.
module _ (before : List ℕ) (sixteen : length before ≡ 16) where
  written : (suites : List ℕ) → length suites ≤ 16 → (t : Bool) → length (cond t (padded suites) before) ≡ 16
  written suites h true = length_padded suites h
  written suites h false = sixteen

  pub provers_16 : (reading : Reading spec.Message) → (flat_in reading).provers ≤ 16 → length (provers_after reading before) ≡ 16
  provers_16 (read_as m) h = written m.provers h (eqb m.number 1)
  provers_16 (refused number) h = sixteen

  pub verifiers_16 : (reading : Reading spec.Message) → (flat_in reading).verifiers ≤ 16 → length (verifiers_after reading before) ≡ 16
  verifiers_16 (read_as m) h = written m.verifiers h (eqb m.number 1)
  verifiers_16 (refused number) h = sixteen
