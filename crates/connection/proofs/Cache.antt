-- When a call writes the cache, and that there is room for the block.
-- Assumes nothing.
use mathlib.Core.Path.{◌≡◌, refl, subst⁻¹}
use mathlib.Core.List.{List}
use Prim.Native.Nat.{ℕ, ◌≤◌}
use native.Mathlib.Omega.{arith}
use lib.Dec.{T}
use lib.ListN.{length}
use borrow.Author.Tests.{eq-eqb, ne_eqb}
use Rattle.protocol.specs.Block.{stored}
use Rattle.event.specs.Call.{Call, carries_payload}
use Rattle.record.specs.Limits.{Limits}
use Rattle.protocol.specs.Step.{step_of, cache_after}
use Rattle.protocol.specs.declared.Answer.{Answer}
use Rattle.protocol.specs.declared.Answer.TheVariants.{Handled, Ignored, Refused}
use Rattle.record.specs.declared.Connection.{Connection}
use Rattle.protocol.proofs.Stepped.{handled_unrefused}

-- The payload of a handled event 2 fits in the cache.
pub room_for : (limits : Limits) (connection : Connection) (call : Call) (cache : List ℕ) → (step_of limits connection call (length cache)).answer ≡ Handled → call.event.code ≡ 2 → length call.payload ≤ length cache
room_for limits connection call cache e two =
    let f = (handled_unrefused limits connection call cache e).arguments in
    let p = f.payload (subst⁻¹ (λ (k : ℕ). T (carries_payload k)) two tt) in
    let q = f.cache in
    omega arith

-- The cache after a call that is not handled, a handled event 2, and another handled event.
module _ (call : Call) (cache : List ℕ) where
  pub kept : (x : Answer) → (x ≡ Handled → ⊥) → cache ≡ cache_after x call cache
  kept Handled o = absurd (o refl)
  kept Ignored o = refl
  kept (Refused n) o = refl

  pub written : (x : Answer) → x ≡ Handled → call.event.code ≡ 2 → stored call.payload cache ≡ cache_after x call cache
  written x h e = rw (h, eq-eqb call.event.code 2 e)

  pub unwritten : (x : Answer) → x ≡ Handled → (call.event.code ≡ 2 → ⊥) → cache ≡ cache_after x call cache
  unwritten x h e = rw (h, ne_eqb call.event.code 2 e)
