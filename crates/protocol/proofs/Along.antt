-- What each call keeps holds along a list of calls.
-- Assumes nothing.
use mathlib.Core.List.{List, [], ◌∷◌}
use Prim.Native.Nat.{ℕ}
use Rattle.event.specs.Call.{Call}
use Rattle.record.specs.Limits.{Limits}
use Rattle.record.specs.declared.Connection.{Connection}
use Rattle.protocol.specs.Along.{Along}
use Rattle.protocol.specs.Run.{results_of}
use Rattle.protocol.specs.Step.{Result, result_of}

-- I is what each call is given and leaves: of what led to it, the record and the cache. P is what then holds of it.
module _ {Past : Type 0} (limits : Limits) (P : Past → Call → Result → Type 0) (next : Past → Call → Result → Past) (I : Past → Connection → List ℕ → Type 0)
    (each : (past : Past) (connection : Connection) (cache : List ℕ) (call : Call) → I past connection cache
    → let result = result_of limits connection call cache in P past call result × I (next past call result) result.outcome.connection result.cache) where
  pub along : (past : Past) (connection : Connection) (cache : List ℕ) → I past connection cache → (calls : List Call) → Along P next past calls (results_of limits connection cache calls)
  unfolding Along results_of
  along past connection cache i [] = tt
  along past connection cache i (call ∷ calls) =
      let result = result_of limits connection call cache in
      let e = each past connection cache call i in
      (e.0, along (next past call result) result.outcome.connection result.cache e.1 calls)
