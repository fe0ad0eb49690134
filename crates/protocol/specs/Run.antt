-- Document 01, "The five notes": a list of calls, each given the record and the cache that the last one left.
use Rattle.std.specs.Prelude.{List, [], ◌∷◌, ℕ}
use Rattle.event.specs.Call.{Call}
use Rattle.record.specs.Limits.{Limits}
use Rattle.protocol.specs.Step.{Result, result_of}
use Rattle.record.specs.declared.Connection.{Connection}

-- What the host gets for each call of the list.
unfoldable pub results_of : Limits → Connection → (cache : List ℕ) → List Call → List Result
results_of limits connection cache [] = []
results_of limits connection cache (call ∷ calls) =
    let result = result_of limits connection call cache in
    result ∷ results_of limits result.outcome.connection result.cache calls

-- A record and a cache that a host has after some calls.
pub record Left : Type 0 where
  pub connection : Connection
  pub cache : List ℕ

-- Those of a result.
abbrev pub left_by : Result → Left
left_by result = record { connection = result.outcome.connection; cache = result.cache }

-- Those of the last result, or the given ones if there is none.
abbrev pub last_of : Left → List Result → Left
last_of left [] = left
last_of left (result ∷ results) = last_of (left_by result) results

-- What a list of calls leaves.
unfoldable pub left_of : Limits → Connection → (cache : List ℕ) → List Call → Left
left_of limits connection cache calls = last_of (record { connection = connection; cache = cache }) (results_of limits connection cache calls)
