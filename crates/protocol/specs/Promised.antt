-- What the contracts of `step` and `part` promise a host that makes a list of calls.
use Rattle.std.specs.Prelude.{◌≡◌, List}
use Rattle.event.specs.Call.{Call}
use Rattle.record.specs.Limits.{Limits}
use Rattle.protocol.specs.Along.{Along}
use Rattle.protocol.specs.Block.{part_of}
use Rattle.protocol.specs.Run.{Left, left_by}
use Rattle.protocol.specs.Step.{Result, result_of}

-- What it got for a call, given a record and a cache, is what they promise: `step` the outcome and the cache, `part` the part of those actions.
pub record Promised (limits : Limits) (left : Left) (call : Call) (got : Result) : Type 0 where
  pub outcome : got.outcome ≡ (result_of limits left.connection call left.cache).outcome
  pub cache_left : got.cache ≡ (result_of limits left.connection call left.cache).cache
  pub part : got.part ≡ part_of got.outcome.actions call.payload got.cache

-- It is so for each call of a list, given the record and the cache that the last call left.
abbrev pub AllPromised : Limits → Left → List Call → List Result → Type 0
AllPromised limits = Along (Promised limits) (λ left call got. left_by got)
