-- Document 01, "The published table" and "Order sheet": the cached block, and the payload part that the host is given.
use Rattle.std.specs.Prelude.{ℕ, cond, List, [], ◌++◌, eqb, leb, length, take, drop}
use Rattle.protocol.specs.Orders as order
use Rattle.protocol.specs.declared.Actions.{Actions}

-- The payload in the first bytes of the cache; later bytes keep their values.
abbrev pub stored : (payload cache : List ℕ) → List ℕ
stored payload cache = payload ++ drop (length payload) cache

-- The first bytes of a slice; a slice shorter than that gives an empty part.
abbrev pub front : ℕ → List ℕ → List ℕ
front len bytes = cond (leb len (length bytes)) (take len bytes) []

-- The part that a sheet names, of the event's payload or of the cache.
unfoldable pub part_of : Actions → (payload cache : List ℕ) → List ℕ
part_of actions payload cache =
    cond (eqb actions.payload_slice order.of_cache) (front actions.payload_len cache)
    (cond (eqb actions.payload_slice order.of_event) (front actions.payload_len payload) [])
