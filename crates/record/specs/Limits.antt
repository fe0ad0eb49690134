-- Document 01, "Refusal numbers": the limits of a payload, of the cache and of the number of handled events.
-- The definitions take them from a parameter of this type; `limits` are the numbers of document 01.
use Rattle.std.specs.Prelude.{ℕ}

-- The limits of a build.
pub record Limits : Type 0 where
  -- The most bytes of a payload and of the cached block, and the fewest bytes of a cache.
  pub payload : ℕ
  -- The largest number of handled events.
  pub handled : ℕ

-- Document 01's limits.
abbrev pub limits : Limits
limits = record { payload = 4096; handled = 4294967295 }
