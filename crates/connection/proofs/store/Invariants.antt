-- The loop has copied the first i bytes of the payload.
use Rattle.std.proofs.Common.{◌≡◌, ◌≤◌, ◌++◌, length, take, drop}
use Rattle.connection.proofs.store.Given as goal

abbrev pub invariant-loop-i : goal.invariant-loop-i
invariant-loop-i l = (l.i ≤ length l.payload) × (l.cache ≡ take l.i l.payload ++ drop l.i l.initial.cache)
