-- `capi::menhotrac_read` meets its contract.
use mathlib.Core.Path.{sym, subst}
use Prim.Native.Nat.{◌+◌, ◌≤◌}
use lib.ListN.{length}
use Rattle.messages.specs.declared.flat.FlatMessage.{FlatMessage}
use Rattle.capi.proofs.Read.{lies}
use Rattle.capi.proofs.menhotrac_read.Goals as goal

pub returns-clause-lies : goal.returns-clause-lies
returns-clause-lies c = subst (λ (m : FlatMessage). m.place + m.size ≤ length c.args.bytes.now) (sym c.read_flat.ensures.numbers) (lies c.args.bytes.now)
