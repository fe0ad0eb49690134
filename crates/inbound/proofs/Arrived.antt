-- A message that was read, as numbers, and the call that it is.
use mathlib.Core.Path.{◌≡◌, sym, ap, ◌∙◌}
use mathlib.Core.List.{List, []}
use Prim.Native.Nat.{ℕ, ◌<◌, ◌≤◌}
use native.Mathlib.Omega.{arith}
use lib.ListN.{length}
use borrow.Author.Tests.{eq-eqb, ne_eqb, le-ltb}
use Rattle.connection.specs.Also.{result_also}
use Rattle.event.specs.Call.{call_of}
use Rattle.protocol.specs.Step.{result_with, unchanged}
use Rattle.protocol.specs.declared.Answer.TheVariants.{Refused}
use Rattle.record.specs.declared.Connection.{Connection}
use Rattle.messages.proofs.Lengths.{all_there}
use Rattle.fault.specs.Fault.{Reading, read_as, refused}
use Rattle.messages.specs.Flat.{reading_by}
use Rattle.fields.specs.Message.{made}
use Rattle.messages.specs.Outer.{reading_of}
use Rattle.fields.specs.Message as spec
use Rattle.wire.specs.Lists.{entries}
use Rattle.messages.specs.Numbers.{part_of}
use Rattle.messages.specs.declared.flat.FlatMessage.{FlatMessage}
use Rattle.arrival.specs.Arrival.{also_of, event_of}
use Rattle.inbound.specs.Received.{Given, first_entries, place_in, received, received_as}

-- The first entries of a list of sixteen.
pub first_entries_lem : (count : ℕ) (list : List ℕ) → length list ≡ 16 → count ≤ 16 → first_entries count list ≡ entries count list
first_entries_lem count list e h = rw (all_there count list e h, le-ltb (length list) count (omega (arith, e)))

module _ (bytes provers verifiers : List ℕ) (m : FlatMessage) (e : reading_by m provers verifiers ≡ reading_of bytes) where
  module _ (some : 0 < m.refusal) where
    is_refused : reading_of bytes ≡ refused m.refusal
    is_refused = sym e ∙ rw (ne_eqb m.refusal 0 (λ z. omega (arith, z, some)))

    pub arrived_refused : (connection : Connection) (g : Given) (cache : List ℕ) → received connection bytes g cache ≡ result_with (unchanged (Refused m.refusal) connection) [] cache
    unfolding received
    arrived_refused connection g cache = ap (λ (r : Reading spec.Message). received_as connection r bytes g cache) is_refused

    pub refused_place : 0 ≡ place_in (reading_of bytes)
    refused_place = sym (ap place_in is_refused)

  module _ (none : m.refusal ≤ 0) where
    is_read : reading_of bytes ≡ read_as (made m.number m.place m.size m.bit (entries m.provers provers) (entries m.verifiers verifiers))
    is_read = sym e ∙ rw (eq-eqb m.refusal 0 (omega arith))

    pub arrived_read : (connection : Connection) (g : Given) (cache : List ℕ) →
        received connection bytes g cache
        ≡ result_also (also_of m.number g.token_refusal) connection
        (call_of (event_of m.number m.bit g.token) (part_of bytes (record { place = m.place; size = m.size })) g.our_verifiers (entries m.provers provers) (entries m.verifiers verifiers) g.our_provers)
        cache
    unfolding received
    arrived_read connection g cache = ap (λ (r : Reading spec.Message). received_as connection r bytes g cache) is_read

    pub read_place : m.place ≡ place_in (reading_of bytes)
    read_place = sym (ap place_in is_read)
