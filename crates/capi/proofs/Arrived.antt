-- A message given to the step by the exports is one given to it by `inbound`.
use mathlib.Core.Path.{◌≡◌, refl, sym, ap, ◌∙◌}
use mathlib.Core.List.{List}
use Prim.Native.Nat.{ℕ, zero, suc, ◌+◌}
use native.Mathlib.Omega.{arith}
use lib.ListN.{length, take, drop}
use borrow.Author.Tests.{le-ltb, ne_eqb}
use Rattle.std.specs.Prelude.{Option}
use Rattle.connection.specs.Also.{result_also}
use Rattle.record.specs.Numbers.{record_in}
use Rattle.arrival.specs.Arrival.{also_of, code_of}
use Rattle.inbound.specs.Received.{Given, call_from, given, received, received_as}
use Rattle.messages.proofs.Lengths.{all_there}
use Rattle.fault.specs.Fault.{Reading, read_as, refused}
use Rattle.fields.specs.Message.{Message, made}
use Rattle.messages.specs.Outer.{reading_of}
use Rattle.messages.specs.Numbers.{part_of}
use Rattle.wire.specs.Lists.{entries}
use Rattle.interface.specs.Event.{flat_event_with}
use Rattle.capi.specs.Arrived.{JoinedToStep, token_of, token_refusal}
use Rattle.capi.specs.Returned.{returned, returned_of}
use Rattle.interface.specs.Verdict.{refused_as}
use Rattle.interface.specs.declared.FlatToken.{FlatToken}

-- A wrong verdict is refused with the messages that carry a token.
same_refusal : (n bit : ℕ) (token : FlatToken) → refused_as (flat_event_with (code_of n) bit token) ≡ also_of n (token_refusal token)
same_refusal zero bit token = refl
same_refusal (suc zero) bit token = refl
same_refusal (suc (suc zero)) bit token = refl
same_refusal (suc (suc (suc zero))) bit token = refl
same_refusal (suc (suc (suc (suc zero)))) bit token = refl
same_refusal (suc (suc (suc (suc (suc zero))))) bit token = refl
same_refusal (suc (suc (suc (suc (suc (suc zero)))))) bit token = refl
same_refusal (suc (suc (suc (suc (suc (suc (suc zero))))))) bit token = refl
same_refusal (suc (suc (suc (suc (suc (suc (suc (suc zero)))))))) bit token = refl
same_refusal (suc (suc (suc (suc (suc (suc (suc (suc (suc zero))))))))) bit token = refl
same_refusal (suc (suc (suc (suc (suc (suc (suc (suc (suc (suc n)))))))))) bit token =
    rw (ne_eqb (suc (suc (suc (suc (suc (suc (suc (suc (suc (suc n)))))))))) 1 (λ e. omega (arith, e)), ne_eqb (suc (suc (suc (suc (suc (suc (suc (suc (suc (suc n)))))))))) 4 (λ e. omega (arith, e)))

-- The step with a message of the definition, for bytes that are that message.
module _ (connection bytes cache : List ℕ) (token : FlatToken) (our_verifiers our_provers : List ℕ) where
  abbrev g : Given
  g = given (token_of token) (token_refusal token) our_verifiers our_provers

  stepped : (m : Message) → reading_of bytes ≡ read_as m →
      returned connection (flat_event_with (code_of m.number) m.bit token) (part_of bytes (record { place = m.place; size = m.size })) cache
      our_verifiers m.provers m.verifiers our_provers
      ≡ returned_of (received (record_in connection) bytes g cache)
  unfolding returned received
  stepped m e =
      ap (λ (also : Option ℕ). returned_of (result_also also (record_in connection) (call_from m bytes g) cache)) (same_refusal m.number m.bit token)
      ∙ ap (λ (r : Reading Message). returned_of (received_as (record_in connection) r bytes g cache)) (sym e)

pub joined_to_step : JoinedToStep
unfolding received part_of
joined_to_step connection bytes cache token our_verifiers our_provers r provers verifiers f = (
  λ none.
      let part : take r.size (drop r.place bytes) ≡ part_of bytes (record { place = r.place; size = r.size }) =
      rw (le-ltb (length bytes) (r.place + r.size) f.lies)
      in
      let p : take r.provers provers ≡ entries r.provers provers = sym (all_there r.provers provers f.sixteen.0 f.counts.0) in
      let v : take r.verifiers verifiers ≡ entries r.verifiers verifiers = sym (all_there r.verifiers verifiers f.sixteen.1 f.counts.1) in
      (λ i. returned connection (flat_event_with (code_of r.number) r.bit token) (part i) cache our_verifiers (p i) (v i) our_provers)
      ∙ stepped connection bytes cache token our_verifiers our_provers
      (made r.number r.place r.size r.bit (entries r.provers provers) (entries r.verifiers verifiers)) (sym f.says ∙ rw (none)),
  λ some.
      let e : reading_of bytes ≡ refused r.refusal = sym f.says ∙ rw (ne_eqb r.refusal 0 some) in
      ap (λ (q : Reading Message). received_as (record_in connection) q bytes (given (token_of token) (token_refusal token) our_verifiers our_provers) cache) e,
)
