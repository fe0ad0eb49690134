-- What a handled event does to the cached block, and what it orders for blocks: DATA, ACK and delivery, by its code.
-- Assumes nothing.
use mathlib.Core.Path.{◌≡◌, refl, sym, subst, subst⁻¹, ap, ◌∙◌}
use mathlib.Core.Bool.{Bool, true, false, not, ◌||◌, cond}
use mathlib.Core.List.{List, [], ◌∷◌}
use mathlib.Core.Option.{some}
use Prim.Native.Nat.{ℕ, ◌≤◌}
use native.Mathlib.Omega.{arith}
use lib.Dec.{T, eqb, eqb→eq}
use lib.ListN.{length, take, length-append}
use lib.Seq.{take-append_seam, take-length}
use borrow.Author.Tests.{eqb-true, le-leb}
use Rattle.event.specs.Call.{Call, carries_payload, input_by, input_of}
use Rattle.event.specs.Kind.{kind_at, kind_of, fields_of}
use Rattle.record.specs.Limits.{Limits}
use Rattle.record.specs.WellFormed.{well_formed}
use Rattle.table.specs.Sets.{is_in}
use Rattle.table.specs.Table.{ignored}
use Rattle.protocol.specs.Actions.{bit_of, source_of, length_of, actions_of}
use Rattle.protocol.specs.Agreement.{block, when, data_of, ack_of, delivered_of}
use Rattle.protocol.specs.Block.{stored, front, part_of}
use Rattle.protocol.specs.Condition.{condition_of, meets, holds, next_state}
use Rattle.protocol.specs.Orders as order
use Rattle.protocol.specs.Step.{Result}
use Rattle.protocol.specs.declared.Actions.{Actions}
use Rattle.record.specs.declared.Connection.{Connection}
use Rattle.event.specs.declared.Event.{Event}
use Rattle.event.specs.declared.Input.{Input}
use Rattle.protocol.proofs.BlockEvents.{cell_right, cell_right_lem, Handles, handles_if}
use Rattle.protocol.proofs.Moved.{Advanced, advanced, Ordered, ordered}
use Rattle.protocol.proofs.Stepped.{moved_to, number, next, Faultless, payload_length, unrefused}
use Rattle.record.proofs.WellFormed.{parts}
use Rattle.table.proofs.Finite.{and_left, and_right, is_false, implied}

-- An implication that a test states, at a code.
at_code : (k n : ℕ) (p : ℕ → Bool) (b : Bool) → T (not (p k) || b) → k ≡ n → T (p n) → T b
at_code k n p b t e u = implied (p k) b t (subst⁻¹ (λ (m : ℕ). T (p m)) e u)

-- The first bytes of a slice that has them.
pub front_of : (n : ℕ) (bytes : List ℕ) → n ≤ length bytes → front n bytes ≡ take n bytes
front_of n bytes h = rw (le-leb n (length bytes) h)

front_stored : (payload cache : List ℕ) → front (length payload) (stored payload cache) ≡ payload
front_stored payload cache = front_of (length payload) (stored payload cache) (simp length-append (omega arith)) ∙ take-append_seam payload _

front_whole : (bytes : List ℕ) → front (length bytes) bytes ≡ bytes
front_whole bytes = front_of (length bytes) bytes (omega arith) ∙ take-length bytes

front_none : (bytes : List ℕ) → front 0 bytes ≡ []
front_none bytes = front_of 0 bytes (omega arith)

-- The part that actions name, of the cache or of the event's payload.
part_cached : (a : Actions) (payload cache : List ℕ) (n : ℕ) → a.payload_slice ≡ order.of_cache → a.payload_len ≡ n → part_of a payload cache ≡ front n cache
unfolding part_of
part_cached a payload cache n s l = rw (s, l)

part_event : (a : Actions) (payload cache : List ℕ) (n : ℕ) → a.payload_slice ≡ order.of_event → a.payload_len ≡ n → part_of a payload cache ≡ front n payload
unfolding part_of
part_event a payload cache n s l = rw (s, l)

-- Values under tests that are the same.
pub when_same : {A : Type 0} (a b : Bool) (x y : A) → a ≡ b → (T b → x ≡ y) → when a x ≡ when b y
when_same true true x y e h = ap some (h tt)
when_same true false x y e h = absurd (subst T e tt)
when_same false true x y e h = absurd (subst⁻¹ T e tt)
when_same false false x y e h = refl

-- What only an event that does not lock does.
unless_locked : (locks b : Bool) → (T b → locks ≡ false) → cond locks false b ≡ b
unless_locked true true h = absurd (subst T (h tt) tt)
unless_locked true false h = refl
unless_locked false b h = refl

-- The bit that the step reads is the event's, at a code whose kind carries one.
own_bit : (event : Event) (n : ℕ) → (fields_of (kind_at n event)).bit ≡ event.bit → event.code ≡ n → (fields_of (kind_of event)).bit ≡ event.bit
unfolding kind_of
own_bit event n e c = ap (λ (m : ℕ). (fields_of (kind_at m event)).bit) c ∙ e

-- Of a handled call: what it found, what it orders for blocks, and the block that the cache holds after it.
pub record Blocks (connection : Connection) (call : Call) (cache : List ℕ) (to : ℕ) (result : Result) : Type 0 where
  pub unlocked : eqb connection.state 9 ≡ false
  pub stays : T (is_in (2 ∷ 18 ∷ 19 ∷ 23 ∷ []) call.event.code) → eqb to 9 ≡ false
  -- 2 finds no block waiting, 23 finds one; 18 has the expected bit, 19 the next-send bit of a waiting block.
  pub accepts : call.event.code ≡ 2 → connection.awaiting_ack ≡ 0
  pub repeats : call.event.code ≡ 23 → connection.awaiting_ack ≡ 1
  pub receives : call.event.code ≡ 18 → call.event.bit ≡ connection.expected_bit
  pub acknowledges : call.event.code ≡ 19 → (connection.awaiting_ack ≡ 1) × (call.event.bit ≡ connection.next_send_bit)
  -- DATA is ordered by 2 and 23, with the next-send bit; ACK, and delivery, by 18.
  pub is_data : eqb result.outcome.actions.message order.DATA ≡ is_in (2 ∷ 23 ∷ []) call.event.code
  pub is_ack : eqb result.outcome.actions.message order.ACK ≡ eqb call.event.code 18
  pub delivers : result.outcome.actions.deliver ≡ eqb call.event.code 18
  pub data_bit : T (is_in (2 ∷ 23 ∷ []) call.event.code) → result.outcome.actions.bit ≡ connection.next_send_bit
  pub data_ordered : data_of result ≡ when (is_in (2 ∷ 23 ∷ []) call.event.code) (block connection.next_send_bit (cond (eqb call.event.code 2) call.payload (front connection.cached_len cache)))
  pub ack_ordered : ack_of result ≡ when (eqb call.event.code 18) call.event.bit
  pub delivered : delivered_of result ≡ when (eqb call.event.code 18) call.payload
  pub held : front result.outcome.connection.cached_len result.cache ≡ cond (eqb to 9) [] (cond (eqb call.event.code 2) call.payload (cond (eqb call.event.code 19) [] (front connection.cached_len cache)))

module _ (limits : Limits) (connection : Connection) (call : Call) (cache : List ℕ) (to : ℕ)
    (faultless : Faultless limits call (length cache)) (well : T (well_formed limits connection))
    (leads : next_state connection call.event.code (input_of limits call (length cache)) ≡ to) (heeds : eqb to ignored ≡ false) where
  abbrev k : ℕ
  k = call.event.code

  abbrev input : Input
  input = input_of limits call (length cache)

  abbrev result : Result
  result = moved_to limits to connection call cache

  handles : Handles connection.state k connection.awaiting_ack (holds connection k input) to
  unfolding next_state
  handles =
      let p = parts limits connection well in
      handles_if connection.state k connection.awaiting_ack (holds connection k input) to p.flag_fits_lem heeds
      (subst (λ (n : ℕ). T (cell_right connection.state k connection.awaiting_ack (holds connection k input) n)) leads
      (cell_right_lem connection.state k connection.awaiting_ack (holds connection k input) p.state faultless.code p.flag))

  stays : T (is_in (2 ∷ 18 ∷ 19 ∷ 23 ∷ []) k) → eqb to 9 ≡ false
  stays t = is_false (eqb to 9) (implied (is_in (2 ∷ 18 ∷ 19 ∷ 23 ∷ []) k) _ handles.stays t)

  sheet : Ordered connection k input to (eqb to 9) (actions_of connection k input to)
  sheet = ordered connection k input to

  -- The actions of an event that moves blocks.
  module _ (n : ℕ) (is : k ≡ n) (moves : T (is_in (2 ∷ 18 ∷ 19 ∷ 23 ∷ []) n)) where
    open_still : eqb to 9 ≡ false
    open_still = stays (subst⁻¹ (λ (m : ℕ). T (is_in (2 ∷ 18 ∷ 19 ∷ 23 ∷ []) m)) is moves)

    bit_is : (actions_of connection k input to).bit ≡ bit_of n connection.next_send_bit input.bit
    bit_is = sheet.bit ∙ rw (open_still, is)

    slice_is : (actions_of connection k input to).payload_slice ≡ source_of n
    slice_is = sheet.slice ∙ rw (open_still, is)

    length_is : (actions_of connection k input to).payload_len ≡ length_of n connection.cached_len input.payload_len
    length_is = sheet.length ∙ rw (open_still, is)

    -- The cache after it.
    cache_is : result.cache ≡ cond (eqb n 2) (stored call.payload cache) cache
    cache_is = ap (λ (m : ℕ). cond (eqb m 2) (stored call.payload cache) cache) is

    carries : T (carries_payload n) → input.payload_len ≡ length call.payload
    carries t = payload_length limits call (length cache) faultless (subst⁻¹ (λ (m : ℕ). T (carries_payload m)) is t)

  part_2 : k ≡ 2 → result.part ≡ call.payload
  part_2 e =
      part_cached (actions_of connection k input to) call.payload result.cache (length call.payload) (slice_is 2 e tt) (length_is 2 e tt ∙ carries 2 e tt tt)
      ∙ ap (front (length call.payload)) (cache_is 2 e tt) ∙ front_stored call.payload cache

  part_23 : k ≡ 23 → result.part ≡ front connection.cached_len cache
  part_23 e =
      part_cached (actions_of connection k input to) call.payload result.cache connection.cached_len (slice_is 23 e tt) (length_is 23 e tt)
      ∙ ap (front connection.cached_len) (cache_is 23 e tt)

  part_18 : k ≡ 18 → result.part ≡ call.payload
  part_18 e =
      part_event (actions_of connection k input to) call.payload result.cache (length call.payload) (slice_is 18 e tt) (length_is 18 e tt ∙ carries 18 e tt tt)
      ∙ front_whole call.payload

  bit_18 : k ≡ 18 → (actions_of connection k input to).bit ≡ call.event.bit
  unfolding input_by
  bit_18 e = bit_is 18 e tt ∙ own_bit call.event 18 refl e

  is_data : eqb (actions_of connection k input to).message order.DATA ≡ is_in (2 ∷ 23 ∷ []) k
  is_data = ap (λ (m : ℕ). eqb m order.DATA) sheet.message ∙ handles.is_data

  is_ack : eqb (actions_of connection k input to).message order.ACK ≡ eqb k 18
  is_ack = ap (λ (m : ℕ). eqb m order.ACK) sheet.message ∙ handles.is_ack

  delivers : (actions_of connection k input to).deliver ≡ eqb k 18
  delivers = sheet.deliver ∙ unless_locked (eqb to 9) (eqb k 18) (λ t. open_still 18 (eqb→eq k 18 t) tt)

  -- The bit and the block that DATA carries.
  data_bit : (accepts repeats : Bool) → eqb k 2 ≡ accepts → eqb k 23 ≡ repeats → T (accepts || repeats) → (actions_of connection k input to).bit ≡ connection.next_send_bit
  data_bit true b e f t = bit_is 2 (eqb-true k 2 e) tt
  data_bit false true e f t = bit_is 23 (eqb-true k 23 f) tt
  data_bit false false e f t = absurd t

  sent : (accepts repeats : Bool) → eqb k 2 ≡ accepts → eqb k 23 ≡ repeats → T (accepts || repeats)
      → block (actions_of connection k input to).bit result.part ≡ block connection.next_send_bit (cond accepts call.payload (front connection.cached_len cache))
  sent true b e f t = λ i. block (data_bit true b e f t i) (part_2 (eqb-true k 2 e) i)
  sent false true e f t = λ i. block (data_bit false true e f t i) (part_23 (eqb-true k 23 f) i)
  sent false false e f t = absurd t

  after : Advanced connection k input to (eqb to 9) result.outcome.connection
  after = advanced connection k input to

  -- The block in the cache after it.
  held_by : (locks accepts ends : Bool) → (T accepts → input.payload_len ≡ length call.payload)
      → front (cond locks 0 (cond accepts input.payload_len (cond ends 0 connection.cached_len))) (cond accepts (stored call.payload cache) cache)
      ≡ cond locks [] (cond accepts call.payload (cond ends [] (front connection.cached_len cache)))
  held_by true a b f = front_none (cond a (stored call.payload cache) cache)
  held_by false true b f = ap (λ (n : ℕ). front n (stored call.payload cache)) (f tt) ∙ front_stored call.payload cache
  held_by false false true f = front_none cache
  held_by false false false f = refl

  -- The condition of an event with a bit.
  condition_at : (n : ℕ) → k ≡ n → T (is_in (18 ∷ 19 ∷ []) n) → T (meets connection input (condition_of n input.timer))
  unfolding holds
  condition_at n e u = subst (λ (m : ℕ). T (meets connection input (condition_of m input.timer))) e (at_code k n (is_in (18 ∷ 19 ∷ [])) _ handles.bit e u)

  received : k ≡ 18 → call.event.bit ≡ connection.expected_bit
  unfolding input_by
  received e = sym (own_bit call.event 18 refl e) ∙ eqb→eq input.bit connection.expected_bit (condition_at 18 e tt)

  acknowledged : k ≡ 19 → (connection.awaiting_ack ≡ 1) × (call.event.bit ≡ connection.next_send_bit)
  unfolding input_by
  acknowledged e =
      let t = condition_at 19 e tt in (
        eqb→eq connection.awaiting_ack 1 (and_left (eqb connection.awaiting_ack 1) _ t),
        sym (own_bit call.event 19 refl e) ∙ eqb→eq input.bit connection.next_send_bit (and_right (eqb connection.awaiting_ack 1) _ t),
      )

  pub blocks : Blocks connection call cache to result
  blocks = record {
    unlocked = handles.unlocked;
    stays = stays;
    accepts = λ e. eqb→eq connection.awaiting_ack 0 (at_code k 2 (λ m. eqb m 2) _ handles.accepts e tt);
    repeats = λ e. eqb→eq connection.awaiting_ack 1 (at_code k 23 (λ m. eqb m 23) _ handles.repeats e tt);
    receives = received;
    acknowledges = acknowledged;
    is_data = is_data;
    is_ack = is_ack;
    delivers = delivers;
    data_bit = data_bit (eqb k 2) (eqb k 23) refl refl;
    data_ordered = when_same _ _ _ _ is_data (sent (eqb k 2) (eqb k 23) refl refl);
    ack_ordered = when_same _ _ _ _ is_ack (λ t. bit_18 (eqb→eq k 18 t));
    delivered = when_same _ _ _ _ delivers (λ t. part_18 (eqb→eq k 18 t));
    held = ap (λ (n : ℕ). front n result.cache) after.length ∙ held_by (eqb to 9) (eqb k 2) (eqb k 19) (λ t. carries 2 (eqb→eq k 2 t) tt tt);
  }

-- The same of a call that is not refused and whose event is not ignored.
pub handled_blocks : (limits : Limits) (connection : Connection) (call : Call) (cache : List ℕ) → number limits connection call cache ≡ 0 → eqb (next limits connection call cache) ignored ≡ false
    → Blocks connection call cache (next limits connection call cache) (moved_to limits (next limits connection call cache) connection call cache)
handled_blocks limits connection call cache n i =
    let u = unrefused limits connection call cache n in
    blocks limits connection call cache (next limits connection call cache) u.arguments u.well refl i
