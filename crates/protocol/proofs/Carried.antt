-- A call agrees with the history, and what it leaves follows the history after it: calls that change nothing, and handled ones.
-- Assumes nothing.
use mathlib.Core.Path.{◌≡◌, refl, sym, subst, subst⁻¹, ap, ◌∙◌}
use mathlib.Core.Bool.{Bool, true, false, not, ◌&&◌, ◌||◌, cond}
use mathlib.Core.List.{List, [], ◌∷◌}
use mathlib.Core.Option.{Option, none, some, none-ne-some}
use Prim.Native.Nat.{ℕ, ◌≤◌, ◌-◌}
use native.Mathlib.Omega.{arith}
use lib.Dec.{T, eqb}
use lib.ListN.{length}
use borrow.Author.Tests.{ne_eqb}
use Rattle.event.specs.Call.{Call, input_of}
use Rattle.record.specs.Limits.{Limits}
use Rattle.table.specs.Sets.{is_in}
use Rattle.table.specs.Table.{ignored}
use Rattle.protocol.specs.Agreement.{Block, block, when, is_handled, data_of, accepted_after, Agrees}
use Rattle.protocol.specs.Block.{front}
use Rattle.protocol.specs.Condition.{next_state}
use Rattle.protocol.specs.History.{History, hear, counts, notes_after, counted, state_of}
use Rattle.protocol.specs.Notes.{Notes, attested}
use Rattle.protocol.specs.Step.{Result}
use Rattle.protocol.specs.declared.Answer.{Answer}
use Rattle.protocol.specs.declared.Answer.TheVariants.{Handled}
use Rattle.record.specs.declared.Connection.{Connection}
use Rattle.event.specs.declared.Input.{Input}
use Rattle.protocol.proofs.Blocks.{Blocks, blocks, front_of, when_same}
use Rattle.protocol.proofs.Follows.{Follows, well_formed_lem}
use Rattle.protocol.proofs.Kept.{agreed, leads, kept}
use Rattle.protocol.proofs.Moved.{advanced}
use Rattle.protocol.proofs.Standings.{Moves, ruled, alone}
use Rattle.protocol.proofs.Stepped.{still, moved_to, Faultless}
use Rattle.table.proofs.Arms.{at_keys, one_of}
use Rattle.table.proofs.Finite.{and_left, and_right, implied}

-- While a block waits it is the one last accepted.
abbrev pub Waits : History → (accepted : Option Block) → Type 0
Waits history accepted = T history.notes.waiting → accepted ≡ some (block history.next_send history.block)

-- A call agrees with the history, and what it leaves follows the history after it.
pub record Carried (limits : Limits) (size : ℕ) (history : History) (accepted : Option Block) (call : Call) (answer : Answer) (after : History) (result : Result) : Type 0 where
  pub agrees : Agrees answer history after (accepted_after accepted call result) call result
  pub follows : Follows limits size after result.outcome.connection result.cache
  pub waits : Waits after (accepted_after accepted call result)

-- A call that is not handled changes nothing. R: the record follows the history. W: a waiting block is the one last accepted.
module _ (limits : Limits) (size : ℕ) (history : History) (accepted : Option Block) (connection : Connection) (cache : List ℕ)
    (R : Follows limits size history connection cache) (W : Waits history accepted) (call : Call) where
  nothing_handled : (b : Bool) {A : Type 0} (codes : List ℕ) (value : A) → b ≡ false → none ≡ when (b && is_in codes call.event.code) value
  nothing_handled true codes value e = absurd (subst T e tt)
  nothing_handled false codes value e = refl

  pub unmoved : (answer : Answer) → is_handled answer ≡ false → Carried limits size history accepted call answer history (still answer connection cache)
  unmoved answer e =
      let last : accepted_after accepted call (still answer connection cache) ≡ accepted = rw e in
      record {
        agrees = record {
          answered = refl;
          state = R.state;
          number = R.number;
          data_ordered = nothing_handled (is_handled answer) (2 ∷ 23 ∷ []) _ e;
          ack_ordered = nothing_handled (is_handled answer) (18 ∷ []) _ e;
          delivered = nothing_handled (is_handled answer) (18 ∷ []) _ e;
          guarded = λ t. absurd t;
          last_accepted = λ sent s. absurd (none-ne-some sent s);
        };
        follows = R;
        waits = λ t. last ∙ W t;
      }

-- Laws over tests. None of them knows the table.

cond_true : {A : Type 0} (b : Bool) (x y : A) → T b → cond b x y ≡ x
cond_true true x y t = refl
cond_true false x y t = absurd t

when_true : {A : Type 0} (b : Bool) (x : A) → T b → when b x ≡ some x
when_true true x t = refl
when_true false x t = absurd t

when_some : {A : Type 0} (b : Bool) (x y : A) → when b x ≡ some y → T b
when_some true x y e = tt
when_some false x y e = absurd (none-ne-some y e)

-- A block goes on waiting at an event other than 2 that does not end it, and waits after 2 and 23.
waiting_on : (locks accepts ends waits : Bool) → T (cond locks false (cond accepts true (cond ends false waits))) → accepts ≡ false → (ends ≡ false) × T waits
waiting_on true a e w t p = absurd t
waiting_on false true e w t p = absurd (subst T p tt)
waiting_on false false true w t p = absurd t
waiting_on false false false w t p = (refl, t)

waiting_then : (locks accepts ends waits repeats : Bool) → locks ≡ false → ends ≡ false → T (not repeats || waits) → T (accepts || repeats)
    → T (cond locks false (cond accepts true (cond ends false waits)))
waiting_then locks true e w r l p h t = rw l tt
waiting_then locks false e w true l p h t = rw (l, p) h
waiting_then locks false e w false l p h t = absurd t

-- The next-send bit and the block, seen in the record before and after an event that neither locks nor ends the wait.
same_bit : (locks ends : Bool) (c flip x y : ℕ) → locks ≡ false → ends ≡ false → c ≡ cond locks 0 (cond ends flip x) → c ≡ cond locks 0 y → x ≡ y
same_bit locks ends c flip x y l e p q = sym (rw (l, e) at p) ∙ (rw l at q)

same_bytes : (locks accepts ends : Bool) (c payload x y : List ℕ) → locks ≡ false → ends ≡ false → c ≡ cond locks [] (cond accepts payload (cond ends [] x)) → c ≡ y → cond accepts payload x ≡ y
same_bytes locks accepts ends c payload x y l e p q = sym (rw (l, e) at p) ∙ q

-- The block in the cache of a record that follows, while it waits.
held_block : (limits : Limits) (size : ℕ) (history : History) (connection : Connection) (cache : List ℕ) → Follows limits size history connection cache
    → limits.payload ≤ size → T history.notes.waiting → front connection.cached_len cache ≡ history.block
held_block limits size history connection cache R h t =
    let s = R.short in
    let l = R.size_is in
    ap (λ (n : ℕ). front n cache) (R.length_is ∙ cond_true history.notes.waiting (length history.block) 0 t)
    ∙ front_of (length history.block) cache (omega arith) ∙ R.kept

-- A handled call. F: the record after it follows the history after it. G: what the event does to the notes. B: what it does to blocks.
module _ (limits : Limits) (history : History) (accepted : Option Block) (connection : Connection) (cache : List ℕ)
    (R : Follows limits (length cache) history connection cache) (W : Waits history accepted) (call : Call)
    (arguments : Faultless limits call (length cache)) where
  abbrev k : ℕ
  k = call.event.code

  abbrev input : Input
  input = input_of limits call (length cache)

  abbrev n : Notes
  n = history.notes

  -- The notes, the history and the result after the event, if it counts.
  abbrev m : Notes
  m = notes_after n k (hear history input)

  abbrev after : History
  after = counted history k input call.payload

  abbrev result : Result
  result = moved_to limits (state_of m) connection call cache

  module _ (counting : T (counts n k (hear history input))) where
    F : Follows limits (length cache) after result.outcome.connection result.cache
    F = kept limits (length cache) history connection cache R call arguments counting

    G : Moves n k (ruled n k (hear history input)) m
    G = (agreed limits (length cache) history connection cache R call arguments).move counting

    -- The table leads to the state that the notes stand for then.
    pub leads_there : next_state connection k input ≡ state_of m
    leads_there = leads limits (length cache) history connection cache R call arguments ∙ cond_true (counts n k (hear history input)) (state_of m) ignored counting

    pub heeded : eqb (state_of m) ignored ≡ false
    heeded = let s = (alone m G.consistent_after).state in ne_eqb (state_of m) ignored (λ e. omega arith)

    B : Blocks connection call cache (state_of m) result
    B = blocks limits connection call cache (state_of m) arguments (well_formed_lem limits (length cache) history connection cache R) leads_there heeded

    -- An event that orders DATA neither locks nor ends the wait.
    module _ (sends : T (is_in (2 ∷ 23 ∷ []) k)) where
      stays_open : eqb (state_of m) 9 ≡ false
      stays_open = B.stays (at_keys (λ j. T (is_in (2 ∷ 18 ∷ 19 ∷ 23 ∷ []) j)) (2 ∷ 23 ∷ []) (tt, tt) k (one_of (2 ∷ 23 ∷ []) k sends))

      no_end : eqb k 19 ≡ false
      no_end = at_keys (λ j. eqb j 19 ≡ false) (2 ∷ 23 ∷ []) (refl, refl) k (one_of (2 ∷ 23 ∷ []) k sends)

      waits_then : T m.waiting
      waits_then = subst T G.waits (waiting_then (eqb (state_of m) 9) (eqb k 2) (eqb k 19) n.waiting (eqb k 23) stays_open no_end G.repeats sends)

      bit_then : connection.next_send_bit ≡ after.next_send
      unfolding counted
      bit_then = same_bit (eqb (state_of m) 9) (eqb k 19) result.outcome.connection.next_send_bit _ _ _ stays_open no_end (advanced connection k input (state_of m)).next_send F.next_send

      bytes_then : cond (eqb k 2) call.payload (front connection.cached_len cache) ≡ after.block
      unfolding counted
      bytes_then =
          same_bytes (eqb (state_of m) 9) (eqb k 2) (eqb k 19) (front result.outcome.connection.cached_len result.cache) _ _ _ stays_open no_end B.held
          (held_block limits (length cache) after result.outcome.connection result.cache F arguments.cache waits_then)

    data_then : data_of result ≡ when (is_in (2 ∷ 23 ∷ []) k) (block after.next_send after.block)
    data_then = B.data_ordered ∙ when_same (is_in (2 ∷ 23 ∷ []) k) (is_in (2 ∷ 23 ∷ []) k) _ _ refl (λ s i. block (bit_then s i) (bytes_then s i))

    waits_by : (a : Bool) → eqb k 2 ≡ a → T m.waiting → cond a (some (block result.outcome.actions.bit call.payload)) accepted ≡ some (block after.next_send after.block)
    unfolding counted
    waits_by true e t =
        let s : T (is_in (2 ∷ 23 ∷ []) k) = rw e tt in
        let p = sym (ap (λ (a : Bool). cond a call.payload (front connection.cached_len cache)) e) ∙ bytes_then s in
        λ i. some (block ((B.data_bit s ∙ bit_then s) i) (p i))
    waits_by false e t =
        let w = waiting_on (eqb (state_of m) 9) (eqb k 2) (eqb k 19) n.waiting (subst⁻¹ T G.waits t) e in
        let p = ap (λ (a : Bool). cond a (1 - history.next_send) history.next_send) (G.acknowledges ∙ w.0) in
        let q = ap (λ (a : Bool). cond a call.payload history.block) (G.accepts_is ∙ e) in
        W w.1 ∙ (λ i. some (block (sym p i) (sym q i)))

    pub moves : Carried limits (length cache) history accepted call Handled after result
    unfolding counted
    moves = record {
      agrees = record {
        answered = refl;
        state = F.state;
        number = F.number;
        data_ordered = data_then;
        ack_ordered = B.ack_ordered;
        delivered = B.delivered;
        guarded = λ t. let g = implied (is_in (2 ∷ 23 ∷ []) k || eqb k 18) (attested n && attested m) G.guarded (subst T (λ i. B.is_data i || B.delivers i) t) in (and_left (attested n) (attested m) g, and_right (attested n) (attested m) g);
        last_accepted = λ sent e.
            let s = when_some (is_in (2 ∷ 23 ∷ []) k) _ sent (sym data_then ∙ e) in
            waits_by (eqb k 2) refl (waits_then s) ∙ sym (data_then ∙ when_true (is_in (2 ∷ 23 ∷ []) k) _ s) ∙ e;
      };
      follows = F;
      waits = waits_by (eqb k 2) refl;
    }
