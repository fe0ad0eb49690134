-- After a handled event the record goes on following the history.
-- Assumes nothing.
use mathlib.Core.Path.{◌≡◌, refl, sym, subst, subst⁻¹, ap, ◌∙◌}
use mathlib.Core.Bool.{Bool, true, false, not, cond}
use mathlib.Core.List.{List, [], ◌∷◌}
use Prim.Native.Nat.{ℕ, ◌<◌, ◌≤◌, ◌+◌, ◌-◌}
use native.Mathlib.Omega.{arith}
use lib.Dec.{T, eqb, eqb→eq}
use lib.ListN.{length, take, length-append, length-drop}
use lib.Seq.{take-append_seam}
use Rattle.event.specs.Call.{Call, carries_payload, input_of}
use Rattle.record.specs.Limits.{Limits}
use Rattle.record.specs.Tags.{tag_of}
use Rattle.record.specs.Timer.{Timer}
use Rattle.table.specs.Sets.{is_in}
use Rattle.table.specs.Table.{ignored}
use Rattle.protocol.specs.Advance.{raised, flipped, flag_after, advance}
use Rattle.protocol.specs.Block.{stored}
use Rattle.protocol.specs.Condition.{condition_of, meets, holds, next_by, next_state}
use Rattle.protocol.specs.History.{History, Heard, hear, restarts, since_after, runs, accepts, acknowledged, receives, counts, notes_after, counted, state_of}
use Rattle.protocol.specs.Notes.{Notes}
use Rattle.protocol.specs.Timers.{starts, ends, tag_after}
use Rattle.record.specs.declared.Connection.{Connection}
use Rattle.event.specs.declared.Input.{Input}
use Rattle.protocol.proofs.Follows.{Follows, stands, cond_most}
use Rattle.protocol.proofs.Hearing.{heard_at, asks_once, hearing}
use Rattle.protocol.proofs.Moved.{Advanced, advanced}
use Rattle.protocol.proofs.Standings.{ruled, tag_goes, Moves, Agree, agree}
use Rattle.protocol.proofs.Stepped.{Faultless, payload_length}
use Rattle.table.proofs.Finite.{and_left, and_right, is_false, implied, below_at}

-- Laws over tests and numbers. None of them knows the table.

-- A tag: what starts has the new number, what runs on keeps its own, what the history has off is off.
tag_law : (was is started ended again : Bool) (number since tag : ℕ) → tag ≡ cond was since 0 → T (tag_goes was is started ended again)
    → tag_after started ended number tag ≡ cond is (since_after was is again number since) 0
tag_law true true true e true n s t p g = refl
tag_law true true true e false n s t p g = absurd g
tag_law false true true e a n s t p g = refl
tag_law true true false e true n s t p g = absurd g
tag_law true true false true false n s t p g = absurd g
tag_law true true false false false n s t p g = p
tag_law false true false e a n s t p g = absurd g
tag_law was false true e a n s t p g = absurd g
tag_law was false false true a n s t p g = refl
tag_law was false false false a n s t p g = absurd g

tag_most : (started ended : Bool) (number tag : ℕ) → tag ≤ number → tag_after started ended number tag ≤ number
tag_most s e n t h = cond_most s n (cond e 0 t) n (omega arith) (cond_most e 0 t n (omega arith) h)

since_law : (was is again : Bool) (number since : ℕ) → (T was → 0 < since) → 0 < number → T is → 0 < since_after was is again number since
since_law was false a n s h p t = absurd t
since_law true true true n s h p t = p
since_law true true false n s h p t = h tt
since_law false true a n s h p t = p

-- The other bit, as the step and as the history have it.
other_bit : (bit : ℕ) → bit ≤ 1 → flipped bit ≡ 1 - bit
other_bit bit h = eqb→eq _ _ (below_at 2 (λ b. eqb (flipped b) (1 - b)) tt bit (omega arith))

-- A bit, which locking forgets.
flip_law : (locks was_locked flips flips' : Bool) (x y : ℕ) → flips ≡ flips' → was_locked ≡ false → y ≤ 1 → x ≡ cond was_locked 0 y
    → cond locks 0 (cond flips' (flipped x) x) ≡ cond locks 0 (cond flips (1 - y) y)
flip_law l w f f' x y e u h p = rw (e, p, u, other_bit y h)

flip_most : (flips : Bool) (bit : ℕ) → bit ≤ 1 → cond flips (1 - bit) bit ≤ 1
flip_most f bit h = cond_most f (1 - bit) bit 1 (omega arith) h

-- The cached length: the block's while it waits.
length_law : (locks accepts ends waits : Bool) (given len : ℕ) (payload block : List ℕ) → len ≡ cond waits (length block) 0 → (T accepts → given ≡ length payload)
    → cond locks 0 (cond accepts given (cond ends 0 len)) ≡ cond (cond locks false (cond accepts true (cond ends false waits))) (length (cond accepts payload block)) 0
length_law true a e w given len payload block p q = refl
length_law false true e w given len payload block p q = q tt
length_law false false true w given len payload block p q = refl
length_law false false false w given len payload block p q = p

-- The cache holds the block, and keeps its size.
short_law : (accepts : Bool) (payload block : List ℕ) (most : ℕ) → (T accepts → length payload ≤ most) → length block ≤ most → length (cond accepts payload block) ≤ most
short_law true payload block most h k = h tt
short_law false payload block most h k = k

kept_law : (accepts : Bool) (payload block cache : List ℕ) → take (length block) cache ≡ block
    → take (length (cond accepts payload block)) (cond accepts (stored payload cache) cache) ≡ cond accepts payload block
kept_law true payload block cache e = take-append_seam payload _
kept_law false payload block cache e = e

size_law : (accepts : Bool) (payload cache : List ℕ) (size most : ℕ) → length cache ≡ size → most ≤ size → (T accepts → length payload ≤ most)
    → length (cond accepts (stored payload cache) cache) ≡ size
size_law true payload cache size most e h f = let p = f tt in simp (length-append, length-drop) (omega arith)
size_law false payload cache size most e h f = e

-- R: the record follows the history. G: what the event does to the notes. A: what it does to the record.
module _ (limits : Limits) (size : ℕ) (history : History) (connection : Connection) (cache : List ℕ) (R : Follows limits size history connection cache)
    (call : Call) (faultless : Faultless limits call (length cache)) where
  abbrev n : Notes
  n = history.notes

  abbrev k : ℕ
  k = call.event.code

  abbrev input : Input
  input = input_of limits call (length cache)

  abbrev heard : Heard
  heard = hear history input

  -- The notes after the event, if it counts.
  abbrev m : Notes
  m = notes_after n k heard

  -- The table and the notes agree on the event.
  pub agreed : Agree n k (holds connection k input) (ruled n k heard)
  unfolding holds
  agreed =
      let condition = condition_of k input.timer in
      subst⁻¹ (Agree n k (meets connection input condition)) (asks_once history input n k faultless.code)
      (agree n k input.timer (meets connection input condition) (heard_at heard condition) R.notes_fit faultless.code faultless.timer
      (hearing limits size history connection cache R input condition))

  -- The table leads where the notes lead.
  pub leads : next_state connection k input ≡ cond (counts n k heard) (state_of m) ignored
  unfolding next_state
  leads = (λ i. next_by (R.state i) (R.flag i) k (holds connection k input)) ∙ agreed.next

  module _ (counting : T (counts n k heard)) where
    G : Moves n k (ruled n k heard) m
    G = agreed.move counting

    A : Advanced connection k input (state_of m) (eqb (state_of m) 9) (advance connection k input (state_of m))
    A = advanced connection k input (state_of m)

    abbrev c' : Connection
    c' = advance connection k input (state_of m)

    abbrev cache' : List ℕ
    cache' = cond (eqb k 2) (stored call.payload cache) cache

    abbrev block' : List ℕ
    block' = cond (accepts n k) call.payload history.block

    block_is : block' ≡ cond (eqb k 2) call.payload history.block
    block_is = ap (λ (a : Bool). cond a call.payload history.block) G.accepts_is

    carries : T (eqb k 2) → T (carries_payload k)
    carries t = subst⁻¹ (λ (j : ℕ). T (carries_payload j)) (eqb→eq k 2 t) tt

    fits : T (eqb k 2) → length call.payload ≤ limits.payload
    fits t = faultless.payload (carries t)

    given : T (eqb k 2) → input.payload_len ≡ length call.payload
    given t = payload_length limits call (length cache) faultless (carries t)

    tag_after_lem : (x : Timer) → tag_of c' x ≡ cond (runs m x) (since_after (runs n x) (runs m x) (restarts x k) (history.count + 1) (history.since x)) 0
    tag_after_lem x =
        A.tag x
        ∙ (λ i. tag_after (starts x k (R.state i) (state_of m)) (ends x (state_of m)) (R.number i + 1) (tag_of connection x))
        ∙ tag_law (runs n x) (runs m x) (starts x k (stands history) (state_of m)) (ends x (state_of m)) (restarts x k) (history.count + 1) (history.since x) (tag_of connection x) (R.tag x) (G.tags x)

    tag_past : (x : Timer) → tag_of c' x ≤ c'.handled
    tag_past x =
        let e = A.tag x in
        let f = A.number in
        let p = R.tag_past x in
        let h = tag_most (starts x k connection.state (state_of m)) (ends x (state_of m)) (raised connection) (tag_of connection x) (omega arith) in
        omega arith

    early : T (is_in (0 ∷ 1 ∷ []) (state_of m)) → (cond (acknowledged n k heard) (1 - history.next_send) history.next_send ≡ 0) × (cond (receives n k heard) (1 - history.expected) history.expected ≡ 0)
    early t =
        let g = implied (is_in (0 ∷ 1 ∷ []) (state_of m)) _ G.early t in
        let b = R.early (and_left (is_in (0 ∷ 1 ∷ []) (stands history)) _ g) in
        let o = and_right (is_in (0 ∷ 1 ∷ []) (stands history)) _ g in (
          ap (λ (a : Bool). cond a (1 - history.next_send) history.next_send) (G.acknowledges ∙ is_false (eqb k 19) (and_right (not (eqb k 18)) _ o)) ∙ b.0,
          ap (λ (a : Bool). cond a (1 - history.expected) history.expected) (G.receives_is ∙ is_false (eqb k 18) (and_left (not (eqb k 18)) _ o)) ∙ b.1,
        )

    length_after : c'.cached_len ≡ cond m.waiting (length block') 0
    length_after =
        A.length
        ∙ length_law (eqb (state_of m) 9) (eqb k 2) (eqb k 19) n.waiting input.payload_len connection.cached_len call.payload history.block R.length_is given
        ∙ (λ i. cond (G.waits i) (length (sym block_is i)) 0)

    pub kept : Follows limits size (counted history k input call.payload) c' cache'
    unfolding counted
    kept = record {
      notes_fit = G.consistent_after;
      state = A.state;
      flag = A.flag ∙ ap (λ (f : ℕ). cond (eqb (state_of m) 9) 0 (flag_after k f)) R.flag ∙ G.flag;
      number = A.number ∙ ap (λ (c : ℕ). c + 1) R.number;
      next_send = A.next_send ∙ flip_law (eqb (state_of m) 9) (eqb (stands history) 9) (acknowledged n k heard) (eqb k 19) connection.next_send_bit history.next_send G.acknowledges G.unlocked R.next_send_bit R.next_send;
      expected = A.expected ∙ flip_law (eqb (state_of m) 9) (eqb (stands history) 9) (receives n k heard) (eqb k 18) connection.expected_bit history.expected G.receives_is G.unlocked R.expected_bit R.expected;
      next_send_bit = flip_most (acknowledged n k heard) history.next_send R.next_send_bit;
      expected_bit = flip_most (receives n k heard) history.expected R.expected_bit;
      early = early;
      none_yet = λ t. absurd (subst T G.begun t);
      tag = tag_after_lem;
      tag_past = tag_past;
      started = λ x. since_law (runs n x) (runs m x) (restarts x k) (history.count + 1) (history.since x) (R.started x) (omega arith);
      length_is = length_after;
      short = subst⁻¹ (λ (b : List ℕ). length b ≤ limits.payload) block_is (short_law (eqb k 2) call.payload history.block limits.payload fits R.short);
      kept = subst⁻¹ (λ (b : List ℕ). take (length b) cache' ≡ b) block_is (kept_law (eqb k 2) call.payload history.block cache R.kept);
      size_is = size_law (eqb k 2) call.payload cache size limits.payload R.size_is (subst (λ (s : ℕ). limits.payload ≤ s) R.size_is faultless.cache) fits;
    }
