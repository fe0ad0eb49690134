-- What the record holds of an event's condition, and what the history hears of it.
-- Assumes nothing.
use mathlib.Core.Path.{◌≡◌, refl, sym, subst⁻¹}
use mathlib.Core.Bool.{Bool, true, false, not, ◌&&◌, ◌||◌, cond, beq, and-true, and-false, not-and_self, or-true}
use mathlib.Core.List.{List}
use Prim.Native.Nat.{ℕ, ◌<◌}
use native.Mathlib.Omega.{arith}
use lib.Dec.{T, eqb}
use borrow.Author.Tests.{eqb-true, ne_eqb}
use Rattle.record.specs.Limits.{Limits}
use Rattle.record.specs.Tags.{tag_of}
use Rattle.record.specs.WellFormed.{flag_fits}
use Rattle.protocol.specs.Condition.{Condition, live, good_hello, good_token, expected_bit, next_send_bit, nothing, condition_of, is_live, meets}
use Rattle.protocol.specs.History.{History, Heard, hear, counts, notes_after, runs}
use Rattle.protocol.specs.Notes.{Notes}
use Rattle.record.specs.declared.Connection.{Connection}
use Rattle.event.specs.declared.Input.{Input}
use Rattle.protocol.proofs.Follows.{Follows, stands}
use Rattle.protocol.proofs.Standings.{only, related, ruled, alone}
use Rattle.table.proofs.Arms.{at_keys, up, is_up}

-- What the history hears of a condition.
abbrev pub heard_at : Heard → Condition → Bool
heard_at heard (live timer) = heard.live timer
heard_at heard good_hello = heard.good_hello
heard_at heard good_token = heard.good_token
heard_at heard expected_bit = heard.expected_bit
heard_at heard next_send_bit = heard.next_send_bit
heard_at heard nothing = true

-- The rules ask of an event its own condition and nothing else.
pub asks_once : (history : History) (input : Input) (n : Notes) (k : ℕ) → k < 24
    → ruled n k (hear history input) ≡ ruled n k (only (heard_at (hear history input) (condition_of k input.timer)))
unfolding counts notes_after
asks_once history input n k h =
    at_keys (λ k. ruled n k (hear history input) ≡ ruled n k (only (heard_at (hear history input) (condition_of k input.timer))))
    (up 0 24)
    (refl, (refl, (refl, (refl, (refl, (refl, (refl, (refl, (refl, (refl, (refl, (refl, (refl, (refl, (refl, (refl, (refl, (refl, (refl, (refl, (refl, (refl, (refl, refl)))))))))))))))))))))))
    k (is_up 0 24 k (omega arith) (omega arith))

-- A test that is the same on both sides.
beq_refl : (b : Bool) → T (beq b b)
beq_refl true = tt
beq_refl false = tt

-- A tag that makes an event live for the history, and for the record.
same_tag : (tag since own : ℕ) (b : Bool) → eqb tag since ≡ b → own ≡ since → 0 < since → eqb tag since ≡ is_live tag own
same_tag tag since own true q e h = let t = eqb-true tag since q in rw (e, ne_eqb tag 0 (λ z. omega arith))
same_tag tag since own false q e h = rw (e, q) (sym (and-false (not (eqb tag 0))))

live_law : (running : Bool) (tag since own : ℕ) → own ≡ cond running since 0 → (T running → 0 < since)
    → T (beq (is_live tag own) (running && eqb tag since) && (not (is_live tag own) || running))
live_law true tag since own e h = rw (same_tag tag since own (eqb tag since) refl e (h tt), or-true, and-true) (beq_refl (is_live tag own))
live_law false tag since own e h = rw (e, not-and_self) tt

-- A bit, which a locked record has forgotten.
bit_law : (nine : Bool) (bit x y : ℕ) → x ≡ cond nine 0 y → T (nine || beq (eqb bit x) (eqb bit y))
bit_law true bit x y e = tt
bit_law false bit x y e = rw e (beq_refl (eqb bit y))

-- The bit of a waiting block: nothing waits once locked.
waiting_law : (nine waiting : Bool) (flag bit x y : ℕ) → flag ≡ cond waiting 1 0 → x ≡ cond nine 0 y → (T waiting → nine ≡ false)
    → T (beq (eqb flag 1 && eqb bit x) (waiting && eqb bit y))
waiting_law nine true flag bit x y f e h = rw (f, e, h tt) (beq_refl (eqb bit y))
waiting_law nine false flag bit x y f e h = rw f tt

none_at_9 : (s : ℕ) (waiting : Bool) (nine : Bool) → eqb s 9 ≡ nine → flag_fits s (cond waiting 1 0) ≡ true → T waiting → nine ≡ false
none_at_9 s waiting false e f t = refl
none_at_9 s true true e f t = absurd (subst⁻¹ T (rw (eqb-true s 9 e) at f) tt)
none_at_9 s false true e f t = absurd t

-- R: the record follows the history.
module _ (limits : Limits) (size : ℕ) (history : History) (connection : Connection) (cache : List ℕ) (R : Follows limits size history connection cache) (input : Input) where
  pub hearing : (condition : Condition) → T (related history.notes condition (meets connection input condition) (heard_at (hear history input) condition))
  hearing (live x) = live_law (runs history.notes x) input.tag (history.since x) (tag_of connection x) (R.tag x) (R.started x)
  hearing good_hello = beq_refl (input.good && input.suites.found)
  hearing good_token = beq_refl input.good
  hearing expected_bit = bit_law (eqb (stands history) 9) input.bit connection.expected_bit history.expected R.expected
  hearing next_send_bit =
      waiting_law (eqb (stands history) 9) history.notes.waiting connection.awaiting_ack input.bit connection.next_send_bit history.next_send R.flag R.next_send
      (none_at_9 (stands history) history.notes.waiting (eqb (stands history) 9) refl (alone history.notes R.notes_fit).flag)
  hearing nothing = tt
