-- A record and its cache follow a history: the invariant of demand 3. Such a record is well formed.
-- Assumes nothing.
use mathlib.Core.Path.{◌≡◌, refl, subst, ap, ◌∙◌}
use mathlib.Core.Bool.{Bool, true, false, not, ◌&&◌, ◌||◌, cond, or-true}
use mathlib.Core.List.{List, [], ◌∷◌}
use Prim.Native.Nat.{ℕ, ◌<◌, ◌≤◌}
use native.Mathlib.Omega.{arith}
use lib.Dec.{T, eqb}
use lib.ListN.{length, take}
use borrow.Author.Tests.{eq-eqb, ne_eqb}
use Rattle.record.specs.Limits.{Limits}
use Rattle.record.specs.Tags.{tag_of}
use Rattle.record.specs.Timer.{Timer}
use Rattle.record.specs.WellFormed.{fresh, on_just_in, well_formed}
use Rattle.table.specs.Sets.{is_in}
use Rattle.protocol.specs.History.{History, first, runs, state_of}
use Rattle.record.specs.declared.Connection.{Connection}
use Rattle.protocol.proofs.Standings.{consistent, flag_of, Alone, alone}
use Rattle.record.proofs.EveryTimer.{timers_at}
use Rattle.record.proofs.WellFormed.{tag_0, Parts, whole}
use Rattle.table.proofs.Finite.{is_false}

-- The state that the notes stand for.
abbrev pub stands : History → ℕ
stands history = state_of history.notes

pub record Follows (limits : Limits) (size : ℕ) (history : History) (connection : Connection) (cache : List ℕ) : Type 0 where
  pub notes_fit : T (consistent history.notes)
  pub state : connection.state ≡ stands history
  pub flag : connection.awaiting_ack ≡ flag_of history.notes
  pub number : connection.handled ≡ history.count
  -- A locked record has forgotten its bits.
  pub next_send : connection.next_send_bit ≡ cond (eqb (stands history) 9) 0 history.next_send
  pub expected : connection.expected_bit ≡ cond (eqb (stands history) 9) 0 history.expected
  pub next_send_bit : history.next_send ≤ 1
  pub expected_bit : history.expected ≤ 1
  pub early : T (is_in (0 ∷ 1 ∷ []) (stands history)) → (history.next_send ≡ 0) × (history.expected ≡ 0)
  pub none_yet : T (eqb (stands history) 0) → history.count ≡ 0
  pub tag : (x : Timer) → tag_of connection x ≡ cond (runs history.notes x) (history.since x) 0
  pub tag_past : (x : Timer) → tag_of connection x ≤ connection.handled
  pub started : (x : Timer) → T (runs history.notes x) → 0 < history.since x
  -- The cache holds the block, also after its acknowledgement; the record has its length while it waits.
  pub length_is : connection.cached_len ≡ cond history.notes.waiting (length history.block) 0
  pub short : length history.block ≤ limits.payload
  pub kept : take (length history.block) cache ≡ history.block
  pub size_is : length cache ≡ size

-- A fresh record follows the first history.
no_timer : (x : Timer) → runs first.notes x ≡ false
unfolding runs
no_timer x = is_false _ (timers_at (λ x. not (runs first.notes x)) tt x)

pub follows_first : (limits : Limits) (cache : List ℕ) → Follows limits (length cache) first fresh cache
unfolding consistent state_of
follows_first limits cache = record {
  notes_fit = tt;
  state = refl;
  flag = refl;
  number = refl;
  next_send = refl;
  expected = refl;
  next_send_bit = omega arith;
  expected_bit = omega arith;
  early = λ t. (refl, refl);
  none_yet = λ t. refl;
  tag = λ x. rw (no_timer x) (tag_0 x);
  tag_past = λ x. let e = tag_0 x in omega arith;
  started = λ x t. absurd (subst T (no_timer x) t);
  length_is = refl;
  short = omega arith;
  kept = refl;
  size_is = refl;
}

-- The parts of a well-formed record, as laws of numbers and tests.
pub cond_most : (b : Bool) (x y most : ℕ) → x ≤ most → y ≤ most → cond b x y ≤ most
cond_most true x y most h k = h
cond_most false x y most h k = k

empty_unless : (waiting : Bool) (len : ℕ) → (eqb (cond waiting len 0) 0 || not (eqb (cond waiting 1 0) 0)) ≡ true
empty_unless true len = or-true (eqb len 0)
empty_unless false len = refl

number_law : (zero : Bool) (count : ℕ) → (T zero → count ≡ 0) → cond zero (eqb count 0) true ≡ true
number_law true count h = eq-eqb count 0 (h tt)
number_law false count h = refl

bits_law : (zero one nine : Bool) (x y : ℕ) → (T (zero || one) → (x ≡ 0) × (y ≡ 0))
    → cond (zero || (one || nine)) (eqb (cond nine 0 x) 0 && eqb (cond nine 0 y) 0) true ≡ true
bits_law true one true x y h = refl
bits_law true one false x y h = rw ((h tt).0, (h tt).1)
bits_law false true true x y h = refl
bits_law false true false x y h = rw ((h tt).0, (h tt).1)
bits_law false false true x y h = refl
bits_law false false false x y h = refl

tag_fits_law : (running : Bool) (since tag : ℕ) → tag ≡ cond running since 0 → (T running → 0 < since) → cond running (not (eqb tag 0)) (eqb tag 0) ≡ true
tag_fits_law true since tag e h = let s = h tt in rw (ne_eqb tag 0 (λ z. omega arith))
tag_fits_law false since tag e h = eq-eqb tag 0 e

-- R: the record follows the history.
module _ (limits : Limits) (size : ℕ) (history : History) (connection : Connection) (cache : List ℕ) (R : Follows limits size history connection cache) where
  abbrev waits : Bool
  waits = history.notes.waiting

  here : Alone history.notes
  here = alone history.notes R.notes_fit

  tag_fits : (x : Timer) → on_just_in x connection.state (tag_of connection x) ≡ true
  tag_fits x =
      ap (λ (s : ℕ). on_just_in x s (tag_of connection x)) R.state
      ∙ rw (here.running x) (tag_fits_law (runs history.notes x) (history.since x) (tag_of connection x) (R.tag x) (R.started x))

  pub parts_of : Parts limits connection
  parts_of = record {
    state = rw R.state here.state;
    flag = rw R.flag (cond_most waits 1 0 1 (omega arith) (omega arith));
    next_send = rw R.next_send (cond_most (eqb (stands history) 9) 0 history.next_send 1 (omega arith) R.next_send_bit);
    expected = rw R.expected (cond_most (eqb (stands history) 9) 0 history.expected 1 (omega arith) R.expected_bit);
    length = rw R.length_is (cond_most waits (length history.block) 0 limits.payload R.short (omega arith));
    empty = rw (R.length_is, R.flag) (empty_unless waits (length history.block));
    at_most = R.tag_past;
    number_fits = rw (R.state, R.number) (number_law (eqb (stands history) 0) history.count R.none_yet);
    bits_fit = rw (R.state, R.next_send, R.expected) (bits_law (eqb (stands history) 0) (eqb (stands history) 1) (eqb (stands history) 9) history.next_send history.expected R.early);
    flag_fits_lem = rw (R.state, R.flag) here.flag;
    tag_fits = tag_fits;
  }

  pub well_formed_lem : T (well_formed limits connection)
  well_formed_lem = whole limits connection parts_of
