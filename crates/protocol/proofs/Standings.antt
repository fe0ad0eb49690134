-- The finite part of demand 3: every standing of the notes, every event code, with its condition held or not.
-- One test, which antt computes, compares the published table and the timers' rules with the history's.
-- Assumes nothing.
use mathlib.Core.Path.{◌≡◌}
use mathlib.Core.Bool.{Bool, true, false, not, ◌&&◌, ◌||◌, cond, beq}
use mathlib.Core.List.{[], ◌∷◌}
use Prim.Native.Nat.{ℕ, ◌<◌, ◌≤◌}
use lib.Dec.{T, eqb, eqb→eq, leb, leb→le}
use Rattle.record.specs.Tags.{runs_in}
use Rattle.record.specs.Timer.{Timer, H}
use Rattle.record.specs.WellFormed.{flag_fits}
use Rattle.table.specs.Sets.{is_in}
use Rattle.table.specs.Table.{cell, ignored}
use Rattle.protocol.specs.Advance.{flag_after}
use Rattle.protocol.specs.Condition.{Condition, live, good_hello, good_token, expected_bit, next_send_bit, nothing, condition_of, next_by}
use Rattle.protocol.specs.History.{Heard, accepts, acknowledged, receives, counts, notes_after, runs, restarts, state_of}
use Rattle.protocol.specs.Notes.{Opening, fresh, hello_sent, opened, locked, DriverRun, off, running, good, Notes, is_running, is_good, attested}
use Rattle.protocol.specs.Timers.{starts, ends}
use Rattle.record.proofs.EveryTimer.{timers, timers_at}
use Rattle.table.proofs.Finite.{and_left, and_right, is_true, is_false, same, implied, below, below_at, either, either_at}

-- A test of every opening, of every run, and of all notes.
abbrev openings : (Opening → Bool) → Bool
openings p = p fresh && (p hello_sent && (p opened && p locked))

openings_at : (p : Opening → Bool) → T (openings p) → (o : Opening) → T (p o)
openings_at p t fresh = search and_left
openings_at p t hello_sent = search (and_left, and_right) depth 8
openings_at p t opened = search (and_left, and_right) depth 8
openings_at p t locked = search (and_left, and_right) depth 8

abbrev each_run : (DriverRun → Bool) → Bool
each_run p = p off && (p running && p good)

each_run_at : (p : DriverRun → Bool) → T (each_run p) → (r : DriverRun) → T (p r)
each_run_at p t off = search and_left
each_run_at p t running = search (and_left, and_right) depth 8
each_run_at p t good = search (and_left, and_right) depth 8

abbrev standing : Opening → Bool → DriverRun → DriverRun → Bool → Notes
standing o c p v w = record { opening = o; current = c; prover = p; verifier = v; waiting = w }

abbrev standings : (Notes → Bool) → Bool
standings p = openings (λ o. either (λ c. each_run (λ q. each_run (λ v. either (λ w. p (standing o c q v w))))))

standings_at : (p : Notes → Bool) → T (standings p) → (n : Notes) → T (p n)
standings_at p t n =
    either_at (λ w. p (standing n.opening n.current n.prover n.verifier w))
    (each_run_at (λ v. either (λ w. p (standing n.opening n.current n.prover v w)))
    (each_run_at (λ q. each_run (λ v. either (λ w. p (standing n.opening n.current q v w))))
    (either_at (λ c. each_run (λ q. each_run (λ v. either (λ w. p (standing n.opening c q v w)))))
    (openings_at (λ o. either (λ c. each_run (λ q. each_run (λ v. either (λ w. p (standing o c q v w)))))) t n.opening)
    n.current) n.prover) n.verifier) n.waiting

abbrev is_off : DriverRun → Bool
is_off run = not (is_running run || is_good run)

-- Which notes stand together. Before the opening nothing runs or waits; while open the prover has started, and the verifier has
-- just if the token is current; once locked nothing waits.
abbrev consistent_by : Opening → (current prover_off verifier_off waiting : Bool) → Bool
consistent_by fresh c p v w = not c && (p && (v && not w))
consistent_by hello_sent c p v w = not c && (p && (v && not w))
consistent_by opened c p v w = not p && beq c (not v)
consistent_by locked c p v w = not w

unfoldable pub consistent : Notes → Bool
consistent n = consistent_by n.opening n.current (is_off n.prover) (is_off n.verifier) n.waiting

-- The flag of a record for these notes.
abbrev pub flag_of : Notes → ℕ
flag_of n = cond n.waiting 1 0

-- Of the notes alone: the timers that run are those of the state, and the state and the flag fit.
abbrev pub fits_alone : Notes → Bool
fits_alone n =
    timers (λ x. beq (runs_in x (state_of n)) (runs n x))
    && leb (state_of n) 9
    && flag_fits (state_of n) (flag_of n)

-- One answer to whatever the history may hear.
abbrev pub only : Bool → Heard
only h = record { live = λ x. h; named = H; good_hello = h; good_token = h; expected_bit = h; next_send_bit = h }

-- What the history hears of a condition, and how that goes with whether it holds for the record, which once locked has forgotten its bits.
abbrev pub related : Notes → Condition → (held heard : Bool) → Bool
related n (live x) b h = beq b h && (not b || runs n x)
related n good_hello b h = beq b h
related n good_token b h = beq b h
related n expected_bit b h = eqb (state_of n) 9 || beq b h
related n next_send_bit b h = beq b (n.waiting && h)
related n nothing b h = b && h

-- Whether what an event does to a timer's tag fits the history, which has the timer running before or not, and after or not: the event
-- starts it, ends it, or starts it again.
abbrev pub tag_goes : (was is started ended again : Bool) → Bool
tag_goes was is started ended again = cond is (beq started (not was || again) && (started || not ended)) (not started && ended)

-- What the history's rules say of an event.
pub record Ruled : Type 0 where
  pub counts : Bool
  pub after : Notes
  pub acknowledged : Bool
  pub receives : Bool

abbrev pub ruled : Notes → (code : ℕ) → Heard → Ruled
ruled n k heard = record {
  counts = counts n k heard;
  after = notes_after n k heard;
  acknowledged = acknowledged n k heard;
  receives = receives n k heard;
}

-- Of an event that counts, from notes n to notes m: what the history does, and what the record's rules do.
abbrev moves : Notes → (code : ℕ) → Ruled → (m : Notes) → Bool
moves n k r m =
    consistent m
    && not (eqb (state_of m) 0)
    && not (eqb (state_of n) 9)
    && beq r.acknowledged (eqb k 19)
    && beq r.receives (eqb k 18)
    && beq (accepts n k) (eqb k 2)
    && eqb (cond (eqb (state_of m) 9) 0 (flag_after k (flag_of n))) (flag_of m)
    && beq (cond (eqb (state_of m) 9) false (cond (eqb k 2) true (cond (eqb k 19) false n.waiting))) m.waiting
    && (not (is_in (0 ∷ 1 ∷ []) (state_of m)) || (is_in (0 ∷ 1 ∷ []) (state_of n) && (not (eqb k 18) && not (eqb k 19))))
    && timers (λ x. tag_goes (runs n x) (runs m x) (starts x k (state_of n) (state_of m)) (ends x (state_of m)) (restarts x k))
    && (not (is_in (2 ∷ 23 ∷ []) k || eqb k 18) || (attested n && attested m))
    && (not (eqb k 23) || n.waiting)

-- The table leads where the notes lead, or ignores what doesn't count.
abbrev agrees : Notes → (code : ℕ) (held : Bool) → Ruled → Bool
agrees n k b r =
    eqb (next_by (state_of n) (flag_of n) k b) (cond r.counts (state_of r.after) ignored)
    && (not r.counts || moves n k r r.after)

abbrev agrees_if : Notes → (code name : ℕ) (held heard : Bool) → Bool
agrees_if n k name b h = not (related n (condition_of k name) b h) || agrees n k b (ruled n k (only h))

abbrev right : Notes → Bool
right n = not (consistent n) || (fits_alone n && below 24 (λ k. below 3 (λ name. either (λ b. either (agrees_if n k name b)))))

-- The test: antt computes it.
all_right : T (standings right)
unfolding consistent state_of runs counts notes_after cell
all_right = tt

-- What the test says of consistent notes.
right_at : (n : Notes) → T (consistent n) → T (fits_alone n && below 24 (λ k. below 3 (λ name. either (λ b. either (agrees_if n k name b)))))
right_at n c = implied (consistent n) _ (standings_at right all_right n) c

-- Of the notes alone.
pub record Alone (n : Notes) : Type 0 where
  pub running : (x : Timer) → runs_in x (state_of n) ≡ runs n x
  pub state : state_of n ≤ 9
  pub flag : flag_fits (state_of n) (flag_of n) ≡ true

pub alone : (n : Notes) → T (consistent n) → Alone n
alone n c =
    let t : T (fits_alone n) = and_left (fits_alone n) _ (right_at n c) in
    record {
      running = λ x. same (runs_in x (state_of n)) (runs n x) (timers_at (λ x. beq (runs_in x (state_of n)) (runs n x)) (search (and_left, and_right) depth 8) x);
      state = leb→le _ _ (search (and_left, and_right) depth 8);
      flag = is_true _ (search (and_left, and_right) depth 8);
    }

-- Of an event that counts.
pub record Moves (n : Notes) (k : ℕ) (r : Ruled) (m : Notes) : Type 0 where
  pub consistent_after : T (consistent m)
  pub begun : eqb (state_of m) 0 ≡ false
  pub unlocked : eqb (state_of n) 9 ≡ false
  pub acknowledges : r.acknowledged ≡ eqb k 19
  pub receives_is : r.receives ≡ eqb k 18
  pub accepts_is : accepts n k ≡ eqb k 2
  pub flag : cond (eqb (state_of m) 9) 0 (flag_after k (flag_of n)) ≡ flag_of m
  pub waits : cond (eqb (state_of m) 9) false (cond (eqb k 2) true (cond (eqb k 19) false n.waiting)) ≡ m.waiting
  pub early : T (not (is_in (0 ∷ 1 ∷ []) (state_of m)) || (is_in (0 ∷ 1 ∷ []) (state_of n) && (not (eqb k 18) && not (eqb k 19))))
  pub tags : (x : Timer) → T (tag_goes (runs n x) (runs m x) (starts x k (state_of n) (state_of m)) (ends x (state_of m)) (restarts x k))
  pub guarded : T (not (is_in (2 ∷ 23 ∷ []) k || eqb k 18) || (attested n && attested m))
  pub repeats : T (not (eqb k 23) || n.waiting)

moves_by : (n : Notes) (k : ℕ) (r : Ruled) (m : Notes) → T (moves n k r m) → Moves n k r m
moves_by n k r m t = record {
  consistent_after = search (and_left, and_right) depth 16;
  begun = is_false _ (search (and_left, and_right) depth 16);
  unlocked = is_false _ (search (and_left, and_right) depth 16);
  acknowledges = same _ _ (search (and_left, and_right) depth 16);
  receives_is = same _ _ (search (and_left, and_right) depth 16);
  accepts_is = same _ _ (search (and_left, and_right) depth 16);
  flag = eqb→eq _ _ (search (and_left, and_right) depth 16);
  waits = same _ _ (search (and_left, and_right) depth 16);
  early = search (and_left, and_right) depth 16;
  tags = timers_at (λ x. tag_goes (runs n x) (runs m x) (starts x k (state_of n) (state_of m)) (ends x (state_of m)) (restarts x k)) (search (and_left, and_right) depth 16);
  guarded = search (and_left, and_right) depth 16;
  repeats = search (and_left, and_right) depth 16;
}

-- Of any event whose condition the record holds and the history hears alike.
pub record Agree (n : Notes) (k : ℕ) (b : Bool) (r : Ruled) : Type 0 where
  pub next : next_by (state_of n) (flag_of n) k b ≡ cond r.counts (state_of r.after) ignored
  pub move : T r.counts → Moves n k r r.after

agree_by : (n : Notes) (k : ℕ) (b : Bool) (r : Ruled) → T (agrees n k b r) → Agree n k b r
agree_by n k b r t = record {
  next = eqb→eq _ _ (and_left (eqb (next_by (state_of n) (flag_of n) k b) _) _ t);
  move = λ c. moves_by n k r r.after (implied r.counts _ (and_right (eqb (next_by (state_of n) (flag_of n) k b) _) _ t) c);
}

pub agree : (n : Notes) (k name : ℕ) (b h : Bool) → T (consistent n) → k < 24 → name < 3 → T (related n (condition_of k name) b h) → Agree n k b (ruled n k (only h))
agree n k name b h c hk hn r =
    let t = and_right (fits_alone n) _ (right_at n c) in
    let u = below_at 24 (λ k. below 3 (λ name. either (λ b. either (agrees_if n k name b)))) t k hk in
    let v = below_at 3 (λ name. either (λ b. either (agrees_if n k name b))) u name hn in
    let w = either_at (agrees_if n k name b) (either_at (λ b. either (agrees_if n k name b)) v b) h in
    agree_by n k b (ruled n k (only h)) (implied (related n (condition_of k name) b h) _ w r)
