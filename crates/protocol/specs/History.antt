-- Document 01, "The five notes": the history of a connection, kept from the calls' arguments and the cache's length alone.
-- It reads no record, no state and no table; only `state_of` and its parts, at the end, name states. With the step it shares what the
-- arguments mean: `input_of`, `named`, and the faults of the arguments with their order.
use Rattle.std.specs.Prelude.{ℕ, ◌+◌, ◌-◌, Bool, true, false, not, ◌&&◌, ◌||◌, cond, List, [], ◌∷◌, eqb}
use Rattle.event.specs.Call.{Call, input_of}
use Rattle.event.specs.Kind.{named}
use Rattle.record.specs.Limits.{Limits}
use Rattle.record.specs.Timer.{Timer, H, HP, HV, DAT, RA, ACK}
use Rattle.table.specs.Sets.{is_in}
use Rattle.protocol.specs.Faults.{early, late}
use Rattle.protocol.specs.Notes.{Opening, fresh, hello_sent, opened, locked, off, running, good, Notes, is_fresh, is_hello_sent, is_open, is_running, is_good, is_missing, attested}
use Rattle.protocol.specs.declared.Answer.{Answer}
use Rattle.protocol.specs.declared.Answer.TheVariants.{Handled, Ignored, Refused}
use Rattle.event.specs.declared.Input.{Input}

-- The notes, and the numbers and bytes that go with them.
pub record History : Type 0 where
  pub notes : Notes
  -- How many events have been counted.
  pub count : ℕ
  -- How many had been counted at the latest start of a driver or timer, that one included.
  pub since : Timer → ℕ
  -- The block note's bits, and the bytes of the block.
  pub next_send : ℕ
  pub expected : ℕ
  pub block : List ℕ

-- At first nothing is counted, running or waiting, and both bits are 0.
abbrev pub first : History
first = record {
  notes = record { opening = fresh; current = false; prover = off; verifier = off; waiting = false };
  count = 0;
  since = λ timer. 0;
  next_send = 0;
  expected = 0;
  block = [];
}

-- What a call says, as the history hears it.
pub record Heard : Type 0 where
  -- Whether its tag makes it live for a driver or timer.
  pub live : Timer → Bool
  -- The handshake timer that event 20 names.
  pub named : Timer
  -- Whether it has a good token and both suites; whether it has a good token.
  pub good_hello : Bool
  pub good_token : Bool
  -- Whether its bit is the expected bit; whether it is the next-send bit.
  pub expected_bit : Bool
  pub next_send_bit : Bool

-- Opening: greeted by event 0 when fresh.
abbrev pub greets : Notes → (code : ℕ) → Bool
greets notes code = eqb code 0 && is_fresh notes.opening

-- Open by a good hello with both suites when greeted.
abbrev pub opens : Notes → (code : ℕ) → Heard → Bool
opens notes code heard = eqb code 11 && is_hello_sent notes.opening && heard.good_hello

-- Locked by a failed hello when greeted; when greeted or open, by 1, 10, 12 or a live 20;
-- when open, by a live 5 or 8, or a bad 13 while the token is missing.
abbrev pub locks : Notes → (code : ℕ) → Heard → Bool
locks notes code heard =
    eqb code 11 && is_hello_sent notes.opening && not heard.good_hello
    || is_in (1 ∷ 10 ∷ 12 ∷ []) code && (is_hello_sent notes.opening || is_open notes.opening)
    || eqb code 20 && (is_hello_sent notes.opening || is_open notes.opening) && heard.live heard.named
    || eqb code 5 && is_open notes.opening && heard.live HV
    || eqb code 8 && is_open notes.opening && heard.live HP
    || eqb code 13 && is_missing notes && not heard.good_token

-- Token: missing by live 21. From here on every rule needs the connection open.
abbrev pub expires : Notes → (code : ℕ) → Heard → Bool
expires notes code heard = eqb code 21 && is_open notes.opening && heard.live DAT

-- Current by a good 13 while missing.
abbrev pub renews : Notes → (code : ℕ) → Heard → Bool
renews notes code heard = eqb code 13 && is_missing notes && heard.good_token

-- Prover: running at every 14 or 17 while open.
abbrev pub prover_starts : Notes → (code : ℕ) → Bool
prover_starts notes code = is_in (14 ∷ 17 ∷ []) code && is_open notes.opening

-- Good by live 7.
abbrev pub prover_succeeds : Notes → (code : ℕ) → Heard → Bool
prover_succeeds notes code heard = eqb code 7 && is_open notes.opening && heard.live HP

-- Verifier: running by 3 or live 22 when good.
abbrev pub verifier_starts : Notes → (code : ℕ) → Heard → Bool
verifier_starts notes code heard =
    eqb code 3 && is_open notes.opening && is_good notes.verifier
    || eqb code 22 && is_open notes.opening && is_good notes.verifier && heard.live RA

-- Good by live 4.
abbrev pub verifier_succeeds : Notes → (code : ℕ) → Heard → Bool
verifier_succeeds notes code heard = eqb code 4 && is_open notes.opening && heard.live HV

-- Block: waiting by 2 when open, token current, both good, nothing waiting.
abbrev pub accepts : Notes → (code : ℕ) → Bool
accepts notes code = eqb code 2 && attested notes && not notes.waiting

-- While waiting, 19 with the next-send bit ends that.
abbrev pub acknowledged : Notes → (code : ℕ) → Heard → Bool
acknowledged notes code heard = eqb code 19 && is_open notes.opening && notes.waiting && heard.next_send_bit

-- 18 with the expected bit when open, token current, both good.
abbrev pub receives : Notes → (code : ℕ) → Heard → Bool
receives notes code heard = eqb code 18 && attested notes && heard.expected_bit

-- Besides the events that these rules take, live 6, 9 and 23 count, 15 while the verifier runs, 16 while the prover runs.
abbrev pub counts_besides : Notes → (code : ℕ) → Heard → Bool
counts_besides notes code heard =
    eqb code 6 && is_open notes.opening && heard.live HV
    || eqb code 9 && is_open notes.opening && heard.live HP
    || eqb code 23 && is_open notes.opening && heard.live ACK
    || eqb code 15 && is_open notes.opening && is_running notes.verifier
    || eqb code 16 && is_open notes.opening && is_running notes.prover

-- An event counts if a rule above takes it.
unfoldable pub counts : Notes → (code : ℕ) → Heard → Bool
counts notes code heard =
    greets notes code
    || opens notes code heard
    || locks notes code heard
    || expires notes code heard
    || renews notes code heard
    || prover_starts notes code
    || prover_succeeds notes code heard
    || verifier_starts notes code heard
    || verifier_succeeds notes code heard
    || accepts notes code
    || acknowledged notes code heard
    || receives notes code heard
    || counts_besides notes code heard

-- The notes after an event that counts. From the opening the token is current and both drivers run; from the token's return the verifier
-- runs, and while the token is missing it is off; waiting lapses on locking.
unfoldable pub notes_after : Notes → (code : ℕ) → Heard → Notes
notes_after notes code heard = record {
  opening =
      cond (greets notes code) hello_sent
      (cond (opens notes code heard) opened
      (cond (locks notes code heard) locked notes.opening));
  current = cond (opens notes code heard || renews notes code heard) true (cond (expires notes code heard) false notes.current);
  prover = cond (opens notes code heard || prover_starts notes code) running (cond (prover_succeeds notes code heard) good notes.prover);
  verifier =
      cond (opens notes code heard || renews notes code heard || verifier_starts notes code heard) running
      (cond (expires notes code heard) off
      (cond (verifier_succeeds notes code heard) good notes.verifier));
  waiting =
      cond (locks notes code heard) false
      (cond (accepts notes code) true
      (cond (acknowledged notes code heard) false notes.waiting));
}

-- What runs: H while greeted or the token is missing; HP and HV with their drivers; DAT while the token is current;
-- RA from live 4 while the verifier is good; ACK while open, current, both good and waiting.
unfoldable pub runs : Notes → Timer → Bool
runs notes H = is_hello_sent notes.opening || is_missing notes
runs notes HP = is_open notes.opening && is_running notes.prover
runs notes HV = is_open notes.opening && is_running notes.verifier
runs notes DAT = is_open notes.opening && notes.current
runs notes RA = is_open notes.opening && is_good notes.verifier
runs notes ACK = attested notes && notes.waiting

-- The events that start again what may be running: the prover at every 14 or 17, ACK at a repeat.
abbrev pub restarts : Timer → (code : ℕ) → Bool
restarts H code = false
restarts HP code = is_in (14 ∷ 17 ∷ []) code
restarts HV code = false
restarts DAT code = false
restarts RA code = false
restarts ACK code = eqb code 23

-- The count at the latest start: the new one for what comes to run, or is started again.
abbrev pub since_after : (was is again : Bool) (count since : ℕ) → ℕ
since_after was is again count since = cond (is && (not was || again)) count since

-- What the history hears of a call. Live: the driver or timer runs, and the tag is the count at its latest start.
abbrev pub hear : History → Input → Heard
hear history input = record {
  live = λ timer. runs history.notes timer && eqb input.tag (history.since timer);
  named = named input.timer;
  good_hello = input.good && input.suites.found;
  good_token = input.good;
  expected_bit = eqb input.bit history.expected;
  next_send_bit = eqb input.bit history.next_send;
}

-- The history after an event that counts: 19 gives the other next-send bit, 18 the other expected bit, 2 the block's bytes.
unfoldable pub counted : History → (code : ℕ) → Input → (payload : List ℕ) → History
counted history code input payload =
    let heard = hear history input in
    let after = notes_after history.notes code heard in
    let count = history.count + 1 in
    record {
      notes = after;
      count = count;
      since = λ timer. since_after (runs history.notes timer) (runs after timer) (restarts timer code) count (history.since timer);
      next_send = cond (acknowledged history.notes code heard) (1 - history.next_send) history.next_send;
      expected = cond (receives history.notes code heard) (1 - history.expected) history.expected;
      block = cond (accepts history.notes code) payload history.block;
    }

-- Whether a call's event counts.
abbrev pub counts_call : Limits → (cache_length : ℕ) → History → Call → Bool
counts_call limits cache_length history call =
    counts history.notes call.event.code (hear history (input_of limits call cache_length))

-- The number of a call's refusal, 0 for none: the lowest of 1 to 6 if the arguments have one of these faults, else 8 if the event counts
-- and the count is the largest, else 9 if they have its fault.
unfoldable pub refusal_to : Limits → (cache_length : ℕ) → History → Call → ℕ
refusal_to limits cache_length history call =
    let input = input_of limits call cache_length in
    let lower = early call.event.code input in
    let full = counts_call limits cache_length history call && eqb history.count limits.handled in
    cond (eqb lower 0) (cond full 8 (late input)) lower

-- Refused with that number, else handled if the event counts, ignored if not.
abbrev pub answer_by : (refusal : ℕ) (takes : Bool) → Answer
answer_by refusal takes = cond (eqb refusal 0) (cond takes Handled Ignored) (Refused refusal)

-- What the history says of a call.
unfoldable pub answer_to : Limits → (cache_length : ℕ) → History → Call → Answer
answer_to limits cache_length history call =
    answer_by (refusal_to limits cache_length history call) (counts_call limits cache_length history call)

-- A call that is refused or ignored isn't counted and moves no note.
abbrev pub keep : Answer → (before after : History) → History
keep Handled before after = after
keep Ignored before after = before
keep (Refused number) before after = before

-- The history after a call.
unfoldable pub history_after : Limits → (cache_length : ℕ) → History → Call → History
history_after limits cache_length history call =
    keep (answer_to limits cache_length history call) history
    (counted history call.event.code (input_of limits call cache_length) call.payload)

-- The state of an open connection: by the token, the runs of prover and verifier, and a waiting block.
abbrev pub open_state : (current prover_runs verifier_runs waiting : Bool) → ℕ
open_state true true true waiting = 2
open_state true true false waiting = 3
open_state true false true waiting = 4
open_state true false false false = 7
open_state true false false true = 8
open_state false true verifier_runs waiting = 5
open_state false false verifier_runs waiting = 6

-- The state that the opening note stands for, given that of an open connection.
abbrev pub state_by : Opening → (when_open : ℕ) → ℕ
state_by fresh when_open = 0
state_by hello_sent when_open = 1
state_by opened when_open = when_open
state_by locked when_open = 9

-- The state, read off the notes.
unfoldable pub state_of : Notes → ℕ
state_of notes =
    state_by notes.opening
    (open_state notes.current (is_running notes.prover) (is_running notes.verifier) notes.waiting)
