-- A well-formed record is one that has all its parts.
-- Assumes nothing.
use mathlib.Core.Path.{◌≡◌}
use mathlib.Core.Bool.{Bool, true, false, not, ◌&&◌, ◌||◌, cond}
use Prim.Native.Nat.{ℕ, ◌≤◌}
use lib.Dec.{T, eqb, eqb→eq, leb, leb→le}
use borrow.Author.Tests.{le-leb, not-true}
use Rattle.record.specs.Limits.{Limits}
use Rattle.record.specs.Tags.{tag_of, runs_in}
use Rattle.record.specs.Timer.{Timer, H, HP, HV, DAT, RA, ACK}
use Rattle.record.specs.WellFormed.{fresh, fields_fit, tags_at_most, number_fits, bits_fit, flag_fits, fits_state, on_just_in, well_formed}
use Rattle.record.specs.declared.Connection.{Connection}
use Rattle.record.proofs.EveryTimer.{timers_at}
use Rattle.table.proofs.Finite.{and_left, and_right, is_true}

-- A fresh record has no tag on.
pub tag_0 : (timer : Timer) → tag_of fresh timer ≡ 0
tag_0 timer = eqb→eq _ _ (timers_at (λ x. eqb (tag_of fresh x) 0) tt timer)

pub record Parts (limits : Limits) (c : Connection) : Type 0 where
  pub state : c.state ≤ 9
  pub flag : c.awaiting_ack ≤ 1
  pub next_send : c.next_send_bit ≤ 1
  pub expected : c.expected_bit ≤ 1
  pub length : c.cached_len ≤ limits.payload
  pub empty : (eqb c.cached_len 0 || not (eqb c.awaiting_ack 0)) ≡ true
  pub at_most : (timer : Timer) → tag_of c timer ≤ c.handled
  pub number_fits : number_fits c.state c.handled ≡ true
  pub bits_fit : bits_fit c.state c.next_send_bit c.expected_bit ≡ true
  pub flag_fits_lem : flag_fits c.state c.awaiting_ack ≡ true
  pub tag_fits : (timer : Timer) → on_just_in timer c.state (tag_of c timer) ≡ true

pub state_fits : (limits : Limits) (c : Connection) → T (fields_fit limits c) → T (leb c.state 9)
state_fits limits c t = search (and_left, and_right) depth 16

tag_at_most : (c : Connection) → T (tags_at_most c.handled c) → (timer : Timer) → T (leb (tag_of c timer) c.handled)
tag_at_most c t H = search (and_left, and_right) depth 16
tag_at_most c t HP = search (and_left, and_right) depth 16
tag_at_most c t HV = search (and_left, and_right) depth 16
tag_at_most c t DAT = search (and_left, and_right) depth 16
tag_at_most c t RA = search (and_left, and_right) depth 16
tag_at_most c t ACK = search (and_left, and_right) depth 16

each_tag_fits : (c : Connection) → T (fits_state c.state c) → (timer : Timer) → T (on_just_in timer c.state (tag_of c timer))
each_tag_fits c t H = search (and_left, and_right) depth 16
each_tag_fits c t HP = search (and_left, and_right) depth 16
each_tag_fits c t HV = search (and_left, and_right) depth 16
each_tag_fits c t DAT = search (and_left, and_right) depth 16
each_tag_fits c t RA = search (and_left, and_right) depth 16
each_tag_fits c t ACK = search (and_left, and_right) depth 16

bits_by : (c : Connection) → T (fits_state c.state c) → T (bits_fit c.state c.next_send_bit c.expected_bit)
bits_by c t = search (and_left, and_right) depth 16

pub parts : (limits : Limits) (c : Connection) → T (well_formed limits c) → Parts limits c
unfolding well_formed
parts limits c t =
    let fields = and_left (fields_fit limits c) _ (and_left (fields_fit limits c && tags_at_most c.handled c) _ t) in
    let tags = and_right (fields_fit limits c) _ (and_left (fields_fit limits c && tags_at_most c.handled c) _ t) in
    let fits = and_right (fields_fit limits c && tags_at_most c.handled c) _ t in
    record {
      state = leb→le _ _ (state_fits limits c fields);
      flag = leb→le _ _ (search (and_left, and_right) depth 16);
      next_send = leb→le _ _ (search (and_left, and_right) depth 16);
      expected = leb→le _ _ (search (and_left, and_right) depth 16);
      length = leb→le _ _ (search (and_left, and_right) depth 16);
      empty = is_true _ (search (and_left, and_right) depth 16);
      at_most = λ timer. leb→le _ _ (tag_at_most c tags timer);
      number_fits = is_true _ (search (and_left, and_right) depth 16);
      bits_fit = is_true _ (bits_by c fits);
      flag_fits_lem = is_true _ (search (and_left, and_right) depth 16);
      tag_fits = λ timer. is_true _ (each_tag_fits c fits timer);
    }

pub whole : (limits : Limits) (c : Connection) → Parts limits c → T (well_formed limits c)
unfolding well_formed
whole limits c p =
    let most : (timer : Timer) → leb (tag_of c timer) c.handled ≡ true = λ timer. le-leb _ _ (p.at_most timer) in
    rw (
      le-leb _ _ p.state,
      le-leb _ _ p.flag,
      le-leb _ _ p.next_send,
      le-leb _ _ p.expected,
      le-leb _ _ p.length,
      p.empty,
      most H,
      most HP,
      most HV,
      most DAT,
      most RA,
      most ACK,
      p.number_fits,
      p.bits_fit,
      p.flag_fits_lem,
      p.tag_fits H,
      p.tag_fits HP,
      p.tag_fits HV,
      p.tag_fits DAT,
      p.tag_fits RA,
      p.tag_fits ACK,
    ) tt

-- A tag's rule, said of whether it is off.
just_in : (runs : Bool) (tag : ℕ) → cond runs (not (eqb tag 0)) (eqb tag 0) ≡ true → eqb tag 0 ≡ not runs
just_in true tag t = not-true (eqb tag 0) t
just_in false tag t = t

module _ (limits : Limits) (c : Connection) (p : Parts limits c) (timer : Timer) where
  pub off_is : eqb (tag_of c timer) 0 ≡ not (runs_in timer c.state)
  off_is = just_in (runs_in timer c.state) (tag_of c timer) (p.tag_fits timer)
