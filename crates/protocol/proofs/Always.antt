-- Every record reached from a fresh one is well formed, the number never falls, a locked connection stays locked and orders nothing.
-- Assumes nothing.
use mathlib.Core.Path.{◌≡◌, refl, sym, subst, subst⁻¹, ap, ◌∙◌}
use mathlib.Core.List.{List, [], ◌∷◌, ◌++◌}
use mathlib.Core.Option.{Option, none}
use Prim.Native.Nat.{ℕ, ◌≤◌}
use native.Mathlib.Omega.{arith}
use lib.Dec.{T}
use lib.ListN.{length}
use borrow.Author.Tests.{eq-eqb}
use Rattle.event.specs.Call.{Call, input_of}
use Rattle.record.specs.Limits.{Limits}
use Rattle.record.specs.WellFormed.{fresh, well_formed}
use Rattle.protocol.specs.Agreement.{Block, accepted_after}
use Rattle.protocol.specs.Always.{Reached, ReachedWellFormed, NeverFalls, Unmoved, AllUnmoved, LockedStays}
use Rattle.protocol.specs.History.{History, first, history_after}
use Rattle.protocol.specs.Run.{Left, left_of, results_of}
use Rattle.protocol.specs.Step.{result_of}
use Rattle.protocol.specs.declared.Answer.{Answer}
use Rattle.record.specs.declared.Connection.{Connection}
use Rattle.protocol.proofs.Agreement.{one_call}
use Rattle.protocol.proofs.Carried.{Waits}
use Rattle.protocol.proofs.Blocks.{handled_blocks}
use Rattle.protocol.proofs.Follows.{Follows, follows_first, well_formed_lem}
use Rattle.protocol.proofs.Moved.{advanced}
use Rattle.protocol.proofs.Stepped.{Stepped, refused, ignored, handled, stepped, next, still}

-- A fresh record is reached, and a call leads from reached to reached.
pub fresh_reached : (limits : Limits) (cache : List ℕ) → Reached limits (record { connection = fresh; cache = cache })
unfolding left_of results_of
fresh_reached limits cache = record { cache = cache; calls = []; leaves = refl }

left_after : (limits : Limits) (connection : Connection) (cache : List ℕ) (calls more : List Call)
    → left_of limits connection cache (calls ++ more) ≡ (let left = left_of limits connection cache calls in left_of limits left.connection left.cache more)
unfolding left_of results_of
left_after limits connection cache [] more = refl
left_after limits connection cache (call ∷ calls) more =
    let result = result_of limits connection call cache in
    left_after limits result.outcome.connection result.cache calls more

pub step_reached : (limits : Limits) (left : Left) → Reached limits left → (call : Call)
    → let result = result_of limits left.connection call left.cache in
    Reached limits (record { connection = result.outcome.connection; cache = result.cache })
unfolding left_of results_of
step_reached limits left r call = record {
  cache = r.cache;
  calls = r.calls ++ (call ∷ []);
  leaves = left_after limits fresh r.cache r.calls (call ∷ []) ∙ ap (λ (l : Left). left_of limits l.connection l.cache (call ∷ [])) r.leaves;
}

left_well_formed : (limits : Limits) (size : ℕ) (history : History) (accepted : Option Block) (connection : Connection) (cache : List ℕ)
    → Follows limits size history connection cache → Waits history accepted → (calls : List Call) → T (well_formed limits (left_of limits connection cache calls).connection)
unfolding left_of results_of
left_well_formed limits size history accepted connection cache R W [] = well_formed_lem limits size history connection cache R
left_well_formed limits size history accepted connection cache R W (call ∷ calls) =
    let result = result_of limits connection call cache in
    let c = one_call limits size history accepted connection cache R W call in
    left_well_formed limits size (history_after limits size history call) (accepted_after accepted call result) result.outcome.connection result.cache c.follows c.waits calls

pub reached_well_formed : (limits : Limits) → ReachedWellFormed limits
reached_well_formed limits left r =
    subst (λ (l : Left). T (well_formed limits l.connection)) r.leaves
    (left_well_formed limits (length r.cache) first none fresh r.cache (follows_first limits r.cache) (λ t. absurd t) r.calls)

-- The number never falls: at one call, and over a list.
never_falls_once : (limits : Limits) (connection : Connection) (call : Call) (cache : List ℕ) → connection.handled ≤ (result_of limits connection call cache).outcome.connection.handled
never_falls_once limits connection call cache = by_step (stepped limits connection call cache)
  where
    by_step : Stepped limits connection call cache → connection.handled ≤ (result_of limits connection call cache).outcome.connection.handled
    by_step (refused n e) = rw e (omega arith)
    by_step (ignored n i e) = rw e (omega arith)
    by_step (handled n i e) =
        let a = (advanced connection call.event.code (input_of limits call (length cache)) (next limits connection call cache)).number in
        rw e (omega arith)

pub never_falls : (limits : Limits) → NeverFalls limits
unfolding left_of results_of
never_falls limits connection cache [] = omega arith
never_falls limits connection cache (call ∷ calls) =
    let result = result_of limits connection call cache in
    let once = never_falls_once limits connection call cache in
    let rest = never_falls limits result.outcome.connection result.cache calls in
    omega arith

-- A locked connection: one call, and a list.
locked_once : (limits : Limits) (connection : Connection) (call : Call) (cache : List ℕ) → connection.state ≡ 9 → Unmoved connection cache (result_of limits connection call cache)
locked_once limits connection call cache l = by_step (stepped limits connection call cache)
  where
    unmoved : (answer : Answer) → Unmoved connection cache (still answer connection cache)
    unmoved answer = record { same_record = refl; same_cache = refl; no_orders = refl; no_part = refl }

    by_step : Stepped limits connection call cache → Unmoved connection cache (result_of limits connection call cache)
    by_step (refused n e) = subst⁻¹ (Unmoved connection cache) e (unmoved _)
    by_step (ignored n i e) = subst⁻¹ (Unmoved connection cache) e (unmoved _)
    by_step (handled n i e) =
        absurd (subst T (sym (eq-eqb connection.state 9 l) ∙ (handled_blocks limits connection call cache n i).unlocked) tt)

pub locked_stays : (limits : Limits) → LockedStays limits
unfolding AllUnmoved results_of
locked_stays limits connection cache [] l = tt
locked_stays limits connection cache (call ∷ calls) l =
    let u = locked_once limits connection call cache l in (
      u,
      subst⁻¹ (λ (c : Connection). AllUnmoved connection cache (results_of limits c (result_of limits connection call cache).cache calls)) u.same_record
          (subst⁻¹ (λ (d : List ℕ). AllUnmoved connection cache (results_of limits connection d calls)) u.same_cache
          (locked_stays limits connection cache calls l)),
    )
