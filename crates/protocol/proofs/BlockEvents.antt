-- What the published table has for the events that move blocks: 2, 18, 19 and 23.
-- Assumes nothing.
use mathlib.Core.Path.{◌≡◌}
use mathlib.Core.Bool.{Bool, true, false, not, ◌&&◌, ◌||◌, cond, beq}
use mathlib.Core.List.{[], ◌∷◌}
use Prim.Native.Nat.{ℕ, ◌<◌, ◌≤◌}
use lib.Dec.{T, eqb}
use Rattle.record.specs.WellFormed.{flag_fits}
use Rattle.table.specs.Sets.{is_in}
use Rattle.table.specs.Table.{cell, ignored}
use Rattle.protocol.specs.Condition.{next_by}
use Rattle.protocol.specs.Orders as order
use Rattle.protocol.proofs.Moved.{message_by}
use Rattle.table.proofs.Finite.{and_left, and_right, is_false, same, cells, cells_at}

-- What the table has for the events of blocks, of state, code, flag and whether the condition holds, where the event leads to a state.
abbrev handled_right : (s k flag : ℕ) (b : Bool) (to : ℕ) → Bool
handled_right s k flag b to =
    not (eqb s 9)
    && (not (eqb k 2) || eqb flag 0)
    && (not (eqb k 23) || eqb flag 1)
    && (not (is_in (18 ∷ 19 ∷ []) k) || b)
    && (not (is_in (2 ∷ 18 ∷ 19 ∷ 23 ∷ []) k) || not (eqb to 9))
    && beq (eqb (message_by (eqb to 9) k) order.DATA) (is_in (2 ∷ 23 ∷ []) k)
    && beq (eqb (message_by (eqb to 9) k) order.ACK) (eqb k 18)

-- Of every cell and flag that fit together: the event is ignored, or that holds.
abbrev pub cell_right : (s k flag : ℕ) (b : Bool) (to : ℕ) → Bool
cell_right s k flag b to = cond (not (flag_fits s flag) || eqb to ignored) true (handled_right s k flag b to)

cells_right : T (cells (λ s k flag b. cell_right s k flag b (next_by s flag k b)))
unfolding cell
cells_right = tt

pub cell_right_lem : (s k flag : ℕ) (b : Bool) → s ≤ 9 → k < 24 → flag ≤ 1 → T (cell_right s k flag b (next_by s flag k b))
cell_right_lem = cells_at (λ s k flag b. cell_right s k flag b (next_by s flag k b)) cells_right

-- The same as a record of facts.
pub record Handles (s k flag : ℕ) (b : Bool) (to : ℕ) : Type 0 where
  pub unlocked : eqb s 9 ≡ false
  pub accepts : T (not (eqb k 2) || eqb flag 0)
  pub repeats : T (not (eqb k 23) || eqb flag 1)
  pub bit : T (not (is_in (18 ∷ 19 ∷ []) k) || b)
  pub stays : T (not (is_in (2 ∷ 18 ∷ 19 ∷ 23 ∷ []) k) || not (eqb to 9))
  pub is_data : eqb (message_by (eqb to 9) k) order.DATA ≡ is_in (2 ∷ 23 ∷ []) k
  pub is_ack : eqb (message_by (eqb to 9) k) order.ACK ≡ eqb k 18

handles_by : (s k flag : ℕ) (b : Bool) (to : ℕ) → T (handled_right s k flag b to) → Handles s k flag b to
handles_by s k flag b to t = record {
  unlocked = is_false _ (search (and_left, and_right) depth 16);
  accepts = search (and_left, and_right) depth 16;
  repeats = search (and_left, and_right) depth 16;
  bit = search (and_left, and_right) depth 16;
  stays = search (and_left, and_right) depth 16;
  is_data = same _ _ (search (and_left, and_right) depth 16);
  is_ack = same _ _ (search (and_left, and_right) depth 16);
}

pub handles_if : (s k flag : ℕ) (b : Bool) (to : ℕ) → flag_fits s flag ≡ true → eqb to ignored ≡ false → T (cell_right s k flag b to) → Handles s k flag b to
handles_if s k flag b to f i t = handles_by s k flag b to (rw (f, i) at t)
