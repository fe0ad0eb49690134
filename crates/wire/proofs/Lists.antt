-- How a packed list is read from entry to entry.
use mathlib.Core.Path.{◌≡◌, refl, subst, ◌∙◌}
use mathlib.Core.Bool.{Bool, true, false, cond}
use mathlib.Core.List.{List, [], ◌∷◌, ◌++◌, append_assoc, append-nil}
use Prim.Native.Nat.{ℕ, zero, suc, ◌+◌, ◌-◌, ◌*◌, ◌<◌, ◌≤◌}
use native.Mathlib.Omega.{arith}
use lib.Dec.{ltb}
use lib.ListN.{length, take, set, length-append, length-replicate}
use lib.Seq.{length-take-le, take-append_seam, set-append_seam}
use Rattle.std.specs.Prelude.{Result, Ok, Err}
use Rattle.std.specs.Result.{is_err}
use Rattle.fault.specs.declared.Refusal.{Refusal}
use Rattle.wire.specs.Varint.{Number, value, fault, number_at}
use Rattle.wire.specs.Parts.{listed, packed_at, packed_of}
use Rattle.wire.specs.declared.list.Packed.{Packed}
use Rattle.wire.specs.Bytes.{list_from}
use Rattle.wire.specs.Layout.{block, faulty, block_at, places, after_number, entries_from}
use Rattle.fault.specs.Fault.{at, leftmost, read_as, refused, judged}
use Rattle.wire.specs.Lists.{of_number, of_entries, suites_from, entries, padded}
use Rattle.fault.proofs.Order.{Between, absurd_bool, widen, joined, not_before, append_refused}
use Rattle.wire.proofs.Places.{Stands, stands, at_end, one_more, block_within}

module _ (list : List ℕ) where
  -- A number's fault stands at its place.
  pub number_between : (place : ℕ) → place ≤ length list → Between place (length list) (of_number place (number_at list place))
  number_between place h = by_number (number_at list place) (stands list place)
    where
      by_number : (n : Number) → Stands list place n → Between place (length list) (of_number place n)
      by_number (value number next) s = tt
      by_number (fault refusal) s = let b = s h in ((omega arith, b.0, b.1, b.2), tt)

  -- The faults of entries stand where the entries do.
  entries_between : (after : ℕ → ℕ) (room left place next : ℕ) → place + left ≡ length list →
      Between place (length list) (of_entries list room (places after place next left))
  unfolding places of_entries
  entries_between after room zero place next h = tt
  entries_between after room (suc left) place next h =
      by_place (ltb place next) room
      (λ r n. widen (suc place) (length list) place (length list) (omega arith) (omega arith) (of_entries list r (places after (suc place) n left)) (entries_between after r left (suc place) n (omega arith)))
    where
      head : Between place (length list) (of_number place (number_at list place))
      head = number_between place (omega arith)

      by_place : (t : Bool) (r : ℕ) →
          ((r n : ℕ) → Between place (length list) (of_entries list r (places after (suc place) n left))) →
          Between place (length list) (of_entries list r (cond t (places after (suc place) next left) (place ∷ places after (suc place) (after place) left)))
      by_place true r f = f r next
      by_place false zero f =
          let many : Between place (length list) (at place 25 ∷ of_entries list zero (places after (suc place) (after place) left)) =
          ((omega arith, omega arith, omega arith, omega arith), f zero (after place))
          in
          joined place (length list) (of_number place (number_at list place)) (at place 25 ∷ of_entries list zero (places after (suc place) (after place) left)) head many
      by_place false (suc r) f =
          joined place (length list) (of_number place (number_at list place)) (of_entries list r (places after (suc place) (after place) left)) head (f r (after place))

  abbrev after : ℕ → ℕ
  after place = after_number list (number_at list place)

  -- The same of all entries from a place on.
  pub entries_all : (room start : ℕ) → start ≤ length list → Between start (length list) (of_entries list room (entries_from list start))
  entries_all room start h = entries_between after room (length list - start) start start (omega arith)

  module _ (place : ℕ) (h : place < length list) where
    beyond : place < after place
    beyond = by_number (number_at list place) (stands list place)
      where
        by_number : (n : Number) → Stands list place n → place < after_number list n
        by_number (value number next) s = s.0
        by_number (fault refusal) s = h

    pub entry_here : entries_from list place ≡ place ∷ entries_from list (after place)
    entry_here = one_more list after place h beyond

    pub entry_faulty : {A : Type 0} (refusal room : ℕ) (x : A) → number_at list place ≡ fault refusal → judged (of_entries list room (entries_from list place)) x ≡ refused refusal
    unfolding of_entries leftmost
    entry_faulty refusal room x e = rw (entry_here, e, at_end list after (length list) (omega arith)) (by_room room)
      where
        b : (21 ≤ refusal) × (refusal ≤ 25) × (32 * place + refusal ≤ 32 * length list + 21)
        b = subst (Stands list place) e (stands list place) (omega arith)

        by_room : (r : ℕ) → judged (of_entries list r (place ∷ [])) x ≡ refused refusal
        by_room zero = rw (e, not_before (at place refusal) (at place 25) (omega arith) (λ p. b.1))
        by_room (suc r) = rw (e)

    module _ (suite next : ℕ) (e : number_at list place ≡ value suite next) where
      pub one_too_many : {A : Type 0} (x : A) → judged (of_entries list 0 (entries_from list place)) x ≡ refused 25
      unfolding of_entries leftmost
      one_too_many x =
          let within = subst (Stands list place) e (stands list place) in
          let here : Between place next (at place 25 ∷ []) = ((omega arith, omega arith, omega arith, omega (arith, within.0)), tt) in
          rw (entry_here, e)
          (append_refused place next (length list) (at place 25 ∷ []) (of_entries list 0 (entries_from list next)) here
          (entries_all 0 next within.1) x x 25 refl)

      pub entry_taken : (room : ℕ) (suites : List ℕ) →
          judged (of_entries list room (entries_from list next)) (listed ((suites ++ (suite ∷ [])) ++ suites_from list next) (length list))
          ≡ judged (of_entries list (suc room) (entries_from list place)) (listed (suites ++ suites_from list place) (length list))
      unfolding of_entries
      entry_taken room suites = rw (entry_here, e, append_assoc)

  -- No entry is left.
  pub list_ends : (place room : ℕ) (suites : List ℕ) → length list ≤ place →
      read_as (listed suites (length list)) ≡ judged (of_entries list room (entries_from list place)) (listed (suites ++ suites_from list place) (length list))
  unfolding of_entries leftmost
  list_ends place room suites h = rw (at_end list after place h, append-nil)

-- A list of suites with zeros after them, and one suite more.
pub one_stored : (suites : List ℕ) (suite : ℕ) → length suites < 16 → set (padded suites) (length suites) suite ≡ padded (suites ++ (suite ∷ []))
one_stored suites suite h =
    let e : 16 - length suites ≡ suc (16 - suc (length suites)) = omega arith in
    let n : length (suites ++ (suite ∷ [])) ≡ suc (length suites) = length-append suites (suite ∷ []) ∙ omega arith in
    rw (n, e, set-append_seam, append_assoc)

pub length_padded : (suites : List ℕ) → length suites ≤ 16 → length (padded suites) ≡ 16
length_padded suites h = rw (length-append, length-replicate) (omega arith)

pub padded_entries : (suites : List ℕ) → length suites ≤ 16 → entries (length suites) (padded suites) ≡ suites
padded_entries suites h =
    let e : length suites - 16 ≡ 0 = omega arith in
    rw (length_padded suites h, e, take-append_seam, append-nil)

-- A packed list at a place is the list in its part.
module _ (message : List ℕ) (place : ℕ) where
  pub packed_faulty : (refusal : ℕ) → block_at message place ≡ faulty refusal → packed_at message place ≡ refused refusal
  unfolding packed_at leftmost
  packed_faulty refusal e = rw (e)

  pub packed_list : (start size : ℕ) → block_at message place ≡ block start size → packed_at message place ≡ list_from (take (start + size) message) start
  unfolding packed_at list_from
  packed_list start size e = rw (e, length-take-le (start + size) message (block_within message place start size e).1)

-- After a fault it does not matter what the list holds.
pub none_taken : (r : Result Packed Refusal) (suites suites' : List ℕ) → true ≡ is_err r → packed_of r suites ≡ packed_of r suites'
none_taken (Ok list) suites suites' e = absurd_bool e
none_taken (Err refusal) suites suites' e = refl
