-- A property of each call of a list and its result.
use Rattle.std.specs.Prelude.{List, [], ◌∷◌}

-- P holds of each call with its result, given its past: what the calls before it have led to. `next` gives what a call then leads to. There are
-- as many results as calls.
unfoldable pub Along : {Past C R : Type 0} → (P : Past → C → R → Type 0) → (next : Past → C → R → Past) → Past → List C → List R → Type 0
Along P next past [] [] = Unit {0}
Along P next past [] (result ∷ results) = ⊥
Along P next past (call ∷ calls) [] = ⊥
Along P next past (call ∷ calls) (result ∷ results) = P past call result × Along P next (next past call result) calls results
