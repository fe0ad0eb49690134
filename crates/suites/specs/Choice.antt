-- Document 01, "Tokens and suites" and "Refusal numbers", row 6: the choice of suites, over four lists of 32-bit numbers.
use Rattle.std.specs.Prelude.{ℕ, Bool, cond, ◌||◌, List, [], ◌∷◌, length, eqb, ltb}
use Rattle.suites.specs.declared.Lists.{Lists}
use Rattle.suites.specs.Answer.{Found, found_suite, not_found, Answer, refused, chosen}

-- The first entry of a list that passes a test. Repeats are allowed; an empty list finds nothing.
unfoldable pub find : (ℕ → Bool) → List ℕ → Found
find passes [] = not_found
find passes (entry ∷ list) = cond (passes entry) (found_suite entry) (find passes list)

-- Whether a suite is found anywhere in a list.
abbrev pub found_in : List ℕ → ℕ → Bool
found_in list suite = (find (eqb suite) list).found

-- The first entry of one list found anywhere in another.
abbrev pub first_found : List ℕ → List ℕ → Found
first_found list other = find (found_in other) list

-- Whether a list has more than 16 entries.
abbrev pub too_long : List ℕ → Bool
too_long list = ltb 16 (length list)

-- The fault of refusal 6, in any of the four lists.
abbrev pub any_too_long : List ℕ → List ℕ → List ℕ → List ℕ → Bool
any_too_long our_verifiers peer_provers peer_verifiers our_provers =
    too_long our_verifiers || too_long peer_provers || too_long peer_verifiers || too_long our_provers

-- The verifier's suite is the first entry of our verifier list found anywhere in the peer's prover list;
-- the prover's is the first entry of the peer's verifier list found in our prover list.
unfoldable pub choice : List ℕ → List ℕ → List ℕ → List ℕ → Answer
choice our_verifiers peer_provers peer_verifiers our_provers =
    cond (any_too_long our_verifiers peer_provers peer_verifiers our_provers)
    refused
    (chosen (first_found our_verifiers peer_provers) (first_found peer_verifiers our_provers))

-- Whether one of the lists that the code is lent is too long.
abbrev pub lists_too_long : Lists → Bool
lists_too_long lists =
    any_too_long lists.our_verifiers.now lists.peer_provers.now lists.peer_verifiers.now lists.our_provers.now

-- The choice over them.
abbrev pub choice_of : Lists → Answer
choice_of lists =
    choice lists.our_verifiers.now lists.peer_provers.now lists.peer_verifiers.now lists.our_provers.now
