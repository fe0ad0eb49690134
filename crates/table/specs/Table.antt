-- Document 01, "The published table": what follows an event in a state.
-- Two numbers for a cell: one if the event's condition holds (an event without a condition counts as held), one if not.
-- 0 to 9 is the next state, 10 is "7/8", 11 is "-" (ignored). For "s" (stay) stands the state's own number.
use Rattle.std.specs.Prelude.{ℕ, Bool, cond, List, [], ◌∷◌, eqb, get_or}

-- The number of the 7/8 branch.
abbrev pub branch : ℕ
branch = 10

-- The number of an ignored event.
abbrev pub ignored : ℕ
ignored = 11

-- A row: states 0 to 9 from left to right.
abbrev pub row : ℕ → ℕ → ℕ → ℕ → ℕ → ℕ → ℕ → ℕ → ℕ → ℕ → List ℕ
row a b c d e f g h i j = a ∷ b ∷ c ∷ d ∷ e ∷ f ∷ g ∷ h ∷ i ∷ j ∷ []

-- The cells where the condition holds, a row for each code from 0 to 23.
abbrev pub when_held : List (List ℕ)
when_held =
    --    00 01 02 03 04 05 06 07 08 09
    row 01 11 11 11 11 11 11 11 11 11  -- 0 UPPER_START_HANDSHAKE
    ∷ row 11 09 09 09 09 09 09 09 09 11  -- 1 UPPER_CLOSE
    ∷ row 11 11 11 11 11 11 11 08 11 11  -- 2 UPPER_SEND_DATA
    ∷ row 11 11 11 02 11 11 11 04 04 11  -- 3 UPPER_RE_RA
    ∷ row 11 11 03 11 10 11 11 11 11 11  -- 4 RA_VERIFIER_OK
    ∷ row 11 11 09 11 09 11 11 11 11 11  -- 5 RA_VERIFIER_FAILED
    ∷ row 11 11 02 11 04 11 11 11 11 11  -- 6 RA_VERIFIER_MSG
    ∷ row 11 11 04 10 11 06 11 11 11 11  -- 7 RA_PROVER_OK
    ∷ row 11 11 09 09 11 09 11 11 11 11  -- 8 RA_PROVER_FAILED
    ∷ row 11 11 02 03 11 05 11 11 11 11  -- 9 RA_PROVER_MSG
    ∷ row 11 09 09 09 09 09 09 09 09 11  -- 10 SC_ERROR
    ∷ row 11 02 11 11 11 11 11 11 11 11  -- 11 SC_HELLO
    ∷ row 11 09 09 09 09 09 09 09 09 11  -- 12 SC_CLOSE
    ∷ row 11 11 11 11 11 02 04 11 11 11  -- 13 SC_DAT
    ∷ row 11 11 02 03 02 05 05 03 03 11  -- 14 SC_DAT_EXPIRED
    ∷ row 11 11 02 11 04 11 11 11 11 11  -- 15 SC_RA_PROVER
    ∷ row 11 11 02 03 11 05 11 11 11 11  -- 16 SC_RA_VERIFIER
    ∷ row 11 11 02 03 02 05 05 03 03 11  -- 17 SC_RE_RA
    ∷ row 11 11 11 11 11 11 11 07 08 11  -- 18 SC_DATA
    ∷ row 11 11 02 03 04 05 06 11 07 11  -- 19 SC_ACK
    ∷ row 11 09 09 09 09 09 09 09 09 11  -- 20 HANDSHAKE_TIMEOUT
    ∷ row 11 11 05 05 06 11 11 06 06 11  -- 21 DAT_TIMEOUT
    ∷ row 11 11 11 02 11 11 11 04 04 11  -- 22 RA_TIMEOUT
    ∷ row 11 11 11 11 11 11 11 11 08 11  -- 23 ACK_TIMEOUT
    ∷ []

-- The cells where it does not: a hello that fails and a bad token lock, all else is ignored.
abbrev pub when_not : ℕ → List ℕ
when_not code =
    cond (eqb code 11) (row 11 09 11 11 11 11 11 11 11 11)
    (cond (eqb code 13) (row 11 11 11 11 11 09 09 11 11 11) [])

-- The cell of a state and a code. In a state or at a code that the table doesn't have, an event is ignored.
unfoldable pub cell : ℕ → ℕ → Bool → ℕ
cell state code held = get_or (cond held (get_or when_held code []) (when_not code)) state ignored

-- The 7/8 branch, decided by the ack flag.
abbrev pub settled : ℕ → ℕ → ℕ
settled flag next = cond (eqb next branch) (cond (eqb flag 1) 8 7) next
