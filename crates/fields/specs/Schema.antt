-- Request #101, the schema: the outer message holds one of nine messages, and each of them its fields.
use Rattle.std.specs.Prelude.{ℕ, Bool, true, false, ◌&&◌, not, cond, List, [], ◌∷◌, eqb, leb, get_or}

-- What a field holds: a token or payload, suites, or a bit.
pub data Form : Type 0 where
  Unknown : Form
  Bytes : Form
  Provers : Form
  Verifiers : Form
  Bit : Form

-- The forms of each message's fields. Both lists count from 0, which is no message and no field.
abbrev pub schema : List (List Form)
schema =
    []
    ∷ (Unknown ∷ Bytes ∷ Provers ∷ Verifiers ∷ [])  -- 1 HELLO
    ∷ []  -- 2 CLOSE
    ∷ []  -- 3 DAT_EXPIRED
    ∷ (Unknown ∷ Bytes ∷ [])  -- 4 DAT
    ∷ []  -- 5 RE_RA
    ∷ (Unknown ∷ Bytes ∷ [])  -- 6 RA_PROVER
    ∷ (Unknown ∷ Bytes ∷ [])  -- 7 RA_VERIFIER
    ∷ (Unknown ∷ Bytes ∷ Bit ∷ [])  -- 8 DATA
    ∷ (Unknown ∷ Bit ∷ [])  -- 9 ACK
    ∷ []

-- The form of a field of a message.
unfoldable pub form_in : (message field : ℕ) → Form
form_in message field = get_or (get_or schema message []) field Unknown

-- The outer message's fields are the nine messages, length-delimited as bytes are.
abbrev pub outer_form : ℕ → Form
outer_form number = cond (leb 1 number && leb number 9) Bytes Unknown

-- Whether the schema has no such field.
abbrev pub is_unknown : Form → Bool
is_unknown Unknown = true
is_unknown Bytes = false
is_unknown Provers = false
is_unknown Verifiers = false
is_unknown Bit = false

-- A bit is a varint, wire type 0; the others are length-delimited, wire type 2. An unknown field is refused as such,
-- whatever its type.
abbrev pub wrong_type : Form → ℕ → Bool
wrong_type Unknown wire = false
wrong_type Bytes wire = not (eqb wire 2)
wrong_type Provers wire = not (eqb wire 2)
wrong_type Verifiers wire = not (eqb wire 2)
wrong_type Bit wire = not (eqb wire 0)
