-- Document 01, "Refusal numbers", and request #104: faults 1 to 6 and 9, those of the arguments. The step and the history share this reading of them.
use Rattle.std.specs.Prelude.{ℕ, suc, Bool, cond, List, [], ◌∷◌, ltb}
use Rattle.event.specs.declared.Input.{Input}

-- Faults 1 to 6, in their order.
abbrev pub early_faults : (code : ℕ) → Input → List Bool
early_faults code input =
    ltb 23 code
    ∷ ltb 2 input.timer
    ∷ ltb 1 input.bit
    ∷ input.payload_too_long
    ∷ input.cache_too_short
    ∷ input.suites.too_long
    ∷ []

-- Fault 9, which is checked after 7 and 8.
abbrev pub late_faults : Input → List Bool
late_faults input = input.margin_too_large ∷ []

-- The number of the first fault that is present, counted from n; 0 if none is.
abbrev pub first_fault : ℕ → List Bool → ℕ
first_fault n [] = 0
first_fault n (fault ∷ others) = cond fault n (first_fault (suc n) others)

-- The lowest of 1 to 6 whose fault is present, 0 for none.
abbrev pub early : (code : ℕ) → Input → ℕ
early code input = first_fault 1 (early_faults code input)

-- 9 if its fault is present, else 0.
abbrev pub late : Input → ℕ
late input = first_fault 9 (late_faults input)
