-- Document 01, "Shortcuts that look right": what the suite choice answers when asked alone, in the paper's values.
use Rattle.std.specs.Prelude.{ℕ, Bool, true, false}

-- Whether a suite was found, and its number. Suite 0 is a suite like any other, so `found` is a fact of its own.
pub record Found : Type 0 where
  pub found : Bool
  pub suite : ℕ

-- A suite that was found.
abbrev pub found_suite : ℕ → Found
found_suite number = record { found = true; suite = number }

-- None was found: 0 for its number.
abbrev pub not_found : Found
not_found = record { found = false; suite = 0 }

-- A refusal's number, 0 for none, and both suites.
pub record Answer : Type 0 where
  pub refusal : ℕ
  pub verifier : Found
  pub prover : Found

-- Refusal 6, with both suites 0.
abbrev pub refused : Answer
refused = record { refusal = 6; verifier = not_found; prover = not_found }

-- No refusal, with what was found for each.
abbrev pub chosen : Found → Found → Answer
chosen v p = record { refusal = 0; verifier = v; prover = p }
