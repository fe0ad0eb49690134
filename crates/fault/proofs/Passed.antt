-- A refusal that `?` passes on.
use Rattle.std.proofs.Common.{◌≡◌, ap, ◌∙◌, Result, Err}
use Rattle.std.specs.Result.{IsErrAnd}
use Rattle.std.proofs.lemmas.Result.{err_from_is_err_and}
use Rattle.fault.specs.declared.Refusal.{Refusal}

pub passed_on : {T : Type 0} {refusal : Refusal} (r : Result T Refusal) → IsErrAnd r (λ e. e ≡ refusal) → r ≡ Err refusal
passed_on r h = let p = err_from_is_err_and r h in p.1 ∙ ap Err p.2
