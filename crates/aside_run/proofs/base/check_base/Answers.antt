use Rattle.std.proofs.Common.{◌≡◌, ◌∙◌, Err, Result, sym, ℕ}
use Rattle.std.proofs.lemmas.Result.{err_from_is_err_and}
use Rattle.aside_run.specs.declared.base.BaseError.{BaseError}
use Rattle.aside_run.specs.declared.base.BaseError.TheVariants as base_error
use Rattle.aside_run.proofs.Well.{no_bad}
use Rattle.aside_run.proofs.base.check_base.Goals as goal

pub returns-in_err-check-clause-bad : goal.returns-in_err-check-clause-bad
returns-in_err-check-clause-bad g c = λ tells bad commit stands.
    let p = err_from_is_err_and c.from_residual.result c.from_residual.ensures.1 in
    let same : ◌≡◌ {A = Result ℕ BaseError} (Err p.0) (Err base_error.Bad) = sym p.1 ∙ bad in
    no_bad _ commit _ stands (c.in_err-check.ensures.refused tells) (sym p.2 ∙ (let one : p.0 ≡ base_error.Bad = cc in one))
