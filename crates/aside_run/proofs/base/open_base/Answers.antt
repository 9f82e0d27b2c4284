use Rattle.std.proofs.Common.{◌≡◌, ◌∙◌, ap, Err, List, Result, subst, sym, ℕ}
use Rattle.std.proofs.lemmas.Result.{err_from_is_err_and}
use Rattle.aside_disk.proofs.Walked.{seen_same}
use Rattle.aside_run.specs.Bases.{IsBadBase}
use Rattle.aside_run.specs.declared.base.Base.{Base}
use Rattle.aside_run.specs.declared.base.BaseError.{BaseError}
use Rattle.aside_run.specs.declared.base.BaseError.TheVariants as base_error
use Rattle.aside_run.proofs.base.open_base.Goals as goal

pub returns-in_err-number-clause-bad : goal.returns-in_err-number-clause-bad
returns-in_err-number-clause-bad g c = λ tells bad.
    let p = err_from_is_err_and c.from_residual-in_err-number.result c.from_residual-in_err-number.ensures.1 in
    let same : ◌≡◌ {A = Result Base BaseError} (Err p.0) (Err base_error.Bad) = sym p.1 ∙ bad in
    let one : p.0 ≡ base_error.Bad = cc in
    subst (λ (file : List ℕ). IsBadBase file) (seen_same (c.in_ok-attach.ensures.same tells)) (c.in_err-number.ensures.bad tells (ap Err (sym p.2 ∙ one)))
