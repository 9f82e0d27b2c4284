use Rattle.std.proofs.Common.{ap}
use Rattle.std.specs.Result.{result_map_both}
use Rattle.std.proofs.lemmas.Result.{err_from_is_err_and}
use Rattle.questions.specs.Told.{told}
use Rattle.questions.proofs.Answering.{told_refusal}
use Rattle.questions.proofs.scope.Scope.shown.Goals as goal

pub returns : goal.returns
returns g c = ap (result_map_both (λ t. t) told) c.in_ok-shown.ensures

pub returns-in_err-shown : goal.returns-in_err-shown
returns-in_err-shown g c =
    let p = err_from_is_err_and c.from_residual.result c.from_residual.ensures.1 in
    rw (p.1, p.2) (told_refusal _ _ c.in_err-shown.ensures)
