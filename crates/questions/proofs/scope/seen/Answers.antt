use Rattle.std.proofs.Common.{ap}
use Rattle.std.specs.Result.{result_map_both}
use Rattle.eval.specs.Values.{at_path}
use Rattle.questions.specs.Told.{told}
use Rattle.questions.proofs.Answering.{path_told}
use Rattle.questions.proofs.scope.seen.Goals as goal

pub returns-in-Ok : goal.returns-in-Ok
returns-in-Ok g c = ap (λ r. result_map_both (λ t. t) told (at_path r)) c.in-Ok.ensures

pub returns-in-Err : goal.returns-in-Err
returns-in-Err g c = rw c.of_name.ensures (path_told _ _ c.in-Err.ensures)
