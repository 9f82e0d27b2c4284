use Rattle.std.proofs.lemmas.Result.{err_from_is_err_and}
use Rattle.stream_codec.proofs.Stages.{view_count_passes, view_count_refused}
use Rattle.stream_codec.proofs.stage.take_view_count.Goals as goal

pub returns-in_err-count-clause-refused : goal.returns-in_err-count-clause-refused
returns-in_err-count-clause-refused c =
    let p = err_from_is_err_and c.from_residual.result c.from_residual.ensures.1 in
    rw (p.1, p.2) (view_count_refused c.args.field.now c.args.place _ c.requires c.in_err-count.ensures)

pub returns-clause-taken : goal.returns-clause-taken
returns-clause-taken c = view_count_passes c.args.field.now c.in_ok-count.count c.requires c.in_ok-count.ensures
