use Rattle.std.proofs.Common.{length}
use Rattle.std.proofs.lemmas.Result.{err_from_is_err_and}
use Rattle.stream_codec.proofs.RowStages.{has_next_len, may_end_row, refused_in_place, row_ends_so, row_goes_on}
use Rattle.stream_codec.proofs.stage.take_row_field.Goals as goal

pub take_in_place-requires-clause-long : goal.take_in_place-requires-clause-long
take_in_place-requires-clause-long c = has_next_len c.args.root.now c.args.stage.now (length c.args.field.now) c.requires.rows c.requires.whole c.requires.long

pub returns-in_err-take_in_place-clause-refused : goal.returns-in_err-take_in_place-clause-refused
returns-in_err-take_in_place-clause-refused c =
    let p = err_from_is_err_and c.from_residual.result c.from_residual.ensures.1 in
    rw (p.1, p.2) (refused_in_place c.args.root.now c.args.stage.now c.args.field.now c.args.place _ c.requires.rows c.in_err-take_in_place.ensures.refused)

pub end_row-requires : goal.end_row-requires
end_row-requires c = may_end_row c.args.root.now c.args.stage.now _ c.args.field.now _ c.requires.whole c.in_ok-take_in_place.ensures.taken

pub returns-in_ok-end_row-clause-taken : goal.returns-in_ok-end_row-clause-taken
returns-in_ok-end_row-clause-taken c = row_ends_so c.args.root.now _ c.args.stage.now _ _ c.args.field.now _ c.requires.whole c.in_ok-take_in_place.ensures.taken c.in_ok-end_row.ensures

pub returns-else-branch-clause-taken : goal.returns-else-branch-clause-taken
returns-else-branch-clause-taken c = row_goes_on c.args.root.now c.args.stage.now _ c.args.field.now _ c.requires.whole c.in_ok-take_in_place.ensures.taken c.if-branch.false
