use Rattle.std.proofs.lemmas.Result.{err_from_is_err_and}
use Rattle.stream_codec.proofs.Names.{looked_none, looked_some}
use Rattle.stream_codec.proofs.Stages.{name_refused, structure_passes, structure_refused}
use Rattle.stream_codec.proofs.stage.take_structure.Goals as goal

pub returns-in_err-name-clause-refused : goal.returns-in_err-name-clause-refused
returns-in_err-name-clause-refused c =
    let p = err_from_is_err_and c.from_residual.result c.from_residual.ensures.1 in
    rw (p.1, p.2) (structure_refused c.args.root.now c.args.left c.args.field.now c.args.place _ c.in_err-name.ensures)

pub returns-then-is_some-clause-refused : goal.returns-then-is_some-clause-refused
returns-then-is_some-clause-refused c =
    let found = looked_some c.table.result _ _ c.table.ensures c.if-is_some.ensures in
    name_refused c.args.root.now c.args.left c.args.field.now c.in_ok-name.name c.in_ok-name.schema _ c.args.place c.in_ok-name.ensures found.1

pub returns-clause-taken : goal.returns-clause-taken
returns-clause-taken c =
    structure_passes c.args.root.now c.args.left c.args.field.now c.in_ok-name.name c.in_ok-name.schema c.requires.whole c.in_ok-name.ensures (looked_none c.table.result _ _ c.table.ensures c.if-is_some.ensures)
