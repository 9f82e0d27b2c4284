use Rattle.std.proofs.Common.{length, map, ap, sym, ◌∙◌}
use Rattle.std.specs.Prelude.{find}
use Rattle.computing.specs.Computed.{computed_names}
use Rattle.derived.specs.Layers.{table_of}
use Rattle.questions.specs.Cursors.{rows_computed}
use Rattle.questions.specs.Kept.{sources}
use Rattle.questions.proofs.Found.{is_this}
use Rattle.questions.proofs.RowsUnder.{no_rows_found, rows_found}
use Rattle.questions.proofs.scope.Scope.size_computed.Goals as goal

pub returns-in-Ok : goal.returns-in-Ok
unfolding rows_computed
returns-in-Ok g c =
    let names = computed_names (sources c.args.self.now.names) (map g.V.Viewer.meaning c.args.self.now.viewers.now) c.args.self.now.computed.now in
    c.size.ensures.value ∙ ap length (sym (rows_found (find (is_this c.args.name.now) names) (table_of c.in-Ok.table) c.in-Ok.ensures))

pub returns-in-Err-NoName : goal.returns-in-Err-NoName
unfolding rows_computed
returns-in-Err-NoName g c =
    let names = computed_names (sources c.args.self.now.names) (map g.V.Viewer.meaning c.args.self.now.viewers.now) c.args.self.now.computed.now in
    ap length (sym (no_rows_found (find (is_this c.args.name.now) names) c.in-Err-NoName.field-0 c.in-Err-NoName.field-0-is c.in-Err-NoName.ensures))
