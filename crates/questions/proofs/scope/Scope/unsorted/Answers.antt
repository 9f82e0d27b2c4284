use Rattle.std.proofs.Common.{map, sym}
use Rattle.derived.specs.Layers.{table_of}
use Rattle.expr_text.specs.Meanings.{query_of}
use Rattle.questions.specs.Kept.{asked_names}
use Rattle.questions.proofs.Unordered.{sort_answered}
use Rattle.questions.proofs.scope.Scope.unsorted.Goals as goal

pub returns : goal.returns
returns g c =
    sort_answered (asked_names c.args.self.now.names (map g.V.Viewer.meaning c.args.self.now.viewers.now) c.args.self.now.computed.now) (map g.V.Viewer.meaning c.args.self.now.viewers.now) (query_of c.args.base.now) c.args.keys.now
    (table_of c.in_ok-table.table) c.in_ok-table.ensures (rw (c.as_slice.ensures, c.in_ok-keys.ensures, c.schema.ensures.value) at (sym c.in_default.ensures))
