use Rattle.std.proofs.Common.{map, sym}
use Rattle.expr_text.specs.Meanings.{query_of}
use Rattle.questions.specs.Kept.{asked_names}
use Rattle.questions.proofs.Unordered.{located_is}
use Rattle.questions.proofs.scope.Scope.locate_all.Goals as goal

pub returns : goal.returns
returns g c =
    let watches = c.args.self.now.names.watches in
    let viewers = map g.V.Viewer.meaning c.args.self.now.viewers.now in
    let names = asked_names c.args.self.now.names viewers c.args.self.now.computed.now in
    let q = query_of c.args.expr.now in
    let list = c.args.criteria.now in
    let t = c.in_ok-table.ensures.0 in
    let has = c.in_ok-table.ensures.2 in
    located_is names watches c.args.self.now.names.mappings viewers q list t c.in_ok-table.table.rows c.count_before-position.result c.in_ok-count.count c.in_ok-table.ensures.1 has.as_many
    (rw (c.schema.ensures.value, has.same_schema) at c.in_ok-values.ensures.0)
    (rw (c.as_slice.ensures, c.in_ok-keys.ensures, c.schema-2.ensures.value, has.same_schema) at (sym c.if-not-begin.ensures))
    (rw (c.as_slice-2.ensures, c.as_slice-3.ensures, c.in_ok-keys.ensures, c.in_ok-values.ensures.1, c.schema-2.ensures.value, c.schema.ensures.value, has.same_schema) at c.count_before-position.ensures)
    (rw (c.as_slice-4.ensures, c.in_ok-values.ensures.1, c.schema.ensures.value, has.same_schema) at c.in_ok-count.ensures)
