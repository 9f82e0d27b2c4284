use Rattle.std.proofs.Common.{◌≡◌, length, ap, map, sym, subst, ◌∙◌}
use Rattle.std.specs.Prelude.{find}
use Rattle.mk_value.specs.Names.{same_bytes}
use Rattle.questions.specs.Cursors.{Placed, rows_standing, rows_under}
use Rattle.questions.specs.Kept.{Kept, table_of}
use Rattle.questions.specs.declared.cursor.Standing.{Standing}
use Rattle.questions.proofs.RowsUnder.{rows_by}
use Rattle.questions.proofs.scope.Scope.size_under.Goals as goal

pub returns-in-Snapshot : goal.returns-in-Snapshot
returns-in-Snapshot g c =
    let names = c.args.self.now.names in
    let viewers = map g.V.Viewer.meaning c.args.self.now.viewers.now in
    let computed = c.args.self.now.computed.now in
    let name = c.cursor.inside.target in
    let size = c.size_of-in-Snapshot.result in
    subst (λ (p : Placed). size ≡ length (rows_under names viewers computed p)) c.cursor.view_is
    (subst (λ (s : Standing). size ≡ length (rows_standing names viewers computed s name)) (sym c.in-Snapshot.is)
    (c.size_of-in-Snapshot.ensures ∙ ap length (rows_by c.snapshot_of.result (find (λ (k : Kept). same_bytes k.name name) names.snapshots)
    (λ t. record { name = name; table = table_of t.now }) (λ (k : Kept). k.table.rows) c.snapshot_of.ensures)))
