use Rattle.std.proofs.Common.{map, sym, subst}
use Rattle.std.specs.Prelude.{find}
use Rattle.mk_value.specs.Buffer.{Buffer}
use Rattle.mk_value.specs.Names.{same_bytes}
use Rattle.questions.specs.Answers.{Answers}
use Rattle.questions.specs.Cursors.{Placed, row_in, rows_standing, rows_under}
use Rattle.questions.specs.Kept.{Kept, table_of}
use Rattle.questions.specs.declared.cursor.Standing.{Standing}
use Rattle.questions.proofs.RowsUnder.{rows_by}
use Rattle.questions.proofs.scope.Scope.row_at.Goals as goal

pub returns-in-Snapshot : goal.returns-in-Snapshot
returns-in-Snapshot g c =
    let names = c.args.self.now.names in
    let viewers = map g.V.Viewer.meaning c.args.self.now.viewers.now in
    let computed = c.args.self.now.computed.now in
    let name = c.cursor.inside.target in
    let at = c.cursor.inside.position in
    let answer = c.row_of-in-Snapshot.result in
    subst (λ (p : Placed). Answers (λ (text : Buffer). text.bytes) (row_in (rows_under names viewers computed p) p.position) answer) c.cursor.view_is
    (subst (λ (s : Standing). Answers (λ (text : Buffer). text.bytes) (row_in (rows_standing names viewers computed s name) at) answer) (sym c.in-Snapshot.is)
    (subst (λ rows. Answers (λ (text : Buffer). text.bytes) (row_in rows at) answer)
    (rows_by c.snapshot_of.result (find (λ (k : Kept). same_bytes k.name name) names.snapshots)
    (λ t. record { name = name; table = table_of t.now }) (λ (k : Kept). k.table.rows) c.snapshot_of.ensures)
    c.row_of-in-Snapshot.ensures))
