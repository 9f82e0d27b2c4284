use Rattle.live_counts.specs.Filtering.{IsFiltered}
use Rattle.row_edits.specs.Edits.{edited_by}
use Rattle.row_edits.specs.Lines.{row_at}
use Rattle.std.proofs.Common.{take}
use Rattle.kept_counts.specs.Keeping.{is_kept_by}
use Rattle.kept_counts.proofs.noting.pass_line.Given as goal

abbrev pub invariant-loop-edit : goal.invariant-loop-edit
invariant-loop-edit l = IsFiltered (is_kept_by l.line.before.now.schema l.law l.props) (edited_by (row_at l.line.after.now.rows l.line.home) (take l.edit l.line.edits.now) l.line.before.now.rows) l.passed.kept
