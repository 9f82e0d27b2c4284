use Rattle.std.proofs.Common.{◌≡◌, None, take}
use Rattle.live_counts.specs.Counting.{AreCounts}
use Rattle.row_edits.specs.Edits.{edited_by}
use Rattle.row_edits.specs.Lines.{row_at}
use Rattle.kept_counts.proofs.noting.advance_line.Given as goal

abbrev pub invariant-loop-edit : goal.invariant-loop-edit
invariant-loop-edit g l = record {
  now : AreCounts l.line.before.now.schema (edited_by (row_at l.line.after.now.rows l.line.home) (take l.edit l.line.edits.now) l.line.before.now.rows) l.followed;
  op : l.followed.op ≡ l.fn.counts.op;
  noted : l.followed.noted ≡ None;
}
