use Rattle.std.proofs.Common.{arith}
use Rattle.questions.proofs.Printed.{one_line_more}
use Rattle.questions.proofs.rows.print_rows.Goals as goal

-- one more row, behind its text a newline
pub loop-at-preserved : goal.loop-at-preserved
loop-at-preserved c =
    one_line_more c.args.table.now.rows c.loop-at.at c.loop-at.lines.bytes c.print_row_of.new.out.bytes c.push_str.new.self.bytes
    (omega (arith, c.loop-at-test.true, c.size-count.ensures.value)) c.loop-at.invariant c.in_ok-print_row_of.ensures c.in_ok-push_str.ensures.ok
