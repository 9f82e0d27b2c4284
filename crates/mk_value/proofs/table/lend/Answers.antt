use Rattle.std.proofs.Common.{◌∙◌, sym}
use Rattle.mk_value.proofs.Converting.{rows_count}
use Rattle.mk_value.proofs.table.lend.Goals as goal

pub returns-in-V : goal.returns-in-V
returns-in-V c = rw c.in-V.is (c.len.ensures ∙ sym (rows_count c.in-V.rows))
