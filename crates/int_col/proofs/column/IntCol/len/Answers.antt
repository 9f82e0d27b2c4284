use Rattle.std.proofs.Common.{arith}
use Rattle.int_col.proofs.Columns.{IsColumn-of}
use Rattle.int_col.proofs.column.IntCol.len.Goals as goal

pub returns-clause-column : goal.returns-clause-column
returns-clause-column c =
    rw (← c.self.view_is)
    (IsColumn-of c.self.inside.segments c.self.inside.home (omega (arith, c.len.ensures.len, c.len.ensures.few)) c.len.ensures.cut)
