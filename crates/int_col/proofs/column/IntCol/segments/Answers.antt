use Rattle.int_col.proofs.Columns.{IsColumn-of}
use Rattle.int_col.proofs.column.IntCol.segments.Goals as goal

pub returns-clause-column : goal.returns-clause-column
returns-clause-column c =
    rw (← c.self.view_is) (IsColumn-of c.self.inside.segments c.self.inside.home c.segments.ensures.few c.segments.ensures.cut)
