use Rattle.std.proofs.Common.{ap, sym, subst, arith, length}
use Rattle.int_col.specs.Cuts.{AreCuts}
use Rattle.int_col.proofs.CutLaws.{AreCuts-full_cuts}
use Rattle.int_col.proofs.Columns.{IsColumn-of}
use Rattle.int_col.proofs.column.IntCol.from_values.Goals as goal

pub returns-clause-column : goal.returns-clause-column
returns-clause-column c =
    IsColumn-of c.in_ok-segments.segments c.args.home
    (omega (arith, c.requires, ap length c.in_ok-segments.ensures.values))
    (subst AreCuts (sym c.in_ok-segments.ensures.cuts) (AreCuts-full_cuts (length c.args.values.now)))
