use Rattle.std.proofs.Common.{sym, subst, length}
use Rattle.int_col.specs.Cuts.{AreCuts}
use Rattle.int_col.proofs.CutLaws.{AreCuts-full_cuts}
use Rattle.int_col.proofs.segmented.Segmented.of.Goals as goal

pub of_segments-requires-clause-cut : goal.of_segments-requires-clause-cut
of_segments-requires-clause-cut c =
    subst AreCuts (sym c.in_ok-cut.ensures.cuts) (AreCuts-full_cuts (length c.args.values.now))
