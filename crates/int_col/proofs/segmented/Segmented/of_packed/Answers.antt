use Rattle.std.proofs.Common.{sym, subst, ap, length, arith}
use Rattle.bit_pack.proofs.Changes.{length-values_from}
use Rattle.int_col.specs.Cuts.{AreCuts}
use Rattle.int_col.proofs.CutLaws.{AreCuts-full_cuts}
use Rattle.int_col.proofs.segmented.Segmented.of_packed.Goals as goal

pub of_segments-requires-clause-cut : goal.of_segments-requires-clause-cut
of_segments-requires-clause-cut c = subst AreCuts (sym c.in_ok-cut_packed.ensures.cuts) (AreCuts-full_cuts c.args.count)

pub of_segments-requires-clause-few : goal.of_segments-requires-clause-few
of_segments-requires-clause-few c =
    omega (arith, ap length c.in_ok-cut_packed.ensures.values, length-values_from c.args.width c.args.bytes.now 0 c.args.count)
