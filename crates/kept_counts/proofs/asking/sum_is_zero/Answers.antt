use Rattle.std.proofs.Common.{◌+ℤ◌, sym, subst}
use Rattle.std.specs.Prelude.{FitsSigned}
use Rattle.std.specs.Int.{w64}
use Rattle.std.proofs.lemmas.Int.{to_z-of_z}
use Rattle.kept_counts.proofs.Asked.{unfit_some}
use Rattle.kept_counts.proofs.asking.sum_is_zero.Goals as goal

pub returns-in-None : goal.returns-in-None
returns-in-None c =
    let one = to_z-of_z w64 c.args.one c.ranges.one in
    let two = to_z-of_z w64 c.args.two c.ranges.two in
    unfit_some (c.args.one +ℤ c.args.two) (λ h. c.in-None.ensures (subst (FitsSigned w64) (λ i. sym one i +ℤ sym two i) h))
