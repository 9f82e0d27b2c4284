use Rattle.std.proofs.Common.{[], not, ◌+ℤ◌, get_or, ap, ◌∙◌}
use Rattle.std.specs.Int.{w64}
use Rattle.std.proofs.lemmas.Int.{to_z-of_z}
use Rattle.derived.specs.Refusals.{is_zero}
use Rattle.kept_counts.proofs.Asked.{sum_two}
use Rattle.kept_counts.proofs.asking.keeps_sum.Goals as goal

pub returns : goal.returns
returns g c =
    let one = to_z-of_z w64 c.number_at-one.result c.number_at-one.ensures.fits in
    let two = to_z-of_z w64 c.number_at-two.result c.number_at-two.ensures.fits in
    ap not c.sum_is_zero.ensures
    ∙ (λ i. not (is_zero (one i +ℤ two i)))
    ∙ sum_two (g.T.TableRead.schema c.args.rows.now) (get_or (g.T.TableRead.rows c.args.rows.now) c.args.row []) c.args.props.now c.index-props-0.result c.index-props-1.result c.number_at-one.result c.number_at-two.result
    c.if-props-ne2.false c.index-props-0.is c.index-props-1.is c.number_at-one.ensures.value c.number_at-two.ensures.value
