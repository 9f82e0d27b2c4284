use Rattle.std.proofs.Common.{◌&&◌, ap, sym, ◌∙◌}
use Rattle.mk_value.specs.Kinds.{domain_of}
use Rattle.mk_value.specs.Values.{datum_of}
use Rattle.relations.specs.Criteria.{Interval}
use Rattle.relations.specs.Rows.{domain_of as domain_of_name}
use Rattle.relations.proofs.Fitting.{both_fit}
use Rattle.relations.proofs.checks.fits_property.Goals as goal

pub returns-then-low : goal.returns-then-low
returns-then-low c =
    ap (λ b. b && c.fits-high.result) (sym c.if-low.true)
    ∙ both_fit c.args.criterion.now c.criterion.inside.prop (datum_of c.criterion.inside.low) (datum_of c.criterion.inside.high) (domain_of c.kind-kind.result.now)
    (domain_of_name c.args.schema.now c.args.criterion.now.prop) c.fits-low.result c.fits-high.result c.criterion.view_is
    (c.kind-kind.ensures ∙ ap (λ (b : Interval). domain_of_name c.args.schema.now b.prop) c.criterion.view_is) c.requires.plain c.fits-low.ensures c.fits-high.ensures

pub returns-else-low : goal.returns-else-low
returns-else-low c =
    c.if-low.false ∙ ap (λ b. b && c.fits-high.result) (sym c.if-low.false)
    ∙ both_fit c.args.criterion.now c.criterion.inside.prop (datum_of c.criterion.inside.low) (datum_of c.criterion.inside.high) (domain_of c.kind-kind.result.now)
    (domain_of_name c.args.schema.now c.args.criterion.now.prop) c.fits-low.result c.fits-high.result c.criterion.view_is
    (c.kind-kind.ensures ∙ ap (λ (b : Interval). domain_of_name c.args.schema.now b.prop) c.criterion.view_is) c.requires.plain c.fits-low.ensures c.fits-high.ensures
