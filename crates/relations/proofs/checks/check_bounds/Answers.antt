use Rattle.relations.specs.Criteria.{Interval}
use Rattle.relations.proofs.Names.{item_present, item_plain}
use Rattle.relations.proofs.checks.check_bounds.Goals as goal

pub fits_property-requires-clause-named : goal.fits_property-requires-clause-named
fits_property-requires-clause-named c =
    item_present (λ (b : Interval). b.prop) c.args.schema.now c.args.criteria.now c.loop-criterion.criterion-index c.criterion-item.result c.requires.named c.loop-criterion-test.true c.criterion-item.is

pub fits_property-requires-clause-plain : goal.fits_property-requires-clause-plain
fits_property-requires-clause-plain c =
    item_plain (λ (b : Interval). b.prop) c.args.schema.now c.args.criteria.now c.loop-criterion.criterion-index c.criterion-item.result c.requires.plain c.loop-criterion-test.true c.criterion-item.is
