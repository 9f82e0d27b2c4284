use Rattle.relations.proofs.Spelled.{literal_present}
use Rattle.relations.proofs.literals.criteria_of.Goals as goal

pub criterion_of-requires : goal.criterion_of-requires
criterion_of-requires g c =
    literal_present g.L.LiteralBounds.bounds g.L.Named.prop g.met.L.LiteralBounds.same_prop c.args.schema.now c.args.items.now c.loop-item.item-index c.item-item.result c.requires c.loop-item-test.true c.item-item.is
