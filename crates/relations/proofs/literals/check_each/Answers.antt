use Rattle.std.proofs.Common.{◌≡◌, true, Some, ap, sym, subst, ◌∙◌}
use Rattle.mk_value.specs.Kinds.{domain_of as the_domain}
use Rattle.relations.specs.declared.error.DerivedError.TheVariants.{WrongKind}
use Rattle.relations.specs.Fitting.{is_view}
use Rattle.relations.specs.Rows.{has, domain_of}
use Rattle.relations.proofs.Spelled.{refused_stop, refused_pass}
use Rattle.relations.proofs.Names.{item_present, item_plain}
use Rattle.relations.proofs.literals.check_each.Goals as goal

pub kind-requires : goal.kind-requires
kind-requires g c =
    subst (λ n. has c.args.schema.now n ≡ true) (sym c.prop-name.ensures)
    (item_present g.L.Named.prop c.args.schema.now c.args.items.now c.loop-item.item-index c.item-item.result c.requires.named c.loop-item-test.true c.item-item.is)

pub fits_property-requires : goal.fits_property-requires
fits_property-requires g c =
    ap is_view c.kind.ensures ∙ ap (λ n. is_view (domain_of c.args.schema.now n)) c.prop-name.ensures
    ∙ item_plain g.L.Named.prop c.args.schema.now c.args.items.now c.loop-item.item-index c.item-item.result c.requires.plain c.loop-item-test.true c.item-item.is

pub returns-then-not-fits_property : goal.returns-then-not-fits_property
returns-then-not-fits_property g c =
    ap (λ n. Some (WrongKind n)) c.in_ok-copy.ensures
    ∙ refused_stop g.L.LiteralBounds.bounds g.L.Named.prop g.met.L.LiteralBounds.same_prop c.args.schema.now c.args.items.now c.loop-item.item-index c.item-item.result c.loop-item-test.true c.item-item.is
    (the_domain c.kind.result.now) c.prop-name.result.now c.kind.ensures c.prop-name.ensures (sym c.fits_property.ensures ∙ c.if-not-fits_property.true)
    ∙ c.loop-item.invariant

pub loop-item-preserved : goal.loop-item-preserved
loop-item-preserved g c =
    refused_pass g.L.LiteralBounds.bounds g.L.Named.prop g.met.L.LiteralBounds.same_prop c.args.schema.now c.args.items.now c.loop-item.item-index c.item-item.result c.loop-item-test.true c.item-item.is
    (the_domain c.kind.result.now) c.prop-name.result.now c.kind.ensures c.prop-name.ensures (sym c.fits_property.ensures ∙ c.if-not-fits_property.false)
    ∙ c.loop-item.invariant
