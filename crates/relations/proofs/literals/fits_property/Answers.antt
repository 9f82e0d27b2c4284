use Rattle.std.proofs.Common.{◌&&◌, ap, sym, ◌∙◌, subst, ◌↔◌, IsTrue}
use Rattle.mk_value.specs.Conversions.{becomes}
use Rattle.mk_value.specs.Data.{Datum, IsOf}
use Rattle.mk_value.specs.Kinds.{domain_of}
use Rattle.relations.specs.Fitting.{fits}
use Rattle.relations.proofs.Fitting.{fits_is}
use Rattle.relations.proofs.literals.fits_property.Goals as goal

pub returns-then-low : goal.returns-then-low
returns-then-low g c =
    let e = domain_of c.args.kind.now in
    ap (λ b. b && c.fits_literal-high.result) (sym c.if-low.true)
    ∙ ap (λ b. b && c.fits_literal-high.result) (fits_is c.fits_literal-low.result e (becomes (g.L.LiteralBounds.bounds c.args.item.now).low e) c.requires (subst (λ (d : Datum). IsTrue c.fits_literal-low.result ↔ IsOf (becomes d e) e) c.low.ensures c.fits_literal-low.ensures))
    ∙ ap (λ b. fits e (becomes (g.L.LiteralBounds.bounds c.args.item.now).low e) && b) (fits_is c.fits_literal-high.result e (becomes (g.L.LiteralBounds.bounds c.args.item.now).high e) c.requires (subst (λ (d : Datum). IsTrue c.fits_literal-high.result ↔ IsOf (becomes d e) e) c.high.ensures c.fits_literal-high.ensures))

pub returns-else-low : goal.returns-else-low
returns-else-low g c =
    let e = domain_of c.args.kind.now in
    c.if-low.false ∙ ap (λ b. b && c.fits_literal-high.result) (sym c.if-low.false)
    ∙ ap (λ b. b && c.fits_literal-high.result) (fits_is c.fits_literal-low.result e (becomes (g.L.LiteralBounds.bounds c.args.item.now).low e) c.requires (subst (λ (d : Datum). IsTrue c.fits_literal-low.result ↔ IsOf (becomes d e) e) c.low.ensures c.fits_literal-low.ensures))
    ∙ ap (λ b. fits e (becomes (g.L.LiteralBounds.bounds c.args.item.now).low e) && b) (fits_is c.fits_literal-high.result e (becomes (g.L.LiteralBounds.bounds c.args.item.now).high e) c.requires (subst (λ (d : Datum). IsTrue c.fits_literal-high.result ↔ IsOf (becomes d e) e) c.high.ensures c.fits_literal-high.ensures))
