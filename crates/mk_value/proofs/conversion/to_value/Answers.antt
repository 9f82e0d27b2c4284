use Rattle.std.proofs.Common.{sym, subst}
use Rattle.mk_value.specs.Data.{IsOf}
use Rattle.mk_value.specs.Kinds.{domain_of}
use Rattle.mk_value.proofs.Converting.{becomes_of}
use Rattle.mk_value.proofs.conversion.to_value.Goals as goal

pub returns-clause-whole : goal.returns-clause-whole
returns-clause-whole c = λ proper. subst (λ d. IsOf d (domain_of c.args.kind.now)) (sym c.in_ok-convert.ensures)
    (becomes_of _ _ proper (c.literal_fits.ensures.0 c.if-not-literal_fits.false) (c.is_short.ensures.0 c.if-not-is_short.false))
