use Rattle.dir_codec.proofs.Fits.{site_above, site_below}
use Rattle.dir_codec.proofs.fields.stands_in.Goals as goal

pub returns : goal.returns
returns c = ((λ passes. site_above c.args.end c.args.span.now (c.is_site.ensures.0 passes)), (λ site. c.is_site.ensures.1 (site_below c.args.end c.args.span.now site)))
