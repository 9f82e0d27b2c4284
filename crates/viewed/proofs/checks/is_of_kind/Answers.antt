use Rattle.std.proofs.Common.{ap, ◌∙◌}
use Rattle.mk_value.specs.Kinds.{domain_of as the_domain}
use Rattle.relations.specs.Equality.{same_domain}
use Rattle.viewed.proofs.Arguments.{same_domain_is}
use Rattle.viewed.proofs.checks.is_of_kind.Goals as goal

pub returns : goal.returns
returns c =
    same_domain_is c.is_same.result (the_domain c.kind.result.now) (the_domain c.args.taken.now) c.is_same.ensures
    ∙ ap (λ d. same_domain d (the_domain c.args.taken.now)) c.kind.ensures
