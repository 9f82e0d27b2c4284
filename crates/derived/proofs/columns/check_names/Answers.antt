use Rattle.std.proofs.Common.{ap, ◌∙◌}
use Rattle.std.proofs.lemmas.List.{map-id}
use Rattle.relations.specs.Refusals.{absent}
use Rattle.derived.proofs.columns.check_names.Goals as goal

pub returns : goal.returns
returns c = c.check_named.ensures ∙ ap (λ names. absent c.args.schema.now names) (map-id c.args.props.now)
