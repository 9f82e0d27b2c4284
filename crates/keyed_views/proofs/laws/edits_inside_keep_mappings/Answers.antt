use Rattle.keyed_views.proofs.Inside.{kept_inside}
use Rattle.keyed_views.proofs.laws.edits_inside_keep_mappings.Goals as goal

pub returns : goal.returns
returns c = λ views all name s steps edit none h. kept_inside views all name s steps edit none h
