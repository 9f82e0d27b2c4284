use Rattle.restructure.proofs.Back.{property_by_property}
use Rattle.restructure.proofs.laws.by_name.Goals as goal

pub returns : goal.returns
returns c = property_by_property
