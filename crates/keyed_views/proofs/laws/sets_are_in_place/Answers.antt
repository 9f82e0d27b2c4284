use Rattle.keyed_views.proofs.Placing.{set_in_place}
use Rattle.keyed_views.proofs.laws.sets_are_in_place.Goals as goal

pub returns : goal.returns
returns c = λ by keys at row rows p. set_in_place by keys at row rows p
