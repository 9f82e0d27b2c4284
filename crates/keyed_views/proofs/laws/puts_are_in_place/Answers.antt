use Rattle.keyed_views.proofs.Placing.{put_in_place}
use Rattle.keyed_views.proofs.laws.puts_are_in_place.Goals as goal

pub returns : goal.returns
returns c = λ by keys at row rows p few. put_in_place by keys at row rows p few
