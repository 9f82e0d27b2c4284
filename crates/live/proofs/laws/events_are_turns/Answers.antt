use Rattle.live.proofs.Beginning.{begun_place, begun_turn}
use Rattle.live.proofs.laws.events_are_turns.Goals as goal

pub returns : goal.returns
returns c = record { turn = begun_turn; place = begun_place }
