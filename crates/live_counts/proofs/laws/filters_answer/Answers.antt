use Rattle.live_counts.proofs.Flagged.{answers_change, answers_coming, answers_going, filter_turn}
use Rattle.live_counts.proofs.laws.filters_answer.Goals as goal

pub returns : goal.returns
returns c = record { turn = filter_turn; comes = answers_coming; goes = answers_going; changes = answers_change }
