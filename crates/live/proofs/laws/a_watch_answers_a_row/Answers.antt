use Rattle.live.proofs.Answering.{answers_coming, answers_going}
use Rattle.live.proofs.laws.a_watch_answers_a_row.Goals as goal

pub returns : goal.returns
returns c = record { comes = answers_coming; goes = answers_going }
