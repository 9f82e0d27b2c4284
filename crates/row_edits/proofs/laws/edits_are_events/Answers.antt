use Rattle.row_edits.proofs.Eventing.{after_edits, all_long, first_events}
use Rattle.row_edits.proofs.laws.edits_are_events.Goals as goal

pub returns-clause-rows : goal.returns-clause-rows
returns-clause-rows c = after_edits

pub returns-clause-first : goal.returns-clause-first
returns-clause-first c = first_events

pub returns-clause-count : goal.returns-clause-count
returns-clause-count c = all_long
