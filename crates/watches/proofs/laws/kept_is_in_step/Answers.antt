use Rattle.watches.proofs.Holding.{in_step_where_kept, kept_where_in_step}
use Rattle.watches.proofs.laws.kept_is_in_step.Goals as goal

pub returns-clause-in_step : goal.returns-clause-in_step
returns-clause-in_step c views all h = in_step_where_kept views all h

pub returns-clause-kept : goal.returns-clause-kept
returns-clause-kept c views all h = kept_where_in_step views all h
