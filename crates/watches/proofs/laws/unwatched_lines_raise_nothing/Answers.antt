use Rattle.watches.proofs.Holding.{raised_where_none}
use Rattle.watches.proofs.laws.unwatched_lines_raise_nothing.Goals as goal

pub returns : goal.returns
returns c all view n none = raised_where_none all view n none
