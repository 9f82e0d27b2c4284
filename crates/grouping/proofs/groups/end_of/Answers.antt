use Rattle.grouping.proofs.Indexes.{end_within, end_past}
use Rattle.grouping.proofs.groups.end_of.Goals as goal

pub returns-then-group-starts : goal.returns-then-group-starts
returns-then-group-starts c = end_within _ _ _ c.if-group-starts.true

pub returns : goal.returns
returns c = end_past _ _ _ c.if-group-starts.false
