use Rattle.std.proofs.Common.{◌≡◌, false, get_or}
use Rattle.std.specs.List.{filter}
use Rattle.relations.specs.Positions.{numbers}
use Rattle.live_counts.specs.Runs.{flags, ties}
use Rattle.live_counts.proofs.making.starts_of.Given as goal

abbrev pub invariant-loop-at : goal.invariant-loop-at
invariant-loop-at g l = l.all.items ≡ filter (λ i. get_or (flags (ties (g.T.TableRead.schema l.rows) l.op (g.T.TableRead.rows l.rows)) l.kept) i false) (numbers l.at)
