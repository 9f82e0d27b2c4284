use Rattle.std.proofs.Common.{◌≤◌, get_or}
use Rattle.std.specs.List.{filter}
use Rattle.relations.specs.Positions.{numbers}
use Rattle.live.specs.Leaving.{AreGone, goes_at}
use Rattle.live.proofs.removed.rows_among.Given as goal

abbrev pub invariant-loop-row : goal.invariant-loop-row
invariant-loop-row l = record {
  gone : AreGone (filter (λ i. goes_at l.at l.count l.below l.watch.source (get_or l.watch.kept i 0)) (numbers l.row)) l.gone.first l.gone.end l.gone.count;
  count : l.gone.count ≤ l.gone.end;
  end : l.gone.end ≤ l.row;
}
