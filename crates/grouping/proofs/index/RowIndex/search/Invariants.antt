use Rattle.std.proofs.Common.{◌-◌, length}
use Rattle.grouping.specs.Index.{keys_of, keys_less}
use Rattle.grouping.proofs.Searched.{IsSearched}
use Rattle.grouping.proofs.index.RowIndex.search.Given as goal

abbrev pub invariant-loop-low : goal.invariant-loop-low
invariant-loop-low l = IsSearched l.low l.high (keys_less l.self l.row) (length (keys_of l.self))

abbrev pub decreases-loop-low : goal.decreases-loop-low
decreases-loop-low l = l.high - l.low
