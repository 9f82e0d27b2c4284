use Rattle.std.proofs.Common.{◌≡◌, ◌+◌, ◌++◌, sum, take}
use Rattle.segments.specs.Segments.{ends_from}
use Rattle.segments.proofs.ends.push_ends.Given as goal

abbrev pub invariant-loop-count : goal.invariant-loop-count
invariant-loop-count l = record {
  end : l.end ≡ l.from + sum (take l.count-index l.counts);
  items : l.out.items ≡ l.initial.out.items ++ ends_from l.from (take l.count-index l.counts);
}
