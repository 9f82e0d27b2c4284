use Rattle.std.proofs.Common.{◌≡◌, ◌+◌, drop, length}
use Rattle.std.specs.List.{flat_map}
use Rattle.stream_codec.specs.Stream.{spelled, spelled_view}
use Rattle.stream_codec.proofs.lengths.stream_length.Given as goal

-- what is counted, with the views to come, is the whole
abbrev pub invariant-loop-at : goal.invariant-loop-at
invariant-loop-at l = l.len + length (flat_map spelled_view (drop l.at l.fn.root)) ≡ length (spelled l.fn.root)
