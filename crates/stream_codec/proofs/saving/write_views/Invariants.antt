use Rattle.std.proofs.Common.{◌≡◌, ◌++◌, drop, length}
use Rattle.std.specs.List.{flat_map}
use Rattle.byteorder.specs.Endian.{little_bytes}
use Rattle.stream_codec.specs.Stream.{spelled_view}
use Rattle.stream_codec.proofs.saving.write_views.Given as goal

-- what is written, with what the views to come are spelled as, is what all are
abbrev pub invariant-loop-at : goal.invariant-loop-at
invariant-loop-at l = l.out.bytes ++ flat_map spelled_view (drop l.at l.fn.root) ≡ l.fn.out.bytes ++ (little_bytes 4 (length l.fn.root) ++ flat_map spelled_view l.fn.root)
