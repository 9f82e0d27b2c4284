use Rattle.std.proofs.Common.{◌≡◌, ◌++◌, drop, map}
use Rattle.std.specs.List.{flat_map}
use Rattle.dir_codec.specs.Dir.{spelled_view}
use Rattle.dir_codec.specs.Parts.{spelled_views}
use Rattle.dir_codec.specs.Values.{view_of}
use Rattle.dir_codec.proofs.writing.write_views.Given as goal

-- what is written, with what the views to come are spelled as, is what all are
abbrev pub invariant-loop-view : goal.invariant-loop-view
invariant-loop-view l = l.out.bytes ++ flat_map spelled_view (map view_of (drop l.view-index l.view-items)) ≡ l.fn.out.bytes ++ spelled_views l.view-items
