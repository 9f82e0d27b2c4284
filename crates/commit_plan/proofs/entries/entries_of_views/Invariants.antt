use Rattle.std.proofs.Common.{◌≡◌, map, take}
use Rattle.dir_codec.specs.Values.{view_of}
use Rattle.recovery.specs.Commits.{view_entry}
use Rattle.commit_plan.proofs.entries.entries_of_views.Given as goal

abbrev pub invariant-views : goal.invariant-views
invariant-views l = map view_of l.entries ≡ map view_entry (take l.at l.fn.views)
