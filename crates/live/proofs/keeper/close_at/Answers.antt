use Rattle.std.proofs.Common.{◌≢◌, ◌∙◌}
use Rattle.live.proofs.Numbering.{down_large, down_one, map_alike}
use Rattle.live.specs.Placing.{closed}
use Rattle.row_edits.specs.Runs.{moved_down}
use Rattle.live.proofs.keeper.close_at.Goals as goal

pub lower-requires : goal.lower-requires
lower-requires c i d q le = down_large c.args.p _ (c.requires.apart i d q) le

pub returns-clause-list : goal.returns-clause-list
returns-clause-list c = c.lower.ensures.list ∙ map_alike (moved_down c.args.p 1) (closed c.args.p) (λ k. k ≢ c.args.p) (λ k ne. down_one c.args.p k ne) c.args.kept.now.list c.requires.apart
