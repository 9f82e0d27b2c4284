use Rattle.std.specs.Prelude.{◌+◌}
use Rattle.std.specs.Option.{option_map, unwrap_or}
use Rattle.watches.proofs.followed.+depth_of.Given as goal

-- each source stands before its watch
abbrev pub decreases-depth_of : goal.decreases-depth_of
decreases-depth_of l = unwrap_or (option_map (λ k. k + 1) l.source) 0
