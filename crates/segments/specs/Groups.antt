-- The groups of a list of parts, each seen as the list of its parts.
use Rattle.std.specs.Prelude.{◌-◌, ◌<◌, List, [], length, slice_index_or}

-- there is a last group, and it has room
pub record HasLastRoom {X : Type 0} (groups : List (List X)) : Type 0 where
  pub some : 0 < length groups
  pub room : length (slice_index_or groups (length groups - 1) []) < 64
