-- The tables of a view column as they are put together.
use Rattle.std.specs.Prelude.{ℕ, ◌<◌, ◌≤◌, List, length, All}
use Rattle.segments.specs.Joined.{counts_of}
use Rattle.tables.specs.Tables.{StoredTable}

-- no chunk that is done is empty or too long, and neither is the one that comes too long
pub record IsBuilding (chunks : List (List StoredTable)) (last : List StoredTable) : Type 0 where
  pub some : All (λ n. 0 < n) (counts_of chunks)
  pub each : All (λ n. n ≤ 1024) (counts_of chunks)
  pub few : length last ≤ 1024
