-- The chunks of a list of tables, each seen as the list of its tables.
use Rattle.std.specs.Prelude.{◌≡◌, ℕ, ◌<◌, ◌≤◌, List}
use Rattle.std.specs.List.{All}
use Rattle.segments.specs.Joined.{counts_of}
use Rattle.tables.specs.Tables.{StoredTable}

-- no chunk is empty or too long, and these are the counts of the chunks
pub record IsSpine (chunks : List (List StoredTable)) (counts : List ℕ) : Type 0 where
  pub counted : counts ≡ counts_of chunks
  pub some : All (λ n. 0 < n) (counts_of chunks)
  pub each : All (λ n. n ≤ 1024) (counts_of chunks)
