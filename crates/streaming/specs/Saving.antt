-- The stream of the store of a file.
use Rattle.std.specs.Prelude.{◌≡◌, ℕ, List}
use Rattle.recovery.specs.Commits.{Commit}
use Rattle.recovery.specs.Standing.{StandsFor}
use Rattle.stream_codec.specs.Stream.{spelled}

-- the file stands for a commit, and this is the stream of its views
pub record IsSavedOf (file stream : List ℕ) : Type 0 where
  pub commit : Commit
  pub stands : StandsFor file commit
  pub spells : stream ≡ spelled commit.views
