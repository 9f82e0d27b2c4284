-- The commit that is in memory.
use Rattle.std.specs.Prelude.{map}
use Rattle.dir_codec.specs.Values.{note_of}
use Rattle.recovery.specs.declared.kept.Kept.{Kept}
use Rattle.recovery.specs.Commits.{Commit}

abbrev pub commit_in : Kept → Commit
commit_in k = record { number = k.number; views = k.views; notes = map note_of k.notes; dir = k.dir; end = k.end }
