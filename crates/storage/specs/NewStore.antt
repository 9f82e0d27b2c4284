-- The file of a store without views.
use Rattle.std.specs.Prelude.{ℕ, List, [], ◌∷◌, ◌++◌, replicate}
use Rattle.commit_marks.specs.Marks.{body_bytes, header, open_byte}
use Rattle.dir_codec.specs.Dir.{spelled}
use Rattle.recovery.specs.Commits.{Commit, directory, mark_of}

-- commit 0: it has no views, and its directory stands where the first block may
abbrev pub new_commit : Commit
new_commit = record { number = 0; views = []; notes = []; dir = record { place = 192; len = 4 }; end = 208 }

-- the header, the open slot of its mark, a closed slot, and its directory with the rounding
abbrev pub new_file : List ℕ
new_file = header ++ ((open_byte ∷ body_bytes (mark_of new_commit)) ++ (replicate 64 0 ++ (spelled (directory [] []) ++ replicate 12 0)))
