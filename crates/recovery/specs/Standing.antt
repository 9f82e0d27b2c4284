-- Where a commit stands: the image of a file from which opening gives it.
use Rattle.std.specs.Prelude.{◌≡◌, ℕ, List, Option}
use Rattle.commit_marks.specs.declared.mark.Mark.{Mark}
use Rattle.commit_marks.specs.Marks.{Chooses}
use Rattle.commit_writes.specs.Footprints.{Holds}
use Rattle.recovery.specs.Commits.{Commit, IsCommit, footprint_of, mark_of}

-- the commit is whole, its mark is this one, and its blocks are in the image
pub record Stands (image : List ℕ) (m : Mark) (c : Commit) : Type 0 where
  pub whole : IsCommit c
  pub mark : m ≡ mark_of c
  pub holds : Holds image (footprint_of c)

-- The image stands for the commit: it chooses its mark, and the commit stands under it.
abbrev pub StandsFor : List ℕ → Commit → Type 0
StandsFor image c = (slot : ℕ) × (m : Mark) × (other : Option Mark) × Chooses image slot m other × Stands image m c
