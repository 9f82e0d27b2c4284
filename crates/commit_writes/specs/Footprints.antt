-- The footprint of a commit: what it has in a file, over bytes alone.
use Rattle.std.specs.Prelude.{ℕ, ◌≤◌, ◌⊎◌, List, length, All, Contains, Option, Some}
use Rattle.free_space.specs.Extents.{AreApart}
use Rattle.commit_marks.specs.declared.mark.Mark.{Mark}
use Rattle.commit_marks.specs.Marks.{Chooses, FitsFile, IsMark, dir_span}
use Rattle.commit_writes.specs.Blocks.{Block, IsSited, StandsAt, spans_of}

-- the mark of a commit and all its blocks, that of its directory among them
pub record Footprint : Type 0 where
  pub mark : Mark
  pub blocks : List Block

-- The mark is one that a slot may have and fits its own end; each block has its place below that end, one of them is the
-- directory, and no two extents meet.
pub record IsFootprint (f : Footprint) : Type 0 where
  pub mark : IsMark f.mark
  pub fits : FitsFile f.mark.end f.mark
  pub sited : All (IsSited f.mark.end) f.blocks
  pub apart : AreApart (spans_of f.blocks)
  pub dir : Contains (spans_of f.blocks) (dir_span f.mark)

-- the blocks of the footprint stand in the image
pub record Holds (image : List ℕ) (f : Footprint) : Type 0 where
  pub whole : IsFootprint f
  pub within : f.mark.end ≤ length image
  pub blocks : All (StandsAt image) f.blocks

-- The image stands for the commit: it chooses its mark, and its blocks stand.
abbrev pub StandsFor : List ℕ → Footprint → Type 0
StandsFor image f = (slot : ℕ) × (other : Option Mark) × Chooses image slot f.mark other × Holds image f

-- The commit is the one before that for which the image stands: its mark is that of the other slot, and its blocks stand.
abbrev pub HasBefore : List ℕ → Footprint → Type 0
HasBefore image f = (slot : ℕ) × (chosen : Mark) × Chooses image slot chosen (Some f.mark) × Holds image f

-- While a commit is made, and after one that failed: the image stands for the old commit, or for the next one with the old one
-- before it.
abbrev pub MayStand : Footprint → Footprint → List ℕ → Type 0
MayStand old next image = StandsFor image old ⊎ (StandsFor image next × HasBefore image old)
