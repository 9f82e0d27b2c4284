-- The blocks that a commit writes, and the footprint that they make.
use Rattle.std.specs.Prelude.{◌≡◌, ◌+◌, ◌⊎◌, List, All, Contains}
use Rattle.free_space.specs.Extents.{AreApart}
use Rattle.free_space.specs.FreeSpace.{IsFree, end_of}
use Rattle.commit_writes.specs.Blocks.{Block, BeginWithin, IsBlockWithin, no_block, spans_of}
use Rattle.commit_writes.specs.Footprints.{Footprint, IsFootprint}

-- It is sound to write these blocks after the old commit for the next one: nothing that the old one needs is written over, and
-- then each block of the next one is there.
pub record IsSoundAfter (old : Footprint) (writes : List Block) (next : Footprint) : Type 0 where
  pub sited : All (IsBlockWithin next.mark.end) writes
  pub free : All (λ b. IsFree (spans_of old.blocks) b.span) writes
  pub apart : AreApart (spans_of writes)
  pub begins : BeginWithin old.mark.end writes
  pub number : next.mark.number ≡ old.mark.number + 1
  pub end : next.mark.end ≡ end_of old.mark.end (spans_of writes)
  pub whole : IsFootprint next
  pub made : All (λ b. (b ≡ no_block) ⊎ (Contains old.blocks b ⊎ Contains writes b)) next.blocks
