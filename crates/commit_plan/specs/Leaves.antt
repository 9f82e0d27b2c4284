-- Leaf columns that are lent: what is due of them, and the blocks of their homes.
use Rattle.std.specs.Prelude.{◌≡◌, ℕ, List, [], ◌++◌}
use Rattle.std.specs.List.{flat_map}
use Rattle.mk_value.specs.declared.span.Span.{Span}
use Rattle.tables.specs.Homes.{PlainColumn}
use Rattle.tables.specs.Columns.{home_of, integers, texts}
use Rattle.tables.specs.Rests.{blocks, blocks_of}
use Rattle.commit_plan.specs.declared.leaves.Leaf.{Leaf}
use Rattle.commit_plan.specs.declared.leaves.Leaf.TheVariants.{Ints, Blobs, Placed}
use Rattle.commit_plan.specs.Following.{blocks_due}
use Rattle.commit_plan.specs.Settling.{column_due}

-- the blocks that a leaf is due
abbrev pub due_in : Leaf → List (List ℕ)
due_in (Ints c) = column_due (integers c.now)
due_in (Blobs c) = column_due (texts c.now)
due_in (Placed spans) = []

-- the blocks of its home, or of its homes
abbrev pub homes_in : Leaf → List Span
homes_in (Ints c) = blocks_of (home_of (integers c.now))
homes_in (Blobs c) = blocks_of (home_of (texts c.now))
homes_in (Placed spans) = spans.now

-- leaves are those of these plain columns: the same blocks are due of them, and their homes have the same blocks
pub record AreLeaves (columns : List PlainColumn) (leaves : List Leaf) : Type 0 where
  pub due : flat_map due_in leaves ≡ blocks_due columns
  pub homes : flat_map homes_in leaves ≡ blocks columns

-- leaves, after those of these columns were added behind them
pub record Gains (columns : List PlainColumn) (old new : List Leaf) : Type 0 where
  pub more : List Leaf
  pub added : new ≡ old ++ more
  pub are : AreLeaves columns more
