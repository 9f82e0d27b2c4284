-- The order in which an index keeps positions, which no public clause names.
use Rattle.std.specs.Prelude.{◌≡◌, ◌≢◌, ◌<◌, ◌+◌, ℕ, min, List, [], length, slice_index_or, All, Contains, Option, Some, None}
use Rattle.std.specs.declared.cmp.Ordering.{Ordering}
use Rattle.std.specs.declared.cmp.Ordering.TheVariants.{Less}
use Rattle.std.specs.Ordering.{on}
use Rattle.std.specs.List.{AllPairs}
use Rattle.mk_value.specs.Data.{Datum}
use Rattle.relations.specs.Positions.{place_cmp}
use Rattle.relations.specs.WholeOrder.{whole_row_cmp}
use Rattle.row_edits.specs.Runs.{moved_down, moved_up}
use Rattle.mapped.specs.Index.{AreKeys}

-- the order of two positions: that of the keys that stand there
abbrev pub key_at_cmp : List (List Datum) → ℕ → ℕ → Ordering
key_at_cmp keys = on (λ i. slice_index_or keys i []) whole_row_cmp

-- the positions of these keys, each less than those behind it
pub record AreOrdered (keys : List (List Datum)) (order : List ℕ) : Type 0 where
  pub within : All (λ i. i < length keys) order
  pub ascends : AllPairs (λ i j. key_at_cmp keys i j ≡ Less) order

-- the positions of all keys in their order
pub record IsOrderOf (keys : List (List Datum)) (order : List ℕ) : Type 0 where
  pub ordered : AreOrdered keys order
  pub complete : (i : ℕ) → i < length keys → Contains order i

-- the positions of all keys but one in their order
pub record IsOrderWithout (at : ℕ) (keys : List (List Datum)) (order : List ℕ) : Type 0 where
  pub ordered : AreOrdered keys order
  pub apart : All (λ i. i ≢ at) order
  pub complete : (i : ℕ) → i < length keys → i ≢ at → Contains order i

-- what an index keeps: distinct keys, and their positions in order
pub record IsIndexOf (keys : List (List Datum)) (order : List ℕ) : Type 0 where
  pub whole : AreKeys keys
  pub ordered : IsOrderOf keys order

-- the positions of keys in their order, those of equal keys ascending
pub record IsSortOf (keys : List (List Datum)) (order : List ℕ) : Type 0 where
  pub within : All (λ i. i < length keys) order
  pub complete : (i : ℕ) → i < length keys → Contains order i
  pub ascends : AllPairs (λ i j. place_cmp whole_row_cmp [] keys i j ≡ Less) order

-- where a position moves when another goes, and when one comes
abbrev pub closed : ℕ → ℕ → ℕ
closed at = moved_down (at + 1) 1

abbrev pub opened : ℕ → ℕ → ℕ
opened at = moved_up at 1

-- the lesser of two positions, the one of which may be missing
abbrev pub least : Option ℕ → ℕ → ℕ
least None at = at
least (Some first) at = min first at
