-- Which two of a list of spans are named where extents meet.
use Rattle.std.specs.Prelude.{ℕ, ◌≡◌, ◌+◌, ⊤, List, Some, slice_get, IsPermutation, IsSortedByKey}
use Rattle.std.specs.List.{AllAdjacentBelow}
use Rattle.std.specs.Ordering.{nat_cmp}
use Rattle.std.specs.List.Sorted.{IsStableByKey}
use Rattle.mk_value.specs.declared.span.Span.{Span}
use Rattle.free_space.specs.declared.error.FreeError.{FreeError}
use Rattle.free_space.specs.declared.error.FreeError.TheVariants.{Overlap, Memory}
use Rattle.free_space.specs.Extents.{Meets}

-- where a span begins
abbrev pub place_of : Span → ℕ
place_of span = span.place

-- the spans by place, and those of one place as they stand in the list
pub record IsByPlace (spans ordered : List Span) : Type 0 where
  pub permutation : IsPermutation spans ordered
  pub sorted : IsSortedByKey place_of nat_cmp ordered
  pub stable : IsStableByKey place_of nat_cmp spans ordered

-- of the first `count` spans of the list no two neighbors meet
abbrev pub AreNeighborsApart : List Span → ℕ → Type 0
AreNeighborsApart spans count = AllAdjacentBelow (λ one next. ¬ Meets one next) spans count

-- these two are neighbors in the list and meet, and no earlier neighbors do
pub record AreFirstNeighborsToMeet (ordered : List Span) (one other : Span) : Type 0 where
  pub at : ℕ
  pub first : slice_get ordered at ≡ Some one
  pub second : slice_get ordered (at + 1) ≡ Some other
  pub meet : Meets one other
  pub none_before : AreNeighborsApart ordered (at + 1)

-- the spans being taken by place, these two are the first neighbors that meet
pub record AreFirstToMeet (spans : List Span) (one other : Span) : Type 0 where
  pub ordered : List Span
  pub by_place : IsByPlace spans ordered
  pub neighbors : AreFirstNeighborsToMeet ordered one other

-- the fact of the two spans that the error names
abbrev pub OnOverlap : FreeError → (Span → Span → Type 0) → Type 0
OnOverlap (Overlap one other) P = P one other
OnOverlap Memory P = ⊤
