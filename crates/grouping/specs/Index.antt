-- What an index of rows tells of them.
use Rattle.std.specs.Prelude.{◌≡◌, ℕ, zero, suc, ◌<◌, ◌≤◌, Bool, true, not, if◌then◌else◌, List, [], ◌∷◌, ◌++◌, length, map, filter, slice_index, slice_index_or, All, Contains}
use Rattle.std.specs.declared.cmp.Ordering.{Ordering}
use Rattle.std.specs.declared.cmp.Ordering.TheVariants.{Less}
use Rattle.std.specs.Ordering.{nat_cmp, ordering_then, is_lt}
use Rattle.std.specs.List.{AllPairs}
use Rattle.mk_value.specs.Data.{Datum}
use Rattle.relations.specs.Equality.{same_row}
use Rattle.derived.specs.Operators.{distinct}
use Rattle.relations.specs.Sorting.{sorted}
use Rattle.relations.specs.WholeOrder.{whole_row_cmp}

-- the positions of the rows that are the same as this one, ascending
abbrev pub positions_of : List (List Datum) → List Datum → List ℕ
positions_of [] row = []
positions_of (first ∷ rest) row =
    let behind = map suc (positions_of rest row) in
    if same_row first row then 0 ∷ behind else behind

-- each distinct row, ascending
abbrev pub keys_of : List (List Datum) → List (List Datum)
keys_of rows = sorted whole_row_cmp (distinct rows)

-- the positions of the first of equal rows, ascending
abbrev pub first_positions : List (List Datum) → List ℕ
first_positions [] = []
first_positions (row ∷ rest) =
    0 ∷ map suc (filter (λ i. not (same_row row (slice_index_or rest i []))) (first_positions rest))

-- the order of two positions by their rows, and then by themselves
abbrev pub entry_cmp : List (List Datum) → ℕ → ℕ → Ordering
entry_cmp rows i j = ordering_then (whole_row_cmp (slice_index_or rows i []) (slice_index_or rows j [])) (nat_cmp i j)

-- the positions of all rows, each once, in order
pub record IsOrderOf (rows : List (List Datum)) (order : List ℕ) : Type 0 where
  pub in_range : All (λ i. i < length rows) order
  pub complete : (i : ℕ) → i < length rows → Contains order i
  pub ascending : AllPairs (λ i j. entry_cmp rows i j ≡ Less) order

-- a group begins at this place of the order: the row before it is another
abbrev pub is_start : List (List Datum) → List ℕ → ℕ → Bool
is_start rows order zero = true
is_start rows order (suc k) =
    not (same_row (slice_index_or rows (slice_index order k) []) (slice_index_or rows (slice_index order (suc k)) []))

-- the places below n at which a group begins
abbrev pub starts_below : List (List Datum) → List ℕ → ℕ → List ℕ
starts_below rows order zero = []
starts_below rows order (suc n) = starts_below rows order n ++ (if is_start rows order n then n ∷ [] else [])

-- what an index keeps: the positions in order, and the places at which groups begin
pub record IsIndexOf (rows : List (List Datum)) (order starts : List ℕ) : Type 0 where
  pub ordered : IsOrderOf rows order
  pub begins : starts ≡ starts_below rows order (length order)

-- the number of distinct rows that are less than this one
abbrev pub keys_less : List (List Datum) → List Datum → ℕ
keys_less rows row = length (filter (λ key. is_lt (whole_row_cmp key row)) (keys_of rows))

-- positions of keys, among whose keys each of the first n is
pub record Cover (keys : List (List Datum)) (n : ℕ) (positions : List ℕ) : Type 0 where
  pub few : length positions ≤ n
  pub within : All (λ i. i < length keys) positions
  pub each : (i : ℕ) → i < n → (k : ℕ) × Contains positions k × (slice_index_or keys k [] ≡ slice_index_or keys i [])

-- the numbers below n
abbrev pub numbers : ℕ → List ℕ
numbers zero = []
numbers (suc n) = 0 ∷ map suc (numbers n)
