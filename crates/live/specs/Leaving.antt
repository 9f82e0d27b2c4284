-- Rows of which some go, wherever they stand, and the positions of those that stay.
use Rattle.std.specs.Prelude.{◌≡◌, ◌<◌, ◌+◌, ◌-◌, ◌==◌, ℕ, Bool, not, if◌then◌else◌, List, length, map, filter, slice_index_or, Option}
use Rattle.mk_value.specs.Data.{Datum}
use Rattle.relations.specs.Positions.{numbers, passing}
use Rattle.relations.specs.Rows.{rows_at}
pub use Rattle.places.specs.Numbers.{has_rank, no_rank}
use Rattle.live.specs.Chains.{place_in_root}
use Rattle.row_edits.specs.Runs.{is_outside}
use Rattle.live.specs.States.{WatchState}
use Rattle.live.specs.declared.answer.Answer.{Answer}
use Rattle.live.specs.declared.answer.Answer.TheVariants.{Nothing, Remove, RemoveAmong}

-- the places that stay, of so many
abbrev pub staying : (ℕ → Bool) → ℕ → List ℕ
staying gone n = filter (λ i. not (gone i)) (numbers n)

-- the rows that stay
abbrev pub rows_left : (ℕ → Bool) → List (List Datum) → List (List Datum)
rows_left gone rows = rows_at rows (staying gone (length rows))

-- the place of a row then: as many stay before it
abbrev pub place_left : (ℕ → Bool) → ℕ → ℕ
place_left gone i = length (staying gone i)

-- the positions that are left, by their new numbers
abbrev pub kept_left : (ℕ → Bool) → List ℕ → List ℕ
kept_left gone kept = map (place_left gone) (filter (λ i. not (gone i)) kept)

-- a place is one of so many from one on
abbrev pub is_inside : ℕ → ℕ → ℕ → Bool
is_inside at count k = not (is_outside at count k)

-- a row of a source goes where it stands in the root among so many from a place on
abbrev pub goes_at : ℕ → ℕ → List WatchState → Option ℕ → ℕ → Bool
goes_at at count watches over i = is_inside at count (place_in_root watches over i)

-- the places in a watch of its rows that stand in the root among so many from a place on
abbrev pub places_among : ℕ → ℕ → List WatchState → WatchState → List ℕ
places_among at count watches w = passing (goes_at at count watches w.source) 0 w.kept

-- the answer where the rows at these places went, which ascend: they stood one behind the other where the last is as far from the first as
-- they are many
abbrev pub went : ℕ → ℕ → List ℕ → Answer
went at count places =
    if length places == 0 then Nothing
    else (if slice_index_or places (length places - 1) 0 + 1 == slice_index_or places 0 0 + length places then Remove (slice_index_or places 0 0) (length places) else RemoveAmong at count)

-- such places, as far as they are known: how many they are, and where the first and the last of them stand
pub record AreGone (places : List ℕ) (first end count : ℕ) : Type 0 where
  pub counted : count ≡ length places
  pub first_is : first ≡ slice_index_or places 0 0
  pub end_is : 0 < length places → end ≡ slice_index_or places (length places - 1) 0 + 1

-- the place that a row has then, or that it goes
abbrev pub rank_of : (ℕ → Bool) → ℕ → ℕ
rank_of gone i = if gone i then no_rank else place_left gone i
