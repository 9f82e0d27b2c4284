-- Watches by their numbers.
use Rattle.std.specs.Prelude.{◌<◌, ◌==◌, ◌≡◌, ℕ, Bool, true, false, List, slice_index_or, Option, Some, None}
use Rattle.std.specs.List.{list_any, position_or_len}
use Rattle.live.specs.States.{WatchState}

-- the place of the watch of a number, or the number of watches where there is none
abbrev pub place_of : List WatchState → ℕ → ℕ
place_of watches number = position_or_len (λ w. w.number == number) watches

-- the watch of a number, or a default where there is none
abbrev pub watch_of : List WatchState → ℕ → WatchState → WatchState
watch_of watches number d = slice_index_or watches (place_of watches number) d

-- the source that a number names, or the root
abbrev pub over_of : List WatchState → Option ℕ → Option ℕ
over_of watches None = None
over_of watches (Some number) = Some (place_of watches number)

-- a watch has the number
abbrev pub is_taken : List WatchState → ℕ → Bool
is_taken watches number = list_any (λ w. w.number == number) watches

-- the least number that no watch has
pub record IsLeastFree (watches : List WatchState) (number : ℕ) : Type 0 where
  pub free : is_taken watches number ≡ false
  pub least : (n : ℕ) → n < number → is_taken watches n ≡ true
