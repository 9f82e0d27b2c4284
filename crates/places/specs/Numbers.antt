-- What becomes of kept positions, beside what the words for rows that come or go side by side say.
use Rattle.std.specs.Prelude.{ℕ, ◌+◌, ◌/◌, ◌==◌, min, Bool, not, List, map, filter, slice_index_or}

-- how many chunks that lie aside so many positions take at most, if they come in side by side
abbrev pub chunks_for : ℕ → ℕ
chunks_for count = min count ((count + 2047) / 2048 + 1)

-- what stands for the place of a row that goes: no table has so many rows
abbrev pub no_rank : ℕ
no_rank = 4294967295

abbrev pub has_rank : ℕ → Bool
has_rank k = not (k == no_rank)

-- the positions that have a rank, by their ranks
abbrev pub kept_ranked : List ℕ → List ℕ → List ℕ
kept_ranked ranks ps = filter has_rank (map (λ k. slice_index_or ranks k 0) ps)
