-- How a list is cut into segments: the counts of the segments, in order, and where each ends.
use Rattle.std.specs.Prelude.{◌≡◌, ℕ, ◌+◌, ◌-◌, ◌<◌, ◌≤◌, List, [], ◌∷◌, length, take, sum, slice_index}
use Rattle.std.specs.List.{All}
use Rattle.segments.specs.declared.segments.Place.{Place}

-- where each segment ends, if the first begins at n
abbrev pub ends_from : ℕ → List ℕ → List ℕ
ends_from n [] = []
ends_from n (c ∷ cs) = (n + c) ∷ ends_from (n + c) cs

-- the counts of the segments that end here, if the first begins at n
abbrev pub counts_from : ℕ → List ℕ → List ℕ
counts_from n [] = []
counts_from n (e ∷ es) = (e - n) ∷ counts_from e es

-- these are the ends of segments of at most `most` items
pub record AreEnds (most : ℕ) (ends : List ℕ) : Type 0 where
  pub some : 0 < most
  pub each : All (λ n. n ≤ most) (counts_from 0 ends)
  pub few : sum (counts_from 0 ends) ≤ 16777216
  pub placed : ends ≡ ends_from 0 (counts_from 0 ends)

-- the place where segment k begins
abbrev pub start_of : List ℕ → ℕ → ℕ
start_of counts k = sum (take k counts)

-- item `at` of all is the one at this place
pub record IsPlace (counts : List ℕ) (at : ℕ) (p : Place) : Type 0 where
  pub segment : p.segment < length counts
  pub within : p.offset < slice_index counts p.segment
  pub sum : start_of counts p.segment + p.offset ≡ at
