-- How a list of values is cut into segments: the cuts are the counts of the segments, in order.
use Rattle.std.specs.Prelude.{ℕ, zero, suc, ◌+◌, ◌<◌, ◌≤◌, ◌/◌, ◌%◌, List, [], ◌∷◌, ◌++◌, replicate}

-- c may stand right before these cuts: it and the first of them would not fit into one segment
abbrev pub Precedes : ℕ → List ℕ → Type 0
Precedes c [] = Unit {0}
Precedes c (d ∷ ds) = 2048 < c + d

-- each cut is 1 to 2,048, and two neighbours are above 2,048 together
abbrev pub AreCuts : List ℕ → Type 0
AreCuts [] = Unit {0}
AreCuts (c ∷ cs) = (0 < c) × (c ≤ 2048) × Precedes c cs × AreCuts cs

-- what is left over after whole segments, as a cut of its own where it is not 0
abbrev pub rest_cut : ℕ → List ℕ
rest_cut zero = []
rest_cut (suc n) = suc n ∷ []

-- n values cut into segments of 2,048 and a last one of what is left
abbrev pub full_cuts : ℕ → List ℕ
full_cuts n = replicate (n / 2048) 2048 ++ rest_cut (n % 2048)
