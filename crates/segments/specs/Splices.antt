-- A splice of a list, and the segments that it replaces.
use Rattle.std.specs.Prelude.{◌≡◌, ℕ, suc, ◌+◌, ◌-◌, ◌%◌, ◌<◌, ◌≤◌, ◌⊎◌, List, [], ◌∷◌, ◌++◌, length, take, drop, replicate, sum, slice_index}
use Rattle.segments.specs.declared.splice.Splice.{Splice}
use Rattle.segments.specs.declared.splice.Replaced.{Replaced}
use Rattle.segments.specs.Segments.{start_of}

-- the splice is within a list of `len` items, and leaves few enough
pub record Applies (len : ℕ) (e : Splice) : Type 0 where
  pub order : e.at ≤ e.end
  pub within : e.end ≤ len
  pub few : e.at + e.count + (len - e.end) ≤ 16777216

-- these segments hold all items that the splice replaces
pub record Covers (counts : List ℕ) (e : Splice) (t : Replaced) : Type 0 where
  pub order : t.first ≤ t.after
  pub in_range : t.after ≤ length counts
  pub start : t.start ≡ start_of counts t.first
  pub stop : t.stop ≡ start_of counts t.after
  pub before : t.start ≤ e.at
  pub behind : e.end ≤ t.stop

-- segment k holds item `at`
pub record HoldsItem (counts : List ℕ) (k at : ℕ) : Type 0 where
  pub in_range : k < length counts
  pub from : start_of counts k ≤ at
  pub below : at < start_of counts (k + 1)

-- The segments that a splice needs and no others: from the one that holds item `at` on, or from the end of the list on where there is no
-- such item, and up to the one that holds the last item before `end`, where that does not stand before the first of them.
pub record IsNeeded (counts : List ℕ) (e : Splice) (t : Replaced) : Type 0 where
  pub covers : Covers counts e t
  pub begins : e.at < sum counts → HoldsItem counts t.first e.at
  pub begins_at_end : e.at ≡ sum counts → t.first ≡ length counts
  pub ends : t.start < e.end → (k : ℕ) × (t.after ≡ k + 1) × HoldsItem counts k (e.end - 1)
  pub ends_at_once : e.end ≡ t.start → t.after ≡ t.first

-- how many items stand in place of those of the replaced segments
abbrev pub size_after : Splice → Replaced → ℕ
size_after e t = (e.at - t.start) + e.count + (t.stop - e.end)

-- n items and those of the segment before, if there is one, are too many for one segment
abbrev pub AreApartBefore : ℕ → List ℕ → ℕ → ℕ → Type 0
AreApartBefore most counts first n = (k : ℕ) → first ≡ suc k → most < slice_index counts k + n

-- d items fit into the last of the segments that n items are cut into, all full but the last
abbrev pub FitsBehind : ℕ → ℕ → ℕ → Type 0
FitsBehind most n d = (n ≡ 0) ⊎ ((0 < n % most) × (n % most + d ≤ most))

-- they do not
abbrev pub IsApartBehind : ℕ → ℕ → ℕ → Type 0
IsApartBehind most n d = (0 < n) × ((n % most ≡ 0) ⊎ (most < n % most + d))

-- the first of these segments, if there is one, does not fit into the last of those that n items are cut into
abbrev pub AreApartBehind : ℕ → ℕ → List ℕ → Type 0
AreApartBehind most n [] = Unit {0}
AreApartBehind most n (d ∷ ds) = IsApartBehind most n d

-- u is t with the segment before where that fits into one segment with the items after the splice, and else it is t
abbrev pub WithBefore : ℕ → List ℕ → Splice → Replaced → Replaced → Type 0
WithBefore most counts e t u =
    ((u ≡ t) × AreApartBefore most counts t.first (size_after e t)) ⊎ ((t.first ≡ u.first + 1) × (u.after ≡ t.after) × (size_after e u ≤ most))

-- u is t with the segment behind where that fits into the last segment after the splice, and else it is t
abbrev pub WithBehind : ℕ → List ℕ → Splice → Replaced → Replaced → Type 0
WithBehind most counts e t u =
    ((u ≡ t) × AreApartBehind most (size_after e t) (drop t.after counts)) ⊎ ((u.first ≡ t.first) × (u.after ≡ t.after + 1) × FitsBehind most (size_after e t) (slice_index counts t.after))

-- t has the segments that a splice needs, with the one before where that fits, and then with the segment behind where that fits
pub record TakesNeighbors (most : ℕ) (counts : List ℕ) (e : Splice) (t : Replaced) : Type 0 where
  pub needed : Replaced
  pub wider : Replaced
  pub exact : IsNeeded counts e needed
  pub before : WithBefore most counts e needed wider
  pub wider_covers : Covers counts e wider
  pub behind : WithBehind most counts e wider t

-- the list with n copies of v in place of the items from `at` up to `end`
abbrev pub spliced : {X : Type 0} → List X → ℕ → ℕ → ℕ → X → List X
spliced items at end n v = take at items ++ (replicate n v ++ drop end items)

-- the items that stand in place of those of the replaced segments, where the splice puts in copies of v
abbrev pub items_after : {X : Type 0} → List X → Splice → Replaced → X → List X
items_after items e t v =
    take (e.at - t.start) (drop t.start items) ++ (replicate e.count v ++ take (t.stop - e.end) (drop e.end items))
