-- Counts of the rows of a table by their keys.
use Rattle.std.specs.Prelude.{◌≡◌, ◌<◌, ◌≤◌, ◌-◌, ◌+◌, ℕ, pos, true, false, nat_lt, if◌then◌else◌, List, [], ◌∷◌, ◌++◌, length, map, slice_index, slice_index_or, All, Option, Some, None}
use Rattle.std.specs.Option.{ForSome}
use Rattle.mk_value.specs.Data.{Datum, integer}
use Rattle.mk_value.specs.Heading.{Attribute, Domain}
use Rattle.mk_value.specs.Limits.{max_rows}
use Rattle.relations.specs.declared.criteria.Key.{Key}
use Rattle.relations.specs.Rows.{values_of}
use Rattle.live.specs.Watching.{IsAsked, IsTurn, goes_from, is_sorting, placed, positions, root_turn}
use Rattle.row_edits.specs.declared.event.Event.{Event}
use Rattle.live_counts.specs.Runs.{starts, ties}
use Rattle.live_counts.specs.States.{CountsState}

-- the keys in these columns, upwards
abbrev pub keys_in : List Attribute → List ℕ → List Key
keys_in schema columns = map (λ j. record { prop = (slice_index_or schema j (record { name = []; domain = Domain.integer })).name; down = false }) columns

-- the counts are those of these rows: all positions in the order of the keys, and where the runs of equal keys begin
pub record AreCounts (schema : List Attribute) (rows : List (List Datum)) (counts : CountsState) : Type 0 where
  pub small : length rows ≤ max_rows
  pub asked : IsAsked schema counts.op
  pub kept : counts.kept ≡ positions schema counts.op rows
  pub starts_are : counts.starts ≡ starts (ties schema counts.op rows) counts.kept

-- the counts are those of rows of which an event made these rows
pub record AreDue (schema : List Attribute) (counts : CountsState) (event : Event) (rows : List (List Datum)) : Type 0 where
  pub before : List (List Datum)
  pub now : AreCounts schema before counts
  pub made : IsTurn (root_turn event) before rows

-- counts but for what they have noted, and how much room they have
pub record IsSame (old new : CountsState) : Type 0 where
  pub op : new.op ≡ old.op
  pub kept : new.kept ≡ old.kept
  pub starts_are : new.starts ≡ old.starts

-- where the run at a place ends: where the next begins, or with all
abbrev pub run_end : CountsState → ℕ → ℕ
run_end counts i = if nat_lt (i + 1) (length counts.starts) then slice_index_or counts.starts (i + 1) 0 else length counts.kept

-- how many events can be followed: one is set aside for the one that is noted
abbrev pub set_aside : Option Event → ℕ → ℕ
set_aside None n = n
set_aside (Some e) n = n - 1

abbrev pub spare : CountsState → ℕ
spare counts = set_aside counts.noted counts.room

-- what counts keep at every moment: runs begin in range and in order, each in a row that is kept; and an event that is noted was noted
-- whole, with room for the row that comes
pub record AreKept (counts : CountsState) : Type 0 where
  pub sorting : is_sorting counts.op ≡ true
  pub in_range : All (λ s. s < length counts.kept) counts.starts
  pub in_order : (i j d : ℕ) → i < j → j < length counts.starts → slice_index_or counts.starts i d < slice_index_or counts.starts j d
  pub small : length counts.kept ≤ max_rows
  pub ready : ForSome counts.noted (λ e. (counts.going ≡ placed counts.kept (goes_from (root_turn e))) × (0 < counts.room))

-- a run as a row of the operator: the values of its first row for the names of the keys, and how long it is
abbrev pub counted_row : List Attribute → List (List ℕ) → List (List Datum) → CountsState → ℕ → List Datum
counted_row schema names rows counts i =
    values_of schema names (slice_index_or rows (slice_index counts.kept (slice_index counts.starts i)) [])
    ++ integer (pos (run_end counts i - slice_index counts.starts i)) ∷ []
