-- An edit of the root, followed in one step: what it does to the watches, and what it may cost.
use Rattle.std.specs.Prelude.{◌≡◌, ◌<◌, ◌≤◌, ◌+◌, ℕ, zero, suc, List, length, map, slice_index_or, sum_by, Option, Some}
use Rattle.std.specs.Option.{ForSome}
use Rattle.mk_value.specs.Data.{Datum}
use Rattle.mk_value.specs.Heading.{Attribute}
use Rattle.mk_value.specs.Limits.{max_rows}
use Rattle.row_edits.specs.declared.edit.RowEdit.{RowEdit}
use Rattle.row_edits.specs.declared.edit.RowEdit.TheVariants.{Insert, Remove, Change}
use Rattle.live.specs.Chains.{AreNow, raised, turn_of}
use Rattle.live.specs.Costs.{after_cost, before_cost}
use Rattle.live.specs.Leaving.{goes_at, kept_left, places_among, went}
use Rattle.places.specs.Numbers.{chunks_for}
use Rattle.row_edits.specs.Runs.{moved_up, spread}
use Rattle.live.specs.States.{WatchState}
use Rattle.live.specs.Watching.{comes_to, positions}
use Rattle.live.specs.declared.op.WatchOp.{WatchOp}
use Rattle.live.specs.declared.turn.Turn.TheVariants.{Comes}

-- the count of events once so many more are followed, each of which raises it
abbrev pub raised_by : ℕ → ℕ → ℕ
raised_by zero followed = followed
raised_by (suc n) followed = raised (raised_by n followed)

-- a watch is what it was but for what it keeps and tells, and has followed so many events more
pub record HasFollowed (n : ℕ) (old new : WatchState) : Type 0 where
  pub number : new.number ≡ old.number
  pub source : new.source ≡ old.source
  pub op : new.op ≡ old.op
  pub followed : new.followed ≡ raised_by n old.followed

pub record HaveFollowed (n : ℕ) (old new : List WatchState) : Type 0 where
  pub long : length new ≡ length old
  pub each : (k : ℕ) (d : WatchState) → k < length old → HasFollowed n (slice_index_or old k d) (slice_index_or new k d)

-- how many chunks a watch takes for an edit at most: some for rows that come, one for a row that changes, and none for rows that go
abbrev pub room_of : RowEdit → ℕ
room_of (Insert at count) = chunks_for count
room_of (Remove at count) = 0
room_of (Change at) = 1

-- a watch has followed so many events more, and took at most so many chunks of those aside
pub record HasTaken (n more : ℕ) (old new : WatchState) : Type 0 where
  pub followed : HasFollowed n old new
  pub room : old.room ≤ new.room + more

pub record HaveTaken (n more : ℕ) (old new : List WatchState) : Type 0 where
  pub long : length new ≡ length old
  pub each : (k : ℕ) (d : WatchState) → k < length old → HasTaken n more (slice_index_or old k d) (slice_index_or new k d)

-- what watches may count over an edit, by the rows before and after it: for rows that come, equal as they are, as much as after one; for
-- rows that go nothing; and for a row that changes as much as before and after that
abbrev pub edit_cost : RowEdit → List (List Datum) → List (List Datum) → List WatchState → List WatchState → ℕ
edit_cost (Insert at zero) before after old new = 0
edit_cost (Insert at (suc more)) before after old new = sum_by (after_cost after new) new
edit_cost (Remove at count) before after old new = 0
edit_cost (Change at) before after old new = sum_by (before_cost before old) old + sum_by (after_cost after new) new

-- from old rows to new ones: copies of a row come in before a place, if one is named
pub record IsSpread (came : Option ℕ) (count : ℕ) (row : List Datum) (old new : List (List Datum)) : Type 0 where
  pub within : ForSome came (λ p. p ≤ length old)
  pub made : new ≡ spread came count row old

-- the kept positions are those of rows of which copies that came made these rows
pub record IsSpreadDue (schema : List Attribute) (op : WatchOp) (kept : List ℕ) (came : Option ℕ) (count : ℕ) (rows : List (List Datum)) : Type 0 where
  pub row : List Datum
  pub before : List (List Datum)
  pub now : kept ≡ positions schema op before
  pub made : IsSpread came count row before rows

-- the kept positions are those of rows of which copies made these rows, by the numbers that they have among them
pub record AreOthersThan (schema : List Attribute) (op : WatchOp) (at count : ℕ) (kept : List ℕ) (rows : List (List Datum)) : Type 0 where
  pub row : List Datum
  pub before : List (List Datum)
  pub within : at ≤ length before
  pub made : rows ≡ spread (Some at) count row before
  pub others : kept ≡ map (moved_up at count) (positions schema op before)

-- where the first of the rows that came stands in a source: as in the root, or as a watch has it
abbrev pub came_to : ℕ → List WatchState → Option ℕ → Option ℕ
came_to at watches over = comes_to (turn_of (Comes at) watches over)

-- the watches stand over rows of which copies that came made these rows
pub record AreSpreadDue (schema : List Attribute) (watches : List WatchState) (at count : ℕ) (rows : List (List Datum)) : Type 0 where
  pub row : List Datum
  pub before : List (List Datum)
  pub now : AreNow schema before watches
  pub made : IsSpread (Some at) count row before rows

-- each watch has so much room
abbrev pub HaveRoomFor : ℕ → List WatchState → Type 0
HaveRoomFor count watches = (k : ℕ) (d : WatchState) → k < length watches → count ≤ (slice_index_or watches k d).room

-- no watch keeps more positions than a table has rows
abbrev pub AreFew : List WatchState → Type 0
AreFew watches = (k : ℕ) (d : WatchState) → k < length watches → length (slice_index_or watches k d).kept ≤ max_rows

-- each watch has left out the rows that went, and gave the others the places that they have now; and has answered by the places at which its
-- rows stood that went
pub record AreLeft (at count : ℕ) (old new : List WatchState) : Type 0 where
  pub taken : HaveTaken count 0 old new
  pub kept : (k : ℕ) (d : WatchState) → k < length old
      → (slice_index_or new k d).kept ≡ kept_left (goes_at at count old (slice_index_or old k d).source) (slice_index_or old k d).kept
  pub answer : (k : ℕ) (d : WatchState) → k < length old → (slice_index_or new k d).answer ≡ went at count (places_among at count old (slice_index_or old k d))
