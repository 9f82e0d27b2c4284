-- Events: a row comes, goes or changes.
use Rattle.std.specs.Prelude.{◌≡◌, ◌<◌, ◌≤◌, ℕ, List, [], length, take, insert, remove, slice_set, slice_index_or, Option, Some, None, IsSome}
use Rattle.mk_value.specs.Data.{Datum}
use Rattle.mapped.specs.declared.event.Event.{Event}
use Rattle.mapped.specs.declared.event.Event.TheVariants.{Insert, Remove, Change}

-- the position of the event is one of a list so long
abbrev pub IsInRange : Event → ℕ → Type 0
IsInRange (Insert at) size = at ≤ size
IsInRange (Remove at) size = at < size
IsInRange (Change at) size = at < size

-- a key is given where a row comes or changes
abbrev pub HasKey : Event → Option (List Datum) → Type 0
HasKey (Insert at) key = IsSome key
HasKey (Remove at) key = Unit {0}
HasKey (Change at) key = IsSome key

-- the keys after an event, where that of the row that comes or changes is given
abbrev pub keys_after : Event → Option (List Datum) → List (List Datum) → List (List Datum)
keys_after (Insert at) (Some key) keys = insert keys at key
keys_after (Insert at) None keys = keys
keys_after (Remove at) key keys = remove keys at
keys_after (Change at) (Some key) keys = slice_set keys at key
keys_after (Change at) None keys = keys

-- the event leads from the ones rows to the others
abbrev pub LeadsTo : Event → List (List Datum) → List (List Datum) → Type 0
LeadsTo (Insert at) old new = (at ≤ length old) × ((row : List Datum) × (new ≡ insert old at row))
LeadsTo (Remove at) old new = (at < length old) × (new ≡ remove old at)
LeadsTo (Change at) old new = (at < length old) × ((row : List Datum) × (new ≡ slice_set old at row))

-- the key is that of the row that came or changed
abbrev pub IsKeyOfEvent : Event → ℕ → List (List Datum) → Option (List Datum) → Type 0
IsKeyOfEvent (Insert at) count rows key = key ≡ Some (take count (slice_index_or rows at []))
IsKeyOfEvent (Remove at) count rows key = Unit {0}
IsKeyOfEvent (Change at) count rows key = key ≡ Some (take count (slice_index_or rows at []))
