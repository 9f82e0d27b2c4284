-- Watches over watches: what is seen through them, and that they keep the positions of their rows.
use Rattle.std.specs.Prelude.{◌≡◌, ◌<◌, ◌≤◌, ◌+◌, ◌++◌, ℕ, suc, ◌-◌, ◌^◌, min, List, [], ◌∷◌, length, map, slice_index_or, All, Option, Some, None}
use Rattle.mk_value.specs.Heading.{Attribute}
use Rattle.mk_value.specs.Data.{Datum}
use Rattle.mk_value.specs.Limits.{max_rows}
use Rattle.relations.specs.Rows.{rows_at}
use Rattle.live.specs.States.{WatchState}
use Rattle.live.specs.Turns.{answer_of}
use Rattle.live.specs.Watching.{IsAsked, IsTurn, own, placed, positions}
use Rattle.live.specs.declared.turn.Turn.{Turn}
use Rattle.live.specs.declared.turn.Turn.TheVariants.{Still}

-- what each watch has, by what those before it have
abbrev pub along : {X : Type 0} → (List X → WatchState → X) → List X → List WatchState → List X
along each done [] = []
along each done (w ∷ watches) = each done w ∷ along each (done ++ each done w ∷ []) watches

-- the rows of a source: those of the root, or those of a watch
abbrev pub source_rows : List (List Datum) → List (List (List Datum)) → Option ℕ → List (List Datum)
source_rows rows done None = rows
source_rows rows done (Some s) = slice_index_or done s []

-- the rows of a watch: those of its source at the positions that it keeps
abbrev pub watch_rows : List (List Datum) → List (List (List Datum)) → WatchState → List (List Datum)
watch_rows rows done w = rows_at (source_rows rows done w.source) w.kept

-- what is seen: the rows of the root, or those of a watch
abbrev pub seen : List (List Datum) → List WatchState → Option ℕ → List (List Datum)
seen rows watches over = source_rows rows (along (watch_rows rows) [] watches) over

-- where a row of a source stands in the root
abbrev pub source_place : List (List ℕ) → Option ℕ → ℕ → ℕ
source_place done None i = i
source_place done (Some s) i = slice_index_or (slice_index_or done s []) i 0

abbrev pub watch_places : List (List ℕ) → WatchState → List ℕ
watch_places done w = map (source_place done w.source) w.kept

-- where a row of the root, or of a watch, stands in the root
abbrev pub place_in_root : List WatchState → Option ℕ → ℕ → ℕ
place_in_root watches over i = source_place (along watch_places [] watches) over i

-- how many watches a source is over the root, itself among them
abbrev pub source_depth : List ℕ → Option ℕ → ℕ
source_depth done None = 0
source_depth done (Some s) = slice_index_or done s 0

abbrev pub depth : List WatchState → Option ℕ → ℕ
depth watches over = source_depth (along (λ done w. suc (source_depth done w.source)) [] watches) over

-- each watch stands over the root, or over one before it
abbrev pub AreInOrder : List WatchState → Type 0
AreInOrder watches = (k s : ℕ) (d : WatchState) → k < length watches → (slice_index_or watches k d).source ≡ Some s → s < k

-- the watches keep positions of rows of their sources
pub record AreLinked (rows : List (List Datum)) (watches : List WatchState) : Type 0 where
  pub small : length rows ≤ max_rows
  pub sources : AreInOrder watches
  pub within : (k : ℕ) (d : WatchState) → k < length watches
      → All (λ i. i < length (seen rows watches (slice_index_or watches k d).source)) (slice_index_or watches k d).kept
  pub few : (k : ℕ) (d : WatchState) → k < length watches → length (slice_index_or watches k d).kept ≤ max_rows

-- the same, as far as it can be said without the rows of the root
pub record AreInside (watches : List WatchState) : Type 0 where
  pub sources : AreInOrder watches
  pub within : (k s : ℕ) (d e : WatchState) → k < length watches → (slice_index_or watches k d).source ≡ Some s
      → All (λ i. i < length (slice_index_or watches s e).kept) (slice_index_or watches k d).kept

-- each watch keeps the positions of its rows in those of its source, and may be asked of rows of the schema
pub record AreNow (schema : List Attribute) (rows : List (List Datum)) (watches : List WatchState) : Type 0 where
  pub small : length rows ≤ max_rows
  pub sources : AreInOrder watches
  pub asked : (k : ℕ) (d : WatchState) → k < length watches → IsAsked schema (slice_index_or watches k d).op
  pub now : (k : ℕ) (d : WatchState) → k < length watches
      → (slice_index_or watches k d).kept ≡ positions schema (slice_index_or watches k d).op (seen rows watches (slice_index_or watches k d).source)

-- the rows of a watch stand in the root at these places
pub record LeadTo (rows : List (List Datum)) (watches : List WatchState) (over : ℕ) (places : List ℕ) : Type 0 where
  pub within : All (λ i. i < length rows) places
  pub few : length places ≤ max_rows
  pub lead : rows_at rows places ≡ seen rows watches (Some over)

-- what an event of the root does to a source
abbrev pub turn_of : Turn → List WatchState → Option ℕ → Turn
turn_of root watches None = root
turn_of root watches (Some s) = slice_index_or (map (λ w. w.turn) watches) s Still

-- where the row that goes stood in a source: as the event of the root has it, or as a watch has noted it
abbrev pub going_of : Option ℕ → List WatchState → Option ℕ → Option ℕ
going_of goes watches None = goes
going_of goes watches (Some s) = slice_index_or (map (λ w. w.going) watches) s None

-- each watch has noted where the row that goes stands in it
abbrev pub AreNoted : Option ℕ → List WatchState → Type 0
AreNoted goes watches =
    (k : ℕ) (d : WatchState) → k < length watches
    → (slice_index_or watches k d).going ≡ placed (slice_index_or watches k d).kept (going_of goes watches (slice_index_or watches k d).source)

-- each watch has a chunk aside
abbrev pub HaveRoom : List WatchState → Type 0
HaveRoom watches = (k : ℕ) (d : WatchState) → k < length watches → 0 < (slice_index_or watches k d).room

-- the watches stand over rows of which an event made these rows
pub record AreDue (schema : List Attribute) (watches : List WatchState) (root : Turn) (rows : List (List Datum)) : Type 0 where
  pub before : List (List Datum)
  pub now : AreNow schema before watches
  pub made : IsTurn root before rows

-- the count of events once one more is followed: it stands still at its type's end
abbrev pub raised : ℕ → ℕ
raised n = min (n + 1) (2 ^ 64 - 1)

-- a watch is what it was but for what it keeps and tells: it took at most one chunk of those aside, and followed one event more, and its answer is its
-- turn
pub record IsRaised (old new : WatchState) : Type 0 where
  pub number : new.number ≡ old.number
  pub source : new.source ≡ old.source
  pub op : new.op ≡ old.op
  pub room : old.room ≤ new.room + 1
  pub followed : new.followed ≡ raised old.followed
  pub answer : new.answer ≡ answer_of 1 new.turn

-- each watch has followed the event, and tells its own turn: what the turn of its source did to it
pub record AreTold (root : Turn) (old new : List WatchState) : Type 0 where
  pub long : length new ≡ length old
  pub each : (k : ℕ) (d : WatchState) → k < length old → IsRaised (slice_index_or old k d) (slice_index_or new k d)
  pub told : (k : ℕ) (d : WatchState) → k < length old
      → (slice_index_or new k d).turn ≡ own (slice_index_or old k d).op (slice_index_or old k d).kept (slice_index_or new k d).kept (turn_of root new (slice_index_or old k d).source)

-- a watch but for what it has noted, and how much room it has
pub record IsSame (old new : WatchState) : Type 0 where
  pub number : new.number ≡ old.number
  pub source : new.source ≡ old.source
  pub op : new.op ≡ old.op
  pub kept : new.kept ≡ old.kept
  pub turn : new.turn ≡ old.turn
  pub answer : new.answer ≡ old.answer
  pub followed : new.followed ≡ old.followed

pub record AreSame (old new : List WatchState) : Type 0 where
  pub long : length new ≡ length old
  pub each : (k : ℕ) (d : WatchState) → k < length old → IsSame (slice_index_or old k d) (slice_index_or new k d)
