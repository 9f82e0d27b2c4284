-- Events and edits of the root, one after another, and what its watches keep, tell and count over them. What is due is said by the rows alone.
use Rattle.std.specs.Prelude.{◌≡◌, ◌<◌, ◌≤◌, ◌+◌, ℕ, zero, suc, if◌then◌else◌, List, [], ◌∷◌, ◌++◌, length, map, slice_index_or, Option, Some, None}
use Rattle.std.specs.List.{sum_by}
use Rattle.mk_value.specs.Data.{Datum}
use Rattle.mk_value.specs.Heading.{Attribute}
use Rattle.live.specs.Chains.{AreNow, AreSame, AreTold, along, source_rows}
use Rattle.live.specs.Costs.{after_cost, before_cost, digits}
use Rattle.live.specs.Edits.{HaveFollowed, edit_cost, raised_by}
use Rattle.live.specs.Laws.{shown}
use Rattle.live.specs.States.{WatchState}
use Rattle.live.specs.Telling.{events_of, told_as, told_by}
use Rattle.live.specs.Watching.{IsTurn, is_sorting, own, positions, root_turn}
use Rattle.row_edits.specs.Edits.{edited}
use Rattle.row_edits.specs.Events.{count_of}
use Rattle.row_edits.specs.declared.edit.RowEdit.{RowEdit}
use Rattle.row_edits.specs.declared.edit.RowEdit.TheVariants.{Insert, Remove, Change}
use Rattle.row_edits.specs.declared.event.Event.{Event}
use Rattle.live.specs.declared.out.Told.{Told}
use Rattle.live.specs.declared.turn.Turn.{Turn}
use Rattle.live.specs.declared.turn.Turn.TheVariants.{Still}

-- An event that was noted and followed: the rows of the root after it, the watches after it, what they told of it, and how many tests and
-- comparisons were made for it.
pub record Heard : Type 0 where
  pub event : Event
  pub rows : List (List Datum)
  pub watches : List WatchState
  pub told : List Told
  pub steps : ℕ

-- The watches over these rows noted the event and then followed it: what the contracts of `before` and `after` say of the two calls.
pub record IsHeard (schema : List Attribute) (rows : List (List Datum)) (old : List WatchState) (h : Heard) : Type 0 where
  pub made : IsTurn (root_turn h.event) rows h.rows
  pub noted : List WatchState
  pub same : AreSame old noted
  pub now : AreNow schema h.rows h.watches
  pub follows : AreTold (root_turn h.event) noted h.watches
  pub tells : h.told ≡ told_by h.watches
  pub cost : h.steps ≤ sum_by (before_cost rows old) old + sum_by (after_cost h.rows h.watches) h.watches

-- the events were heard one after another
abbrev pub AreHeard : List Attribute → List (List Datum) → List WatchState → List Heard → Type 0
AreHeard schema rows old [] = Unit {0}
AreHeard schema rows old (h ∷ later) = IsHeard schema rows old h × AreHeard schema h.rows h.watches later

-- the rows and the watches after the last event
abbrev pub last_rows : List (List Datum) → List Heard → List (List Datum)
last_rows rows [] = rows
last_rows rows (h ∷ later) = last_rows h.rows later

abbrev pub last_watches : List WatchState → List Heard → List WatchState
last_watches watches [] = watches
last_watches watches (h ∷ later) = last_watches h.watches later

-- the rows that a watch shows now, by what the watches before it show; and those of a source
abbrev pub now_rows : List Attribute → List (List Datum) → List (List (List Datum)) → WatchState → List (List Datum)
now_rows schema rows done w = shown schema w.op (source_rows rows done w.source)

abbrev pub now_seen : List Attribute → List (List Datum) → List WatchState → Option ℕ → List (List Datum)
now_seen schema rows watches over = source_rows rows (along (now_rows schema rows) [] watches) over

-- the positions that a watch is to keep
abbrev pub now_kept : List Attribute → List (List Datum) → List WatchState → WatchState → List ℕ
now_kept schema rows watches w = positions schema w.op (now_seen schema rows watches w.source)

-- what an event of the root does to a source, by what it does to the watches before
abbrev pub source_turn : Turn → List Turn → Option ℕ → Turn
source_turn root done None = root
source_turn root done (Some s) = slice_index_or done s Still

-- what it does to a watch, by the rows before and after it; and to all
abbrev pub now_turn : List Attribute → List (List Datum) → List (List Datum) → List WatchState → Turn → List Turn → WatchState → Turn
now_turn schema before after watches root done w =
    own w.op (now_kept schema before watches w) (now_kept schema after watches w) (source_turn root done w.source)

abbrev pub now_turns : List Attribute → List (List Datum) → List (List Datum) → List WatchState → Turn → List Turn
now_turns schema before after watches root = along (now_turn schema before after watches root) [] watches

-- the own events of the watches, where these are their turns
abbrev pub told_in : List WatchState → List Turn → List Told
told_in (w ∷ watches) (t ∷ turns) = map (told_as w.number) (events_of t) ++ told_in watches turns
told_in _ _ = []

-- What the watches are to tell: the own events of each, in the order in which they were put, for one event of the root after another. Of the
-- watches only their numbers, sources and operators count.
abbrev pub told_over : List Attribute → List (List Datum) → List WatchState → List Heard → List Told
told_over schema rows watches [] = []
told_over schema rows watches (h ∷ later) =
    told_in watches (now_turns schema rows h.rows watches (root_turn h.event)) ++ told_over schema h.rows watches later

-- all that was told, and all steps that were made
abbrev pub all_told : List Heard → List Told
all_told [] = []
all_told (h ∷ later) = h.told ++ all_told later

abbrev pub all_steps : List Heard → ℕ
all_steps heard = sum_by (λ h. h.steps) heard

-- how many tests and comparisons a watch may cost for an event: a selection one test, and a sorting as many comparisons as the sizes of its
-- source before and after the event have binary digits
abbrev pub now_cost : List Attribute → List (List Datum) → List (List Datum) → List WatchState → WatchState → ℕ
now_cost schema before after watches w =
    if is_sorting w.op then digits (length (now_seen schema before watches w.source)) + digits (length (now_seen schema after watches w.source)) else 1

abbrev pub cost_over : List Attribute → List (List Datum) → List WatchState → List Heard → ℕ
cost_over schema rows watches [] = 0
cost_over schema rows watches (h ∷ later) = sum_by (now_cost schema rows h.rows watches) watches + cost_over schema h.rows watches later

-- a watch after so many events: it is the watch that it was, keeps the positions that are due now, and has followed each of the events
pub record HasHeard (schema : List Attribute) (rows : List (List Datum)) (events : ℕ) (watches : List WatchState) (old new : WatchState) : Type 0 where
  pub number : new.number ≡ old.number
  pub source : new.source ≡ old.source
  pub op : new.op ≡ old.op
  pub kept : new.kept ≡ now_kept schema rows watches old
  pub followed : new.followed ≡ raised_by events old.followed

-- Over a list of events, the watches keep, tell and count what is due.
pub record HaveHeard (schema : List Attribute) (rows : List (List Datum)) (old : List WatchState) (heard : List Heard) : Type 0 where
  pub long : length (last_watches old heard) ≡ length old
  pub each : (k : ℕ) (d : WatchState) → k < length old → HasHeard schema (last_rows rows heard) (length heard) old (slice_index_or old k d) (slice_index_or (last_watches old heard) k d)
  pub now : AreNow schema (last_rows rows heard) (last_watches old heard)
  pub told : all_told heard ≡ told_over schema rows old heard
  pub steps : all_steps heard ≤ cost_over schema rows old heard

-- An edit that was followed in one step: the rows of the root and the watches after it, and how many tests and comparisons were made for it.
pub record Stepped : Type 0 where
  pub edit : RowEdit
  pub rows : List (List Datum)
  pub watches : List WatchState
  pub steps : ℕ

-- The watches over these rows followed the edit: what the contract of `follow` says of the call.
pub record IsStepped (schema : List Attribute) (rows : List (List Datum)) (old : List WatchState) (s : Stepped) : Type 0 where
  pub row : List Datum
  pub made : s.rows ≡ edited row s.edit rows
  pub now : AreNow schema s.rows s.watches
  pub followed : HaveFollowed (count_of s.edit) old s.watches
  pub cost : s.steps ≤ edit_cost s.edit rows s.rows old s.watches

-- the edits were followed one after another
abbrev pub AreStepped : List Attribute → List (List Datum) → List WatchState → List Stepped → Type 0
AreStepped schema rows old [] = Unit {0}
AreStepped schema rows old (s ∷ later) = IsStepped schema rows old s × AreStepped schema s.rows s.watches later

-- the rows and the watches after the last edit
abbrev pub rows_edited : List (List Datum) → List Stepped → List (List Datum)
rows_edited rows [] = rows
rows_edited rows (s ∷ later) = rows_edited s.rows later

abbrev pub watches_edited : List WatchState → List Stepped → List WatchState
watches_edited watches [] = watches
watches_edited watches (s ∷ later) = watches_edited s.watches later

-- what the watches may cost for rows that come, equal as they are: a selection one test, and a sorting as many comparisons as the size of its
-- source then has binary digits
abbrev pub coming_cost : List Attribute → List (List Datum) → List WatchState → WatchState → ℕ
coming_cost schema after watches w = if is_sorting w.op then digits (length (now_seen schema after watches w.source)) else 1

-- what they may cost for an edit, whatever its count; for rows that go nothing
abbrev pub step_cost : List Attribute → RowEdit → List (List Datum) → List (List Datum) → List WatchState → ℕ
step_cost schema (Insert at zero) before after watches = 0
step_cost schema (Insert at (suc more)) before after watches = sum_by (coming_cost schema after watches) watches
step_cost schema (Remove at count) before after watches = 0
step_cost schema (Change at) before after watches = sum_by (now_cost schema before after watches) watches

abbrev pub step_cost_over : List Attribute → List (List Datum) → List WatchState → List Stepped → ℕ
step_cost_over schema rows watches [] = 0
step_cost_over schema rows watches (s ∷ later) = step_cost schema s.edit rows s.rows watches + step_cost_over schema s.rows watches later

-- how many events the edits are, and how many steps were made for them
abbrev pub events_in : List Stepped → ℕ
events_in edits = sum_by (λ s. count_of s.edit) edits

abbrev pub steps_in : List Stepped → ℕ
steps_in edits = sum_by (λ s. s.steps) edits

-- Over a list of edits, the watches keep and count what is due.
pub record HaveStepped (schema : List Attribute) (rows : List (List Datum)) (old : List WatchState) (edits : List Stepped) : Type 0 where
  pub long : length (watches_edited old edits) ≡ length old
  pub each : (k : ℕ) (d : WatchState) → k < length old → HasHeard schema (rows_edited rows edits) (events_in edits) old (slice_index_or old k d) (slice_index_or (watches_edited old edits) k d)
  pub now : AreNow schema (rows_edited rows edits) (watches_edited old edits)
  pub steps : steps_in edits ≤ step_cost_over schema rows old edits
