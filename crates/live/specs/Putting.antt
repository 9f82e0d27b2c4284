-- Watches put and taken out, and how many events can be followed without memory.
use Rattle.std.specs.Prelude.{◌≡◌, ◌<◌, ◌≤◌, ◌-◌, ◌++◌, ℕ, min, nat_lt, if◌then◌else◌, List, [], ◌∷◌, map, remove, Option, Some, None, Result, Err, IfErr}
use Rattle.std.specs.Option.{option_map, option_or}
use Rattle.mk_value.specs.Heading.{Attribute}
use Rattle.relations.specs.Sorting.{keys_or_all}
use Rattle.relations.specs.declared.error.DerivedError.{DerivedError}
use Rattle.relations.specs.declared.error.DerivedError.TheVariants.{NoProp}
use Rattle.mk_value.specs.Data.{Datum}
use Rattle.live.specs.Chains.{seen}
use Rattle.live.specs.Numbers.{IsLeastFree}
use Rattle.live.specs.Placing.{closed}
use Rattle.live.specs.Watching.{op_due, positions}
use Rattle.live.specs.States.{WatchState, Watching}
use Rattle.live.specs.declared.error.WatchError.{WatchError}
use Rattle.live.specs.declared.error.WatchError.TheVariants as watch_error
use Rattle.row_edits.specs.declared.event.Event.{Event}
use Rattle.row_edits.specs.declared.event.Event.TheVariants.{Insert, Remove, Change}
use Rattle.live.specs.declared.op.WatchOp.{WatchOp}
use Rattle.live.specs.declared.op.WatchOp.TheVariants.{Range, Sort}

-- a sorting without keys is by all properties that are no views
abbrev pub spelled : List Attribute → WatchOp → WatchOp
spelled schema (Range criteria) = Range criteria
spelled schema (Sort keys) = Sort (keys_or_all schema keys)

-- the refusal of the criteria or the keys, as that of a watch: an absent property, or else one that is a view or does not fit
abbrev pub as_watch_error : DerivedError → WatchError
as_watch_error (NoProp name) = watch_error.NoProp
as_watch_error _ = watch_error.WrongKind

-- the refusal of a watch over a source of this depth: of its operator, or else because the chain would pass four
abbrev pub put_due : List Attribute → WatchOp → ℕ → Option WatchError
put_due schema op depth = option_or (option_map as_watch_error (op_due schema op)) (if nat_lt 3 depth then Some watch_error.TooDeep else None)

-- a call answers the refusal that is due; where none is due it is done, or memory was wanting
abbrev pub AnswersPut : {T : Type 0} → Option WatchError → Result T WatchError → Type 0
AnswersPut (Some e) result = result ≡ Err e
AnswersPut None result = IfErr result (λ e. e ≡ watch_error.Memory)

-- how many chunks of positions lie aside for each watch; without watches no number bounds that
abbrev pub no_bound : ℕ
no_bound = 18446744073709551616

abbrev pub least_room : List WatchState → ℕ
least_room [] = no_bound
least_room (w ∷ watches) = min w.room (least_room watches)

abbrev pub set_aside : Option Event → ℕ → ℕ
set_aside None n = n
set_aside (Some e) n = n - 1

-- how many events can be followed without memory: one chunk of each watch for each, and for the one that is noted one is set aside
abbrev pub spare : Watching → ℕ
spare ws = set_aside ws.noted (least_room ws.watches)

-- an event may happen to so many rows
abbrev pub IsPlace : Event → ℕ → Type 0
IsPlace (Insert p) n = p ≤ n
IsPlace (Remove p) n = p < n
IsPlace (Change p) n = p < n

-- a watch once the one at a place is out: where its source stood behind that, it has moved down
abbrev pub closed_source : ℕ → WatchState → WatchState
closed_source j w = record {
  number = w.number;
  source = option_map (closed j) w.source;
  op = w.op;
  kept = w.kept;
  room = w.room;
  going = w.going;
  turn = w.turn;
  answer = w.answer;
  followed = w.followed;
}

-- the watches without the one at a place
abbrev pub without_watch : ℕ → List WatchState → List WatchState
without_watch j watches = map (closed_source j) (remove watches j)

-- a watch of this number is put behind the others: over the source, with the positions of its rows, and it has followed nothing
pub record IsPut (schema : List Attribute) (rows : List (List Datum)) (old : List WatchState) (source : Option ℕ) (op : WatchOp) (new : List WatchState) (number : ℕ) : Type 0 where
  pub least : IsLeastFree old number
  pub watch : WatchState
  pub last : new ≡ old ++ watch ∷ []
  pub numbered : watch.number ≡ number
  pub over : watch.source ≡ source
  pub asked : watch.op ≡ spelled schema op
  pub kept : watch.kept ≡ positions schema (spelled schema op) (seen rows old source)
  pub fresh : watch.followed ≡ 0
