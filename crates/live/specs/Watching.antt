-- One watch: which rows of its source it shows, and what an event does to a list of rows and to the watch.
use Rattle.std.specs.Prelude.{◌≡◌, ◌<◌, ◌==◌, ℕ, Bool, true, false, if◌then◌else◌, List, [], length, position, Option, Some, None}
use Rattle.std.specs.Option.{ForSome}
use Rattle.std.specs.declared.cmp.Ordering.{Ordering}
use Rattle.std.specs.declared.cmp.Ordering.TheVariants.{Equal}
use Rattle.mk_value.specs.Heading.{Attribute}
use Rattle.mk_value.specs.Data.{Datum}
use Rattle.relations.specs.Criteria.{is_in_range}
use Rattle.relations.specs.Positions.{order_of, passing, place_cmp}
use Rattle.relations.specs.Refusals.{range_due, sort_due}
use Rattle.relations.specs.Sorting.{row_cmp}
use Rattle.relations.specs.declared.error.DerivedError.{DerivedError}
use Rattle.live.specs.Placing.{without}
use Rattle.row_edits.specs.declared.event.Event.{Event}
use Rattle.row_edits.specs.declared.event.Event.TheVariants.{Insert, Remove, Change}
use Rattle.live.specs.declared.turn.Turn.{Turn}
use Rattle.live.specs.declared.turn.Turn.TheVariants.{Still, Comes, Goes, Changes, Moves}
use Rattle.live.specs.declared.op.WatchOp.{WatchOp}
use Rattle.live.specs.declared.op.WatchOp.TheVariants.{Range, Sort}

-- which rows a watch shows: a selection those within its bounds, a sorting all
abbrev pub passes : List Attribute → WatchOp → List Datum → Bool
passes schema (Range criteria) row = is_in_range schema criteria row
passes schema (Sort keys) row = true

-- the order in which it shows them: in a selection none, so that they stand as in the source
abbrev pub order : List Attribute → WatchOp → List Datum → List Datum → Ordering
order schema (Range criteria) a b = Equal
order schema (Sort keys) a b = row_cmp schema keys a b

-- the positions of a watch's rows in the rows of its source, in the watch's order
abbrev pub positions : List Attribute → WatchOp → List (List Datum) → List ℕ
positions schema (Range criteria) rows = passing (is_in_range schema criteria) [] rows
positions schema (Sort keys) rows = order_of (row_cmp schema keys) [] rows

-- the order of two of these positions
abbrev pub position_cmp : List Attribute → WatchOp → List (List Datum) → ℕ → ℕ → Ordering
position_cmp schema op rows = place_cmp (order schema op) [] rows

-- the refusal that the criteria or the keys are due
abbrev pub op_due : List Attribute → WatchOp → Option DerivedError
op_due schema (Range criteria) = range_due criteria schema
op_due schema (Sort keys) = sort_due keys schema

-- a watch may be asked of rows of the schema: no refusal is due
abbrev pub IsAsked : List Attribute → WatchOp → Type 0
IsAsked schema op = op_due schema op ≡ None

abbrev pub is_sorting : WatchOp → Bool
is_sorting (Range criteria) = false
is_sorting (Sort keys) = true

-- what an event of the root does to the root's rows
abbrev pub root_turn : Event → Turn
root_turn (Insert p) = Comes p
root_turn (Remove p) = Goes p
root_turn (Change p) = Changes p

-- where the row that goes stood, and where the row that comes stands
abbrev pub goes_from : Turn → Option ℕ
goes_from Still = None
goes_from (Comes p) = None
goes_from (Goes p) = Some p
goes_from (Changes p) = Some p
goes_from (Moves p q) = Some p

abbrev pub comes_to : Turn → Option ℕ
comes_to Still = None
comes_to (Comes p) = Some p
comes_to (Goes p) = None
comes_to (Changes p) = Some p
comes_to (Moves p q) = Some q

-- from old rows to new ones: what the old are without the row that goes, the new are without the row that comes
pub record IsTurn (turn : Turn) (old new : List (List Datum)) : Type 0 where
  pub went : ForSome (goes_from turn) (λ p. p < length old)
  pub came : ForSome (comes_to turn) (λ p. p < length new)
  pub rest : without (goes_from turn) old ≡ without (comes_to turn) new

-- the place of a row of the source among the kept positions, where it is kept
abbrev pub placed : List ℕ → Option ℕ → Option ℕ
placed kept None = None
placed kept (Some p) = position (λ k. k == p) kept

-- what is told of a row that leaves a place and one that takes a place: a change only where the row stays
abbrev pub told : Bool → Option ℕ → Option ℕ → Turn
told stays None None = Still
told stays None (Some q) = Comes q
told stays (Some p) None = Goes p
told stays (Some p) (Some q) = if stays then Changes q else Moves p q

-- a changed row stays where it is in a selection, and in a sorting never
abbrev pub stays : WatchOp → Turn → Bool
stays (Range criteria) (Changes p) = true
stays _ _ = false

-- the own turn of a watch, for one of its source: by the positions of its rows before and after
abbrev pub own : WatchOp → List ℕ → List ℕ → Turn → Turn
own op old new turn = told (stays op turn) (placed old (goes_from turn)) (placed new (comes_to turn))

-- the kept positions are those of rows of which a turn made these rows
pub record IsDue (schema : List Attribute) (op : WatchOp) (kept : List ℕ) (turn : Turn) (rows : List (List Datum)) : Type 0 where
  pub before : List (List Datum)
  pub now : kept ≡ positions schema op before
  pub made : IsTurn turn before rows

-- an operator asks of rows what another asks: it shows the same rows in the same order, and stays where the other does
pub record MeansAs (op other : WatchOp) : Type 0 where
  pub asked : (schema : List Attribute) → IsAsked schema op → IsAsked schema other
  pub shown : (schema : List Attribute) (rows : List (List Datum)) → positions schema other rows ≡ positions schema op rows
  pub sorts : is_sorting other ≡ is_sorting op
  pub keeps : (turn : Turn) → stays other turn ≡ stays op turn
