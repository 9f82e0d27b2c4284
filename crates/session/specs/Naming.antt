-- Names beside those of views: the refusals of a command that makes or gives up a snapshot, a cursor or a watch, or a view that one may stand on, and of
-- one that maps a view.
use Rattle.std.specs.Prelude.{ℕ, ◌+◌, ◌-◌, Bool, false, ◌&&◌, ◌||◌, not, if◌then◌else◌, nat_lt, nat_le, List, [], ◌∷◌, find, length, Option, Some, None, Result, Ok, Err}
use Rattle.std.specs.Option.{is_some, option_map, unwrap_or}
use Rattle.cmd_text.specs.declared.refusal.Refusal.{Refusal}
use Rattle.cmd_text.specs.declared.refusal.Refusal.TheVariants.{Memory, NoName, Exists, Range, NoProp, Kind, Limit, InUse, Keys}
use Rattle.computing.specs.Computed.{ComputedWatch, Computations, count as count_computed, is_computed, is_count, is_source}
use Rattle.computing.specs.declared.computed.Computation.{Computation}
use Rattle.computing.specs.declared.computed.Computation.TheVariants.{Counts, Filter}
use Rattle.watches.specs.Lines.{refusal_of}
use Rattle.watches.specs.Keeping.{max_watches}
use Rattle.watches.specs.Refusals.{depth_under, put_due}
use Rattle.watches.specs.Watches.{count, has_over, is_watch, is_watched, source_of}
use Rattle.live.specs.declared.error.WatchError.{WatchError}
use Rattle.live.specs.declared.error.WatchError.TheVariants as watching
use Rattle.keyed_views.specs.Mapped.{MappedView, is_mapped}
use Rattle.keyed_views.specs.Refusals.{put_due as put_mapping_due}
use Rattle.keyed_views.specs.declared.by.By.{By}
use Rattle.keyed_views.specs.declared.error.MappingError.{MappingError}
use Rattle.keyed_views.specs.declared.error.MappingError.TheVariants as mapping
use Rattle.mk_value.specs.Heading.{Attribute}
use Rattle.mk_value.specs.Limits.{max_views}
use Rattle.mk_value.specs.Names.{same_bytes}
use Rattle.mk_value.specs.Tables.{Table}
use Rattle.questions.specs.Answers.{shown_due, source_due}
use Rattle.questions.specs.Cursors.{has_cursor_on, is_cursor}
use Rattle.questions.specs.Kept.{is_kept}
use Rattle.live.specs.declared.op.WatchOp.{WatchOp}
use Rattle.questions.specs.Operations.{operand, operation}
use Rattle.questions.specs.declared.cursor.Standing.TheVariants.{View, Snapshot, Watch}
use Rattle.questions.specs.declared.error.QuestionError.{QuestionError}
use Rattle.questions.specs.declared.error.QuestionError.TheVariants as question
use Rattle.expr_text.specs.Queries.{Query}
use Rattle.struct_text.specs.Spelling.{spelling}
use Rattle.tables.specs.Tables.{StoredTable}
use Rattle.view_store.specs.Views.{NamedTable, table_of}
use Rattle.viewers.specs.Meanings.{Meaning}
use Rattle.session.specs.Questions.{refusal_of_question}
use Rattle.session.specs.Refusals.{first_of, unless}
use Rattle.session.specs.World.{World, kept_names}

-- the most snapshots, and the most cursors
abbrev pub max_snapshots : ℕ
max_snapshots = 64

abbrev pub max_cursors : ℕ
max_cursors = 64

-- the longest chain of watches
abbrev pub max_chain : ℕ
max_chain = 4

-- a snapshot, a cursor or a watch has the name; or a view has it
abbrev pub is_beside_views : World → List ℕ → Bool
is_beside_views w name = is_kept w.snapshots name || (is_cursor w.cursors name || (is_watch w.watches name || is_computed w.computed name))

abbrev pub is_taken : World → List ℕ → Bool
is_taken w name = is_some (table_of w.store.views name) || is_beside_views w name

-- a new name, where there are so many of its sort already
abbrev pub new_name_due : World → List ℕ → ℕ → ℕ → Option Refusal
new_name_due w name count most = first_of (unless (not (is_taken w name)) Exists ∷ unless (nat_lt count most) Limit ∷ [])

-- the view of the name has another structure than this one
abbrev pub would_change : Option StoredTable → List ℕ → List Attribute → Bool
would_change None name schema = false
would_change (Some t) name schema = not (same_bytes (spelling name t.schema) (spelling name schema))

-- There is room for one more view, or one has the name.
abbrev pub room_due : List NamedTable → List ℕ → Option Refusal
room_due root name = unless (is_some (table_of root name) || nat_lt (length root) max_views) Limit

-- a cursor or a watch, computed or not, stands on the view of the name, or it has a mapping
abbrev pub is_view_used : World → List ℕ → Bool
is_view_used w name = has_cursor_on w.cursors View name || (is_watched w.watches name || (is_mapped w.mappings name || is_source w.computed name))

-- a structure for the view of a name: no cursor, watch or mapping names a view whose structure would change
abbrev pub declare_due : World → List ℕ → List Attribute → Option Refusal
declare_due w name schema =
    first_of (room_due w.store.views name
    ∷ unless (not (would_change (table_of w.store.views name) name schema && is_view_used w name)) InUse
    ∷ [])

-- `getas`: a structure for a name that no snapshot, no cursor and no watch has
abbrev pub getas_due : World → List ℕ → List Attribute → Option Refusal
getas_due w name schema = first_of (unless (not (is_beside_views w name)) Exists ∷ declare_due w name schema ∷ [])

-- `drop`: the view of a name, which no cursor, watch or mapping names
abbrev pub drop_due : World → List ℕ → Option Refusal
drop_due w name = first_of (unless (is_some (table_of w.store.views name)) NoName ∷ unless (not (is_view_used w name)) InUse ∷ [])

-- `undup`: the snapshot of a name, on which no cursor stands
abbrev pub undup_due : World → List ℕ → Option Refusal
undup_due w name = first_of (unless (is_kept w.snapshots name) NoName ∷ unless (not (has_cursor_on w.cursors Snapshot name)) InUse ∷ [])

-- `uncursor`: the cursor of a name
abbrev pub uncursor_due : World → List ℕ → Option Refusal
uncursor_due w name = unless (is_cursor w.cursors name) NoName

-- the table of the view over which what has this name stands: a view, or a watch; and an empty one where there is none
abbrev pub table_under : World → List ℕ → Option StoredTable
table_under w name = table_of w.store.views (source_of w.watches name).view

abbrev pub view_under : World → List ℕ → StoredTable
view_under w name = unwrap_or (table_under w name) (record { schema = []; rows = []; homes = [] })

-- how it is told that a watch is not put
abbrev pub refusal_of_watch : WatchError → Refusal
refusal_of_watch watching.NoProp = NoProp
refusal_of_watch watching.WrongKind = Kind
refusal_of_watch watching.TooDeep = Limit
refusal_of_watch watching.Memory = Memory

-- what is told of a watch that was to be put
abbrev pub told_of_put : Result ℕ WatchError → Result ℕ Refusal
told_of_put (Ok size) = Ok size
told_of_put (Err e) = Err (refusal_of_watch e)

-- what is watched: an operation of what a name stands for
abbrev pub watched_op : World → Query → WatchOp
watched_op w q = operation (view_under w (operand q)).schema q

-- how many watches there are, computed or not, of which there may be so many
abbrev pub total : World → ℕ
total w = count w.watches + count_computed w.computed

-- `watch` of a selection, a range or a sorting, where one watch more may be put: a view or a watch of the name that the operation is asked of, a new
-- name, and the operation
abbrev pub kept_due : World → List ℕ → Query → Option Refusal
kept_due w name q = first_of (unless (is_some (table_under w (operand q))) NoName
    ∷ unless (not (is_taken w name)) Exists
    ∷ option_map refusal_of_watch (put_due (view_under w (operand q)).schema w.watches (source_of w.watches (operand q)) (watched_op w q))
    ∷ [])

-- where it would be one watch too many: the refusal of the operation comes first
abbrev pub full_due : World → List ℕ → Query → Option Refusal
full_due w name q =
    first_of (unless (not (is_taken w name)) Exists
    ∷ Some (refusal_of_watch (refusal_of (view_under w (operand q)).schema (watched_op w q)))
    ∷ [])

-- over a computed watch, over which none of this sort stands: an absent property comes first
abbrev pub unfit : WatchError → Refusal
unfit watching.NoProp = NoProp
unfit _ = Kind

abbrev pub over_computed_due : Result Table QuestionError → World → List ℕ → Query → Option Refusal
over_computed_due (Err e) w name q = Some (refusal_of_question e)
over_computed_due (Ok t) w name q =
    first_of (unless (not (is_taken w name)) Exists ∷ Some (unfit (refusal_of t.schema (operation t.schema q))) ∷ [])

-- the table of what a name stands for that a watch is asked of
abbrev pub asked_table : List Meaning → World → List ℕ → Result Table QuestionError
asked_table viewers w name = source_due (kept_names w) viewers w.computed name

abbrev pub watch_over_due : Option StoredTable → List Meaning → World → List ℕ → Query → Option Refusal
watch_over_due None viewers w name q = over_computed_due (asked_table viewers w (operand q)) w name q
watch_over_due (Some t) viewers w name q = if nat_lt (total w) max_watches then kept_due w name q else full_due w name q

-- `watch` of a selection, a range or a sorting
abbrev pub watch_due : List Meaning → World → List ℕ → Query → Option Refusal
watch_due viewers w name q = watch_over_due (table_under w (operand q)) viewers w name q

-- what a computed watch may stand over: a filter over no computed watch, counts over no counts
abbrev pub may_stand : Computation → Computations → List ℕ → Bool
may_stand (Filter viewer props) c source = not (is_computed c source)
may_stand (Counts keys name) c source = not (is_count c source)

-- whether a watch over what has this name would make a chain of five: a filter is one watch over its source
abbrev pub is_deep_over : Option ComputedWatch → World → List ℕ → Bool
is_deep_over None w source = nat_le max_chain (depth_under w.watches (source_of w.watches source))
is_deep_over (Some f) w source = nat_le (max_chain - 1) (depth_under w.watches (source_of w.watches f.source))

abbrev pub is_deep : World → List ℕ → Bool
is_deep w source = is_deep_over (find (λ (f : ComputedWatch). same_bytes f.name source) w.computed.filters) w source

-- what a computed watch would show, by order of refusal: no viewer has the name; the properties; a limit
abbrev pub viewer_refusal : {X : Type 0} → Result X QuestionError → Option Refusal
viewer_refusal (Err question.NoName) = Some NoName
viewer_refusal _ = None

abbrev pub shape_refusal : {X : Type 0} → Result X QuestionError → Option Refusal
shape_refusal (Ok t) = None
shape_refusal (Err question.NoName) = None
shape_refusal (Err question.Limit) = None
shape_refusal (Err e) = Some (refusal_of_question e)

abbrev pub has_room : {X : Type 0} → Result X QuestionError → World → List ℕ → Bool
has_room (Err e) w source = false
has_room (Ok t) w source = not (is_deep w source) && nat_lt (total w) max_watches

-- over a source of this table, which shows this
abbrev pub computed_over_due : {X : Type 0} → Result X QuestionError → World → List ℕ → List ℕ → Computation → Option Refusal
computed_over_due shown w name source c =
    first_of (viewer_refusal shown
    ∷ unless (not (is_taken w name)) Exists
    ∷ shape_refusal shown
    ∷ unless (may_stand c w.computed source) Kind
    ∷ unless (has_room shown w source) Limit
    ∷ [])

abbrev pub computed_in : Result Table QuestionError → List Meaning → World → List ℕ → List ℕ → Computation → Option Refusal
computed_in (Err e) viewers w name source c = Some (refusal_of_question e)
computed_in (Ok t) viewers w name source c = computed_over_due (shown_due viewers c t) w name source c

-- `watch` of counts or of a filter
abbrev pub computed_due : List Meaning → World → List ℕ → List ℕ → Computation → Option Refusal
computed_due viewers w name source c = computed_in (asked_table viewers w source) viewers w name source c

-- `unwatch`: the watch of a name, on which neither watch nor cursor stands
abbrev pub unwatch_due : World → List ℕ → Option Refusal
unwatch_due w name =
    first_of (unless (is_watch w.watches name || is_computed w.computed name) NoName
    ∷ unless (not (has_over w.watches name || (is_source w.computed name || has_cursor_on w.cursors Watch name))) InUse
    ∷ [])

-- how it is told that a view is not mapped
abbrev pub refusal_of_mapping : MappingError → Refusal
refusal_of_mapping mapping.Kind = Kind
refusal_of_mapping (mapping.Range count) = Range count
refusal_of_mapping mapping.Limit = Limit
refusal_of_mapping (mapping.Keys row) = Keys row
refusal_of_mapping mapping.InUse = InUse
refusal_of_mapping mapping.Memory = Memory

-- a table that is mapped, if it is there
abbrev pub mapping_due : Option StoredTable → By → ℕ → List MappedView → List ℕ → Option Refusal
mapping_due None by keys all name = Some NoName
mapping_due (Some t) by keys all name = option_map refusal_of_mapping (put_mapping_due by keys t.schema t.rows all name)

-- `hash` and `ordered`: the view of a name, and its first properties, so many, as the key of its rows
abbrev pub map_due : World → By → List ℕ → ℕ → Option Refusal
map_due w by name keys = mapping_due (table_of w.store.views name) by keys w.mappings name

-- `unmap`: a view that has a mapping
abbrev pub unmap_due : World → List ℕ → Option Refusal
unmap_due w name = unless (is_mapped w.mappings name) NoName
