-- What comes of each command. Want of memory and a disk that fails are left aside here.
use Rattle.std.specs.Prelude.{ℕ, ◌+◌, ◌-◌, Bool, true, false, ◌&&◌, not, if◌then◌else◌, ◌==◌, List, [], ◌∷◌, ◌++◌, length, map, reverse, codes, decimal, Option, Some, None, Result, Ok, Err}
use Rattle.std.specs.Option.{is_some}
use Rattle.commit_plan.specs.Plans.{last_number}
use Rattle.dir_codec.specs.Dir.{NoteEntry}
use Rattle.mk_value.specs.Conversions.{becomes}
use Rattle.mk_value.specs.Data.{Datum, text}
use Rattle.mk_value.specs.LiteralValues.{literal_of}
use Rattle.mk_value.specs.Literals.{value_text}
use Rattle.mk_value.specs.Paths.{Route}
use Rattle.cmd_text.specs.Replies.{lines_text, reply_bytes, reply_line}
use Rattle.cmd_text.specs.declared.command.Command.{Command}
use Rattle.cmd_text.specs.declared.command.Command.TheVariants as commands
use Rattle.cmd_text.specs.declared.refusal.Refusal.{Refusal}
use Rattle.cmd_text.specs.declared.refusal.Refusal.TheVariants.{LastNumber, NoName, ReadOnly, Shut}
use Rattle.cmd_text.specs.declared.reply.Reply.TheVariants.{Plain, Count, Quit, Refused, Rollback, Space}
use Rattle.expr_text.specs.Meanings.{query_of}
use Rattle.expr_text.specs.Queries.{Query}
use Rattle.computing.specs.Computed.{with_watch as with_watch_computed, without_computed}
use Rattle.computing.specs.declared.computed.Computation.{Computation}
use Rattle.watches.specs.Watches.{is_watch, rows_under, source_of, watches_of, with_watch, without_watch}
use Rattle.keyed_views.specs.Keyed.{home_of}
use Rattle.live.specs.Laws.{shown}
use Rattle.live.specs.Putting.{spelled}
use Rattle.keyed_views.specs.Mapped.{MappedView, without_mapping}
use Rattle.keyed_views.specs.declared.by.By.{By}
use Rattle.keyed_views.specs.declared.by.By.TheVariants.{Hash, Order}
use Rattle.mk_value.specs.declared.path.Step.{Step}
use Rattle.mk_value.specs.Tables.{Table}
use Rattle.questions.specs.Answers.{answer, rows_due, shown_due, size_due}
use Rattle.questions.specs.Cursors.{moved, next_due, previous_due, row_due, standing_of, without_cursor}
use Rattle.questions.specs.Kept.{without_kept}
use Rattle.questions.specs.Places.{find_due, locate_due, search_due}
use Rattle.questions.specs.Operations.{computed_by, operand}
use Rattle.questions.specs.declared.cursor.Standing.{Standing}
use Rattle.questions.specs.declared.error.QuestionError.{QuestionError}
use Rattle.cmd_text.specs.declared.reply.Space.{Space as Taken}
use Rattle.storage.specs.Spaces.{space_of}
use Rattle.storage.specs.Stored.{Stored, is_shut, rolled_back}
use Rattle.storage.specs.declared.mode.Mode.{Mode}
use Rattle.storage.specs.declared.mode.Mode.TheVariants.{Write, Extend, Read}
use Rattle.struct_text.specs.Spelling.{spelling}
use Rattle.view_store.specs.Edits.{Edit}
use Rattle.view_store.specs.Views.{NamedTable, edited_views, without_view}
use Rattle.viewers.specs.Meanings.{Meaning}
use Rattle.session.specs.Keyed.{add_by_key_due, insert_by_key_due, mapping_on, put_by_key, put_line, row_for, set_line, size_by_key}
use Rattle.session.specs.Naming.{asked_table, computed_due, drop_due, getas_due, map_due, max_cursors, max_snapshots, new_name_due, uncursor_due, undup_due, unmap_due, unwatch_due, view_under, watch_due, watched_op}
use Rattle.session.specs.Questions.{located_reply, names_in, place_reply, refusal_of_question}
use Rattle.session.specs.Refusals.{add_due, first_of, insert_due, remove_due, set_due, unless}
use Rattle.session.specs.Structures.{structured, structures}
use Rattle.session.specs.Values.{domain_named, schema_named, size_named, values_for}
use Rattle.session.specs.World.{World, kept_names, with_line, with_store, with_tables, without_followers}

-- What a command asks for: a reply and a world, or something of the disk.
pub data Outcome : Type 0 where
  -- these bytes are said, and the world is this one
  gives : List ℕ → World → Outcome
  -- the views are stored as the next commit, with this note where it is not empty
  commits : List ℕ → Outcome
  -- the file is opened anew
  reopens : Outcome
  -- the views of the commit before are brought back
  reverts : Outcome

-- a refusal is told, and changes nothing
abbrev pub refused : Refusal → World → Outcome
refused refusal w = gives (reply_bytes (Refused refusal)) w

-- where no refusal is due, this comes of it
abbrev pub unless_due : Option Refusal → World → Outcome → Outcome
unless_due (Some refusal) w done = refused refusal w
unless_due None w done = done

-- what a question is due, and this of its answer
abbrev pub told : {X : Type 0} → Result X QuestionError → World → (X → Outcome) → Outcome
told (Ok x) w done = done x
told (Err e) w done = refused (refusal_of_question e) w

-- a snapshot more; and a cursor more, at the first row of what its name stands for
abbrev pub with_snapshot : World → List ℕ → Table → World
with_snapshot w name table = record w { snapshots = w.snapshots ++ (record { name = name; table = table } ∷ []) }

abbrev pub with_cursor : World → List ℕ → List ℕ → Standing → World
with_cursor w name target standing = record w { cursors = w.cursors ++ (record { name = name; target = target; standing = standing; position = 0 } ∷ []) }

-- `cursor`: what a name stands for comes first
abbrev pub set_on : Option Standing → World → List ℕ → List ℕ → Outcome
set_on None w name target = refused NoName w
set_on (Some standing) w name target =
    unless_due (new_name_due w name (length w.cursors) max_cursors) w (gives (reply_bytes (Count 0)) (with_cursor w name target standing))

-- a cursor of the world at another position
abbrev pub moved_in : World → List ℕ → ℕ → World
moved_in w name position = record w { cursors = moved w.cursors name position }

-- the views after copies of a row of these literals were put before a place; values that are missing at its end are defaults
abbrev pub inserted : List NamedTable → Route → ℕ → ℕ → List Datum → List NamedTable
inserted root route place copies literals = edited_views root route (Edit.insert place (values_for (schema_named root route) literals) copies)

-- the views after a property of a row was given the value of a literal
abbrev pub changed : List NamedTable → Route → ℕ → List ℕ → Datum → List NamedTable
changed root route row prop literal = edited_views root route (Edit.set row prop (becomes literal (domain_named (schema_named root route) prop)))

abbrev pub removed : List NamedTable → Route → ℕ → ℕ → List NamedTable
removed root route place rows = edited_views root route (Edit.remove place rows)

-- how many events so many rows are that an edit puts in or takes out where the steps lead: inside a row they are one change of that row
abbrev pub events_at : List Step → ℕ → ℕ
events_at [] rows = rows
events_at (step ∷ steps) rows = 1

-- a watch more
abbrev pub put_over : World → List ℕ → Query → World
put_over w name q = record w {
  watches = with_watch w.watches (source_of w.watches (operand q)).view (record {
    name = name;
    source = (source_of w.watches (operand q)).over;
    op = spelled (view_under w (operand q)).schema (watched_op w q);
    followed = 0;
  });
}

-- the number of its rows
abbrev pub watch_size : World → Query → ℕ
watch_size w q =
    let source = source_of w.watches (operand q) in
    let t = view_under w (operand q) in length (shown t.schema (spelled t.schema (watched_op w q)) (rows_under t (watches_of w.watches source.view) source.over))

-- a computed watch more; and the number of its rows
abbrev pub with_computation : World → List ℕ → List ℕ → Computation → World
with_computation w name source c = record w { computed = with_watch_computed w.computed (record { name = name; source = source; shows = c }) }

abbrev pub rows_shown : Result Table QuestionError → ℕ
rows_shown (Ok t) = length t.rows
rows_shown (Err e) = 0

abbrev pub shown_over : List Meaning → Computation → Result Table QuestionError → Result Table QuestionError
shown_over viewers c (Ok t) = shown_due viewers c t
shown_over viewers c (Err e) = Err e

abbrev pub computed_size : List Meaning → World → List ℕ → Computation → ℕ
computed_size viewers w source c = rows_shown (shown_over viewers c (asked_table viewers w source))

-- `watch`: the reply is the number of rows
abbrev pub watch_in : Option Computation → List Meaning → World → List ℕ → Query → Outcome
watch_in None viewers w name q =
    unless_due (watch_due viewers w name q) w (gives (reply_bytes (Count (watch_size w q))) (put_over w name q))
watch_in (Some c) viewers w name q =
    unless_due (computed_due viewers w name (operand q) c) w
    (gives (reply_bytes (Count (computed_size viewers w (operand q) c))) (with_computation w name (operand q) c))

-- without the watch of a name, computed or not
abbrev pub unwatched : World → List ℕ → World
unwatched w name =
    if is_watch w.watches name then record w { watches = without_watch w.watches name } else record w { computed = without_computed w.computed name }

-- whether commits are made at all
abbrev pub may_write : Mode → Bool
may_write Write = true
may_write Extend = true
may_write Read = false

-- `commit`: the refusals that are known before a commit is planned
abbrev pub commit_due : Stored → Option Refusal
commit_due s = first_of (unless (may_write s.mode) ReadOnly ∷ unless (not (s.kept.number == last_number)) LastNumber ∷ [])

-- `revert`: there is no commit before
abbrev pub revert_due : Stored → Option Refusal
revert_due s = first_of (unless (is_some s.before) NoName ∷ [])

-- the line of a note: the number of its commit, and the note as a value
abbrev pub note_text : NoteEntry → List ℕ
note_text note = decimal note.number ++ (codes " " ++ value_text (text note.text))

-- the lines of notes, the newest first
abbrev pub note_texts : List NoteEntry → List (List ℕ)
note_texts notes = map note_text (reverse notes)

-- the numbers of `space`
abbrev pub taken : Stored → Taken
taken s = record { number = s.kept.number; end = s.kept.end; used = (space_of s.kept).used }

-- `add`, `insert` and `set`: where the rows of the view are kept by key, the row that comes is put by its key, and another row of the same
-- key goes
abbrev pub add_in : Option MappedView → World → Route → List Datum → Outcome
add_in None w route literals =
    unless_due (add_due w.store.views route literals) w
    (gives (reply_bytes (Count (size_named w.store.views route))) (with_line w (inserted w.store.views route (size_named w.store.views route) 1 literals) route.name 1))
add_in (Some m) w route literals =
    let row = row_for w.store.views route literals in
    let e = put_by_key m w.store.views route (size_named w.store.views route) row in
    unless_due (add_by_key_due m w.store.views route literals) w (gives (reply_bytes (Count (home_of e))) (put_line w route 1 row e))

abbrev pub insert_in : Option MappedView → World → Route → ℕ → ℕ → List Datum → Outcome
insert_in None w route place copies literals =
    unless_due (insert_due w.store.views route place copies literals) w
    (gives (reply_bytes (Count (size_named w.store.views route + copies))) (with_line w (inserted w.store.views route place copies literals) route.name (events_at route.steps copies)))
insert_in (Some m) w route place copies literals =
    let row = row_for w.store.views route literals in
    let e = put_by_key m w.store.views route place row in
    unless_due (insert_by_key_due m w.store.views route place copies literals) w
    (gives (reply_bytes (Count (size_by_key copies e (size_named w.store.views route)))) (put_line w route copies row e))

abbrev pub set_in : Option MappedView → World → Route → ℕ → List ℕ → Datum → Outcome
set_in None w route row prop literal =
    unless_due (set_due w.store.views route row prop literal) w
    (gives (reply_bytes Plain) (with_line w (changed w.store.views route row prop literal) route.name 1))
set_in (Some m) w route row prop literal =
    unless_due (set_due w.store.views route row prop literal) w
    (gives (reply_bytes Plain) (set_line m w route row prop (becomes literal (domain_named (schema_named w.store.views route) prop))))

-- a mapping more, behind the others
abbrev pub with_mapping : World → By → List ℕ → ℕ → World
with_mapping w by view keys = record w { mappings = w.mappings ++ (record { view = view; by = by; keys = keys } ∷ []) }

-- what comes of a command of a session that is not shut, where these viewers may be asked
abbrev pub outcome_in : List Meaning → World → Command → Outcome
outcome_in viewers w commands.Nothing = gives [] w
outcome_in viewers w (commands.Getas name schema) =
    unless_due (getas_due w name schema) w
    (gives (reply_line (codes "ok " ++ spelling name schema)) (with_tables w (structured w.store.views name schema)))
outcome_in viewers w (commands.Drop name) = unless_due (drop_due w name) w (gives (reply_bytes Plain) (with_tables w (without_view w.store.views name)))
outcome_in viewers w commands.Struct = gives (lines_text (structures w.store.views)) w
-- the reply to `add` is the place of the row; the replies to `insert` and `remove` are the sizes after them
outcome_in viewers w (commands.Add route literals) = add_in (mapping_on w route) w route literals
outcome_in viewers w (commands.Insert route place copies literals) = insert_in (mapping_on w route) w route place copies literals
outcome_in viewers w (commands.Set route row prop literal) = set_in (mapping_on w route) w route row prop (literal_of literal)
outcome_in viewers w (commands.Remove route place rows) =
    unless_due (remove_due w.store.views route place rows) w
    (gives (reply_bytes (Count (size_named w.store.views route - rows))) (with_line w (removed w.store.views route place rows) route.name (events_at route.steps rows)))
outcome_in viewers w (commands.Size e) = told (size_due (names_in w viewers) viewers (query_of e)) w (λ size. gives (reply_bytes (Count size)) w)
outcome_in viewers w (commands.Show e) = told (rows_due (names_in w viewers) viewers (query_of e)) w (λ rows. gives (lines_text rows) w)
outcome_in viewers w (commands.Find e start criteria) =
    told (find_due (names_in w viewers) viewers (query_of e) start criteria) w (λ place. gives (reply_bytes (place_reply place)) w)
outcome_in viewers w (commands.Search e criteria) =
    told (search_due (names_in w viewers) w.watches w.mappings viewers (query_of e) criteria) w (λ place. gives (reply_bytes (Count place)) w)
outcome_in viewers w (commands.Locate e criteria) =
    told (locate_due (names_in w viewers) w.watches w.mappings viewers (query_of e) criteria) w (λ at. gives (reply_bytes (located_reply at)) w)
-- the reply to `dup` is the number of rows
outcome_in viewers w (commands.Dup name e) =
    told (answer (names_in w viewers) viewers (query_of e)) w (λ t.
    unless_due (new_name_due w name (length w.snapshots) max_snapshots) w (gives (reply_bytes (Count (length t.rows))) (with_snapshot w name t)))
outcome_in viewers w (commands.Undup name) =
    unless_due (undup_due w name) w (gives (reply_bytes Plain) (record w { snapshots = without_kept w.snapshots name }))
outcome_in viewers w (commands.Watch name e) = watch_in (computed_by (query_of e)) viewers w name (query_of e)
outcome_in viewers w (commands.Unwatch name) = unless_due (unwatch_due w name) w (gives (reply_bytes Plain) (unwatched w name))
outcome_in viewers w (commands.Hash name keys) = unless_due (map_due w Hash name keys) w (gives (reply_bytes Plain) (with_mapping w Hash name keys))
outcome_in viewers w (commands.Ordered name keys) = unless_due (map_due w Order name keys) w (gives (reply_bytes Plain) (with_mapping w Order name keys))
outcome_in viewers w (commands.Unmap name) =
    unless_due (unmap_due w name) w (gives (reply_bytes Plain) (record w { mappings = without_mapping w.mappings name }))
outcome_in viewers w (commands.Cursor name target) = set_on (standing_of (kept_names w) w.computed target) w name target
outcome_in viewers w (commands.Uncursor name) =
    unless_due (uncursor_due w name) w (gives (reply_bytes Plain) (record w { cursors = without_cursor w.cursors name }))
outcome_in viewers w (commands.Next name) =
    told (next_due (kept_names w) viewers w.computed w.cursors name) w (λ place. gives (reply_bytes (Count place)) (moved_in w name place))
outcome_in viewers w (commands.Prev name) =
    told (previous_due (kept_names w) viewers w.computed w.cursors name) w (λ place. gives (reply_bytes (Count place)) (moved_in w name place))
outcome_in viewers w (commands.Row name) =
    told (row_due (kept_names w) viewers w.computed w.cursors name) w (λ text. gives (reply_line (codes "ok " ++ text)) w)
outcome_in viewers w (commands.Commit note) = unless_due (commit_due w.store) w (commits note)
outcome_in viewers w commands.Log = gives (lines_text (note_texts w.store.kept.notes)) w
outcome_in viewers w commands.Rollback = gives (reply_bytes (Rollback w.store.kept.number)) (without_followers (with_store w (rolled_back w.store)))
outcome_in viewers w commands.Reopen = reopens
outcome_in viewers w commands.Revert = unless_due (revert_due w.store) w reverts
outcome_in viewers w commands.Space = gives (reply_bytes (Space (taken w.store))) w
outcome_in viewers w commands.Quit = gives (reply_bytes Quit) w

-- what a session that is shut answers as any other does
abbrev pub goes_when_shut : Command → Bool
goes_when_shut commands.Nothing = true
goes_when_shut commands.Reopen = true
goes_when_shut commands.Quit = true
goes_when_shut _ = false

abbrev pub outcome_of : List Meaning → World → Command → Outcome
outcome_of viewers w command = if is_shut w.store && not (goes_when_shut command) then refused Shut w else outcome_in viewers w command

-- a command that is never answered for want of memory, once its line was read
abbrev pub takes_memory : Command → Bool
takes_memory commands.Nothing = false
takes_memory commands.Rollback = false
takes_memory commands.Space = false
takes_memory commands.Quit = false
takes_memory _ = true

-- how a command comes to the disk: not at all, or it writes, opens or reads it
pub data Reach : Type 0 where
  off_disk : Reach
  writes_disk : Reach
  opens_disk : Reach
  reads_disk : Reach

abbrev pub reach_of : Command → Reach
reach_of (commands.Commit note) = writes_disk
reach_of commands.Reopen = opens_disk
reach_of commands.Revert = reads_disk
reach_of _ = off_disk
