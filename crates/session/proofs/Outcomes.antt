-- What comes of a command, where the session is shut and where it is not.
use Rattle.std.proofs.Common.{◌≡◌, ℕ, eqb, Bool, true, false, cond, ◌&&◌, List, ◌++◌, length, Option, Some, None, Result, Ok, Err, refl, ap, sym, subst, inl, inr}
use Rattle.std.specs.Prelude.{codes, not, if◌then◌else◌}
use Rattle.computing.specs.Computed.{without_computed}
use Rattle.computing.specs.declared.computed.Computation.{Computation}
use Rattle.expr_text.specs.Queries.{Query}
use Rattle.watches.specs.Watches.{is_watch, without_watch}
use Rattle.questions.specs.Operations.{computed_by}
use Rattle.cmd_text.specs.Replies.{lines_text, reply_bytes, reply_line}
use Rattle.cmd_text.specs.declared.command.Command.{Command}
use Rattle.cmd_text.specs.declared.command.Command.TheVariants as commands
use Rattle.cmd_text.specs.declared.refusal.Refusal.{Refusal}
use Rattle.cmd_text.specs.declared.refusal.Refusal.TheVariants.{NoName, Shut}
use Rattle.cmd_text.specs.declared.reply.Reply.{Reply}
use Rattle.cmd_text.specs.declared.reply.Reply.TheVariants.{Count, Refused}
use Rattle.host_io.specs.Outside.{Outside}
use Rattle.lines.specs.Machine.{State}
use Rattle.lines.specs.Served.{state_of}
use Rattle.storage.specs.Stored.{Stored, is_shut}
use Rattle.view_store.specs.Views.{NamedTable}
use Rattle.viewers.specs.Meanings.{Meaning}
use Rattle.session.specs.Answered.{Answered, IsGiven}
use Rattle.expr_text.specs.Meanings.{query_of}
use Rattle.keyed_views.specs.declared.keyed.KeyedEdit.{KeyedEdit}
use Rattle.keyed_views.specs.Mapped.{MappedView}
use Rattle.mk_value.specs.Data.{Datum}
use Rattle.mk_value.specs.LiteralValues.{literal_of}
use Rattle.mk_value.specs.Paths.{Route}
use Rattle.mk_value.specs.Tables.{Table}
use Rattle.session.specs.Keyed.{line_by_key, mapping_on, put_edits, put_line}
use Rattle.questions.specs.Answers.{answer, rows_due, size_due}
use Rattle.questions.specs.Cursors.{next_due, previous_due, row_due, standing_of}
use Rattle.questions.specs.Places.{find_due, locate_due, search_due}
use Rattle.questions.specs.declared.cursor.Standing.{Standing}
use Rattle.questions.specs.declared.error.QuestionError.{QuestionError}
use Rattle.session.specs.Carried.{Carried, Comes, LeavesDiskBy, LeavesDiskFor}
use Rattle.session.specs.Commands.{Outcome, Reach, add_in, gives, commits, goes_when_shut, insert_in, moved_in, off_disk, outcome_in, outcome_of, reach_of, refused, reopens, reverts, set_in, set_on, told, unless_due, unwatched, watch_in, with_cursor, with_snapshot}
use Rattle.session.specs.Disk.{LeavesDisk}
use Rattle.session.specs.Naming.{max_cursors, max_snapshots, new_name_due}
use Rattle.session.specs.Questions.{located_reply, names_in, place_reply, refusal_of_question}
use Rattle.session.specs.World.{World, kept_names, with_tables}
use Rattle.session.proofs.Ready.{SameFile}

shut_or_not : (shut goes : Bool) (one two : Outcome) → (shut && not goes) ≡ false → (if shut && not goes then one else two) ≡ two
shut_or_not shut goes one two e = ap (λ b. cond b one two) e

-- a session that is not shut, or a command that goes all the same
pub outcome_open : (viewers : List Meaning) (w : World) (command : Command) → (is_shut w.store && not (goes_when_shut command)) ≡ false → outcome_of viewers w command ≡ outcome_in viewers w command
outcome_open viewers w command e = shut_or_not (is_shut w.store) (goes_when_shut command) (refused Shut w) (outcome_in viewers w command) e

pub outcome_shut : (viewers : List Meaning) (w : World) (command : Command) → (is_shut w.store && not (goes_when_shut command)) ≡ true → outcome_of viewers w command ≡ refused Shut w
outcome_shut viewers w command e = ap (λ b. cond b (refused Shut w) (outcome_in viewers w command)) e

pub open_goes : (s : Stored) (goes : Bool) → is_shut s ≡ false → (is_shut s && not goes) ≡ false
open_goes s goes e = ap (λ b. b && not goes) e

pub goes_always : (shut goes : Bool) → goes ≡ true → (shut && not goes) ≡ false
goes_always true goes e = ap not e
goes_always false goes e = refl

-- a command that is none of those that reach the disk reaches none
pub unreached : (command : Command) → ((note : List ℕ) → command ≡ commands.Commit note → ⊥) → (command ≡ commands.Reopen → ⊥) → (command ≡ commands.Revert → ⊥) → reach_of command ≡ off_disk
unreached (commands.Commit note) commit reopen revert = absurd (commit note refl)
unreached commands.Reopen commit reopen revert = absurd (reopen refl)
unreached commands.Revert commit reopen revert = absurd (revert refl)
unreached command commit reopen revert = refl

-- no call of the disk was made
pub still : {known : Type 0} (old new : World) (outside : Outside) → LeavesDisk known (state_of old outside) (state_of new outside)
still old new outside = record { bytes = λ _. refl; faults = refl }

module _ (known : Type 0) (outside : Outside) where
  pub given_comes : (o : Outcome) (old : World) (reply : List ℕ) (new : World) → IsGiven o reply new → Comes known o (state_of old outside) reply (state_of new outside)
  given_comes (gives said left) old reply new given = record { answer = given.0; world = given.1; disk = still old new outside }
  given_comes (commits note) old reply new given = absurd given
  given_comes reopens old reply new given = absurd given
  given_comes reverts old reply new given = absurd given

  -- a refusal that is due
  pub refused_comes : (refusal : Refusal) (w : World) (reply : List ℕ) (o : Outcome) → o ≡ refused refusal w → reply ≡ reply_bytes (Refused refusal) → Comes known o (state_of w outside) reply (state_of w outside)
  refused_comes refusal w reply o is answer =
      subst (λ (x : Outcome). Comes known x (state_of w outside) reply (state_of w outside)) (sym is) (record { answer = answer; world = refl; disk = still w w outside })

  without_disk : (command : Command) (old new : State World) → reach_of command ≡ off_disk → LeavesDisk known old new → LeavesDiskFor known command old new
  without_disk command old new none leaves = subst (λ (reach : Reach). LeavesDiskBy known reach old new) (sym none) leaves

  -- what a command that reaches no disk is answered
  pub answered_carried : (viewers : List Meaning) (command : Command) (old : World) (reply : Reply) (new : World) → outcome_of viewers old command ≡ outcome_in viewers old command → reach_of command ≡ off_disk
      → Answered viewers command old reply new → Carried known viewers command (state_of old outside) (reply_bytes reply) (state_of new outside)
  answered_carried viewers command old reply new is none answered = elim answered.answers [
    | inl given ↦ inl (subst (λ (x : Outcome). Comes known x (state_of old outside) (reply_bytes reply) (state_of new outside)) (sym is) (given_comes (outcome_in viewers old command) old (reply_bytes reply) new given))
    | inr memory ↦ inr (record {
      takes = memory.1;
      answer = ap reply_bytes memory.0;
      world = memory.2;
      disk = without_disk command (state_of old outside) (state_of new outside) none (still old new outside);
    })
  ]

-- the file is the same after a command that reaches no disk
same_world : (w new left : World) → new ≡ left → SameFile w.store left.store → SameFile w.store new.store
same_world w new left is same = subst (λ (x : World). SameFile w.store x.store) (sym is) same

nothing_changed : (w : World) → SameFile w.store w.store
nothing_changed w = record { kept = refl; before = refl; attempted = refl; slot = refl; other = refl; mode = refl }

given_left : (w left new : World) (said reply : List ℕ) → IsGiven (gives said left) reply new → SameFile w.store left.store → SameFile w.store new.store
given_left w left new said reply given same = same_world w new left given.1 same

given_or_refused : (due : Option Refusal) (w new : World) (done : Outcome) (reply : List ℕ) → (IsGiven done reply new → ⊥) → IsGiven (unless_due due w done) reply new → SameFile w.store new.store
given_or_refused None w new done reply never given = absurd (never given)
given_or_refused (Some refusal) w new done reply never given = given_left w w new (reply_bytes (Refused refusal)) reply given (nothing_changed w)

given_unless : (due : Option Refusal) (w left new : World) (said reply : List ℕ) → IsGiven (unless_due due w (gives said left)) reply new → SameFile w.store left.store → SameFile w.store new.store
given_unless None w left new said reply given same = given_left w left new said reply given same
given_unless (Some refusal) w left new said reply given same = given_left w w new (reply_bytes (Refused refusal)) reply given (nothing_changed w)

changed_views : (w : World) (views : List NamedTable) → SameFile w.store (with_tables w views).store
changed_views w views = record { kept = refl; before = refl; attempted = refl; slot = refl; other = refl; mode = refl }

-- an answer that changes nothing
nothing_given : (w new : World) (said reply : List ℕ) → IsGiven (gives said w) reply new → SameFile w.store new.store
nothing_given w new said reply given = given_left w w new said reply given (nothing_changed w)

given_told : {X : Type 0} (due : Result X QuestionError) (said : X → List ℕ) (w new : World) (reply : List ℕ) → IsGiven (told due w (λ x. gives (said x) w)) reply new → SameFile w.store new.store
given_told (Ok x) said w new reply given = nothing_given w new (said x) reply given
given_told (Err e) said w new reply given = nothing_given w new (reply_bytes (Refused (refusal_of_question e))) reply given

given_moved : (due : Result ℕ QuestionError) (w new : World) (reply name : List ℕ) → IsGiven (told due w (λ place. gives (reply_bytes (Count place)) (moved_in w name place))) reply new → SameFile w.store new.store
given_moved (Ok place) w new reply name given = given_left w (moved_in w name place) new (reply_bytes (Count place)) reply given (nothing_changed w)
given_moved (Err e) w new reply name given = nothing_given w new (reply_bytes (Refused (refusal_of_question e))) reply given

given_dup : (due : Result Table QuestionError) (w new : World) (reply name : List ℕ)
    → IsGiven (told due w (λ t. unless_due (new_name_due w name (length w.snapshots) max_snapshots) w (gives (reply_bytes (Count (length t.rows))) (with_snapshot w name t)))) reply new
    → SameFile w.store new.store
given_dup (Ok t) w new reply name given =
    given_unless (new_name_due w name (length w.snapshots) max_snapshots) w (with_snapshot w name t) new (reply_bytes (Count (length t.rows))) reply given (nothing_changed w)
given_dup (Err e) w new reply name given = nothing_given w new (reply_bytes (Refused (refusal_of_question e))) reply given

given_set : (o : Option Standing) (w new : World) (reply name target : List ℕ) → IsGiven (set_on o w name target) reply new → SameFile w.store new.store
given_set None w new reply name target given = nothing_given w new (reply_bytes (Refused NoName)) reply given
given_set (Some standing) w new reply name target given =
    given_unless (new_name_due w name (length w.cursors) max_cursors) w (with_cursor w name target standing) new (reply_bytes (Count 0)) reply given (nothing_changed w)

-- watches that come and go
given_watch : (o : Option Computation) (viewers : List Meaning) (w new : World) (reply name : List ℕ) (q : Query) → IsGiven (watch_in o viewers w name q) reply new → SameFile w.store new.store
given_watch None viewers w new reply name q given = given_unless _ w _ new _ reply given (nothing_changed w)
given_watch (Some shows) viewers w new reply name q given = given_unless _ w _ new _ reply given (nothing_changed w)

unwatched_same : (w : World) (name : List ℕ) → SameFile w.store (unwatched w name).store
unwatched_same w name = either (is_watch w.watches name)
  where
    either : (b : Bool) → SameFile w.store (cond b (record w { watches = without_watch w.watches name }) (record w { computed = without_computed w.computed name })).store
    either true = nothing_changed w
    either false = nothing_changed w

-- rows that come, by key or not
given_add : (o : Option MappedView) (w new : World) (reply : List ℕ) (route : Route) (literals : List Datum) → IsGiven (add_in o w route literals) reply new → SameFile w.store new.store
given_add None w new reply route literals given = given_unless _ w _ new _ reply given (changed_views w _)
given_add (Some m) w new reply route literals given = given_unless _ w _ new _ reply given (changed_views w _)

put_same : (w : World) (route : Route) (copies : ℕ) (row : List Datum) (e : KeyedEdit) → SameFile w.store (put_line w route copies row e).store
put_same w route copies row e = either (eqb copies 0)
  where
    either : (b : Bool) → SameFile w.store (cond b w (line_by_key w route e (put_edits row e))).store
    either true = nothing_changed w
    either false = changed_views w _

given_insert : (o : Option MappedView) (w new : World) (reply : List ℕ) (route : Route) (place copies : ℕ) (literals : List Datum) → IsGiven (insert_in o w route place copies literals) reply new → SameFile w.store new.store
given_insert None w new reply route place copies literals given = given_unless _ w _ new _ reply given (changed_views w _)
given_insert (Some m) w new reply route place copies literals given = given_unless _ w _ new _ reply given (put_same w route copies _ _)

given_value : (o : Option MappedView) (w new : World) (reply : List ℕ) (route : Route) (row : ℕ) (prop : List ℕ) (literal : Datum) → IsGiven (set_in o w route row prop literal) reply new → SameFile w.store new.store
given_value None w new reply route row prop literal given = given_unless _ w _ new _ reply given (changed_views w _)
given_value (Some m) w new reply route row prop literal given = given_unless _ w _ new _ reply given (changed_views w _)

pub given_same : (viewers : List Meaning) (command : Command) (w : World) (reply : List ℕ) (new : World) → IsGiven (outcome_in viewers w command) reply new → SameFile w.store new.store
given_same viewers commands.Nothing w reply new given = given_left w _ new _ reply given (nothing_changed w)
given_same viewers (commands.Getas name schema) w reply new given = given_unless _ w _ new _ reply given (changed_views w _)
given_same viewers (commands.Drop name) w reply new given = given_unless _ w _ new _ reply given (changed_views w _)
given_same viewers commands.Struct w reply new given = given_left w _ new _ reply given (nothing_changed w)
given_same viewers (commands.Add route literals) w reply new given = given_add (mapping_on w route) w new reply route literals given
given_same viewers (commands.Insert route place copies literals) w reply new given = given_insert (mapping_on w route) w new reply route place copies literals given
given_same viewers (commands.Set route row prop literal) w reply new given = given_value (mapping_on w route) w new reply route row prop (literal_of literal) given
given_same viewers (commands.Remove route place rows) w reply new given = given_unless _ w _ new _ reply given (changed_views w _)
given_same viewers (commands.Size e) w reply new given = given_told (size_due (names_in w viewers) viewers (query_of e)) (λ size. reply_bytes (Count size)) w new reply given
given_same viewers (commands.Show e) w reply new given = given_told (rows_due (names_in w viewers) viewers (query_of e)) lines_text w new reply given
given_same viewers (commands.Find e start criteria) w reply new given =
    given_told (find_due (names_in w viewers) viewers (query_of e) start criteria) (λ place. reply_bytes (place_reply place)) w new reply given
given_same viewers (commands.Search e criteria) w reply new given =
    given_told (search_due (names_in w viewers) w.watches w.mappings viewers (query_of e) criteria) (λ place. reply_bytes (Count place)) w new reply given
given_same viewers (commands.Locate e criteria) w reply new given =
    given_told (locate_due (names_in w viewers) w.watches w.mappings viewers (query_of e) criteria) (λ at. reply_bytes (located_reply at)) w new reply given
given_same viewers (commands.Dup name e) w reply new given = given_dup (answer (names_in w viewers) viewers (query_of e)) w new reply name given
given_same viewers (commands.Undup name) w reply new given = given_unless _ w _ new _ reply given (nothing_changed w)
given_same viewers (commands.Cursor name target) w reply new given = given_set (standing_of (kept_names w) w.computed target) w new reply name target given
given_same viewers (commands.Uncursor name) w reply new given = given_unless _ w _ new _ reply given (nothing_changed w)
given_same viewers (commands.Next name) w reply new given = given_moved (next_due (kept_names w) viewers w.computed w.cursors name) w new reply name given
given_same viewers (commands.Prev name) w reply new given = given_moved (previous_due (kept_names w) viewers w.computed w.cursors name) w new reply name given
given_same viewers (commands.Row name) w reply new given =
    given_told (row_due (kept_names w) viewers w.computed w.cursors name) (λ text. reply_line (codes "ok " ++ text)) w new reply given
given_same viewers (commands.Commit note) w reply new given = given_or_refused _ w new (commits note) reply (λ never. never) given
given_same viewers commands.Log w reply new given = given_left w _ new _ reply given (nothing_changed w)
given_same viewers commands.Rollback w reply new given = given_left w _ new _ reply given (changed_views w _)
given_same viewers commands.Reopen w reply new given = absurd given
given_same viewers commands.Revert w reply new given = given_or_refused _ w new reverts reply (λ never. never) given
given_same viewers commands.Space w reply new given = given_left w _ new _ reply given (nothing_changed w)
given_same viewers commands.Quit w reply new given = given_left w _ new _ reply given (nothing_changed w)
given_same viewers (commands.Watch name e) w reply new given = given_watch (computed_by (query_of e)) viewers w new reply name (query_of e) given
given_same viewers (commands.Unwatch name) w reply new given = given_unless _ w _ new _ reply given (unwatched_same w name)
given_same viewers (commands.Hash name keys) w reply new given = given_unless _ w _ new _ reply given (nothing_changed w)
given_same viewers (commands.Ordered name keys) w reply new given = given_unless _ w _ new _ reply given (nothing_changed w)
given_same viewers (commands.Unmap name) w reply new given = given_unless _ w _ new _ reply given (nothing_changed w)

pub answered_same : (viewers : List Meaning) (command : Command) (w : World) (reply : Reply) (new : World) → Answered viewers command w reply new → SameFile w.store new.store
answered_same viewers command w reply new answered = elim answered.answers [
  | inl given ↦ given_same viewers command w (reply_bytes reply) new given
  | inr memory ↦ same_world w new w memory.2 (nothing_changed w)
]
