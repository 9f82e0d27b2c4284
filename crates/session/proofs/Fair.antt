-- No reply that tells of a change is that of want of memory.
use Rattle.std.proofs.Common.{◌≡◌, ℕ, Bool, true, false, cond, ◌&&◌, ◌⊎◌, inl, inr, List, [], ◌∷◌, ◌++◌, length, Option, Some, None, Result, Ok, Err, refl, ap, arith}
use Rattle.std.specs.Prelude.{codes, not}
use Rattle.cmd_text.specs.Replies.{lines_text, reply_bytes, reply_line}
use Rattle.cmd_text.specs.declared.command.Command.{Command}
use Rattle.cmd_text.specs.declared.command.Command.TheVariants as commands
use Rattle.cmd_text.specs.declared.refusal.Refusal.{Refusal}
use Rattle.cmd_text.specs.declared.refusal.Refusal.TheVariants.{Memory, NoName, Shut}
use Rattle.cmd_text.specs.declared.refusal.Refusal.TheVariants as refusals
use Rattle.cmd_text.specs.declared.reply.Reply.TheVariants.{Count, Refused}
use Rattle.expr_text.specs.Meanings.{query_of}
use Rattle.expr_text.specs.Queries.{Query}
use Rattle.computing.specs.declared.computed.Computation.{Computation}
use Rattle.keyed_views.specs.Mapped.{MappedView}
use Rattle.mk_value.specs.Data.{Datum}
use Rattle.mk_value.specs.LiteralValues.{literal_of}
use Rattle.mk_value.specs.Paths.{Route}
use Rattle.mk_value.specs.Tables.{Table}
use Rattle.questions.specs.Answers.{answer, rows_due, size_due}
use Rattle.questions.specs.Cursors.{next_due, previous_due, row_due, standing_of}
use Rattle.questions.specs.Operations.{computed_by}
use Rattle.questions.specs.Places.{find_due, locate_due, search_due}
use Rattle.questions.specs.declared.cursor.Standing.{Standing}
use Rattle.questions.specs.declared.error.QuestionError.{QuestionError}
use Rattle.storage.specs.Stored.{is_shut}
use Rattle.viewers.specs.Meanings.{Meaning}
use Rattle.session.specs.Commands.{Outcome, Reach, add_in, commit_due, commits, gives, goes_when_shut, insert_in, moved_in, off_disk, opens_disk, outcome_in, outcome_of, reach_of, reads_disk, refused, revert_due, reverts, set_in, set_on, told, unless_due, watch_in, with_snapshot, writes_disk}
use Rattle.session.specs.Keyed.{mapping_on}
use Rattle.session.specs.Naming.{max_snapshots, new_name_due}
use Rattle.session.specs.Questions.{located_reply, names_in, place_reply}
use Rattle.session.specs.World.{World, kept_names}

-- The first byte of a reply tells whether it is a refusal.
abbrev pub first : List ℕ → ℕ
first [] = 0
first (byte ∷ bytes) = byte

pub refused_begins : (refusal : Refusal) → first (reply_bytes (Refused refusal)) ≡ 101
refused_begins refusals.Memory = refl
refused_begins refusal = refl

pub accepted_or_refused : (said : List ℕ) (refusal : Refusal) → first said ≡ 111 → ¬ (said ≡ reply_bytes (Refused refusal))
accepted_or_refused said refusal accepted same =
    let e = ap first same in
    let r = refused_begins refusal in
    absurd (omega (arith, accepted, e, r))

-- What is given changes nothing, or is not said as want of memory is; and what is not given comes to the disk.
abbrev pub IsFair : World → Reach → Outcome → Type 0
IsFair w reach (gives said left) = (left ≡ w) ⊎ (¬ (said ≡ reply_bytes (Refused Memory)))
IsFair w reach _ = ¬ (reach ≡ off_disk)

fair_accepted : (w left : World) (said : List ℕ) → first said ≡ 111 → IsFair w off_disk (gives said left)
fair_accepted w left said accepted = inr (accepted_or_refused said Memory accepted)

fair_unless : (reach : Reach) (due : Option Refusal) (w : World) (done : Outcome) → IsFair w reach done → IsFair w reach (unless_due due w done)
fair_unless reach (Some refusal) w done fair = inl refl
fair_unless reach None w done fair = fair

fair_change : (due : Option Refusal) (w left : World) (said : List ℕ) → first said ≡ 111 → IsFair w off_disk (unless_due due w (gives said left))
fair_change due w left said accepted = fair_unless off_disk due w (gives said left) (fair_accepted w left said accepted)

-- a look changes nothing
fair_look : {X : Type 0} (due : Result X QuestionError) (said : X → List ℕ) (w : World) → IsFair w off_disk (told due w (λ x. gives (said x) w))
fair_look (Ok x) said w = inl refl
fair_look (Err e) said w = inl refl

-- snapshots that come, and cursors that move
fair_dup : (due : Result Table QuestionError) (w : World) (name : List ℕ)
    → IsFair w off_disk (told due w (λ t. unless_due (new_name_due w name (length w.snapshots) max_snapshots) w (gives (reply_bytes (Count (length t.rows))) (with_snapshot w name t))))
fair_dup (Ok t) w name = fair_change _ w _ _ refl
fair_dup (Err e) w name = inl refl

fair_moved : (due : Result ℕ QuestionError) (w : World) (name : List ℕ) → IsFair w off_disk (told due w (λ place. gives (reply_bytes (Count place)) (moved_in w name place)))
fair_moved (Ok place) w name = fair_accepted w _ _ refl
fair_moved (Err e) w name = inl refl

-- rows that come, by key or not
fair_add : (m : Option MappedView) (w : World) (route : Route) (literals : List Datum) → IsFair w off_disk (add_in m w route literals)
fair_add None w route literals = fair_change _ w _ _ refl
fair_add (Some m) w route literals = fair_change _ w _ _ refl

fair_insert : (m : Option MappedView) (w : World) (route : Route) (place copies : ℕ) (literals : List Datum) → IsFair w off_disk (insert_in m w route place copies literals)
fair_insert None w route place copies literals = fair_change _ w _ _ refl
fair_insert (Some m) w route place copies literals = fair_change _ w _ _ refl

fair_set : (m : Option MappedView) (w : World) (route : Route) (row : ℕ) (prop : List ℕ) (literal : Datum) → IsFair w off_disk (set_in m w route row prop literal)
fair_set None w route row prop literal = fair_change _ w _ _ refl
fair_set (Some m) w route row prop literal = fair_change _ w _ _ refl

-- cursors and watches that come
fair_cursor : (standing : Option Standing) (w : World) (name target : List ℕ) → IsFair w off_disk (set_on standing w name target)
fair_cursor None w name target = inl refl
fair_cursor (Some standing) w name target = fair_change _ w _ _ refl

fair_watch : (o : Option Computation) (viewers : List Meaning) (w : World) (name : List ℕ) (q : Query) → IsFair w off_disk (watch_in o viewers w name q)
fair_watch None viewers w name q = fair_change _ w _ _ refl
fair_watch (Some c) viewers w name q = fair_change _ w _ _ refl

-- commands that come to the disk
writes : ¬ (writes_disk ≡ off_disk)
writes same = let e : ◌≡◌ {A = Reach} writes_disk off_disk = same in cc

pub opens : ¬ (opens_disk ≡ off_disk)
opens same = let e : ◌≡◌ {A = Reach} opens_disk off_disk = same in cc

pub reads : ¬ (reads_disk ≡ off_disk)
reads same = let e : ◌≡◌ {A = Reach} reads_disk off_disk = same in cc

fair_in : (viewers : List Meaning) (w : World) (command : Command) → IsFair w (reach_of command) (outcome_in viewers w command)
fair_in viewers w commands.Nothing = inl refl
fair_in viewers w (commands.Getas name schema) = fair_change _ w _ _ refl
fair_in viewers w (commands.Drop name) = fair_change _ w _ _ refl
fair_in viewers w commands.Struct = inl refl
fair_in viewers w (commands.Add route literals) = fair_add (mapping_on w route) w route literals
fair_in viewers w (commands.Insert route place copies literals) = fair_insert (mapping_on w route) w route place copies literals
fair_in viewers w (commands.Set route row prop literal) = fair_set (mapping_on w route) w route row prop (literal_of literal)
fair_in viewers w (commands.Remove route place rows) = fair_change _ w _ _ refl
fair_in viewers w (commands.Size e) = fair_look (size_due (names_in w viewers) viewers (query_of e)) (λ size. reply_bytes (Count size)) w
fair_in viewers w (commands.Show e) = fair_look (rows_due (names_in w viewers) viewers (query_of e)) lines_text w
fair_in viewers w (commands.Find e start criteria) =
    fair_look (find_due (names_in w viewers) viewers (query_of e) start criteria) (λ place. reply_bytes (place_reply place)) w
fair_in viewers w (commands.Search e criteria) =
    fair_look (search_due (names_in w viewers) w.watches w.mappings viewers (query_of e) criteria) (λ place. reply_bytes (Count place)) w
fair_in viewers w (commands.Locate e criteria) =
    fair_look (locate_due (names_in w viewers) w.watches w.mappings viewers (query_of e) criteria) (λ found. reply_bytes (located_reply found)) w
fair_in viewers w (commands.Dup name e) = fair_dup (answer (names_in w viewers) viewers (query_of e)) w name
fair_in viewers w (commands.Undup name) = fair_change _ w _ _ refl
fair_in viewers w (commands.Watch name e) = fair_watch (computed_by (query_of e)) viewers w name (query_of e)
fair_in viewers w (commands.Unwatch name) = fair_change _ w _ _ refl
fair_in viewers w (commands.Hash name keys) = fair_change _ w _ _ refl
fair_in viewers w (commands.Ordered name keys) = fair_change _ w _ _ refl
fair_in viewers w (commands.Unmap name) = fair_change _ w _ _ refl
fair_in viewers w (commands.Cursor name target) = fair_cursor (standing_of (kept_names w) w.computed target) w name target
fair_in viewers w (commands.Uncursor name) = fair_change _ w _ _ refl
fair_in viewers w (commands.Next name) = fair_moved (next_due (kept_names w) viewers w.computed w.cursors name) w name
fair_in viewers w (commands.Prev name) = fair_moved (previous_due (kept_names w) viewers w.computed w.cursors name) w name
fair_in viewers w (commands.Row name) = fair_look (row_due (kept_names w) viewers w.computed w.cursors name) (λ text. reply_line (codes "ok " ++ text)) w
fair_in viewers w (commands.Commit note) = fair_unless writes_disk (commit_due w.store) w (commits note) writes
fair_in viewers w commands.Log = inl refl
fair_in viewers w commands.Rollback = fair_accepted w _ _ refl
fair_in viewers w commands.Reopen = opens
fair_in viewers w commands.Revert = fair_unless reads_disk (revert_due w.store) w reverts reads
fair_in viewers w commands.Space = inl refl
fair_in viewers w commands.Quit = inl refl

fair_either : (shut : Bool) (reach : Reach) (w : World) (done : Outcome) → IsFair w reach done → IsFair w reach (cond shut (refused Shut w) done)
fair_either true reach w done fair = inl refl
fair_either false reach w done fair = fair

pub fair_of : (viewers : List Meaning) (w : World) (command : Command) → IsFair w (reach_of command) (outcome_of viewers w command)
fair_of viewers w command = fair_either (is_shut w.store && not (goes_when_shut command)) (reach_of command) w (outcome_in viewers w command) (fair_in viewers w command)
