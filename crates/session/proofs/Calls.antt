-- What comes of a command is what comes of its call: of its word and its arguments.
use Rattle.std.proofs.Common.{◌≡◌, ℕ, Bool, true, false, cond, ◌&&◌, ◌||◌, List, [], ◌∷◌, length, Option, Some, None, refl, ap, sym, ◌∙◌, pos}
use Rattle.std.specs.Prelude.{codes, not, slice_index_or, if◌then◌else◌}
use Rattle.cmd_text.specs.Arguments as arguments
use Rattle.cmd_text.specs.Arguments.{Argument, Last}
use Rattle.cmd_text.specs.Grammar as calls
use Rattle.cmd_text.specs.Grammar.{Call, call_of}
use Rattle.cmd_text.specs.Replies.{lines_text, reply_bytes}
use Rattle.cmd_text.specs.Words.{word_of}
use Rattle.cmd_text.specs.declared.command.Command.{Command}
use Rattle.cmd_text.specs.declared.command.Command.TheVariants as commands
use Rattle.cmd_text.specs.declared.refusal.Refusal.TheVariants.{Shut}
use Rattle.cmd_text.specs.declared.reply.Reply.TheVariants.{Count}
use Rattle.expr_text.specs.Arguments.{Criterion}
use Rattle.expr_text.specs.Queries.{Query}
use Rattle.mk_value.specs.Data.{Datum}
use Rattle.mk_value.specs.Names.{same_bytes}
use Rattle.mk_value.specs.Paths.{Route}
use Rattle.questions.specs.Answers.{answer, rows_due, size_due}
use Rattle.questions.specs.Operations.{computed_by}
use Rattle.questions.specs.Places.{find_due, locate_due, search_due}
use Rattle.storage.specs.Stored.{is_shut}
use Rattle.viewers.specs.Meanings.{Meaning}
use Rattle.session.specs.Commands.{Outcome, gives, goes_when_shut, outcome_in, outcome_of, refused, reopens, set_in, told, unless_due, watch_in, with_snapshot}
use Rattle.session.specs.Keyed.{mapping_on}
use Rattle.session.specs.Naming.{max_snapshots, new_name_due}
use Rattle.session.specs.Questions.{located_reply, names_in, place_reply}
use Rattle.session.specs.World.{World}

-- what stands in an argument that is of this sort
abbrev name_in : Argument → List ℕ
name_in (arguments.name letters) = letters
name_in _ = []

abbrev count_in : Argument → ℕ
count_in (arguments.count n) = n
count_in _ = 0

abbrev path_in : Argument → Route
path_in (arguments.path route) = route
path_in _ = record { name = []; steps = [] }

abbrev literal_in : Argument → Datum
literal_in (arguments.literal d) = d
literal_in _ = Datum.integer (pos 0)

-- and in what stands last
abbrev values_in : Last → List Datum
values_in (arguments.values list) = list
values_in _ = []

abbrev criteria_in : Last → List Criterion
criteria_in (arguments.criteria list) = list
criteria_in _ = []

abbrev note_in : Last → List ℕ
note_in (arguments.note content) = content
note_in _ = []

-- the argument at a place
abbrev at : List Argument → ℕ → Argument
at list k = slice_index_or list k (arguments.count 0)

-- what stands in an argument that is a question
abbrev query_in : Argument → Option Query
query_in (arguments.expression q) = Some q
query_in (arguments.operation q) = Some q
query_in _ = None

-- what comes of a question, where there is one
abbrev asked : Option Query → (Query → Outcome) → Outcome
asked (Some q) comes = comes q
asked None comes = reopens

-- a word, and what comes of it with arguments
record Word : Type 0 where
  letters : List ℕ
  comes : List Argument → Last → Outcome

-- what comes of each word
abbrev words : List Meaning → World → List Word
words viewers w =
    record { letters = codes "drop"; comes = λ list last. outcome_in viewers w (commands.Drop (name_in (at list 0))) }
    ∷ record { letters = codes "struct"; comes = λ list last. outcome_in viewers w commands.Struct }
    ∷ record { letters = codes "add"; comes = λ list last. outcome_in viewers w (commands.Add (path_in (at list 0)) (values_in last)) }
    ∷ record { letters = codes "insert"; comes = λ list last. outcome_in viewers w (commands.Insert (path_in (at list 0)) (count_in (at list 1)) (count_in (at list 2)) (values_in last)) }
    ∷ record {
      letters = codes "set";
      comes = λ list last. set_in (mapping_on w (path_in (at list 0))) w (path_in (at list 0)) (count_in (at list 1)) (name_in (at list 2)) (literal_in (at list 3));
    }
    ∷ record { letters = codes "remove"; comes = λ list last. outcome_in viewers w (commands.Remove (path_in (at list 0)) (count_in (at list 1)) (count_in (at list 2))) }
    ∷ record { letters = codes "size"; comes = λ list last. asked (query_in (at list 0)) (λ q. told (size_due (names_in w viewers) viewers q) w (λ size. gives (reply_bytes (Count size)) w)) }
    ∷ record { letters = codes "show"; comes = λ list last. asked (query_in (at list 0)) (λ q. told (rows_due (names_in w viewers) viewers q) w (λ rows. gives (lines_text rows) w)) }
    ∷ record {
      letters = codes "find";
      comes = λ list last. asked (query_in (at list 0)) (λ q.
          told (find_due (names_in w viewers) viewers q (count_in (at list 1)) (criteria_in last)) w (λ place. gives (reply_bytes (place_reply place)) w));
    }
    ∷ record {
      letters = codes "search";
      comes = λ list last. asked (query_in (at list 0)) (λ q.
          told (search_due (names_in w viewers) w.watches w.mappings viewers q (criteria_in last)) w (λ place. gives (reply_bytes (Count place)) w));
    }
    ∷ record {
      letters = codes "locate";
      comes = λ list last. asked (query_in (at list 0)) (λ q.
          told (locate_due (names_in w viewers) w.watches w.mappings viewers q (criteria_in last)) w (λ found. gives (reply_bytes (located_reply found)) w));
    }
    ∷ record {
      letters = codes "dup";
      comes = λ list last. asked (query_in (at list 1)) (λ q.
          told (answer (names_in w viewers) viewers q) w (λ t.
          unless_due (new_name_due w (name_in (at list 0)) (length w.snapshots) max_snapshots) w
          (gives (reply_bytes (Count (length t.rows))) (with_snapshot w (name_in (at list 0)) t))));
    }
    ∷ record { letters = codes "undup"; comes = λ list last. outcome_in viewers w (commands.Undup (name_in (at list 0))) }
    ∷ record { letters = codes "watch"; comes = λ list last. asked (query_in (at list 1)) (λ q. watch_in (computed_by q) viewers w (name_in (at list 0)) q) }
    ∷ record { letters = codes "unwatch"; comes = λ list last. outcome_in viewers w (commands.Unwatch (name_in (at list 0))) }
    ∷ record { letters = codes "hash"; comes = λ list last. outcome_in viewers w (commands.Hash (name_in (at list 0)) (count_in (at list 1))) }
    ∷ record { letters = codes "ordered"; comes = λ list last. outcome_in viewers w (commands.Ordered (name_in (at list 0)) (count_in (at list 1))) }
    ∷ record { letters = codes "unmap"; comes = λ list last. outcome_in viewers w (commands.Unmap (name_in (at list 0))) }
    ∷ record { letters = codes "cursor"; comes = λ list last. outcome_in viewers w (commands.Cursor (name_in (at list 0)) (name_in (at list 1))) }
    ∷ record { letters = codes "uncursor"; comes = λ list last. outcome_in viewers w (commands.Uncursor (name_in (at list 0))) }
    ∷ record { letters = codes "next"; comes = λ list last. outcome_in viewers w (commands.Next (name_in (at list 0))) }
    ∷ record { letters = codes "prev"; comes = λ list last. outcome_in viewers w (commands.Prev (name_in (at list 0))) }
    ∷ record { letters = codes "row"; comes = λ list last. outcome_in viewers w (commands.Row (name_in (at list 0))) }
    ∷ record { letters = codes "commit"; comes = λ list last. outcome_in viewers w (commands.Commit (note_in last)) }
    ∷ record { letters = codes "log"; comes = λ list last. outcome_in viewers w commands.Log }
    ∷ record { letters = codes "rollback"; comes = λ list last. outcome_in viewers w commands.Rollback }
    ∷ record { letters = codes "reopen"; comes = λ list last. outcome_in viewers w commands.Reopen }
    ∷ record { letters = codes "revert"; comes = λ list last. outcome_in viewers w commands.Revert }
    ∷ record { letters = codes "space"; comes = λ list last. outcome_in viewers w commands.Space }
    ∷ record { letters = codes "quit"; comes = λ list last. outcome_in viewers w commands.Quit }
    ∷ []

-- the word of these letters
abbrev word_found : List Word → List ℕ → Word
word_found [] letters = record { letters = letters; comes = λ list last. reopens }
word_found (word ∷ rest) letters = if same_bytes word.letters letters then word else word_found rest letters

-- what comes of a call
abbrev by_call : List Meaning → World → Call → Outcome
by_call viewers w calls.nothing = outcome_in viewers w commands.Nothing
by_call viewers w (calls.structure name schema) = outcome_in viewers w (commands.Getas name schema)
by_call viewers w (calls.call verb list last) = (word_found (words viewers w) (word_of verb)).comes list last

comes_by_call : (viewers : List Meaning) (w : World) (command : Command) → outcome_in viewers w command ≡ by_call viewers w (call_of command)
comes_by_call viewers w commands.Nothing = refl
comes_by_call viewers w (commands.Getas name schema) = refl
comes_by_call viewers w (commands.Drop name) = refl
comes_by_call viewers w commands.Struct = refl
comes_by_call viewers w (commands.Add route literals) = refl
comes_by_call viewers w (commands.Insert route place copies literals) = refl
comes_by_call viewers w (commands.Set route row prop literal) = refl
comes_by_call viewers w (commands.Remove route place rows) = refl
comes_by_call viewers w (commands.Size e) = refl
comes_by_call viewers w (commands.Show e) = refl
comes_by_call viewers w (commands.Find e start criteria) = refl
comes_by_call viewers w (commands.Search e criteria) = refl
comes_by_call viewers w (commands.Locate e criteria) = refl
comes_by_call viewers w (commands.Dup name e) = refl
comes_by_call viewers w (commands.Undup name) = refl
comes_by_call viewers w (commands.Watch name e) = refl
comes_by_call viewers w (commands.Unwatch name) = refl
comes_by_call viewers w (commands.Hash name keys) = refl
comes_by_call viewers w (commands.Ordered name keys) = refl
comes_by_call viewers w (commands.Unmap name) = refl
comes_by_call viewers w (commands.Cursor name target) = refl
comes_by_call viewers w (commands.Uncursor name) = refl
comes_by_call viewers w (commands.Next name) = refl
comes_by_call viewers w (commands.Prev name) = refl
comes_by_call viewers w (commands.Row name) = refl
comes_by_call viewers w (commands.Commit note) = refl
comes_by_call viewers w commands.Log = refl
comes_by_call viewers w commands.Rollback = refl
comes_by_call viewers w commands.Reopen = refl
comes_by_call viewers w commands.Revert = refl
comes_by_call viewers w commands.Space = refl
comes_by_call viewers w commands.Quit = refl

-- whether a session that is shut answers the call as any other does
abbrev goes_by_call : Call → Bool
goes_by_call calls.nothing = true
goes_by_call (calls.structure name schema) = false
goes_by_call (calls.call verb list last) = same_bytes (word_of verb) (codes "reopen") || same_bytes (word_of verb) (codes "quit")

goes_as_call : (command : Command) → goes_when_shut command ≡ goes_by_call (call_of command)
goes_as_call commands.Nothing = refl
goes_as_call commands.Reopen = refl
goes_as_call commands.Quit = refl
goes_as_call command = refl

-- commands that ask for the same come to the same
pub same_outcome : (viewers : List Meaning) (w : World) (one other : Command) → call_of one ≡ call_of other → outcome_of viewers w one ≡ outcome_of viewers w other
same_outcome viewers w one other same =
    let goes : goes_when_shut one ≡ goes_when_shut other = goes_as_call one ∙ ap goes_by_call same ∙ sym (goes_as_call other) in
    let comes : outcome_in viewers w one ≡ outcome_in viewers w other = comes_by_call viewers w one ∙ ap (by_call viewers w) same ∙ sym (comes_by_call viewers w other) in
    ap (λ b. cond (is_shut w.store && not b) (refused Shut w) (outcome_in viewers w one)) goes ∙ ap (λ o. cond (is_shut w.store && not (goes_when_shut other)) (refused Shut w) o) comes
