-- What a reader of commands goes by.
use Rattle.std.specs.Prelude.{◌≡◌, ◌⊎◌, ℕ, List, [], ◌∷◌, Option, Some, None, if◌then◌else◌}
use Rattle.std.specs.Str.{bytes_eq}
use Rattle.mk_value.specs.Tokens.{Token, word, text}
use Rattle.tokens.specs.Cutting.{Piece}
use Rattle.tokens.specs.Literals.{max_braces}
use Rattle.expr_text.specs.Queries.{max_operators}
use Rattle.expr_text.specs.Walk as goals
use Rattle.expr_text.specs.Walk.{Goal, run}
use Rattle.expr_text.specs.declared.error.ExprError.{ExprError}
use Rattle.expr_text.specs.declared.error.ExprError.TheVariants as reading
use Rattle.cmd_text.specs.Arguments as arguments
use Rattle.cmd_text.specs.Arguments.{Argument, Last, with_arguments, with_last}
use Rattle.cmd_text.specs.Grammar.{Behind, Call, call, nothing, structure}
use Rattle.cmd_text.specs.Notes.{max_note}
use Rattle.cmd_text.specs.Words.{Ending, Form, Part, a_count, a_literal, a_name, a_note, a_path, an_expression, an_operation, form_of, is_known, no_more, some_criteria, some_values, word_of}
use Rattle.cmd_text.specs.declared.error.CmdError.{CmdError}
use Rattle.cmd_text.specs.declared.error.CmdError.TheVariants.{Memory, Syntax, TooLarge}
use Rattle.cmd_text.specs.declared.verb.Verb.{Verb}
use Rattle.cmd_text.specs.declared.verb.Verb.TheVariants.{Drop, Struct, Add, Insert, Set, Remove, Size, Show, Find, Search, Locate, Dup, Undup, Watch, Unwatch, Hash, Ordered, Unmap, Cursor, Uncursor, Next, Prev, Row, Commit, Log, Rollback, Reopen, Revert, Space, Quit}

-- what is still to come of a form
abbrev pub goal_of : ℕ → Part → Goal
goal_of deep a_name = goals.a_name
goal_of deep a_count = goals.a_count
goal_of deep a_path = goals.a_path
goal_of deep a_literal = goals.a_literal max_braces
goal_of deep an_expression = goals.a_query deep
goal_of deep an_operation = goals.an_operation

abbrev pub ending_goals : Ending → List Goal
ending_goals no_more = []
ending_goals some_values = goals.values ∷ []
ending_goals some_criteria = goals.criteria_goals
ending_goals a_note = goals.a_text max_note ∷ []

abbrev pub part_goals : ℕ → List Part → List Goal → List Goal
part_goals deep [] others = others
part_goals deep (p ∷ parts) others = goal_of deep p ∷ part_goals deep parts others

abbrev pub goals_of : ℕ → Form → List Goal
goals_of deep form = part_goals deep form.parts (ending_goals form.ending)

-- the call is one of the word, with the arguments that stand behind it
abbrev pub IsCallOf : Verb → Call → Type 0
IsCallOf verb nothing = ⊥
IsCallOf verb (structure letters schema) = ⊥
IsCallOf verb (call other list last) = (other ≡ verb) × Behind max_operators verb list last

-- its arguments stand in front of what is left
abbrev pub SpelledLast : List Argument → Last → List Token → List Token → Type 0
SpelledLast list arguments.nothing old new = old ≡ with_arguments list new
SpelledLast list (arguments.values values) old new = old ≡ with_arguments list (with_last (arguments.values values) new)
SpelledLast list (arguments.criteria criteria) old new = old ≡ with_arguments list (with_last (arguments.criteria criteria) new)
SpelledLast list (arguments.note content) old new = (old ≡ with_arguments list (text content ∷ new)) ⊎ ((content ≡ []) × (old ≡ with_arguments list new))

abbrev pub Spelled : Call → List Token → List Token → Type 0
Spelled nothing old new = ⊥
Spelled (structure letters schema) old new = ⊥
Spelled (call verb list last) old new = SpelledLast list last old new

-- the command of a word
abbrev pub verbs : List Verb
verbs =
    Drop ∷ Struct ∷ Add ∷ Insert ∷ Set ∷ Remove ∷ Size ∷ Show ∷ Find ∷ Search ∷ Locate ∷ Dup ∷ Undup ∷ Watch ∷ Unwatch ∷ Hash ∷ Ordered ∷ Unmap ∷ Cursor ∷ Uncursor ∷ Next ∷ Prev ∷ Row ∷ Commit ∷ Log ∷ Rollback ∷ Reopen ∷ Revert ∷ Space ∷ Quit ∷ []

abbrev pub named_in : List Verb → List ℕ → Option Verb
named_in [] letters = None
named_in (v ∷ vs) letters = if bytes_eq letters (word_of v) then Some v else named_in vs letters

abbrev pub if_known : Option Verb → Option Verb
if_known None = None
if_known (Some verb) = if is_known verb then Some verb else None

unfoldable pub verb_named : List ℕ → Option Verb
verb_named letters = if_known (named_in verbs letters)

abbrev pub verb_of : Token → Option Verb
verb_of (word letters) = verb_named letters
verb_of t = None

-- the first offence of the pieces of a line, if it has one
abbrev pub begun : Option Verb → ℕ → (Verb → Option ExprError) → Option ExprError
begun None place on = Some (reading.Syntax place)
begun (Some verb) place on = on verb

abbrev pub line_run : List Piece → ℕ → Option ExprError
line_run [] end = None
line_run (p ∷ pieces) end = begun (verb_of p.token) p.place (λ verb. run pieces end (goals_of max_operators (form_of verb)))

-- how a line is refused whose pieces, up to its first that is no token if it has one, were refused so
abbrev pub failed_as : ExprError → Option ℕ → CmdError
failed_as (reading.TooDeep place) flaw = TooLarge
failed_as reading.Memory flaw = Memory
failed_as (reading.Syntax place) None = Syntax place
failed_as (reading.Syntax place) (Some flaw) = Syntax flaw
