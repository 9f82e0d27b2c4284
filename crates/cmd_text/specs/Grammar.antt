-- The commands, each by the tokens that spell it.
use Rattle.std.specs.Prelude.{◌≡◌, ◌⊎◌, ℕ, true, List, [], ◌∷◌}
use Rattle.mk_value.specs.Heading.{Attribute}
use Rattle.mk_value.specs.LiteralValues.{literal_of}
use Rattle.mk_value.specs.Tokens.{Token, word}
use Rattle.tokens.specs.Fronts.{Language}
use Rattle.expr_text.specs.Meanings.{query_of}
use Rattle.expr_text.specs.Queries.{max_operators}
use Rattle.cmd_text.specs.Arguments as arguments
use Rattle.cmd_text.specs.Arguments.{AreArguments, Argument, IsLast, Last, MayBeLeftOut, ending_of, name, count, path, literal, expression, operation, parts_of, with_arguments, with_last}
use Rattle.cmd_text.specs.Words.{form_of, is_known, word_of}
use Rattle.cmd_text.specs.declared.command.Command.{Command}
use Rattle.cmd_text.specs.declared.command.Command.TheVariants as commands
use Rattle.cmd_text.specs.declared.verb.Verb.{Verb}
use Rattle.cmd_text.specs.declared.verb.Verb.TheVariants as verbs

-- what a line asks for: nothing; a structure under a name; or what a word and its arguments say
pub data Call : Type 0 where
  nothing : Call
  structure : List ℕ → List Attribute → Call
  call : Verb → List Argument → Last → Call

abbrev pub call_of : Command → Call
call_of commands.Nothing = nothing
call_of (commands.Getas letters schema) = structure letters schema
call_of (commands.Drop view) = call verbs.Drop (name view ∷ []) arguments.nothing
call_of commands.Struct = call verbs.Struct [] arguments.nothing
call_of (commands.Add route list) = call verbs.Add (path route ∷ []) (arguments.values list)
call_of (commands.Insert route place copies list) = call verbs.Insert (path route ∷ count place ∷ count copies ∷ []) (arguments.values list)
call_of (commands.Set route row prop value) = call verbs.Set (path route ∷ count row ∷ name prop ∷ literal (literal_of value) ∷ []) arguments.nothing
call_of (commands.Remove route place rows) = call verbs.Remove (path route ∷ count place ∷ count rows ∷ []) arguments.nothing
call_of (commands.Size e) = call verbs.Size (expression (query_of e) ∷ []) arguments.nothing
call_of (commands.Show e) = call verbs.Show (expression (query_of e) ∷ []) arguments.nothing
call_of (commands.Find e start list) = call verbs.Find (expression (query_of e) ∷ count start ∷ []) (arguments.criteria list)
call_of (commands.Search e list) = call verbs.Search (expression (query_of e) ∷ []) (arguments.criteria list)
call_of (commands.Locate e list) = call verbs.Locate (expression (query_of e) ∷ []) (arguments.criteria list)
call_of (commands.Dup new e) = call verbs.Dup (name new ∷ expression (query_of e) ∷ []) arguments.nothing
call_of (commands.Undup snapshot) = call verbs.Undup (name snapshot ∷ []) arguments.nothing
call_of (commands.Watch new e) = call verbs.Watch (name new ∷ operation (query_of e) ∷ []) arguments.nothing
call_of (commands.Unwatch watch) = call verbs.Unwatch (name watch ∷ []) arguments.nothing
call_of (commands.Hash view keys) = call verbs.Hash (name view ∷ count keys ∷ []) arguments.nothing
call_of (commands.Ordered view keys) = call verbs.Ordered (name view ∷ count keys ∷ []) arguments.nothing
call_of (commands.Unmap view) = call verbs.Unmap (name view ∷ []) arguments.nothing
call_of (commands.Cursor new target) = call verbs.Cursor (name new ∷ name target ∷ []) arguments.nothing
call_of (commands.Uncursor cursor) = call verbs.Uncursor (name cursor ∷ []) arguments.nothing
call_of (commands.Next cursor) = call verbs.Next (name cursor ∷ []) arguments.nothing
call_of (commands.Prev cursor) = call verbs.Prev (name cursor ∷ []) arguments.nothing
call_of (commands.Row cursor) = call verbs.Row (name cursor ∷ []) arguments.nothing
call_of (commands.Commit content) = call verbs.Commit [] (arguments.note content)
call_of commands.Log = call verbs.Log [] arguments.nothing
call_of commands.Rollback = call verbs.Rollback [] arguments.nothing
call_of commands.Reopen = call verbs.Reopen [] arguments.nothing
call_of commands.Revert = call verbs.Revert [] arguments.nothing
call_of commands.Space = call verbs.Space [] arguments.nothing
call_of commands.Quit = call verbs.Quit [] arguments.nothing

-- a word of the commands' own
abbrev pub keyword : List ℕ → Token
keyword letters = word letters

-- The arguments are those that stand behind the word, with at most so many operators inside one another.
pub record Behind (deep : ℕ) (verb : Verb) (list : List Argument) (final : Last) : Type 0 where
  pub parts : parts_of list ≡ (form_of verb).parts
  pub ending : ending_of final ≡ (form_of verb).ending
  pub whole : AreArguments deep list
  pub last : IsLast final

-- the tokens of the arguments, where an empty note may be left out
abbrev pub SpellsArguments : List Argument → Last → Language
SpellsArguments list last tokens =
    (tokens ≡ with_arguments list (with_last last [])) ⊎ (MayBeLeftOut last × (tokens ≡ with_arguments list []))

-- The tokens spell the call. A line that gives a structure is not cut into tokens.
abbrev pub SpellsCall : ℕ → Call → Language
SpellsCall deep nothing tokens = tokens ≡ []
SpellsCall deep (structure letters schema) tokens = ⊥
SpellsCall deep (call verb list last) tokens =
    (is_known verb ≡ true) × Behind deep verb list last × ((rest : List Token) × (tokens ≡ keyword (word_of verb) ∷ rest) × SpellsArguments list last rest)

abbrev pub SpellsCommand : List Token → Command → Type 0
SpellsCommand tokens command = SpellsCall max_operators (call_of command) tokens

-- the tokens of commands: of those whose expressions are no deeper, of those within the limit, and of those of any depth
abbrev pub CommandIn : ℕ → Language
CommandIn deep tokens = (c : Call) × SpellsCall deep c tokens

abbrev pub CommandTokens : Language
CommandTokens tokens = CommandIn max_operators tokens

abbrev pub DeepCommandTokens : Language
DeepCommandTokens tokens = (deep : ℕ) × CommandIn deep tokens
