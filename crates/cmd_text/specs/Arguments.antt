-- What stands behind the word of a command, as plain data, and the tokens that spell it.
use Rattle.std.specs.Prelude.{◌≡◌, ◌≢◌, ℕ, pos, List, [], ◌∷◌, ◌++◌, All}
use Rattle.mk_value.specs.Data.{Datum}
use Rattle.mk_value.specs.Literals as literals
use Rattle.mk_value.specs.Names.{IsName}
use Rattle.mk_value.specs.Paths.{Route}
use Rattle.mk_value.specs.Tokens.{Token, word, number, text}
use Rattle.tokens.specs.Literals.{IsLiteral, max_braces}
use Rattle.tokens.specs.Paths.{IsPath, path_tokens}
use Rattle.expr_text.specs.Arguments.{Criterion, IsCount, IsCriterion}
use Rattle.expr_text.specs.InLines.{AreValues, IsOperation, joined_tokens, values_tokens}
use Rattle.expr_text.specs.Queries.{IsQuery, Query}
use Rattle.expr_text.specs.Spelling as expressions
use Rattle.cmd_text.specs.Notes.{IsNote}
use Rattle.cmd_text.specs.Words as forms
use Rattle.cmd_text.specs.Words.{Ending, Part}

pub data Argument : Type 0 where
  name : List ℕ → Argument
  count : ℕ → Argument
  path : Route → Argument
  literal : Datum → Argument
  expression : Query → Argument
  operation : Query → Argument

pub data Last : Type 0 where
  nothing : Last
  values : List Datum → Last
  criteria : List Criterion → Last
  note : List ℕ → Last

abbrev pub part_of : Argument → Part
part_of (name letters) = forms.a_name
part_of (count n) = forms.a_count
part_of (path route) = forms.a_path
part_of (literal d) = forms.a_literal
part_of (expression q) = forms.an_expression
part_of (operation q) = forms.an_operation

abbrev pub parts_of : List Argument → List Part
parts_of [] = []
parts_of (a ∷ arguments) = part_of a ∷ parts_of arguments

abbrev pub ending_of : Last → Ending
ending_of nothing = forms.no_more
ending_of (values list) = forms.some_values
ending_of (criteria list) = forms.some_criteria
ending_of (note content) = forms.a_note

-- What stands in an argument is what a line may hold, with at most so many operators inside one another.
abbrev pub IsArgument : ℕ → Argument → Type 0
IsArgument deep (name letters) = IsName letters
IsArgument deep (count n) = IsCount n
IsArgument deep (path route) = IsPath route
IsArgument deep (literal d) = IsLiteral max_braces d
IsArgument deep (expression q) = IsQuery q deep
IsArgument deep (operation q) = IsOperation q

abbrev pub AreArguments : ℕ → List Argument → Type 0
AreArguments deep [] = Unit {0}
AreArguments deep (a ∷ arguments) = IsArgument deep a × AreArguments deep arguments

abbrev pub IsLast : Last → Type 0
IsLast nothing = Unit {0}
IsLast (values list) = AreValues list
IsLast (criteria list) = (list ≢ []) × All IsCriterion list
IsLast (note content) = IsNote content

-- the tokens of an argument, and these behind them
abbrev pub with_argument : Argument → List Token → List Token
with_argument (name letters) tokens = word letters ∷ tokens
with_argument (count n) tokens = number (pos n) ∷ tokens
with_argument (path route) tokens = path_tokens route ++ tokens
with_argument (literal d) tokens = literals.tokens_of d ++ tokens
with_argument (expression q) tokens = expressions.tokens_of q ++ tokens
with_argument (operation q) tokens = expressions.tokens_of q ++ tokens

abbrev pub with_arguments : List Argument → List Token → List Token
with_arguments [] tokens = tokens
with_arguments (a ∷ arguments) tokens = with_argument a (with_arguments arguments tokens)

abbrev pub with_last : Last → List Token → List Token
with_last nothing tokens = tokens
with_last (values list) tokens = values_tokens list ++ tokens
with_last (criteria list) tokens = joined_tokens list ++ tokens
with_last (note content) tokens = text content ∷ tokens

-- a note is left out where it is empty
abbrev pub MayBeLeftOut : Last → Type 0
MayBeLeftOut (note content) = content ≡ []
MayBeLeftOut _ = ⊥
