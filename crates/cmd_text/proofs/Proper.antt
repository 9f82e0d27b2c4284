-- A literal that a line may hold is proper.
use Rattle.std.proofs.Common.{◌≡◌, ◌≤◌, ◌-◌, ℕ, List, [], ◌∷◌, length, length-drop, inl, inr, sym, ap, subst, ◌∙◌, All, arith}
use Rattle.std.proofs.lemmas.List.Elements.{All-weaker}
use Rattle.mk_value.specs.Conversions.{IsProper, IsProperRow, AreProper}
use Rattle.mk_value.specs.Data.{Datum, integer, long, text, bytes, relation, Tuple, no_values, value, Relation, no_tuples, tuple}
use Rattle.mk_value.specs.Heading.{Attribute}
use Rattle.struct_text.specs.Spelling.{spelling}
use Rattle.mk_value.specs.Tokens.{Token}
use Rattle.tokens.specs.Literals.{IsLiteral, IsLiteralRow, AreLiteralRows, AreLiterals, max_braces}
use Rattle.expr_text.specs.Arguments.{Criterion, IsCriterion}
use Rattle.expr_text.specs.Queries.{max_operators}
use Rattle.cmd_text.specs.Arguments as arguments
use Rattle.cmd_text.specs.Arguments.{AreArguments, Argument, IsArgument, IsLast, Last}
use Rattle.cmd_text.specs.Grammar.{Call, SpellsCall, SpellsCommand, call, call_of, nothing, structure}
use Rattle.cmd_text.specs.Laws.{AreProperArguments, HasProperArguments, HasProperLiterals, IsProperArgument, IsProperLast}
use Rattle.cmd_text.specs.Lines.{Reads, ReadsStructure, ReadsTokens, behind_run, first_run, structure_text, without_leading}
use Rattle.cmd_text.specs.declared.command.Command.{Command}
use Rattle.cmd_text.specs.declared.command.Command.TheVariants as commands
use Rattle.cmd_text.proofs.Spaces.{without_leading-no_longer, without_trailing-no_longer}

mutual
  proper : (d : Datum) (n : ℕ) → IsLiteral n d → IsProper d
  proper (integer z) n h = absurd h
  proper (long z) n h = h
  proper (text content) n h = h
  proper (bytes content) n h = tt
  proper (relation rows) n h = proper_rows rows (n - 1) h.1

  proper_rows : (rows : Relation) (n : ℕ) → AreLiteralRows n rows → AreProper rows
  proper_rows no_tuples n h = tt
  proper_rows (tuple row rest) n h = (proper_row row n h.0, proper_rows rest n h.1)

  proper_row : (row : Tuple) (n : ℕ) → IsLiteralRow n row → IsProperRow row
  proper_row no_values n h = absurd h
  proper_row (value d rest) n h = (proper d n h.0, proper_values rest n h.1)

  proper_values : (row : Tuple) (n : ℕ) → AreLiterals n row → IsProperRow row
  proper_values no_values n h = tt
  proper_values (value d rest) n h = (proper d n h.0, proper_values rest n h.1)

all_proper : (literals : List Datum) → All (λ d. IsLiteral max_braces d) literals → All (λ d. IsProper d) literals
all_proper literals h = All-weaker (λ d. IsLiteral max_braces d) (λ d. IsProper d) (λ d l. proper d max_braces l) literals h

all_criteria : (list : List Criterion) → All IsCriterion list → All (λ c. IsProper c.value) list
all_criteria list h = All-weaker IsCriterion (λ c. IsProper c.value) (λ c l. proper c.value max_braces l.1) list h

proper_argument : (deep : ℕ) (a : Argument) → IsArgument deep a → IsProperArgument a
proper_argument deep (arguments.literal d) whole = proper d max_braces whole
proper_argument deep (arguments.name letters) whole = tt
proper_argument deep (arguments.count n) whole = tt
proper_argument deep (arguments.path r) whole = tt
proper_argument deep (arguments.expression q) whole = tt
proper_argument deep (arguments.operation q) whole = tt

proper_arguments : (deep : ℕ) (list : List Argument) → AreArguments deep list → AreProperArguments list
proper_arguments deep [] whole = tt
proper_arguments deep (a ∷ list) whole = (proper_argument deep a whole.0, proper_arguments deep list whole.1)

proper_last : (last : Last) → IsLast last → IsProperLast last
proper_last arguments.nothing whole = tt
proper_last (arguments.values list) whole = all_proper list whole
proper_last (arguments.criteria list) whole = all_criteria list whole.1
proper_last (arguments.note content) whole = whole

proper_call : (c : Call) (tokens : List Token) → SpellsCall max_operators c tokens → HasProperArguments c
proper_call nothing tokens spells = tt
proper_call (structure letters schema) tokens spells = tt
proper_call (call verb list last) tokens spells = (proper_arguments max_operators list spells.1.whole, proper_last last spells.1.last)

proper_command : (command : Command) (tokens : List Token) → SpellsCommand tokens command → HasProperLiterals command
proper_command command tokens spells = proper_call (call_of command) tokens spells

pub proper_line : (line : List ℕ) (command : Command) → Reads line command → HasProperLiterals command
proper_line line command reads = elim reads.reads [
  | inl given ↦ subst (λ c. HasProperLiterals c) (sym given.spells.1.1.0) tt
  | inr pieces ↦ proper_command command _ pieces.spells
]

-- a structure's text lies in its line
text_short : (line : List ℕ) → length (structure_text line) ≤ length line
text_short line =
    omega (
      arith,
      without_trailing-no_longer (without_leading (behind_run line)),
      without_leading-no_longer (behind_run line),
      length-drop (length (first_run line)) (without_leading line),
      without_leading-no_longer line,
    )

no_structure : (line name : List ℕ) (schema : List Attribute) → ReadsTokens line (commands.Getas name schema) → ⊥
no_structure line name schema reads = reads.spells

pub short_line : (line name : List ℕ) (schema : List Attribute) → Reads line (commands.Getas name schema) → length (spelling name schema) ≤ length line
short_line line name schema reads = elim reads.reads [
  | inl given ↦ spelled given
  | inr pieces ↦ absurd (no_structure line name schema pieces)
]
  where
    spelled : ReadsStructure line (commands.Getas name schema) → length (spelling name schema) ≤ length line
    spelled given =
        let read = given.spells in
        let same_name : name ≡ read.0 = cc (read.1.1.0) in
        let same_schema : schema ≡ read.1.0 = cc (read.1.1.0) in
        let is : structure_text line ≡ spelling name schema = read.1.1.1.is ∙ ap (λ n. spelling n read.1.0) (sym same_name) ∙ ap (λ s. spelling name s) (sym same_schema) in
        omega (arith, ap length is, text_short line)
