-- What can be told of a line without reading it as a command, and what a line gives a command.
use Rattle.std.specs.Prelude.{ℕ, ◌+◌, ◌≤◌, Bool, ◌&&◌, List, All, codes, length}
use Rattle.std.specs.List.{list_all}
use Rattle.std.specs.Str.{bytes_eq, is_utf8}
use Rattle.mk_value.specs.Conversions.{IsProper}
use Rattle.mk_value.specs.LiteralValues.{literal_of}
use Rattle.eval.specs.Parts.{IsWhole}
use Rattle.expr_text.specs.InLines.{IsOperation}
use Rattle.expr_text.specs.Meanings.{query_of}
use Rattle.cmd_text.specs.Lines.{is_space, without_leading, without_trailing}
use Rattle.cmd_text.specs.declared.command.Command.{Command}
use Rattle.cmd_text.specs.declared.command.Command.TheVariants.{Getas, Add, Insert, Set, Size, Show, Find, Search, Locate, Dup, Watch}
use Rattle.lines.specs.Lines.{max_line}
use Rattle.struct_text.specs.Spelling.{spelling}

-- a line that asks for nothing: it is all spaces, or empty
abbrev pub is_blank : List ℕ → Bool
is_blank line = list_all is_space line

-- a line that ends the session: its one word is `quit`
abbrev pub is_quit : List ℕ → Bool
is_quit line = is_utf8 line && bytes_eq (without_trailing (without_leading line)) (codes "quit")

-- What the command of a line keeps: a structure is shorter than the line by the word before it, literals are proper values, and an expression
-- is one that a text may hold.
abbrev pub IsOfLine : Command → Type 0
IsOfLine (Getas name schema) = length (spelling name schema) + 5 ≤ max_line
IsOfLine (Add route literals) = All IsProper literals
IsOfLine (Insert route place copies literals) = All IsProper literals
IsOfLine (Set route row prop literal) = IsProper (literal_of literal)
IsOfLine (Size e) = IsWhole (query_of e)
IsOfLine (Show e) = IsWhole (query_of e)
IsOfLine (Find e start criteria) = IsWhole (query_of e)
IsOfLine (Search e criteria) = IsWhole (query_of e)
IsOfLine (Locate e criteria) = IsWhole (query_of e)
IsOfLine (Dup name e) = IsWhole (query_of e)
IsOfLine (Watch name e) = IsOperation (query_of e)
IsOfLine _ = Unit {0}
