-- What the laws of command lines speak of.
use Rattle.std.specs.Prelude.{List, [], ◌∷◌, All}
use Rattle.mk_value.specs.Conversions.{IsProper}
use Rattle.mk_value.specs.Data.{Datum}
use Rattle.cmd_text.specs.Arguments.{Argument, Last, criteria, literal, note, values}
use Rattle.cmd_text.specs.Grammar.{Call, call, call_of, nothing, structure}
use Rattle.cmd_text.specs.Notes.{IsNote}
use Rattle.cmd_text.specs.declared.command.Command.{Command}

abbrev pub AreProper : List Datum → Type 0
AreProper literals = All (λ d. IsProper d) literals

abbrev pub IsProperArgument : Argument → Type 0
IsProperArgument (literal d) = IsProper d
IsProperArgument _ = Unit {0}

abbrev pub AreProperArguments : List Argument → Type 0
AreProperArguments [] = Unit {0}
AreProperArguments (a ∷ list) = IsProperArgument a × AreProperArguments list

abbrev pub IsProperLast : Last → Type 0
IsProperLast (values list) = AreProper list
IsProperLast (criteria list) = All (λ c. IsProper c.value) list
IsProperLast (note content) = IsNote content
IsProperLast _ = Unit {0}

-- each number in a literal of the command has 64 bits, each text is UTF-8 without a zero byte, and its note is one
abbrev pub HasProperArguments : Call → Type 0
HasProperArguments nothing = Unit {0}
HasProperArguments (structure letters schema) = Unit {0}
HasProperArguments (call verb list last) = AreProperArguments list × IsProperLast last

abbrev pub HasProperLiterals : Command → Type 0
HasProperLiterals command = HasProperArguments (call_of command)
