-- How a line reads: as a command, or as refused at its first offence.
use Rattle.std.specs.Prelude.{◌≡◌, ◌⊎◌, ℕ, ◌+◌, ◌-◌, Bool, true, false, ◌==◌, List, [], ◌∷◌, length, reverse, codes, drop, take_while, if◌then◌else◌}
use Rattle.std.specs.Str.{IsUtf8, is_utf8, bytes_eq}
use Rattle.std.specs.Str.Lossy.{utf8_valid_len}
use Rattle.mk_value.specs.Names.{is_name_byte}
use Rattle.struct_text.specs.Offences.{IsFirstOffence as IsStructureOffence}
use Rattle.struct_text.specs.Spelling.{Spells}
use Rattle.struct_text.specs.declared.error.StructError.{StructError}
use Rattle.struct_text.specs.declared.error.StructError.TheVariants as offences
use Rattle.tokens.specs.Cutting.{Piece, Cuts, space, begins_with}
use Rattle.tokens.specs.Depths.{IsFirstOffence, Offence, syntax, too_deep}
use Rattle.tokens.specs.Fronts.{tokens_in}
use Rattle.cmd_text.specs.Grammar.{CommandTokens, DeepCommandTokens, SpellsCommand}
use Rattle.cmd_text.specs.declared.command.Command.{Command}
use Rattle.cmd_text.specs.declared.command.Command.TheVariants.{Getas, Quit}
use Rattle.cmd_text.specs.declared.error.CmdError.{CmdError}
use Rattle.cmd_text.specs.declared.error.CmdError.TheVariants.{Syntax, Floating, Repeated, TooLarge, Memory}

abbrev pub is_space : ℕ → Bool
is_space byte = byte == space

-- the bytes without the spaces that they begin with, and without those that they end with
abbrev pub without_leading : List ℕ → List ℕ
without_leading [] = []
without_leading (byte ∷ bytes) = if is_space byte then without_leading bytes else byte ∷ bytes

abbrev pub without_trailing : List ℕ → List ℕ
without_trailing bytes = reverse (without_leading (reverse bytes))

-- the run of letters, digits and `_` that a line begins with behind its spaces, its place, and the bytes behind it
abbrev pub first_run : List ℕ → List ℕ
first_run line = take_while is_name_byte (without_leading line)

abbrev pub first_place : List ℕ → ℕ
first_place line = length line - length (without_leading line)

abbrev pub behind_run : List ℕ → List ℕ
behind_run line = drop (length (first_run line)) (without_leading line)

-- The line gives a structure: its first word is `getas`. Such a line is not cut into tokens.
abbrev pub gives_structure : List ℕ → Bool
gives_structure line = bytes_eq (first_run line) (codes "getas")

-- The structure text of the line stands behind that word and the spaces after it, without the spaces that the line ends with.
abbrev pub structure_text : List ℕ → List ℕ
structure_text line = without_trailing (without_leading (behind_run line))

-- its place in the line; where it is empty, the line's length
abbrev pub structure_place : List ℕ → ℕ
structure_place line = length line - length (without_leading (behind_run line))

-- the word `getas` stands alone: behind it comes a space, or the line's end
abbrev pub StandsAlone : List ℕ → Type 0
StandsAlone line = (behind_run line ≡ []) ⊎ (begins_with is_space (behind_run line) ≡ true)

-- how an offence in a structure text that begins at this place of its line is refused
abbrev pub error_of : ℕ → StructError → CmdError
error_of start (offences.Syntax place) = Syntax (start + place)
error_of start (offences.Floating place) = Floating (start + place)
error_of start (offences.Repeated place) = Repeated
error_of start (offences.TooDeep place) = TooLarge
error_of start (offences.TooMany place) = TooLarge
error_of start (offences.TooLong place) = TooLarge
error_of start offences.Memory = Memory

-- a line that gives a structure reads as that
pub record ReadsStructure (line : List ℕ) (command : Command) : Type 0 where
  pub gives : gives_structure line ≡ true
  pub alone : StandsAlone line
  pub spells : (name : List ℕ) × ((schema : _) × ((command ≡ Getas name schema) × Spells (structure_text line) name schema))

-- any other line reads as the command that its tokens spell
pub record ReadsTokens (line : List ℕ) (command : Command) : Type 0 where
  pub other : gives_structure line ≡ false
  pub pieces : List Piece
  pub cuts : Cuts line pieces
  pub spells : SpellsCommand (tokens_in pieces) command

-- the line reads as the command
pub record Reads (line : List ℕ) (command : Command) : Type 0 where
  pub utf8 : IsUtf8 line
  pub reads : ReadsStructure line command ⊎ ReadsTokens line command

-- a line that gives a structure is refused: at the word where it does not stand alone, else at the first offence of the text
abbrev pub RefusesStructure : List ℕ → CmdError → Type 0
RefusesStructure line error =
    (gives_structure line ≡ true)
    × (((StandsAlone line → ⊥) × (error ≡ Syntax (first_place line)))
    ⊎ (StandsAlone line × ((offence : StructError) × (IsStructureOffence (structure_text line) offence × (error ≡ error_of (structure_place line) offence)))))

-- how an offence against the commands is refused
abbrev pub refused_as : Offence → CmdError
refused_as (syntax place) = Syntax place
refused_as (too_deep place) = TooLarge

-- the tokens of a line are refused at its first offence: what opens too deep in an expression decides by its place against what is wrong
abbrev pub RefusesPieces : List ℕ → CmdError → Type 0
RefusesPieces line error = (offence : Offence) × IsFirstOffence CommandTokens DeepCommandTokens line offence × (error ≡ refused_as offence)

-- any other line is refused so
abbrev pub RefusesTokens : List ℕ → CmdError → Type 0
RefusesTokens line error = (gives_structure line ≡ false) × RefusesPieces line error

-- The line is refused so. One that is not UTF-8 is refused at the end of its longest front that is.
abbrev pub IsRefusedAs : List ℕ → CmdError → Type 0
IsRefusedAs line error =
    ((is_utf8 line ≡ false) × (error ≡ Syntax (utf8_valid_len line)))
    ⊎ (IsUtf8 line × (RefusesStructure line error ⊎ RefusesTokens line error))

-- the line ends the session
abbrev pub IsQuit : List ℕ → Type 0
IsQuit line = Reads line Quit
