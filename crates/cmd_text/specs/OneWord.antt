-- Lines of one word at most, which are read without memory.
use Rattle.std.specs.Prelude.{◌≡◌, ◌⊎◌, ℕ, List, [], ◌∷◌}
use Rattle.mk_value.specs.Tokens.{text}
use Rattle.tokens.specs.Cutting.{Piece, Cuts}
use Rattle.tokens.specs.Fronts.{Language, tokens_in}
use Rattle.cmd_text.specs.Arguments as arguments
use Rattle.cmd_text.specs.Arguments.{Argument, Last}
use Rattle.cmd_text.specs.Grammar.{Call, SpellsCommand, call, call_of, nothing, structure}
use Rattle.cmd_text.specs.Words.{Ending, Form, a_note, no_more}
use Rattle.cmd_text.specs.declared.command.Command.{Command}

-- nothing stands behind the word, or an empty note
abbrev pub IsBareLast : Last → Type 0
IsBareLast arguments.nothing = Unit {0}
IsBareLast (arguments.note content) = content ≡ []
IsBareLast _ = ⊥

-- The line of the command is one word, or nothing; behind `commit` an empty note may stand.
abbrev pub IsOneWordCall : Call → Type 0
IsOneWordCall nothing = Unit {0}
IsOneWordCall (structure letters schema) = ⊥
IsOneWordCall (call verb list last) = (list ≡ []) × IsBareLast last

abbrev pub IsOneWord : Command → Type 0
IsOneWord command = IsOneWordCall (call_of command)

-- what stands behind the word on such a line
abbrev pub EmptyNoteTokens : Language
EmptyNoteTokens tokens = (tokens ≡ []) ⊎ (tokens ≡ text [] ∷ [])

abbrev pub IsBareEnding : Ending → Language
IsBareEnding no_more tokens = tokens ≡ []
IsBareEnding a_note tokens = EmptyNoteTokens tokens
IsBareEnding _ tokens = ⊥

abbrev pub IsBehindOneWord : Form → Language
IsBehindOneWord form tokens = (form.parts ≡ []) × IsBareEnding form.ending tokens

-- the line is the command that its tokens spell
abbrev pub ReadsPieces : List ℕ → Command → Type 0
ReadsPieces line command = (pieces : List Piece) × (Cuts line pieces × SpellsCommand (tokens_in pieces) command)
