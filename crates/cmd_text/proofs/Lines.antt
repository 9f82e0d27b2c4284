-- How a line reads by its tokens.
use Rattle.std.proofs.Common.{◌≡◌, ◌⊎◌, inl, inr, ℕ, true, false, List, refl, ap}
use Rattle.std.specs.Str.{IsUtf8, is_utf8}
use Rattle.std.specs.Str.Lossy.{utf8_valid_len}
use Rattle.std.proofs.lemmas.Str.{IsUtf8-from_is_utf8}
use Rattle.cmd_text.specs.Lines.{IsRefusedAs, Reads, RefusesPieces, gives_structure}
use Rattle.cmd_text.specs.OneWord.{ReadsPieces}
use Rattle.cmd_text.specs.declared.command.Command.{Command}
use Rattle.cmd_text.specs.declared.error.CmdError.{CmdError}
use Rattle.cmd_text.specs.declared.error.CmdError.TheVariants.{Memory, Syntax}

pub reads_tokens : (line : List ℕ) (command : Command) → IsUtf8 line → gives_structure line ≡ false → ReadsPieces line command → Reads line command
reads_tokens line command utf8 other (pieces, (cut, spells)) =
    record { utf8 = utf8; reads = inr (record { other = other; pieces = pieces; cuts = cut; spells = spells }) }

pub refused_tokens : (line : List ℕ) (error : CmdError) → IsUtf8 line → gives_structure line ≡ false → (error ≡ Memory) ⊎ RefusesPieces line error → (error ≡ Memory) ⊎ IsRefusedAs line error
refused_tokens line error utf8 other (inl memory) = inl memory
refused_tokens line error utf8 other (inr refused) = inr (inr (utf8, inr (other, refused)))

pub refused_bytes : (line : List ℕ) (place : ℕ) → (IsUtf8 line → ⊥) → place ≡ utf8_valid_len line → IsRefusedAs line (Syntax place)
refused_bytes line place other is = inl (no_utf8, ap Syntax is)
  where
    no_utf8 : is_utf8 line ≡ false
    no_utf8 =
        elim (is_utf8 line) as (λ t. is_utf8 line ≡ t → t ≡ false)
        [ true ↦ λ e. absurd (other (IsUtf8-from_is_utf8 line e)) | false ↦ λ e. refl ] refl
