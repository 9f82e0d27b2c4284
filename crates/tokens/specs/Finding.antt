-- What the readers of one token find at the front of bytes.
use Rattle.std.specs.Prelude.{◌≡◌, ◌≢◌, ℕ, ◌<◌, ◌≤◌, ◌-◌, Bool, ◌&&◌, ◌==◌, if◌then◌else◌, List, [], ◌∷◌, ◌++◌, length, drop, take, All, Option, None, Some}
use Rattle.std.specs.Char.{is_ascii_digit}
use Rattle.std.specs.List.{flat_map}
use Rattle.mk_value.specs.Names.{is_name_byte}
use Rattle.mk_value.specs.Tokens as plain
use Rattle.tokens.specs.Cutting.{Begins, Leads, begins_with, end_of, space}
use Rattle.tokens.specs.Meanings.{piece_of, token_of}
use Rattle.tokens.specs.declared.form.Form.{Form}
use Rattle.tokens.specs.declared.form.Form.TheVariants.{Text, Bytes, Negative, Run, Single}
use Rattle.tokens.specs.declared.token.Piece.{Piece}
use Rattle.tokens.specs.declared.token.Token.{Token}

abbrev pub is_quote : ℕ → Bool
is_quote b = b == 34

-- the only form that a token at the front may have, told by the first two bytes
abbrev pub form_at : List ℕ → Form
form_at [] = Single
form_at (b ∷ rest) =
    if b == 34 then Text
    else (if (b == 120) && begins_with is_quote rest then Bytes
    else (if (b == 45) && begins_with is_ascii_digit rest then Negative
    else (if is_name_byte b then Run
    else Single)))

-- the token that begins the bytes, with its length, or nothing where none begins them
abbrev pub Finds : List ℕ → Option (Token × ℕ) → Type 0
Finds content None = (token : plain.Token) → (rest : List ℕ) → Begins content token rest → ⊥
Finds content (Some found) = (found.1 ≤ length content) × Begins content (token_of found.0) (drop found.1 content)

-- the byte whose spelling begins the bytes, with the length of that, or nothing where no byte that may stand here is spelled there
abbrev pub FindsByte : (ℕ → List ℕ) → (ℕ → Type 0) → List ℕ → Option (ℕ × ℕ) → Type 0
FindsByte spelled May content None = (b : ℕ) → (rest : List ℕ) → May b → content ≡ spelled b ++ rest → ⊥
FindsByte spelled May content (Some found) =
    (0 < found.1) × (found.1 ≤ length content) × May found.0 × (content ≡ spelled found.0 ++ drop found.1 content)

-- bytes are spelled from the front up to a quote, which ends after so many bytes, or there is no such front
abbrev pub FindsQuoted : (ℕ → List ℕ) → (ℕ → Type 0) → List ℕ → Option ℕ → Type 0
FindsQuoted spelled May content None = (held rest : List ℕ) → All May held → content ≡ flat_map spelled held ++ (34 ∷ rest) → ⊥
FindsQuoted spelled May content (Some end) =
    (held : List ℕ) × (end ≤ length content) × All May held × (content ≡ flat_map spelled held ++ (34 ∷ drop end content))
    × (0 < end) × (take (end - 1) content ≡ flat_map spelled held)

-- what may stand in a text, and in a byte string
abbrev pub IsTextByte : ℕ → Type 0
IsTextByte b = b ≢ 0

abbrev pub IsByte : ℕ → Type 0
IsByte b = b < 256

abbrev pub is_space : ℕ → Bool
is_space b = b == 32

-- the first piece of the bytes from a place on and where it ends, or nothing where spaces alone stand there
abbrev pub FindsPiece : ℕ → List ℕ → Option (Piece × ℕ) → Type 0
FindsPiece from content None = All (λ b. b ≡ space) (drop from content)
FindsPiece from content (Some found) =
    (found.1 ≤ length content) × (found.1 ≡ end_of (piece_of found.0)) × Leads from (drop from content) (piece_of found.0) (drop found.1 content)
