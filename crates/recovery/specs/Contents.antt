-- What the values of a column of texts or of byte strings are.
use Rattle.std.specs.Prelude.{ℕ, ◌<◌, ◌≤◌, List, length, All}
use Rattle.mk_value.specs.Limits.{max_bytes}
use Rattle.mk_value.specs.Heading.{Domain}
use Rattle.tables.specs.Columns.{IsTextValue}
use Rattle.recovery.specs.declared.contents.Content.{Content}
use Rattle.recovery.specs.declared.contents.Content.TheVariants.{Texts, Strings}

abbrev pub domain_of : Content → Domain
domain_of Texts = Domain.text
domain_of Strings = Domain.bytes

-- a value is one of the column
abbrev pub FitsContent : Content → List ℕ → Type 0
FitsContent Texts value = IsTextValue value
FitsContent Strings value = length value ≤ max_bytes

-- what the values of a plain column that is not one of numbers are
abbrev pub content_in : Domain → Content
content_in Domain.text = Texts
content_in _ = Strings

-- a byte that is a character by itself, and not zero
abbrev pub IsPlainByte : ℕ → Type 0
IsPlainByte b = (0 < b) × (b < 128)

-- values of at most 512 bytes that are joined in these are of the column, wherever they are cut
abbrev pub FitWhereverCut : Content → List ℕ → Type 0
FitWhereverCut Texts short = All IsPlainByte short
FitWhereverCut Strings short = Unit {0}
