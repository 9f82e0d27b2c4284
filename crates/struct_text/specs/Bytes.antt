-- The bytes of structure texts.
use Rattle.std.specs.Prelude.{ℕ, Bool, ◌||◌, ◌&&◌, not, ◌==◌}
use Rattle.std.specs.Char.{is_ascii_digit}
use Rattle.mk_value.specs.Names.{is_name_byte}

-- `[`
abbrev pub open_bracket : ℕ
open_bracket = 91

-- `]`
abbrev pub close_bracket : ℕ
close_bracket = 93

-- `:`
abbrev pub colon : ℕ
colon = 58

-- `,`
abbrev pub comma : ℕ
comma = 44

-- a byte with which a name may begin: a letter or `_`
abbrev pub is_name_start : ℕ → Bool
is_name_start b = is_name_byte b && not (is_ascii_digit b)

-- the letter of a kind that there is: `I`, `L`, `S` or `B`
abbrev pub is_plain_letter : ℕ → Bool
is_plain_letter b = (((b == 73) || (b == 76)) || (b == 83)) || (b == 66)

-- the letter of a floating kind, which is refused by name: `F` or `D`
abbrev pub is_floating_letter : ℕ → Bool
is_floating_letter b = (b == 70) || (b == 68)
