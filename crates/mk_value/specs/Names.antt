-- Names of views and properties.
use Rattle.std.specs.Prelude.{◌≡◌, ℕ, ◌<◌, ◌≤◌, Bool, false, ◌||◌, ◌==◌, List, length, slice_index, nat_eq}
use Rattle.std.specs.Char.{is_ascii_alphanumeric, is_ascii_digit}
use Rattle.std.specs.List.{AllPass}
use Rattle.std.specs.Cmp.Lexicographic.{pointwise}
use Rattle.mk_value.specs.Limits.{max_name}

-- an ASCII letter, a digit or `_`
abbrev pub is_name_byte : ℕ → Bool
is_name_byte b = is_ascii_alphanumeric b || (b == 95)

-- 1 to 31 letters, digits or `_`, the first no digit
pub record IsName (text : List ℕ) : Type 0 where
  pub not_empty : 0 < length text
  pub short : length text ≤ max_name
  pub characters : AllPass is_name_byte text
  pub begins : is_ascii_digit (slice_index text 0) ≡ false

-- whether two names, texts or byte strings have the same bytes
abbrev pub same_bytes : List ℕ → List ℕ → Bool
same_bytes = pointwise nat_eq
