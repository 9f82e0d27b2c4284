-- Names are ASCII, so they are UTF-8.
use Rattle.std.proofs.Common.{◌≡◌, ℕ, ◌<◌, true, List, length, get_or, arith, inl, inr}
use Rattle.std.proofs.lemmas.Bool.{cases_lt}
use Rattle.std.proofs.lemmas.List.{get_or_past}
use Rattle.std.specs.Str.{IsAscii, IsUtf8}
use Rattle.std.proofs.lemmas.Str.{IsUtf8-from_ascii}
use Rattle.std.proofs.lemmas.Bool.Decides.{nat_tests}
use Rattle.mk_value.specs.Names.{IsName, is_name_byte}

pub name_byte-lt : (b : ℕ) → is_name_byte b ≡ true → b < 128
name_byte-lt b e = grind (arith, nat_tests)

pub IsAscii-name : (text : List ℕ) → IsName text → IsAscii text
IsAscii-name text n i = elim (cases_lt i (length text)) [
  | inl p ↦ name_byte-lt (get_or text i 0) (n.characters i 0 p)
  | inr p ↦ rw (get_or_past text i 0 p) (omega arith)
]

pub IsUtf8-name : (text : List ℕ) → IsName text → IsUtf8 text
IsUtf8-name text n = IsUtf8-from_ascii text (IsAscii-name text n)
