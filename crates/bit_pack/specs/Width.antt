-- How many bits a value takes at each width, and which values those bits hold.
use Rattle.std.specs.Prelude.{ℕ, ◌<◌, ◌≤◌, ◌^◌, ℤ, pos, negsuc, ◌≤ℤ◌, List, [], ◌∷◌, All, nat_lt, if◌then◌else◌}
use Rattle.bit_pack.specs.declared.widths.Width.{Width}
use Rattle.bit_pack.specs.declared.widths.Width.TheVariants.{W0, W1, W2, W4, W8, W16, W32, W64}

-- the bits of one value
abbrev pub bit_count : Width → ℕ
bit_count W0 = 0
bit_count W1 = 1
bit_count W2 = 2
bit_count W4 = 4
bit_count W8 = 8
bit_count W16 = 16
bit_count W32 = 32
bit_count W64 = 64

-- Up to 4 bits are unsigned, and from 8 bits on they are two's complement.
-- the least value of a width
abbrev pub lowest : Width → ℤ
lowest W0 = pos 0
lowest W1 = pos 0
lowest W2 = pos 0
lowest W4 = pos 0
lowest W8 = negsuc 127
lowest W16 = negsuc 32767
lowest W32 = negsuc 2147483647
lowest W64 = negsuc 9223372036854775807

-- the greatest value of a width
abbrev pub highest : Width → ℤ
highest W0 = pos 0
highest W1 = pos 1
highest W2 = pos 3
highest W4 = pos 15
highest W8 = pos 127
highest W16 = pos 32767
highest W32 = pos 2147483647
highest W64 = pos 9223372036854775807

-- v is a value of the width
pub record Holds (w : Width) (v : ℤ) : Type 0 where
  pub low : lowest w ≤ℤ v
  pub high : v ≤ℤ highest w

-- each value is one of the width
pub record HoldsAll (w : Width) (values : List ℤ) : Type 0 where
  pub each : All (Holds w) values

-- w holds all values, and no narrower width does
pub record IsLeastWidth (w : Width) (values : List ℤ) : Type 0 where
  pub held : HoldsAll w values
  pub least : (u : Width) → HoldsAll u values → bit_count w ≤ bit_count u

-- u is the next width below w
pub record IsNarrower (u w : Width) : Type 0 where
  pub below : bit_count u < bit_count w
  pub next : (v : Width) → bit_count v < bit_count w → bit_count v ≤ bit_count u

-- the least width that holds a value of 64 bits
abbrev pub width_of : ℤ → Width
width_of (pos n) =
    if nat_lt n 1 then W0
    else (if nat_lt n 2 then W1
    else (if nat_lt n 4 then W2
    else (if nat_lt n 16 then W4
    else (if nat_lt n (2 ^ 7) then W8
    else (if nat_lt n (2 ^ 15) then W16
    else (if nat_lt n (2 ^ 31) then W32
    else W64))))))
width_of (negsuc n) =
    if nat_lt n (2 ^ 7) then W8
    else (if nat_lt n (2 ^ 15) then W16
    else (if nat_lt n (2 ^ 31) then W32
    else W64))

-- the wider of two widths
abbrev pub wider : Width → Width → Width
wider u w = if nat_lt (bit_count u) (bit_count w) then w else u

-- the least width that holds all values: the one that IsLeastWidth determines
abbrev pub least_width : List ℤ → Width
least_width [] = W0
least_width (v ∷ values) = wider (width_of v) (least_width values)
