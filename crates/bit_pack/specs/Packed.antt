-- What packed integers are: bytes that, read as one little-endian number, are the sum of
-- (v modulo 2 ^ w) * 2 ^ (w * i) over the values v and their places i, at the least width w.
use Rattle.std.specs.Prelude.{◌≡◌, ℕ, ◌+◌, ◌-◌, ◌*◌, ◌/◌, ◌%◌, ◌^◌, ◌<◌, ◌≤◌, ℤ, pos, negsuc, List, [], ◌∷◌, length, map, All}
use Rattle.std.specs.List.{range_with_len}
use Rattle.std.specs.Int.{div_ceil, cast_signed, bytes_low_first, w8, w16, w32, w64}
use Rattle.bit_pack.specs.declared.widths.Width.{Width}
use Rattle.bit_pack.specs.declared.widths.Width.TheVariants.{W0, W1, W2, W4, W8, W16, W32, W64}
use Rattle.bit_pack.specs.Width.{bit_count, HoldsAll, IsLeastWidth, least_width}

-- the number whose digits in base b are these, the lowest first
abbrev pub number_of : ℕ → List ℕ → ℕ
number_of b [] = 0
number_of b (d ∷ ds) = d + b * number_of b ds

-- the bytes read as one little-endian number
abbrev pub little_endian : List ℕ → ℕ
little_endian bytes = number_of 256 bytes

-- v modulo 2 ^ w
abbrev pub residue : ℕ → ℤ → ℕ
residue w (pos n) = n % 2 ^ w
residue w (negsuc n) = 2 ^ w - 1 - n % 2 ^ w

-- the sum of (v modulo 2 ^ w) * 2 ^ (w * i) over the values, the first of which has place i
abbrev pub sum_from : ℕ → ℕ → List ℤ → ℕ
sum_from w i [] = 0
sum_from w i (v ∷ vs) = residue w v * 2 ^ (w * i) + sum_from w (i + 1) vs

-- the number that the packed values are
abbrev pub packed_number : Width → List ℤ → ℕ
packed_number w values = sum_from (bit_count w) 0 values

-- how many bytes n values take: n * w / 8, rounded up
abbrev pub packed_len : Width → ℕ → ℕ
packed_len w n = div_ceil (n * bit_count w) 8

abbrev pub AreBytes : List ℕ → Type 0
AreBytes bytes = All (λ b. b < 256) bytes

-- The bytes are the values at this width, be it the least or not. The bits past the last value are zero,
-- since the number has none.
pub record PackedAt (w : Width) (values : List ℤ) (bytes : List ℕ) : Type 0 where
  pub held : HoldsAll w values
  pub octets : AreBytes bytes
  pub len : length bytes ≡ packed_len w (length values)
  pub number : little_endian bytes ≡ packed_number w values

-- the bytes are the values at their least width
pub record Packed (w : Width) (values : List ℤ) (bytes : List ℕ) : Type 0 where
  pub packed : PackedAt w values bytes
  pub least : IsLeastWidth w values

-- the value whose residue is d
abbrev pub value_of : Width → ℕ → ℤ
value_of W0 d = pos d
value_of W1 d = pos d
value_of W2 d = pos d
value_of W4 d = pos d
value_of W8 d = cast_signed w8 d
value_of W16 d = cast_signed w16 d
value_of W32 d = cast_signed w32 d
value_of W64 d = cast_signed w64 d

-- bits w * i up to w * (i + 1) of the bytes
abbrev pub digit_at : Width → List ℕ → ℕ → ℕ
digit_at w bytes i = little_endian bytes / 2 ^ (bit_count w * i) % 2 ^ bit_count w

-- the value at place i of the bytes
abbrev pub value_at : Width → List ℕ → ℕ → ℤ
value_at w bytes i = value_of w (digit_at w bytes i)

-- the n values of the bytes from place i on
abbrev pub values_from : Width → List ℕ → ℕ → ℕ → List ℤ
values_from w bytes i n = map (value_at w bytes) (range_with_len i n)

-- the bytes have all bits of the places below n
abbrev pub Reaches : Width → List ℕ → ℕ → Type 0
Reaches w bytes n = bit_count w * n ≤ 8 * length bytes

-- a bit past the last of n values is set
abbrev pub HasPadding : Width → List ℕ → ℕ → Type 0
HasPadding w bytes n = 2 ^ (bit_count w * n) ≤ little_endian bytes

-- The packing of values at a width: the bytes of their number, the lowest first. It is what PackedAt determines.
abbrev pub packing : Width → List ℤ → List ℕ
packing w values = bytes_low_first 0 (packed_len w (length values)) (packed_number w values)

-- the values packed at their least width: the bytes that Packed determines
abbrev pub packed : List ℤ → List ℕ
packed values = packing (least_width values) values
