-- What a write of one value does to the bytes.
use Rattle.std.specs.Prelude.{◌≡◌, ℕ, ◌+◌, ◌*◌, ◌^◌, ℤ, List, length}
use Rattle.bit_pack.specs.declared.widths.Width.{Width}
use Rattle.bit_pack.specs.Width.{bit_count}
use Rattle.bit_pack.specs.Packed.{little_endian, residue, AreBytes, digit_at}

-- the number has the residue of v in place of the digit at place i, and all else as before
pub record Writes (w : Width) (old new : List ℕ) (i : ℕ) (v : ℤ) : Type 0 where
  pub len : length new ≡ length old
  pub octets : AreBytes new
  pub number : little_endian new + 2 ^ (bit_count w * i) * digit_at w old i ≡ little_endian old + 2 ^ (bit_count w * i) * residue (bit_count w) v
