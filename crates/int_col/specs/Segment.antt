-- What holds of a segment, its fields and its values.
use Rattle.std.specs.Prelude.{ℕ, ◌<◌, ◌≤◌, ℤ, List, length}
use Rattle.bit_pack.specs.declared.widths.Width.{Width}
use Rattle.bit_pack.specs.Width.{Holds, IsLeastWidth}
use Rattle.bit_pack.specs.Packed.{Packed, values_from}

-- the bytes are exactly as many values as are counted, at their least width
pub record IsSegment (count : ℕ) (w : Width) (bytes : List ℕ) : Type 0 where
  pub few : count ≤ 2048
  pub packed : Packed w (values_from w bytes 0 count) bytes

-- one more value has room, and is one of the width
pub record Takes (values : List ℤ) (v : ℤ) : Type 0 where
  pub room : length values < 2048
  pub holds : (w : Width) → IsLeastWidth w values → Holds w v
