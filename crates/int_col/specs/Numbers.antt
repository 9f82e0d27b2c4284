-- What a column of integers is seen as, and what holds of each.
use Rattle.std.specs.Prelude.{◌≡◌, ℕ, zero, suc, ◌≤◌, ℤ, List, length, take, drop, sum, slice_index, Option, None}
use Rattle.mk_value.specs.declared.span.Span.{Span}
use Rattle.bit_pack.specs.declared.widths.Width.{Width}
use Rattle.bit_pack.specs.Width.{IsLeastWidth}
use Rattle.bit_pack.specs.Packed.{packed_len, packing}
use Rattle.int_col.specs.Cuts.{AreCuts}

-- the values, the counts of the segments that hold them, in order, and where the column stands in a file
pub record Numbers : Type 0 where
  pub values : List ℤ
  pub cuts : List ℕ
  pub home : Option Span

-- a column, and a value that is to be put at its end
pub record Push : Type 0 where
  pub column : Numbers
  pub value : ℤ

-- the cuts are as they have to be and add up to the length
pub record IsColumn (c : Numbers) : Type 0 where
  pub few : length c.values ≤ 16777216
  pub cut : AreCuts c.cuts
  pub whole : sum c.cuts ≡ length c.values

-- the values that segment k holds
abbrev pub segment_values : Numbers → ℕ → List ℤ
segment_values c k = take (slice_index c.cuts k) (drop (sum (take k c.cuts)) c.values)

-- the home after a splice of n values: none, unless there are none
abbrev pub home_after : ℕ → Option Span → Option Span
home_after zero home = home
home_after (suc n) home = None

-- the values packed at their least width are at least n bytes
abbrev pub HasPackedBytes : List ℤ → ℕ → Type 0
HasPackedBytes values n = (w : Width) × IsLeastWidth w values × (n ≤ packed_len w (length values))

-- these are the bytes of the values packed at their least width, from byte `from` on
abbrev pub ArePackedBytes : List ℤ → ℕ → List ℕ → Type 0
ArePackedBytes values from bytes =
    (w : Width) → IsLeastWidth w values → bytes ≡ take (length bytes) (drop from (packing w values))
