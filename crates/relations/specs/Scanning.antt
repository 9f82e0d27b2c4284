-- Scans: what the first criterion asks, and numbers that were read together.
use Rattle.std.specs.Prelude.{◌≡◌, ℕ, ℤ, pos, ◌+◌, ◌-◌, ◌<◌, ◌≤◌, List, [], ◌∷◌, length, slice_index_or}
use Rattle.mk_value.specs.Data.{Datum, integer, long}
use Rattle.mk_value.specs.Tables.{column_numbers}
use Rattle.relations.specs.Criteria.{Interval}
use Rattle.relations.specs.declared.scanning.Lead.{Lead}
use Rattle.relations.specs.declared.scanning.Lead.TheVariants.{Numbers, One, Between}
use Rattle.relations.specs.declared.scanning.Window.{Window}

-- the two values are numbers of one kind, and these
abbrev pub AreBounds : Datum → Datum → ℤ → ℤ → Type 0
AreBounds (integer a) (integer b) low high = (low ≡ a) × (high ≡ b)
AreBounds (long a) (long b) low high = (low ≡ a) × (high ≡ b)
AreBounds _ _ low high = ⊥

-- what two bounds ask is this
abbrev pub IsLeadOf : Datum → Datum → Lead → Type 0
IsLeadOf a b (Numbers low high) = AreBounds a b low high
IsLeadOf a b One = a ≡ b
IsLeadOf a b Between = Unit {0}

-- and what a criterion asks
abbrev pub IsLead : Interval → Lead → Type 0
IsLead c lead = IsLeadOf c.low c.high lead

abbrev pub IsFirstLead : List Interval → Lead → Type 0
IsFirstLead [] lead = Unit {0}
IsFirstLead (c ∷ rest) lead = IsLead c lead

-- the numbers that are held are those of the column, and there is place for some where there is a row
pub record IsWindow (rows : List (List Datum)) (col : ℕ) (w : Window) : Type 0 where
  pub few : length w.numbers.items ≤ length rows
  pub some : 0 < length rows → 0 < length w.numbers.items
  pub within : w.until ≤ w.from + length w.numbers.items
  pub held : (i : ℕ) → w.from ≤ i → i < w.until → slice_index_or w.numbers.items (i - w.from) (pos 0) ≡ slice_index_or (column_numbers rows col) i (pos 0)
