-- Columns into which a row is put, or from which rows are removed, at any place.
use Rattle.std.specs.Prelude.{◌≡◌, ℕ, ◌+◌, ◌≤◌, ℤ, List, [], ◌∷◌, length, None}
use Rattle.mk_value.specs.Heading.{Domain, Attribute}
use Rattle.mk_value.specs.Data.{Datum}
use Rattle.tables.specs.Columns.{StoredColumn, integers, texts, views, column_values, home_of, IsColumnWith}
use Rattle.tables.specs.Rows.{inserted, removed, home_inserted}
use Rattle.tables.specs.Tables.{StoredTable}

-- a column of the domain after a value was put at a place n times
abbrev pub IsPutIn : ℕ → ℕ → Domain → Datum → StoredColumn → StoredColumn → Type 0
IsPutIn at n e d old new = IsColumnWith e (inserted at n d (column_values e old)) (home_inserted at n e d (home_of old)) new

-- the columns after a row was put at a place n times
abbrev pub ArePutIn : ℕ → ℕ → List Attribute → List Datum → List StoredColumn → List StoredColumn → Type 0
ArePutIn at n (a ∷ schema) (d ∷ row) (c ∷ old) (e ∷ new) = IsPutIn at n a.domain d c e × ArePutIn at n schema row old new
ArePutIn at n [] [] [] [] = Unit {0}
ArePutIn at n _ _ _ _ = ⊥

-- the column keeps numbers, or byte strings, or tables, has the place, and takes n more
abbrev pub TakesNumbers : ℕ → ℕ → StoredColumn → Type 0
TakesNumbers at n (integers c) = (at ≤ length c.values) × (length c.values + n ≤ 16777216)
TakesNumbers at n _ = ⊥

abbrev pub TakesStrings : ℕ → ℕ → StoredColumn → Type 0
TakesStrings at n (texts c) = (at ≤ length c.values) × (length c.values + n ≤ 16777216)
TakesStrings at n _ = ⊥

abbrev pub TakesTables : ℕ → StoredColumn → Type 0
TakesTables at (views ts) = at ≤ length ts
TakesTables at _ = ⊥

-- a column with n copies of a number, a byte string or a table put in, without a home of its own
abbrev pub HasNumbersIn : ℕ → ℕ → ℤ → StoredColumn → StoredColumn → Type 0
HasNumbersIn at n z (integers c) (integers d) = (d.values ≡ inserted at n z c.values) × (d.home ≡ None)
HasNumbersIn at n z _ _ = ⊥

abbrev pub HasStringsIn : ℕ → ℕ → List ℕ → StoredColumn → StoredColumn → Type 0
HasStringsIn at n v (texts c) (texts d) = (d.values ≡ inserted at n v c.values) × (d.home ≡ None)
HasStringsIn at n v _ _ = ⊥

abbrev pub HasTablesIn : ℕ → ℕ → StoredTable → StoredColumn → StoredColumn → Type 0
HasTablesIn at n t (views ts) (views us) = us ≡ inserted at n t ts
HasTablesIn at n t _ _ = ⊥

-- a column has at least so many values
abbrev pub HasSome : ℕ → StoredColumn → Type 0
HasSome n (integers c) = n ≤ length c.values
HasSome n (texts c) = n ≤ length c.values
HasSome n (views ts) = n ≤ length ts

abbrev pub HaveSome : ℕ → List StoredColumn → Type 0
HaveSome n [] = Unit {0}
HaveSome n (c ∷ cols) = HasSome n c × HaveSome n cols

-- a column without n values from a place on, and without a home of its own
abbrev pub IsWithout : ℕ → ℕ → StoredColumn → StoredColumn → Type 0
IsWithout at n (integers c) (integers d) = (d.values ≡ removed at n c.values) × (d.home ≡ None)
IsWithout at n (texts c) (texts d) = (d.values ≡ removed at n c.values) × (d.home ≡ None)
IsWithout at n (views ts) (views us) = us ≡ removed at n ts
IsWithout at n _ _ = ⊥

-- the columns without n rows from a place on
abbrev pub AreWithout : ℕ → ℕ → List StoredColumn → List StoredColumn → Type 0
AreWithout at n (c ∷ old) (d ∷ new) = IsWithout at n c d × AreWithout at n old new
AreWithout at n [] [] = Unit {0}
AreWithout at n _ _ = ⊥
