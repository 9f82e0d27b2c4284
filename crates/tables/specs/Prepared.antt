-- Columns to which a row is put at the end: each is made ready for its value first, and then none can fail.
use Rattle.std.specs.Prelude.{◌≡◌, ℕ, ◌-◌, ◌<◌, ℤ, List, [], ◌∷◌, ◌++◌, length, take, None}
use Rattle.mk_value.specs.Heading.{Domain, Attribute}
use Rattle.mk_value.specs.Data.{Datum, IsOf}
use Rattle.tables.specs.Columns.{StoredColumn, integers, texts, views, IsColumnOf}
use Rattle.tables.specs.Edits.{IsPutIn, ArePutIn}
use Rattle.tables.specs.Tables.{StoredTable}
use Rattle.tables.specs.Build.{IsTableOfRows}
use Rattle.tables.specs.declared.prepared.PreparedColumn.{PreparedColumn}
use Rattle.tables.specs.declared.prepared.PreparedColumn.TheVariants.{Ints, Blobs, Listed, Views}

-- a column of the domain after a value was put at its end, behind n values
abbrev pub IsPushed : ℕ → Domain → Datum → StoredColumn → StoredColumn → Type 0
IsPushed n e d old new = IsPutIn n 1 e d old new

-- whole columns of n values, and a row that fits them
abbrev pub AreReady : ℕ → List Attribute → List Datum → List StoredColumn → Type 0
AreReady n (a ∷ schema) (d ∷ row) (c ∷ cols) = IsColumnOf n a.domain c × IsOf d a.domain × AreReady n schema row cols
AreReady n [] [] [] = Unit {0}
AreReady n _ _ _ = ⊥

-- the columns after the row was put at their end
abbrev pub ArePushed : ℕ → List Attribute → List Datum → List StoredColumn → List StoredColumn → Type 0
ArePushed n schema row old new = ArePutIn n 1 schema row old new

-- the column keeps numbers, or byte strings, and has room for one more
abbrev pub HasRoomForNumber : StoredColumn → Type 0
HasRoomForNumber (integers c) = length c.values < 16777216
HasRoomForNumber _ = ⊥

abbrev pub HasRoomForString : StoredColumn → Type 0
HasRoomForString (texts c) = length c.values < 16777216
HasRoomForString _ = ⊥

-- the column without the value
abbrev pub column_before : PreparedColumn → StoredColumn
column_before (Ints p) = integers p.column
column_before (Blobs p) = texts p.column
column_before (Listed list) = views (take (length list - 1) list)
column_before (Views copied) = views copied.value.before

-- a column with it
abbrev pub IsAfter : PreparedColumn → StoredColumn → Type 0
IsAfter (Ints p) (integers c) = (c.values ≡ p.column.values ++ p.value ∷ []) × (c.home ≡ None)
IsAfter (Blobs p) (texts c) = (c.values ≡ p.values) × (c.home ≡ None)
IsAfter (Listed list) (views ts) = ts ≡ list
IsAfter (Views copied) (views ts) = ts ≡ copied.value.longer
IsAfter _ _ = ⊥

-- a column that is ready for a number, and for a byte string
abbrev pub IsReadyForNumber : StoredColumn → ℤ → PreparedColumn → Type 0
IsReadyForNumber (integers c) z (Ints p) = (p.column ≡ c) × (p.value ≡ z)
IsReadyForNumber _ z _ = ⊥

abbrev pub IsReadyForString : StoredColumn → List ℕ → PreparedColumn → Type 0
IsReadyForString (texts c) v (Blobs p) = (p.column ≡ c) × (p.values ≡ c.values ++ v ∷ [])
IsReadyForString _ v _ = ⊥

-- the tables, and behind them the table of these rows
pub record IsLonger (e : Domain) (rows : List (List Datum)) (old new : List StoredTable) : Type 0 where
  pub table : StoredTable
  pub made : IsTableOfRows e rows table
  pub put : new ≡ old ++ table ∷ []

-- a column that is ready for a value of the domain, behind its n values
pub record IsReadyFor (n : ℕ) (e : Domain) (d : Datum) (old : StoredColumn) (p : PreparedColumn) : Type 0 where
  pub before : column_before p ≡ old
  pub after : (c : StoredColumn) → IsAfter p c → IsPushed n e d old c
