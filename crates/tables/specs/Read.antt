-- A column that is read beside the kind of its values.
use Rattle.std.specs.Prelude.{List, length}
use Rattle.mk_value.specs.Data.{Datum}
use Rattle.mk_value.specs.Heading.{Domain}
use Rattle.mk_value.specs.Kinds.{domain_of}
use Rattle.tables.specs.Columns.{StoredColumn, integers, texts, views, column_values, IsColumnOf}
use Rattle.tables.specs.Stored.{stored_of}
use Rattle.tables.specs.declared.column.Column.{Column}

-- the kind of what is kept
abbrev pub IsIntegers : StoredColumn → Type 0
IsIntegers (integers c) = Unit {0}
IsIntegers _ = ⊥

abbrev pub IsTexts : StoredColumn → Type 0
IsTexts (texts c) = Unit {0}
IsTexts _ = ⊥

abbrev pub AreViews : StoredColumn → Type 0
AreViews (views ts) = Unit {0}
AreViews _ = ⊥

-- the values that are read
abbrev pub values_read : Column → List Datum
values_read c = column_values (domain_of c.kind.now) (stored_of c.col.now)

abbrev pub IsWhole : Column → Type 0
IsWhole c = IsColumnOf (length (values_read c)) (domain_of c.kind.now) (stored_of c.col.now)

-- the values of the domain are views
abbrev pub IsViewDomain : Domain → Type 0
IsViewDomain (Domain.relation h) = Unit {0}
IsViewDomain _ = ⊥
