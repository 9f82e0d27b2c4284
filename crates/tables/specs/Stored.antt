-- What a column of the program means.
use Rattle.tables.specs.Columns.{StoredColumn, integers, texts, views}
use Rattle.tables.specs.declared.cols.Col.{Col}
use Rattle.tables.specs.declared.cols.Col.TheVariants.{Ints, Blobs, Views}

abbrev pub stored_of : Col → StoredColumn
stored_of (Ints c) = integers c
stored_of (Blobs c) = texts c
stored_of (Views ts) = views ts
