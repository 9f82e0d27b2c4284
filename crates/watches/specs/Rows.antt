-- The rows of a watch as they are read in its view.
use Rattle.std.specs.Prelude.{List, Some}
use Rattle.live.specs.Chains.{seen}
use Rattle.live.specs.Numbers.{place_of}
use Rattle.mk_value.specs.Data.{Datum}
use Rattle.mk_value.specs.Tables.{Table}
use Rattle.watches.specs.declared.rows.WatchRows.{WatchRows}

-- what is seen of the view through the watch
abbrev pub rows_of : WatchRows → List (List Datum)
rows_of w = seen w.rows.now.rows w.watches.now.watches (Some (place_of w.watches.now.watches w.number))

abbrev pub table_read : WatchRows → Table
table_read w = record { schema = w.rows.now.schema; rows = rows_of w }
