use Rattle.std.proofs.Common.{◌≡◌, take}
use Rattle.tables.specs.Tables.{table_without_homes}
use Rattle.stream_codec.proofs.PutRows.{with_tables}
use Rattle.stream_codec.proofs.inner.put_inners.Given as goal

-- the tables so far stand in the row
abbrev pub invariant-loop-inner : goal.invariant-loop-inner
invariant-loop-inner l = l.table ≡ table_without_homes l.initial.table.schema (with_tables l.initial.table.rows l.at (take l.inner-index l.inners))
