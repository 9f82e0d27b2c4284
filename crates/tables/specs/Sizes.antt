-- How much a table holds: more than each table inside it, by its schema alone.
use Rattle.std.specs.Prelude.{ℕ, ◌+◌, ◌*◌, List}
use denote.Param.Weighed.{most}
use Rattle.mk_value.specs.Heading.{attributes_weight}
use Rattle.tables.specs.Tables.{StoredTable}
use Rattle.tables.specs.Columns.{StoredColumn, integers, texts, views}

abbrev pub table_size : StoredTable → ℕ
table_size t = 6 * attributes_weight t.schema + 16

abbrev pub shared_size : StoredTable → ℕ
shared_size t = table_size t + 1

-- of the tables of a pool, which have one schema
abbrev pub pool_size : List StoredTable → ℕ
pool_size ts = most (λ t. table_size t + 1) ts

-- of a table of a list, and of such a list
abbrev pub item_size : StoredTable → ℕ
item_size t = table_size t + 2

abbrev pub list_size : List StoredTable → ℕ
list_size ts = most (λ t. item_size t + 1) ts

-- of a chunk, of a list of chunks, of a group of them, of the groups of a spine, of a spine, and of a list that is a spine and a chunk
-- behind it
abbrev pub chunk_size : List StoredTable → ℕ
chunk_size ts = list_size ts + 1

abbrev pub chunks_size : List (List StoredTable) → ℕ
chunks_size chunks = most (λ ts. chunk_size ts + 1) chunks

abbrev pub group_size : List (List StoredTable) → ℕ
group_size chunks = chunks_size chunks + 1

abbrev pub groups_size : List (List StoredTable) → ℕ
groups_size chunks = chunks_size chunks + 2

abbrev pub spine_size : List (List StoredTable) → ℕ
spine_size chunks = groups_size chunks + 1

abbrev pub growing_size : List StoredTable → ℕ
growing_size ts = list_size ts + 6

abbrev pub tables_size : List StoredTable → ℕ
tables_size ts = growing_size ts + 1

abbrev pub column_size : StoredColumn → ℕ
column_size (integers c) = 0
column_size (texts c) = 0
column_size (views ts) = tables_size ts + 1

abbrev pub columns_size : List StoredColumn → ℕ
columns_size cols = most column_size cols
