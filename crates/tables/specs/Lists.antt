-- The tables that the parts of a list hold.
use Rattle.std.specs.Prelude.{List, []}
use Rattle.segments.specs.Joined.{joined}
use Rattle.tables.specs.Tables.{StoredTable}
use Rattle.tables.specs.declared.chunk.ChunkKind.{ChunkKind}
use Rattle.tables.specs.declared.chunk.ChunkKind.TheVariants.{Listed, Pooled}
use Rattle.tables.specs.declared.growing.Head.{Head}
use Rattle.tables.specs.declared.growing.Head.TheVariants.{Empty, Chunks}
use Rattle.tables.specs.declared.tables.Kind.{Kind}
use Rattle.tables.specs.declared.tables.Kind.TheVariants.{One, Growing}

-- those of a chunk
abbrev pub chunk_tables : ChunkKind → List StoredTable
chunk_tables (Listed list) = list.value
chunk_tables (Pooled pool) = pool.value

-- those before the last chunk
abbrev pub head_tables : Head → List StoredTable
head_tables Empty = []
head_tables (Chunks spine) = joined spine.value

abbrev pub tables_of : Kind → List StoredTable
tables_of (One chunk) = chunk
tables_of (Growing growing) = growing
