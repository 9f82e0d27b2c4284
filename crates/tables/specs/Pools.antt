-- Pools: small tables of one schema, all of whose columns are plain, the rows of one after another in the same columns. Of each table stand
-- beside them where its rows end and the blocks of its homes.
use Rattle.std.specs.Prelude.{◌≡◌, ℕ, ◌+◌, ◌-◌, ◌*◌, ◌<◌, ◌≤◌, true, List, [], ◌∷◌, ◌++◌, length, take, drop, All, slice_index_or}
use Rattle.std.specs.List.{flat_map}
use Rattle.mk_value.specs.declared.span.Span.{Span}
use Rattle.mk_value.specs.Heading.{Domain, Attribute}
use Rattle.mk_value.specs.Data.{Datum, AreRowsOf}
use Rattle.segments.specs.Joined.{joined, counts_of}
use Rattle.tables.specs.Blocks.{is_homed, plain_columns}
use Rattle.tables.specs.Compact.{IsCompact}
use Rattle.tables.specs.Homes.{Home, no_home, numbers, strings}
use Rattle.tables.specs.Rests.{blocks_of}
use Rattle.tables.specs.Shapes.{HasHomes}
use Rattle.tables.specs.Slices.{sliced}
use Rattle.tables.specs.Tables.{StoredTable}

-- what stands for a table where there is none
abbrev pub no_table : StoredTable
no_table = record { schema = []; rows = []; homes = [] }

-- how many blocks the home of a column without long values has, and the home that has the first of these blocks
abbrev pub block_count : Domain → ℕ
block_count Domain.integer = 1
block_count Domain.long = 1
block_count Domain.text = 2
block_count Domain.bytes = 2
block_count (Domain.relation h) = 0

abbrev pub home_at : Domain → List Span → Home
home_at Domain.integer (block ∷ blocks) = numbers block
home_at Domain.long (block ∷ blocks) = numbers block
home_at Domain.text (sizes ∷ short ∷ blocks) = strings sizes short []
home_at Domain.bytes (sizes ∷ short ∷ blocks) = strings sizes short []
home_at _ _ = no_home

-- a home of a plain column, of blocks that go into six bytes, none of which is of a long value
abbrev pub IsSimpleHome : Home → Type 0
IsSimpleHome (numbers block) = IsCompact block
IsSimpleHome (strings sizes short []) = IsCompact sizes × IsCompact short
IsSimpleHome _ = ⊥

-- the same of all columns of a table
abbrev pub blocks_count : List Attribute → ℕ
blocks_count [] = 0
blocks_count (a ∷ schema) = block_count a.domain + blocks_count schema

abbrev pub homes_at : List Attribute → List Span → List Home
homes_at [] blocks = []
homes_at (a ∷ schema) blocks = home_at a.domain blocks ∷ homes_at schema (drop (block_count a.domain) blocks)

-- the table of these rows whose homes have the first of these blocks
abbrev pub homed_table : List Attribute → List (List Datum) → List Span → StoredTable
homed_table schema rows blocks = record { schema = schema; rows = rows; homes = homes_at schema blocks }

-- each plain column of the table, nested ones too, has a home
abbrev pub HasAllHomes : StoredTable → Type 0
HasAllHomes t = All (λ c. is_homed c ≡ true) (plain_columns t)

-- a table of plain columns, each of which has a home: it has these blocks and no others
pub record IsPlacedAt (t : StoredTable) (blocks : List Span) : Type 0 where
  pub counted : length blocks ≡ blocks_count t.schema
  pub placed : t ≡ homed_table t.schema t.rows blocks
  pub homed : HasAllHomes t
  pub shaped : HasHomes t

-- the same of the rows from one place to another
abbrev pub part_at : List Attribute → List (List Datum) → ℕ → ℕ → List Span → StoredTable
part_at schema rows from end blocks = homed_table schema (sliced from (end - from) rows) blocks

-- the tables of a pool, the rows of the first of which begin at a place
abbrev pub parts_from : List Attribute → List (List Datum) → ℕ → List ℕ → List Span → List StoredTable
parts_from schema rows from [] blocks = []
parts_from schema rows from (end ∷ ends) blocks = part_at schema rows from end blocks ∷ parts_from schema rows end ends (drop (blocks_count schema) blocks)

abbrev pub parts : StoredTable → List ℕ → List Span → List StoredTable
parts t ends blocks = parts_from t.schema t.rows 0 ends blocks

-- the ends ascend from a place, and none is beyond so many
abbrev pub AreEnds : ℕ → List ℕ → ℕ → Type 0
AreEnds from [] most = from ≤ most
AreEnds from (end ∷ ends) most = (from ≤ end) × AreEnds end ends most

-- there is a table and there are at most 128, each has its rows, and homes of their shape
pub record IsPool (t : StoredTable) (ends : List ℕ) (blocks : List Span) : Type 0 where
  pub some : 0 < length ends
  pub few : length ends ≤ 128
  pub ascend : AreEnds 0 ends (length t.rows)
  pub counted : length blocks ≡ length ends * blocks_count t.schema
  pub shaped : All HasHomes (parts t ends blocks)

-- the blocks of the homes of the columns of a table
abbrev pub blocks_at_home : StoredTable → List Span
blocks_at_home t = flat_map blocks_of t.homes

-- a whole table of few rows and of plain columns, each with a home without long values: it has as many blocks as its columns have, they say its homes,
-- and each goes into six bytes
pub record IsPoolable (schema : List Attribute) (t : StoredTable) : Type 0 where
  pub same_schema : t.schema ≡ schema
  pub small : length t.rows ≤ 64
  pub rows : AreRowsOf t.rows schema
  pub shaped : HasHomes t
  pub counted : length (blocks_at_home t) ≡ blocks_count schema
  pub homes : (rest : List Span) → homes_at schema (blocks_at_home t ++ rest) ≡ t.homes
  pub compact : All IsCompact (blocks_at_home t)

-- the rows of tables, one after another, and where those of each end that begin at a place
abbrev pub rows_of_tables : List StoredTable → List (List Datum)
rows_of_tables ts = flat_map (λ t. t.rows) ts

abbrev pub ends_of : ℕ → List StoredTable → List ℕ
ends_of from [] = []
ends_of from (t ∷ ts) = (from + length t.rows) ∷ ends_of (from + length t.rows) ts

abbrev pub blocks_of_tables : List StoredTable → List Span
blocks_of_tables ts = flat_map blocks_at_home ts

-- chunks after some were added that have these tables: none of them is empty or too long
pub record Adds (old : List (List StoredTable)) (ts : List StoredTable) (new : List (List StoredTable)) : Type 0 where
  pub joined_is : joined new ≡ joined old ++ ts
  pub some : All (λ n. 0 < n) (counts_of old) → All (λ n. 0 < n) (counts_of new)
  pub each : All (λ n. n ≤ 1024) (counts_of old) → All (λ n. n ≤ 1024) (counts_of new)

-- the tables of a pool begin at a place of a list
pub record IsChunkAt (ts : List StoredTable) (at : ℕ) (chunk : List StoredTable) : Type 0 where
  pub some : 0 < length chunk
  pub few : length chunk ≤ 128
  pub within : at + length chunk ≤ length ts
  pub part : chunk ≡ take (length chunk) (drop at ts)
  pub homed : All HasAllHomes chunk
  pub shaped : All HasHomes chunk
