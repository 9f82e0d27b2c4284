-- Each table inside another is smaller, so that going down into them ends.
use Rattle.std.specs.Prelude.{◌≡◌, ℕ, ◌+◌, ◌*◌, ◌<◌, ◌≤◌, List, [], ◌∷◌, ◌++◌, length, map, All, refl}
use Rattle.mk_value.specs.declared.span.Span.{Span}
use Rattle.std.specs.List.{AllZip}
use Rattle.std.proofs.Common.{arith, ap, get_or, ◌∙◌}
use Rattle.std.proofs.lemmas.List.Elements.{All-head, All-tail}
use denote.Param.Weighed.{most}
use Rattle.mk_value.specs.Heading.{Domain, Heading, no_attributes, attribute, Attribute, attributes_of, domain_weight, heading_weight, attributes_weight}
use Rattle.tables.specs.Tables.{StoredTable}
use Rattle.tables.specs.Columns.{StoredColumn, integers, texts, views, IsTableOf, IsColumnOf, AreColumnsOf}
use Rattle.segments.specs.Joined.{joined}
use Rattle.tables.specs.Items.{IsItem, item_table}
use Rattle.tables.specs.Pools.{IsPool, no_table, parts}
use Rattle.tables.specs.Sizes.{table_size, pool_size, shared_size, item_size, list_size, chunk_size, chunks_size, group_size, groups_size, spine_size, growing_size, tables_size, column_size, columns_size}
use Rattle.tables.specs.Stored.{stored_of}
use Rattle.tables.specs.Lists.{chunk_tables, head_tables, tables_of}
use Rattle.tables.specs.declared.chunk.ChunkKind.{ChunkKind}
use Rattle.tables.specs.declared.chunk.ChunkKind.TheVariants.{Listed, Pooled}
use Rattle.tables.specs.declared.item.ItemKind.{ItemKind}
use Rattle.tables.specs.declared.item.ItemKind.TheVariants.{Own, Part}
use Rattle.tables.specs.declared.cols.Col.{Col}
use Rattle.tables.specs.declared.cols.Col.TheVariants.{Ints, Blobs, Views}
use Rattle.tables.specs.declared.growing.Head.{Head}
use Rattle.tables.specs.declared.growing.Head.TheVariants.{Empty, Chunks}
use Rattle.tables.specs.declared.tables.Kind.{Kind}
use Rattle.tables.specs.declared.tables.Kind.TheVariants.{One, Growing}
use Rattle.tables.specs.declared.chunk.Chunk.TheDeep.{deep-Chunk, deep-ChunkKind, deep-ChunkList, deep-Col, deep-Cols, deep-Group, deep-Groups, deep-Growing, deep-Head, deep-Item, deep-ItemKind, deep-Kind, deep-Pool, deep-Shared, deep-Spine, deep-Table, deep-TableList, deep-Tables}
use Rattle.tables.specs.declared.chunk.Chunk.TheInside as chunk
use Rattle.tables.specs.declared.cols.Cols.TheInside as cols
use Rattle.tables.specs.declared.groups.ChunkList.TheInside as chunks
use Rattle.tables.specs.declared.groups.Group.TheInside as group
use Rattle.tables.specs.declared.groups.Groups.TheInside as groups
use Rattle.tables.specs.declared.growing.Growing.TheInside as growing
use Rattle.tables.specs.declared.item.Item.TheInside as item
use Rattle.tables.specs.declared.pool.Pool.TheInside as pool
use Rattle.tables.specs.declared.shared.Shared.TheInside as shared
use Rattle.tables.specs.declared.spine.Spine.TheInside as spine
use Rattle.tables.specs.declared.table.Table.TheInside as table
use Rattle.tables.specs.declared.chunk.TableList.TheInside as list
use Rattle.tables.specs.declared.tables.Tables.TheInside as tables

column_bound : (c : Col) → deep-Col c ≤ column_size (stored_of c)
column_bound (Ints c) = omega arith
column_bound (Blobs c) = omega arith
column_bound (Views ts) = omega arith

most-columns : (cols : List Col) → most deep-Col cols ≤ most column_size (map stored_of cols)
most-columns [] = omega arith
most-columns (c ∷ rest) = omega (arith, column_bound c, most-columns rest)

pub cols_fall : (a : cols.Inside) → deep-Cols a ≤ columns_size (map stored_of a.items.items)
cols_fall a = omega (arith, most-columns a.items.items)

pub shared_falls : (a : shared.Inside) → deep-Shared a ≤ shared_size a.table.value
shared_falls a = omega arith

pool_bound : (t : StoredTable) (ends : List ℕ) (blocks : List Span) → 0 < length ends → table_size t + 1 ≤ pool_size (parts t ends blocks)
pool_bound t [] blocks some = absurd (omega arith)
pool_bound t (end ∷ ends) blocks some = omega arith

pub pool_falls : (a : pool.Inside) → IsPool a.table a.ends.items a.blocks.items → deep-Pool a ≤ pool_size (parts a.table a.ends.items a.blocks.items)
pool_falls a h = let bound = pool_bound a.table a.ends.items a.blocks.items h.some in omega (arith, bound)

-- the tables of a pool have one schema, and so are as deep as any of them
pool_even : (ts : List StoredTable) (schema : List Attribute) → All (λ t. t.schema ≡ schema) ts → pool_size ts ≤ 6 * attributes_weight schema + 17
pool_even [] schema same = omega arith
pool_even (t ∷ rest) schema same =
    let first = ap attributes_weight (All-head (λ (u : StoredTable). u.schema ≡ schema) t rest same) in
    omega (arith, first, pool_even rest schema (All-tail (λ (u : StoredTable). u.schema ≡ schema) t rest same))

item_bound : (k : ItemKind) → IsItem k → deep-ItemKind k ≤ item_size (item_table k)
item_bound (Own table) h = omega arith
item_bound (Part pool number) h = omega (arith, pool_even pool.value (get_or pool.value number no_table).schema h.same)

pub item_falls : (a : item.Inside) → IsItem a.kind → deep-Item a ≤ item_size (item_table a.kind)
item_falls a h = omega (arith, item_bound a.kind h)

pub list_falls : (a : list.Inside) → deep-TableList a ≤ list_size a.items.items
list_falls a = omega arith

pool_within : (ts : List StoredTable) → pool_size ts ≤ list_size ts
pool_within [] = omega arith
pool_within (t ∷ rest) = omega (arith, pool_within rest)

chunk_bound : (k : ChunkKind) → deep-ChunkKind k ≤ chunk_size (chunk_tables k)
chunk_bound (Listed list) = omega arith
chunk_bound (Pooled pool) = omega (arith, pool_within pool.value)

pub chunk_falls : (a : chunk.Inside) → deep-Chunk a ≤ chunk_size (chunk_tables a.kind)
chunk_falls a = omega (arith, chunk_bound a.kind)

most-chunks : (chunks : List (List StoredTable)) → most (λ ts. chunk_size ts + 1) chunks ≤ chunks_size chunks
most-chunks [] = omega arith
most-chunks (c ∷ rest) = omega (arith, most-chunks rest)

pub chunks_fall : (a : chunks.Inside) → deep-ChunkList a ≤ chunks_size a.items.items
chunks_fall a = omega (arith, most-chunks a.items.items)

pub group_falls : (a : group.Inside) → deep-Group a ≤ group_size a.list.value
group_falls a = omega arith

chunks_size-left : (xs ys : List (List StoredTable)) → chunks_size xs ≤ chunks_size (xs ++ ys)
chunks_size-left [] ys = omega arith
chunks_size-left (x ∷ xs) ys = omega (arith, chunks_size-left xs ys)

chunks_size-right : (xs ys : List (List StoredTable)) → chunks_size ys ≤ chunks_size (xs ++ ys)
chunks_size-right [] ys = omega arith
chunks_size-right (x ∷ xs) ys = omega (arith, chunks_size-right xs ys)

-- the groups together are as deep as the deepest of them
groups_bound : (groups : List (List (List StoredTable))) → most (λ chunks. group_size chunks + 1) groups ≤ groups_size (joined groups)
groups_bound [] = omega arith
groups_bound (g ∷ rest) = omega (arith, chunks_size-left g (joined rest), chunks_size-right g (joined rest), groups_bound rest)

pub groups_fall : (a : groups.Inside) → deep-Groups a ≤ groups_size (joined a.groups.items)
groups_fall a = omega (arith, groups_bound a.groups.items)

pub spine_falls : (a : spine.Inside) → deep-Spine a ≤ spine_size a.chunks
spine_falls a = omega arith

list_size-left : (xs ys : List StoredTable) → list_size xs ≤ list_size (xs ++ ys)
list_size-left [] ys = omega arith
list_size-left (x ∷ xs) ys = omega (arith, list_size-left xs ys)

list_size-right : (xs ys : List StoredTable) → list_size ys ≤ list_size (xs ++ ys)
list_size-right [] ys = omega arith
list_size-right (x ∷ xs) ys = omega (arith, list_size-right xs ys)

-- the chunks together are as deep as the deepest of them
chunks_bound : (chunks : List (List StoredTable)) → chunks_size chunks ≤ list_size (joined chunks) + 2
chunks_bound [] = omega arith
chunks_bound (c ∷ rest) = omega (arith, list_size-left c (joined rest), list_size-right c (joined rest), chunks_bound rest)

head_bound : (h : Head) → deep-Head h ≤ growing_size (head_tables h)
head_bound Empty = omega arith
head_bound (Chunks spine) = omega (arith, chunks_bound spine.value)

pub growing_falls : (a : growing.Inside) → deep-Growing a ≤ growing_size (head_tables a.head ++ a.last)
growing_falls a =
    omega (arith, head_bound a.head, list_size-left (head_tables a.head) a.last, list_size-right (head_tables a.head) a.last)

kind_bound : (k : Kind) → deep-Kind k ≤ tables_size (tables_of k)
kind_bound (One chunk) = omega arith
kind_bound (Growing growing) = omega arith

pub tables_fall : (a : tables.Inside) → deep-Tables a ≤ tables_size (tables_of a.kind)
tables_fall a = omega (arith, kind_bound a.kind)

attributes_weight-attributes_of : (h : Heading) → attributes_weight (attributes_of h) ≡ heading_weight h
attributes_weight-attributes_of no_attributes = refl
attributes_weight-attributes_of (attribute n d rest) = let e = attributes_weight-attributes_of rest in omega (arith, e)

inner_bound : (h : Heading) (ts : List StoredTable) → All (IsTableOf (attributes_of h)) ts → list_size ts ≤ 6 * heading_weight h + 19
inner_bound h [] whole = omega arith
inner_bound h (t ∷ rest) whole =
    let first = All-head (IsTableOf (attributes_of h)) t rest whole in
    let weight = ap attributes_weight first.same_schema ∙ attributes_weight-attributes_of h in
    omega (arith, weight, inner_bound h rest (All-tail (IsTableOf (attributes_of h)) t rest whole))

stored_bound : (n : ℕ) (e : Domain) (c : StoredColumn) → IsColumnOf n e c → column_size c ≤ 6 * domain_weight e + 15
stored_bound n e (integers c) h = omega arith
stored_bound n e (texts c) h = omega arith
stored_bound n Domain.integer (views ts) h = absurd h
stored_bound n Domain.long (views ts) h = absurd h
stored_bound n Domain.text (views ts) h = absurd h
stored_bound n Domain.bytes (views ts) h = absurd h
stored_bound n (Domain.relation inner) (views ts) h = omega (arith, inner_bound inner ts h.whole)

columns_bound : (n : ℕ) (schema : List Attribute) (cols : List StoredColumn) → AllZip (λ a c. IsColumnOf n a.domain c) schema cols → most column_size cols ≤ 6 * attributes_weight schema + 15
columns_bound n [] [] h = omega arith
columns_bound n [] (c ∷ cols) h = absurd h
columns_bound n (a ∷ schema) [] h = absurd h
columns_bound n (a ∷ schema) (c ∷ cols) h = omega (arith, stored_bound n a.domain c h.0, columns_bound n schema cols h.1)

pub table_falls : (a : table.Inside) → AreColumnsOf a.rows a.schema a.cols → deep-Table a ≤ 6 * attributes_weight a.schema + 16
table_falls a h = omega (arith, columns_bound a.rows a.schema a.cols h.each)
