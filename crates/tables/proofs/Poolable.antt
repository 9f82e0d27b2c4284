-- A table of plain columns, each with a home without long values, may stand in a pool.
use Rattle.std.proofs.Common.{◌≡◌, ℕ, ◌+◌, ◌<◌, ◌≤◌, List, [], ◌∷◌, ◌++◌, length, get_or, drop, map, All, Option, None, Some, refl, ap, subst, ◌∙◌, append_assoc, length-append, arith}
use Rattle.std.specs.List.{AllZip, flat_map}
use Rattle.std.proofs.lemmas.List.{drop_at, get_or_default}
use Rattle.std.proofs.lemmas.List.Elements.{All-nil, All-cons, All-head, All-tail, All-append}
use Rattle.mk_value.specs.declared.span.Span.{Span}
use Rattle.mk_value.specs.Heading.{Domain, Attribute}
use Rattle.bytes_col.specs.declared.home.BytesHome.{BytesHome}
use Rattle.tables.specs.Columns.{StoredColumn, integers, texts, views, home_of, home_of_numbers, home_of_strings, table_of_columns, IsColumnOf, AreColumnsOf}
use Rattle.tables.specs.Compact.{IsCompact}
use Rattle.tables.specs.Homes.{Home, no_home, numbers, strings, tables}
use Rattle.tables.specs.Pools.{IsPoolable, IsSimpleHome, block_count, blocks_at_home, blocks_count, home_at, homes_at, no_table}
use Rattle.tables.specs.Rests.{blocks_of}
use Rattle.tables.specs.Tables.{StoredTable}
use Rattle.tables.proofs.Gathering.{AreRowsOf-columns, HasHomes-columns, length-rows_of_columns}

-- a home is said by its blocks
record IsSaid (e : Domain) (home : Home) (rest : List Span) : Type 0 where
  counted : length (blocks_of home) ≡ block_count e
  said : home_at e (blocks_of home ++ rest) ≡ home

integer_said : (home : Option Span) (rest : List Span) → IsSimpleHome (home_of_numbers home) → IsSaid Domain.integer (home_of_numbers home) rest
integer_said None rest h = absurd h
integer_said (Some block) rest h = record { counted = refl; said = refl }

long_said : (home : Option Span) (rest : List Span) → IsSimpleHome (home_of_numbers home) → IsSaid Domain.long (home_of_numbers home) rest
long_said None rest h = absurd h
long_said (Some block) rest h = record { counted = refl; said = refl }

text_home_said : (sizes short : Span) (memos rest : List Span) → IsSimpleHome (strings sizes short memos) → IsSaid Domain.text (strings sizes short memos) rest
text_home_said sizes short [] rest h = record { counted = refl; said = refl }
text_home_said sizes short (memo ∷ memos) rest h = absurd h

bytes_home_said : (sizes short : Span) (memos rest : List Span) → IsSimpleHome (strings sizes short memos) → IsSaid Domain.bytes (strings sizes short memos) rest
bytes_home_said sizes short [] rest h = record { counted = refl; said = refl }
bytes_home_said sizes short (memo ∷ memos) rest h = absurd h

text_said : (home : Option BytesHome) (rest : List Span) → IsSimpleHome (home_of_strings home) → IsSaid Domain.text (home_of_strings home) rest
text_said None rest h = absurd h
text_said (Some home) rest h = text_home_said home.sizes home.short home.memos rest h

bytes_said : (home : Option BytesHome) (rest : List Span) → IsSimpleHome (home_of_strings home) → IsSaid Domain.bytes (home_of_strings home) rest
bytes_said None rest h = absurd h
bytes_said (Some home) rest h = bytes_home_said home.sizes home.short home.memos rest h

column_said : (n : ℕ) (e : Domain) (c : StoredColumn) (rest : List Span) → IsColumnOf n e c → IsSimpleHome (home_of c) → IsSaid e (home_of c) rest
column_said n Domain.integer (integers c) rest whole h = integer_said c.home rest h
column_said n Domain.long (integers c) rest whole h = long_said c.home rest h
column_said n Domain.text (integers c) rest whole h = absurd whole
column_said n Domain.bytes (integers c) rest whole h = absurd whole
column_said n (Domain.relation inner) (integers c) rest whole h = absurd whole
column_said n Domain.integer (texts c) rest whole h = absurd whole
column_said n Domain.long (texts c) rest whole h = absurd whole
column_said n Domain.text (texts c) rest whole h = text_said c.home rest h
column_said n Domain.bytes (texts c) rest whole h = bytes_said c.home rest h
column_said n (Domain.relation inner) (texts c) rest whole h = absurd whole
column_said n e (views ts) rest whole h = absurd h

-- and so are those of all columns
record AreSaid (schema : List Attribute) (homes : List Home) (rest : List Span) : Type 0 where
  counted : length (flat_map blocks_of homes) ≡ blocks_count schema
  said : homes_at schema (flat_map blocks_of homes ++ rest) ≡ homes

columns_said : (n : ℕ) (schema : List Attribute) (cols : List StoredColumn) (rest : List Span) → AllZip (λ a c. IsColumnOf n a.domain c) schema cols → All (λ c. IsSimpleHome (home_of c)) cols → AreSaid schema (map home_of cols) rest
columns_said n [] [] rest whole simple = record { counted = refl; said = refl }
columns_said n [] (c ∷ cols) rest whole simple = absurd whole
columns_said n (a ∷ schema) [] rest whole simple = absurd whole
columns_said n (a ∷ schema) (c ∷ cols) rest whole simple =
    let own = blocks_of (home_of c) in
    let others = flat_map blocks_of (map home_of cols) in
    let first = column_said n a.domain c (others ++ rest) whole.0 (All-head (λ x. IsSimpleHome (home_of x)) c cols simple) in
    let more = columns_said n schema cols rest whole.1 (All-tail (λ x. IsSimpleHome (home_of x)) c cols simple) in
    let counted = first.counted in
    let counted_more = more.counted in
    let split : (own ++ others) ++ rest ≡ own ++ (others ++ rest) = append_assoc own others rest in
    record {
      counted = omega (arith, length-append own others, counted, counted_more);
      said =
          ap (homes_at (a ∷ schema)) split
          ∙ ap (λ h. h ∷ homes_at schema (drop (block_count a.domain) (own ++ (others ++ rest)))) first.said
          ∙ ap (λ bs. home_of c ∷ homes_at schema bs) (drop_at own (others ++ rest) (block_count a.domain) counted)
          ∙ ap (λ hs. home_of c ∷ hs) more.said;
    }

-- the blocks of such a home go into six bytes, and so do those of all columns
home_compact : (home : Home) → IsSimpleHome home → All IsCompact (blocks_of home)
home_compact no_home h = absurd h
home_compact (numbers block) h = All-cons IsCompact block [] h (All-nil IsCompact)
home_compact (strings sizes short []) h = All-cons IsCompact sizes (short ∷ []) h.0 (All-cons IsCompact short [] h.1 (All-nil IsCompact))
home_compact (strings sizes short (memo ∷ memos)) h = absurd h
home_compact (tables rows) h = absurd h

columns_compact : (cols : List StoredColumn) → All (λ c. IsSimpleHome (home_of c)) cols → All IsCompact (flat_map blocks_of (map home_of cols))
columns_compact [] simple = All-nil IsCompact
columns_compact (c ∷ cols) simple =
    All-append IsCompact (blocks_of (home_of c)) (flat_map blocks_of (map home_of cols))
    (home_compact (home_of c) (All-head (λ x. IsSimpleHome (home_of x)) c cols simple))
    (columns_compact cols (All-tail (λ x. IsSimpleHome (home_of x)) c cols simple))

pub poolable : (n : ℕ) (schema : List Attribute) (cols : List StoredColumn) → AreColumnsOf n schema cols → n ≤ 64 → All (λ c. IsSimpleHome (home_of c)) cols → IsPoolable schema (table_of_columns n schema cols)
poolable n schema cols whole few simple =
    let all = columns_said n schema cols [] whole.each simple in
    record {
      same_schema = refl;
      small = omega (arith, length-rows_of_columns n schema cols, few);
      rows = AreRowsOf-columns n schema cols whole;
      shaped = HasHomes-columns n schema cols whole;
      counted = all.counted;
      homes = λ rest. let here = columns_said n schema cols rest whole.each simple in here.said;
      compact = columns_compact cols simple;
    }

-- the schema of the first of some tables
pub first_schema : (ts : List StoredTable) (t : StoredTable) (schema : List Attribute) → 0 < length ts → t ≡ get_or ts 0 t → schema ≡ t.schema → schema ≡ (get_or ts 0 no_table).schema
first_schema ts t schema some read same = same ∙ ap (λ (u : StoredTable). u.schema) (read ∙ get_or_default ts 0 t no_table some)

-- by another name for the schema and for the table
pub poolable_with : (schema other : List Attribute) (t u : StoredTable) → schema ≡ other → t ≡ u → IsPoolable schema t → IsPoolable other u
poolable_with schema other t u same is h = subst (IsPoolable other) is (subst (λ (s : List Attribute). IsPoolable s t) same h)
