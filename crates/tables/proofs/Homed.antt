-- The columns of a table whose homes have the first of some blocks.
use Rattle.std.proofs.Common.{◌≡◌, ℕ, zero, suc, ◌+◌, ◌*◌, ◌<◌, ◌≤◌, List, [], ◌∷◌, ◌++◌, length, get_or, take, drop, map, Option, Some, None, refl, ap, sym, subst, ◌∙◌, arith}
use Rattle.std.proofs.lemmas.List.{drop-drop, length-drop}
use Rattle.mk_value.specs.declared.span.Span.{Span}
use Rattle.mk_value.specs.Heading.{Domain, Attribute}
use Rattle.mk_value.specs.Data.{Datum, AreRowsOf}
use Rattle.mk_value.specs.Tables.{domain_at, number_in}
use Rattle.int_col.specs.Numbers.{Numbers}
use Rattle.bytes_col.specs.declared.home.BytesHome.{BytesHome}
use Rattle.bytes_col.specs.Strings.{Strings, long_values}
use Rattle.tables.specs.Build.{AreCells}
use Rattle.tables.specs.Columns.{StoredColumn, integers, texts, home_of, home_of_numbers, home_of_strings, AreColumnsIn, HasBlocks, IsColumnWith}
use Rattle.tables.specs.Homes.{Home, no_home, numbers, strings, column_of}
use Rattle.tables.specs.Pools.{IsPlacedAt, block_count, blocks_count, home_at, homed_table, homes_at}
use Rattle.tables.specs.Read.{IsViewDomain}
use Rattle.tables.specs.Shapes.{HasHomes, IsHomeOf, bytes_in}
use Rattle.tables.specs.Tables.{StoredTable, IsTable}
use Rattle.tables.proofs.ColumnWith.{bytes_made, integers_made, longs_made, texts_made}
use Rattle.tables.proofs.EditedTables.{column_shape}
use Rattle.tables.proofs.Reading.{domain_read}
use Rattle.tables.proofs.Rebuilding.{AreFirstColumns, AreRebuilt, IsRebuilt-table, all_columns, first_columns_more, no_first_columns, rebuilt_as}

-- the home of a column has the blocks behind those of the columns before it
pub home_read : (schema : List Attribute) (blocks : List Span) (k : ℕ) → k < length schema → get_or (homes_at schema blocks) k no_home ≡ home_at (domain_at schema k) (drop (blocks_count (take k schema)) blocks)
home_read [] blocks k p = absurd (omega arith)
home_read (a ∷ schema) blocks zero p = refl
home_read (a ∷ schema) blocks (suc k) p =
    home_read schema (drop (block_count a.domain) blocks) k (omega arith)
    ∙ ap (home_at (domain_at schema k)) (drop-drop (blocks_count (take k schema)) (block_count a.domain) blocks)

count_step : (schema : List Attribute) (k : ℕ) → k < length schema → blocks_count (take (suc k) schema) ≡ blocks_count (take k schema) + block_count (domain_at schema k)
count_step [] k p = absurd (omega arith)
count_step (a ∷ schema) zero p = omega arith
count_step (a ∷ schema) (suc k) p = let e = count_step schema k (omega arith) in omega (arith, e)

pub count_more : (schema : List Attribute) (k : ℕ) → k < length schema → blocks_count (take (k + 1) schema) ≡ blocks_count (take k schema) + block_count (domain_at schema k)
count_more schema k p = let one : k + 1 ≡ suc k = omega arith in ap (λ m. blocks_count (take m schema)) one ∙ count_step schema k p

pub count_within : (schema : List Attribute) (k : ℕ) → k < length schema → blocks_count (take k schema) + block_count (domain_at schema k) ≤ blocks_count schema
count_within [] k p = absurd (omega arith)
count_within (a ∷ schema) zero p = omega arith
count_within (a ∷ schema) (suc k) p = let e = count_within schema k (omega arith) in omega (arith, e)

-- the blocks of the columns before one and of that one
pub count_next : (schema : List Attribute) (k : ℕ) (a : Attribute) (e : Domain) (count n : ℕ) → k < length schema → a ≡ get_or schema k a → e ≡ a.domain → count ≡ blocks_count (take k schema) → n ≡ block_count e → count + n ≡ blocks_count (take (k + 1) schema)
count_next schema k a e count n p read kind before own =
    let here = ap block_count (domain_read schema k a e p read kind) in
    omega (arith, count_more schema k p, here, before, own)

block_most : (e : Domain) → block_count e ≤ 2
block_most Domain.integer = omega arith
block_most Domain.long = omega arith
block_most Domain.text = omega arith
block_most Domain.bytes = omega arith
block_most (Domain.relation h) = omega arith

pub blocks_most : (schema : List Attribute) → blocks_count schema ≤ 2 * length schema
blocks_most [] = omega arith
blocks_most (a ∷ schema) = omega (arith, block_most a.domain, blocks_most schema)

pub count_fits : (schema : List Attribute) (k : ℕ) (a : Attribute) (e : Domain) (count n : ℕ) → k < length schema → a ≡ get_or schema k a → e ≡ a.domain → count ≡ blocks_count (take k schema) → n ≡ block_count e → count + n ≤ 2 * length schema
count_fits schema k a e count n p read kind before own =
    let here = ap block_count (domain_read schema k a e p read kind) in
    omega (arith, count_within schema k p, here, before, own, blocks_most schema)

-- the first columns were made, and the blocks of their homes are passed
pub record AreHomed (t : StoredTable) (at : ℕ) (cols : List StoredColumn) (next : ℕ) : Type 0 where
  pub first : AreFirstColumns t at cols
  pub next_is : next ≡ blocks_count (take at t.schema)

pub none_homed : (schema : List Attribute) (rows : List (List Datum)) (blocks : List Span) (cols : List StoredColumn) → cols ≡ [] → AreHomed (homed_table schema rows blocks) 0 cols 0
none_homed schema rows blocks cols e = record { first = no_first_columns (homed_table schema rows blocks) cols e; next_is = refl }

pub homed_more : (schema : List Attribute) (rows : List (List Datum)) (blocks : List Span) (at : ℕ) (cols new : List StoredColumn) (next count : ℕ) (c : StoredColumn) → at < length schema
    → AreHomed (homed_table schema rows blocks) at cols next → new ≡ cols ++ c ∷ [] → count ≡ block_count (domain_at schema at)
    → IsColumnWith (domain_at schema at) (column_of rows at) (home_at (domain_at schema at) (drop next blocks)) c → AreHomed (homed_table schema rows blocks) (at + 1) new (next + count)
homed_more schema rows blocks at cols new next count c p h e counted here =
    let before = h.next_is in
    let With = λ (home : Home). IsColumnWith (domain_at schema at) (column_of rows at) home c in
    record {
      first =
          first_columns_more (homed_table schema rows blocks) at cols new c h.first e
          (subst With (sym (home_read schema blocks at p)) (subst (λ m. With (home_at (domain_at schema at) (drop m blocks))) before here));
      next_is = omega (arith, before, counted, count_more schema at p);
    }

pub all_homed_columns : (schema : List Attribute) (rows : List (List Datum)) (blocks : List Span) (at : ℕ) (cols : List StoredColumn) (next : ℕ) → AreHomed (homed_table schema rows blocks) at cols next → at ≡ length schema → AreColumnsIn (homed_table schema rows blocks) cols
all_homed_columns schema rows blocks at cols next h e = all_columns (homed_table schema rows blocks) at cols h.first e

-- there are blocks for the next column
pub enough_left : (schema : List Attribute) (blocks : List Span) (at next : ℕ) → at < length schema → next ≡ blocks_count (take at schema) → blocks_count schema ≤ length blocks → block_count (domain_at schema at) ≤ length (drop next blocks)
enough_left schema blocks at next p e all = omega (arith, count_within schema at p, length-drop next blocks)

pub next_within : (schema : List Attribute) (blocks : List Span) (at next : ℕ) → at < length schema → next ≡ blocks_count (take at schema) → blocks_count schema ≤ length blocks → next + block_count (domain_at schema at) ≤ length blocks
next_within schema blocks at next p e all = omega (arith, count_within schema at p)

pub next_few : (schema : List Attribute) (at next : ℕ) → at < length schema → next ≡ blocks_count (take at schema) → next + block_count (domain_at schema at) ≤ 2 * length schema
next_few schema at next p e = omega (arith, count_within schema at p, blocks_most schema)

pub shape_left : (schema : List Attribute) (rows : List (List Datum)) (blocks : List Span) (at next : ℕ) → at < length schema → next ≡ blocks_count (take at schema) → HasHomes (homed_table schema rows blocks)
    → IsHomeOf (home_at (domain_at schema at) (drop next blocks)) (domain_at schema at) (column_of rows at)
shape_left schema rows blocks at next p e shaped =
    let Shaped = λ (home : Home). IsHomeOf home (domain_at schema at) (column_of rows at) in
    subst (λ m. Shaped (home_at (domain_at schema at) (drop m blocks))) (sym e) (subst Shaped (home_read schema blocks at p) (column_shape (homed_table schema rows blocks) shaped at p))

-- A column with the home of its blocks.
pub first_block : (blocks : List Span) (block : Span) → 0 < length blocks → block ≡ get_or blocks 0 block → numbers block ≡ home_at Domain.integer blocks
first_block [] block p e = absurd (omega arith)
first_block (b ∷ blocks) block p e = ap numbers e

pub first_blocks : (blocks : List Span) (sizes short : Span) → 1 < length blocks → sizes ≡ get_or blocks 0 sizes → short ≡ get_or blocks 1 short → strings sizes short [] ≡ home_at Domain.text blocks
first_blocks [] sizes short p e f = absurd (omega arith)
first_blocks (a ∷ []) sizes short p e f = absurd (omega arith)
first_blocks (a ∷ b ∷ blocks) sizes short p e f = ap (λ s. strings s short []) e ∙ ap (λ s. strings a s []) f

long_home : (blocks : List Span) → home_at Domain.integer blocks ≡ home_at Domain.long blocks
long_home [] = refl
long_home (b ∷ blocks) = refl

bytes_home : (blocks : List Span) → home_at Domain.text blocks ≡ home_at Domain.bytes blocks
bytes_home [] = refl
bytes_home (a ∷ []) = refl
bytes_home (a ∷ b ∷ blocks) = refl

pub integers_placed : (rows : List (List Datum)) (at : ℕ) (c : Numbers) (blocks : List Span) → AreCells rows at Domain.integer → c.values ≡ map number_in (column_of rows at) → home_of_numbers c.home ≡ home_at Domain.integer blocks
    → IsColumnWith Domain.integer (column_of rows at) (home_at Domain.integer blocks) (integers c)
integers_placed rows at c blocks h values e =
    let made = integers_made rows at (record c { home = None }) h values refl in
    record { whole = record { count = made.whole.count; fit = made.whole.fit }; holds = made.holds; home_is = e }

pub longs_placed : (rows : List (List Datum)) (at : ℕ) (c : Numbers) (blocks : List Span) → AreCells rows at Domain.long → c.values ≡ map number_in (column_of rows at) → home_of_numbers c.home ≡ home_at Domain.integer blocks
    → IsColumnWith Domain.long (column_of rows at) (home_at Domain.long blocks) (integers c)
longs_placed rows at c blocks h values e =
    let made = longs_made rows at (record c { home = None }) h values refl in
    record { whole = record { count = made.whole.count; fit = made.whole.fit }; holds = made.holds; home_is = e ∙ long_home blocks }

-- a home without blocks of long values, of values none of which is long
has_blocks : (home : Option BytesHome) (blocks : List Span) (ds : List Datum) (values : List (List ℕ)) → 1 < length blocks → home_of_strings home ≡ home_at Domain.text blocks → IsHomeOf (home_at Domain.text blocks) Domain.text ds
    → values ≡ map bytes_in ds → HasBlocks home values
has_blocks home [] ds values p f shaped same = absurd (omega arith)
has_blocks home (a ∷ []) ds values p f shaped same = absurd (omega arith)
has_blocks None (a ∷ b ∷ blocks) ds values p f shaped same = tt
has_blocks (Some home) (a ∷ b ∷ blocks) ds values p f shaped same =
    let none : home.memos ≡ [] = cc in
    ap length none ∙ shaped ∙ ap (λ vs. length (long_values vs)) (sym same)

pub texts_placed : (rows : List (List Datum)) (at : ℕ) (c : Strings) (blocks : List Span) → AreCells rows at Domain.text → 1 < length blocks → c.values ≡ map bytes_in (column_of rows at) → home_of_strings c.home ≡ home_at Domain.text blocks
    → IsHomeOf (home_at Domain.text blocks) Domain.text (column_of rows at) → IsColumnWith Domain.text (column_of rows at) (home_at Domain.text blocks) (texts c)
texts_placed rows at c blocks h p values e shaped =
    let made = texts_made rows at (record c { home = None }) h values refl in
    record { whole = record { count = made.whole.count; fit = made.whole.fit; home = has_blocks c.home blocks (column_of rows at) c.values p e shaped values }; holds = made.holds; home_is = e }

bytes_shape : (blocks : List Span) (ds : List Datum) → 1 < length blocks → IsHomeOf (home_at Domain.bytes blocks) Domain.bytes ds → IsHomeOf (home_at Domain.text blocks) Domain.text ds
bytes_shape [] ds p shaped = absurd (omega arith)
bytes_shape (a ∷ []) ds p shaped = absurd (omega arith)
bytes_shape (a ∷ b ∷ blocks) ds p shaped = shaped

pub bytes_placed : (rows : List (List Datum)) (at : ℕ) (c : Strings) (blocks : List Span) → AreCells rows at Domain.bytes → 1 < length blocks → c.values ≡ map bytes_in (column_of rows at) → home_of_strings c.home ≡ home_at Domain.text blocks
    → IsHomeOf (home_at Domain.bytes blocks) Domain.bytes (column_of rows at) → IsColumnWith Domain.bytes (column_of rows at) (home_at Domain.bytes blocks) (texts c)
bytes_placed rows at c blocks h p values e shaped =
    let made = bytes_made rows at (record c { home = None }) h values refl in
    record {
      whole = record { count = made.whole.count; fit = made.whole.fit; home = has_blocks c.home blocks (column_of rows at) c.values p e (bytes_shape blocks (column_of rows at) p shaped) values };
      holds = made.holds;
      home_is = e ∙ bytes_home blocks;
    }

no_view : (e : Domain) (blocks : List Span) (values : List Datum) → IsViewDomain e → IsHomeOf (home_at e blocks) e values → ⊥
no_view Domain.integer blocks values view shaped = view
no_view Domain.long blocks values view shaped = view
no_view Domain.text blocks values view shaped = view
no_view Domain.bytes blocks values view shaped = view
no_view (Domain.relation h) blocks values view shaped = shaped

-- a table with homes of blocks has no views
pub no_views : (schema : List Attribute) (rows : List (List Datum)) (blocks : List Span) (k : ℕ) → HasHomes (homed_table schema rows blocks) → k < length schema → IsViewDomain (domain_at schema k) → ⊥
no_views schema rows blocks k shaped p view =
    no_view (domain_at schema k) (drop (blocks_count (take k schema)) blocks) (column_of rows k) view
    (subst (λ h. IsHomeOf h (domain_at schema k) (column_of rows k)) (home_read schema blocks k p) (column_shape (homed_table schema rows blocks) shaped k p))

-- A table of a pool, made again of its rows and its blocks.
pub homed_again : (t : StoredTable) (schema : List Attribute) (rows : List (List Datum)) (blocks : List Span) → IsPlacedAt t blocks → t.schema ≡ schema → rows ≡ t.rows → homed_table schema rows blocks ≡ t
homed_again t schema rows blocks h e f = ap (λ (s : List Attribute). homed_table s rows blocks) (sym e) ∙ ap (λ rs. homed_table t.schema rs blocks) f ∙ sym h.placed

pub rows_again : (t : StoredTable) (schema : List Attribute) (rows : List (List Datum)) → IsTable t → t.schema ≡ schema → rows ≡ t.rows → AreRowsOf rows schema
rows_again t schema rows whole e f = subst (λ (s : List Attribute). AreRowsOf rows s) e (subst (λ rs. AreRowsOf rs t.schema) (sym f) whole.rows)

pub shape_again : (t : StoredTable) (schema : List Attribute) (rows : List (List Datum)) (blocks : List Span) → HasHomes t → IsPlacedAt t blocks → t.schema ≡ schema → rows ≡ t.rows → HasHomes (homed_table schema rows blocks)
shape_again t schema rows blocks shaped h e f = subst HasHomes (sym (homed_again t schema rows blocks h e f)) shaped

pub enough_again : (t : StoredTable) (schema : List Attribute) (blocks : List Span) → IsPlacedAt t blocks → t.schema ≡ schema → blocks_count schema ≤ length blocks
enough_again t schema blocks h e = let counted = h.counted in let same = ap blocks_count e in omega (arith, counted, same)

pub columns_again : (t : StoredTable) (schema shared : List Attribute) (rows : List (List Datum)) (blocks : List Span) (cols : List StoredColumn) (n : ℕ) → IsTable t → HasHomes t → IsPlacedAt t blocks → t.schema ≡ schema → t.schema ≡ shared → rows ≡ t.rows → n ≡ length rows
    → AreColumnsIn (homed_table schema rows blocks) cols → AreRebuilt n shared cols t
columns_again t schema shared rows blocks cols n whole shaped h e f g long made =
    rebuilt_as t n shared cols (IsRebuilt-table t whole shaped) (subst (λ (u : StoredTable). AreColumnsIn u cols) (homed_again t schema rows blocks h e g) made) (sym (long ∙ ap length g)) f
