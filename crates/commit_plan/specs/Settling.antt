-- Columns and tables after each column without a home was given the next spans.
use Rattle.std.specs.Prelude.{◌≡◌, ℕ, ◌+◌, List, [], ◌∷◌, ◌++◌, length, drop, All, Some, if◌then◌else◌}
use Rattle.mk_value.specs.declared.span.Span.{Span}
use Rattle.mk_value.specs.Heading.{Domain}
use Rattle.bit_pack.specs.Packed.{packed}
use Rattle.bytes_col.specs.Strings.{Strings, long_values, string_blocks}
use Rattle.bytes_col.specs.declared.home.BytesHome.{BytesHome}
use Rattle.tables.specs.Shapes.{HasHomes}
use Rattle.tables.specs.Tables.{StoredTable}
use Rattle.tables.specs.Columns.{StoredColumn, integers, texts, views, column_values, home_of, IsColumnOf}
use Rattle.tables.specs.Blocks.{has_home, plain_columns}
use Rattle.view_store.specs.Views.{NamedTable}
use Rattle.recovery.specs.Commits.{plain_views}
use Rattle.commit_plan.specs.Following.{blocks_due, rows_of_views, settled_at}
use Rattle.commit_plan.specs.Plain.{plain_of, plain_tables}

-- the blocks of what is kept in a leaf column
abbrev pub stored_blocks : StoredColumn → List (List ℕ)
stored_blocks (integers c) = packed c.values ∷ []
stored_blocks (texts c) = string_blocks c.values
stored_blocks (views ts) = []

-- the blocks that a column is due
abbrev pub column_due : StoredColumn → List (List ℕ)
column_due (views ts) = blocks_due (plain_tables ts)
column_due c = if has_home (home_of c) then [] else stored_blocks c

-- a column of the domain after it was settled at the first of these spans: it keeps its values
pub record IsSettledOf (n : ℕ) (e : Domain) (old : StoredColumn) (spans : List Span) (new : StoredColumn) : Type 0 where
  pub whole : IsColumnOf n e new
  pub same : column_values e new ≡ column_values e old
  pub plain : plain_of e new ≡ settled_at (plain_of e old) spans

-- a column, as one of any domain that it may be of
abbrev pub IsSettledAs : StoredColumn → List Span → StoredColumn → Type 0
IsSettledAs old spans new = (n : ℕ) (e : Domain) → IsColumnOf n e old → IsSettledOf n e old spans new

-- a table: it keeps its schema and its rows
pub record IsSettledTable (old : StoredTable) (spans : List Span) (new : StoredTable) : Type 0 where
  pub schema : new.schema ≡ old.schema
  pub rows : new.rows ≡ old.rows
  pub shaped : HasHomes new
  pub plain : plain_columns new ≡ settled_at (plain_columns old) spans

-- Each of a list is settled in turn, where each takes as many spans as it is due blocks.
abbrev pub counted : {X : Type 0} → (X → ℕ) → List X → ℕ
counted count [] = 0
counted count (x ∷ xs) = count x + counted count xs

abbrev pub InTurn : {X : Type 0} → (X → ℕ) → (X → List Span → X → Type 0) → List X → List Span → List X → Type 0
InTurn count R [] spans [] = Unit {0}
InTurn count R [] spans (y ∷ ys) = ⊥
InTurn count R (x ∷ xs) spans [] = ⊥
InTurn count R (x ∷ xs) spans (y ∷ ys) = R x spans y × InTurn count R xs (drop (count x) spans) ys

abbrev pub column_count : StoredColumn → ℕ
column_count c = length (column_due c)

abbrev pub table_count : StoredTable → ℕ
table_count t = length (blocks_due (plain_columns t))

abbrev pub AreSettledColumns : List StoredColumn → List Span → List StoredColumn → Type 0
AreSettledColumns old spans new = InTurn column_count IsSettledAs old spans new

abbrev pub AreSettledTables : List StoredTable → List Span → List StoredTable → Type 0
AreSettledTables old spans new = InTurn table_count IsSettledTable old spans new

-- what is left of the spans, and what was made of what was there
pub record Settles {X : Type 0} (count : X → ℕ) (R : X → List Span → X → Type 0) (old : X) (spans rest : List Span) (new : X) : Type 0 where
  pub rest_is : rest ≡ drop (count old) spans
  pub settled : R old spans new

abbrev pub SettlesColumn : StoredColumn → List Span → List Span → StoredColumn → Type 0
SettlesColumn old spans rest new = Settles column_count IsSettledAs old spans rest new

abbrev pub SettlesTable : StoredTable → List Span → List Span → StoredTable → Type 0
SettlesTable old spans rest new = Settles table_count IsSettledTable old spans rest new

abbrev pub SettlesColumns : List StoredColumn → List Span → List Span → List StoredColumn → Type 0
SettlesColumns old spans rest new = Settles (counted column_count) AreSettledColumns old spans rest new

abbrev pub SettlesTables : List StoredTable → List Span → List Span → List StoredTable → Type 0
SettlesTables old spans rest new = Settles (counted table_count) AreSettledTables old spans rest new

-- tables that were settled behind others
pub record SettlesMore (old : List StoredTable) (spans rest : List Span) (settled_before settled_after : List StoredTable) : Type 0 where
  pub more : List StoredTable
  pub added : settled_after ≡ settled_before ++ more
  pub settles : SettlesTables old spans rest more

-- a column of texts or byte strings after it was given the home whose blocks have the first spans
pub record IsGivenHome (old : Strings) (spans rest : List Span) (new : Strings) : Type 0 where
  pub home : BytesHome
  pub split : spans ≡ home.sizes ∷ home.short ∷ (home.memos ++ rest)
  pub long : length home.memos ≡ length (long_values old.values)
  pub new_is : new ≡ record old { home = Some home }

-- views: what they are but for their homes stays, and each plain column without a home was given its spans
pub record AreSettledViews (old : List NamedTable) (spans : List Span) (new : List NamedTable) : Type 0 where
  pub same_rows : rows_of_views new ≡ rows_of_views old
  pub shaped : All (λ v. HasHomes v.table) new
  pub plain : plain_views new ≡ settled_at (plain_views old) spans
