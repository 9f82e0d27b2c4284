-- What is read of a column: whether its blocks are those of some values.
use Rattle.std.specs.Prelude.{◌≡◌, ℕ, nat_lt, List, [], ◌∷◌, ◌++◌, length, map, All}
use Rattle.std.specs.List.{filter, flat_map}
use Rattle.mk_value.specs.declared.span.Span.{Span}
use Rattle.mk_value.specs.Data.{Datum, IsOf}
use Rattle.commit_writes.specs.Blocks.{Block, StandsAt}
use Rattle.dir_codec.specs.Dir.{Dir, Entry}
use Rattle.dir_codec.specs.Columns.{PlainEntry, dir_columns}
use Rattle.tables.specs.Homes.{Home, no_home, numbers, strings}
use Rattle.tables.specs.Shapes.{IsHomeOf}
use Rattle.recovery.specs.Commits.{column_blocks, entry_of}

-- the home that the entry of a plain column gives
abbrev pub home_in : Entry → Home
home_in (Entry.numbers w block) = numbers block
home_in (Entry.strings w sizes short memos) = strings sizes short (map (λ m. m.span) memos)
home_in _ = no_home

-- The column is that of these values: as many as the directory says, each of the domain; the entry is the one that a directory has of
-- them, and each of their blocks has the property where it says.
pub record IsColumnBy (P : Block → Type 0) (e : PlainEntry) (values : List Datum) : Type 0 where
  pub count : length values ≡ e.rows
  pub fit : All (λ d. IsOf d e.domain) values
  pub shaped : IsHomeOf (home_in e.entry) e.domain values
  pub entry : e.entry ≡ entry_of (home_in e.entry) e.domain values
  pub blocks : All P (column_blocks (record { domain = e.domain; values = values; home = home_in e.entry }))

-- the same in an image, where the blocks stand
abbrev pub IsColumnOf : List ℕ → PlainEntry → List Datum → Type 0
IsColumnOf image e values = IsColumnBy (StandsAt image) e values

-- the blocks of the column are those of some values
abbrev pub IsReadable : List ℕ → PlainEntry → Type 0
IsReadable image e = (values : List Datum) × IsColumnOf image e values

-- the first column of these whose blocks are those of no values
pub record IsFirstUnreadable (image : List ℕ) (entries : List PlainEntry) (e : PlainEntry) : Type 0 where
  pub before : List PlainEntry
  pub after : List PlainEntry
  pub among : entries ≡ before ++ e ∷ after
  pub readable : All (IsReadable image) before
  pub unreadable : ¬ IsReadable image e

-- the spans of a plain column as a directory has it
abbrev pub spans_in : Entry → List Span
spans_in (Entry.numbers w block) = block ∷ []
spans_in (Entry.strings w sizes short memos) = sizes ∷ short ∷ map (λ m. m.span) memos
spans_in _ = []

-- the spans of a directory that are not empty, in its order, and its own last
abbrev pub all_spans : Dir → Span → List Span
all_spans d own = filter (λ s. nat_lt 0 s.len) (flat_map (λ e. spans_in e.entry) (dir_columns d)) ++ own ∷ []
