-- The commit that follows another: which blocks it is due, and where they go.
use Rattle.std.specs.Prelude.{◌≡◌, ℕ, ◌+◌, ◌-◌, ◌^◌, ◌≤◌, nat_lt, Bool, if◌then◌else◌, List, [], ◌∷◌, ◌++◌, length, map, take, drop, min, All}
use Rattle.std.specs.List.{filter, flat_map}
use Rattle.mk_value.specs.declared.span.Span.{Span}
use Rattle.mk_value.specs.Heading.{Domain, Attribute}
use Rattle.mk_value.specs.Data.{Datum, IsText}
use Rattle.free_space.specs.FreeSpace.{end_of}
use Rattle.free_space.specs.Extents.{IsAligned}
use Rattle.free_space.specs.Sites.{ArePlaced, first_place}
use Rattle.commit_writes.specs.Blocks.{Block, spans_of}
use Rattle.dir_codec.specs.Dir.{NoteEntry, spelled}
use Rattle.tables.specs.Homes.{Home, no_home, numbers, strings, PlainColumn}
use Rattle.tables.specs.Shapes.{HasHomes}
use Rattle.tables.specs.Blocks.{blocks_of_values, is_homed}
use Rattle.view_store.specs.Rests.{ViewsRestOn}
use Rattle.view_store.specs.Views.{AreViews, NamedTable}
use Rattle.recovery.specs.Commits.{Commit, blocks_at, commit_blocks, directory, plain_views}

-- the blocks that a plain column is due: those of its values where it has no home, and else none
abbrev pub due_of : PlainColumn → List (List ℕ)
due_of c = if is_homed c then [] else blocks_of_values c.domain c.values

abbrev pub blocks_due : List PlainColumn → List (List ℕ)
blocks_due columns = flat_map due_of columns

-- the home of a column of the domain whose blocks have these spans
abbrev pub home_at : Domain → List Span → Home
home_at Domain.integer (block ∷ []) = numbers block
home_at Domain.long (block ∷ []) = numbers block
home_at Domain.text (sizes ∷ short ∷ memos) = strings sizes short memos
home_at Domain.bytes (sizes ∷ short ∷ memos) = strings sizes short memos
home_at _ _ = no_home

-- a column that has a home keeps it, and another gets the one whose blocks have these spans
abbrev pub settled : PlainColumn → List Span → PlainColumn
settled c spans = if is_homed c then c else record { domain = c.domain; values = c.values; home = home_at c.domain spans }

-- the columns after each without a home was given as many spans as it has blocks, one column after another
abbrev pub settled_at : List PlainColumn → List Span → List PlainColumn
settled_at [] spans = []
settled_at (c ∷ rest) spans = settled c (take (length (due_of c)) spans) ∷ settled_at rest (drop (length (due_of c)) spans)

-- the notes after a commit of this number: one more where its note is not empty, and of all the last 64
abbrev pub last_64 : List NoteEntry → List NoteEntry
last_64 notes = drop (length notes - 64) notes

abbrev pub noted : List NoteEntry → ℕ → List ℕ → List NoteEntry
noted notes number [] = notes
noted notes number (b ∷ text) = last_64 (notes ++ record { number = number; text = b ∷ text } ∷ [])

-- a note that a commit may be given: a text of at most 255 bytes, or none
abbrev pub IsNote : List ℕ → Type 0
IsNote [] = Unit {0}
IsNote (b ∷ text) = IsText (b ∷ text) × (length (b ∷ text) ≤ 255)

-- what views are but for their homes
pub record NamedRows : Type 0 where
  pub name : List ℕ
  pub schema : List Attribute
  pub rows : List (List Datum)

abbrev pub rows_of_views : List NamedTable → List NamedRows
rows_of_views views = map (λ v. record { name = v.name; schema = v.table.schema; rows = v.table.rows }) views

abbrev pub commit_spans : Commit → List Span
commit_spans c = spans_of (commit_blocks c)

-- the last end that a file may have
abbrev pub last_end : ℕ
last_end = 2 ^ 64 - 16

-- The commit that follows `kept` keeps these views, and this note where it is not empty. Each column without a home gets the spans that its
-- blocks are placed at, one after another from the floor on, each at the least place beside what `kept` uses; the directory comes last.
pub record FollowsAt (floor : ℕ) (kept : Commit) (views : List NamedTable) (note : List ℕ) (spans : List Span) (next : Commit) : Type 0 where
  pub number : next.number ≡ kept.number + 1
  pub same_rows : rows_of_views next.views ≡ rows_of_views views
  pub shaped : All (λ v. HasHomes v.table) next.views
  pub settled_columns : plain_views next.views ≡ settled_at (plain_views views) spans
  pub notes : next.notes ≡ noted kept.notes next.number note
  pub placed : ArePlaced floor (commit_spans kept) (map length (blocks_due (plain_views views)) ++ next.dir.len ∷ []) (spans ++ next.dir ∷ [])
  pub dir : next.dir.len ≡ length (spelled (directory next.views next.notes))
  pub end : next.end ≡ min last_end (end_of kept.end (spans ++ next.dir ∷ []))

abbrev pub Follows : ℕ → Commit → List NamedTable → List ℕ → Commit → Type 0
Follows floor kept views note next = (spans : List Span) × FollowsAt floor kept views note spans next

-- the blocks that a commit at these spans writes: those due that have bytes, and its directory
abbrev pub is_some : Block → Bool
is_some b = nat_lt 0 b.span.len

abbrev pub writes_at : List NamedTable → List Span → Commit → List Block
writes_at views spans next =
    filter is_some (blocks_at (spans ++ next.dir ∷ []) (blocks_due (plain_views views) ++ spelled (directory next.views next.notes) ∷ []))

-- A commit with these views and this note may follow `kept`: the floor lies in its file, the views are whole and rest on those that it
-- keeps, and the note is one.
pub record MayFollow (floor : ℕ) (kept : Commit) (views : List NamedTable) (note : List ℕ) : Type 0 where
  pub aligned : IsAligned floor
  pub from : first_place ≤ floor
  pub within : floor ≤ kept.end
  pub views_are : AreViews views
  pub shaped : All (λ v. HasHomes v.table) views
  pub rests : ViewsRestOn views kept.views
  pub note_is : IsNote note
