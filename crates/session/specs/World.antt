-- What a session holds.
use Rattle.std.specs.Prelude.{ℕ, List, [], length, Option, Some, None}
use Rattle.computing.specs.Computed.{Computations, no_computations}
use Rattle.watches.specs.Watches.{Followed, followed_by}
use Rattle.keyed_views.specs.Mapped.{MappedView}
use Rattle.questions.specs.Cursors.{Placed}
use Rattle.questions.specs.Kept.{Kept, Names}
use Rattle.storage.specs.Stored.{Stored, with_views}
use Rattle.tables.specs.Tables.{StoredTable}
use Rattle.view_store.specs.Views.{NamedTable, table_of}

pub record World : Type 0 where
  -- the views that are edited, the commit that the file stands for, and what is known of the file
  pub store : Stored
  -- the tables that are kept under names, and the positions over views, over those and over watches
  pub snapshots : List Kept
  pub cursors : List Placed
  -- the watches of the views that are edited, and those whose rows are made when they are asked for
  pub watches : List Followed
  pub computed : Computations
  -- the views whose rows are kept by key
  pub mappings : List MappedView

-- a session that begins has neither snapshots, cursors, watches nor mappings
abbrev pub world_over : Stored → World
world_over store = record { store = store; snapshots = []; cursors = []; watches = []; computed = no_computations; mappings = [] }

-- the names that stand for tables, beside those of computed watches
abbrev pub kept_names : World → Names
kept_names w = record { views = w.store.views; snapshots = w.snapshots; watches = w.watches; mappings = w.mappings }

-- how many rows the view of a name has, and 0 if there is none
abbrev pub rows_in : Option StoredTable → ℕ
rows_in None = 0
rows_in (Some t) = length t.rows

abbrev pub view_size : World → List ℕ → ℕ
view_size w name = rows_in (table_of w.store.views name)

-- the world with another store
abbrev pub with_store : World → Stored → World
with_store w store = record w { store = store }

-- the world with other views
abbrev pub with_tables : World → List NamedTable → World
with_tables w views = with_store w (with_views w.store views)

-- the world with other views, of which the watches of one have followed so many events
abbrev pub with_line : World → List NamedTable → List ℕ → ℕ → World
with_line w views view events = record w { store = with_views w.store views; watches = followed_by w.watches view events }

-- The world where the views became those of a commit: no cursor stands on any more, no watch and no mapping. Snapshots are kept.
abbrev pub without_followers : World → World
without_followers w = record w { cursors = []; watches = []; computed = no_computations; mappings = [] }
