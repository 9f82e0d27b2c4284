-- Names that stand for tables: those of the views, behind them those of snapshots, and behind these those of watches.
use Rattle.std.specs.Prelude.{ℕ, Bool, true, false, if◌then◌else◌, List, [], ◌∷◌, ◌++◌, map, refl}
use Rattle.std.specs.Coded.{Coded, code_by, coded_ℕ, coded_list, coded×}
use Rattle.std.specs.List.{flat_map, list_any}
use Rattle.std.specs.Option.{unwrap_or}
use Rattle.mk_value.specs.Names.{same_bytes}
use Rattle.mk_value.specs.Tables.{Table, table_code}
use Rattle.eval.specs.Names.{Named}
use Rattle.computing.specs.Computed.{Computations, with_computed}
use Rattle.watches.specs.Watches.{Followed, Shown, watch_table}
use Rattle.keyed_views.specs.Mapped.{MappedView}
use Rattle.tables.specs.Tables.{StoredTable}
use Rattle.viewers.specs.Meanings.{Meaning}
use Rattle.view_store.specs.Views.{NamedTable}

-- a snapshot: its name, and the schema and the rows that it keeps
pub record Kept : Type 0 where
  pub name : List ℕ
  pub table : Table

abbrev pub kept_code : Coded Kept
kept_code =
    code_by (List ℕ × Table) (coded× (coded_list coded_ℕ) table_code) (λ s. (s.name, s.table)) (λ p. record { name = p.0; table = p.1 }) (λ _. refl)

-- the table that a stored one is, whatever its homes
abbrev pub table_of : StoredTable → Table
table_of t = record { schema = t.schema; rows = t.rows }

-- steps may follow the name of a view, and that of a snapshot
abbrev pub named_view : NamedTable → Named
named_view v = record { name = v.name; table = table_of v.table; has_steps = true }

abbrev pub named_snapshot : Kept → Named
named_snapshot s = record { name = s.name; table = s.table; has_steps = true }

-- the names of all watches, each with the table that it shows; no steps may follow one
abbrev pub watch_names : List Followed → List (List ℕ)
watch_names watches = flat_map (λ (f : Followed). map (λ (s : Shown). s.name) f.watches) watches

abbrev pub named_watch : List NamedTable → List Followed → List ℕ → Named
named_watch views watches name = record {
  name = name;
  table = unwrap_or (watch_table views watches name) (record { schema = []; rows = [] });
  has_steps = false;
}

-- a view decides before a snapshot of its name
abbrev pub stored : List NamedTable → List Kept → List Named
stored views snapshots = map named_view views ++ map named_snapshot snapshots

-- the names of the watches
abbrev pub watched : List NamedTable → List Followed → List Named
watched views watches = map (named_watch views watches) (watch_names watches)

-- what names stand for, and which views are kept by key
pub record Names : Type 0 where
  pub views : List NamedTable
  pub snapshots : List Kept
  pub watches : List Followed
  pub mappings : List MappedView

-- views and snapshots decide before watches
abbrev pub known : List NamedTable → List Kept → List Followed → List Named
known views snapshots watches = stored views snapshots ++ watched views watches

-- over what computed watches may stand: views and watches, and no snapshots
abbrev pub sources : Names → List Named
sources n = known n.views [] n.watches

-- what names stand for in an expression: those of computed watches come last
unfoldable pub asked_names : Names → List Meaning → Computations → List Named
asked_names n viewers c = with_computed (known n.views n.snapshots n.watches) (sources n) viewers c

-- what a watch may be asked of: a view, a watch or a computed watch
unfoldable pub source_names : Names → List Meaning → Computations → List Named
source_names n viewers c = with_computed (sources n) (sources n) viewers c

-- whether a snapshot has the name, and the snapshots without the first of it
abbrev pub is_kept : List Kept → List ℕ → Bool
is_kept snapshots name = list_any (λ (s : Kept). same_bytes s.name name) snapshots

abbrev pub without_kept : List Kept → List ℕ → List Kept
without_kept [] name = []
without_kept (s ∷ snapshots) name = if same_bytes s.name name then snapshots else s ∷ without_kept snapshots name
