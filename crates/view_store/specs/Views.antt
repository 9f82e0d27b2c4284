-- Views by name: what a contract sees of a root.
use Rattle.std.specs.Prelude.{◌≡◌, ◌≢◌, ℕ, ◌≤◌, if◌then◌else◌, List, [], ◌∷◌, length, map, Option, All, AllPairs, find, refl}
use Rattle.std.specs.Coded.{Coded, code_by, coded_ℕ, coded_list, coded×}
use Rattle.std.specs.Option.{option_map}
use Rattle.mk_value.specs.Limits.{max_structure, max_views}
use Rattle.mk_value.specs.Names.{IsName, same_bytes}
use Rattle.mk_value.specs.Paths.{Route}
use Rattle.struct_text.specs.Lengths.{structure_length}
use Rattle.tables.specs.Tables.{StoredTable, IsTable, stored_code}
use Rattle.tables.specs.Shapes.{HasHomes}
use Rattle.view_store.specs.Edits.{Edit, edited, table_at}

-- a view: its name and its table
pub record NamedTable : Type 0 where
  pub name : List ℕ
  pub table : StoredTable

abbrev pub views_code : Coded (List NamedTable)
views_code =
    coded_list (code_by (List ℕ × StoredTable) (coded× (coded_list coded_ℕ) stored_code) (λ v. (v.name, v.table)) (λ p. record { name = p.0; table = p.1 }) (λ _. refl))

-- the names of the views, in order
abbrev pub view_names : List NamedTable → List (List ℕ)
view_names views = map (λ v. v.name) views

-- a view that a root may hold
pub record IsView (v : NamedTable) : Type 0 where
  pub name : IsName v.name
  pub table : IsTable v.table
  pub short : structure_length v.name v.table.schema ≤ max_structure

-- a whole root: at most 1,024 views with distinct names, each whole
pub record AreViews (views : List NamedTable) : Type 0 where
  pub few : length views ≤ max_views
  pub distinct : AllPairs (λ a b. a ≢ b) (view_names views)
  pub whole : All IsView views

-- the table of a name
abbrev pub table_of : List NamedTable → List ℕ → Option StoredTable
table_of views name = option_map (λ v. v.table) (find (λ v. same_bytes v.name name) views)

-- the table to which a route leads
abbrev pub view_at : List NamedTable → Route → Option StoredTable
view_at views route = option_map (λ t. table_at route.steps t) (table_of views route.name)

-- the views after the one of a name was given another table, or was added last where there is none
abbrev pub with_view : List NamedTable → List ℕ → StoredTable → List NamedTable
with_view [] name t = record { name = name; table = t } ∷ []
with_view (v ∷ rest) name t =
    if same_bytes v.name name then record { name = v.name; table = t } ∷ rest else v ∷ with_view rest name t

-- the views without the one of a name
abbrev pub without_view : List NamedTable → List ℕ → List NamedTable
without_view [] name = []
without_view (v ∷ rest) name = if same_bytes v.name name then rest else v ∷ without_view rest name

-- the views after an edit of the rows that the route names; all else is as before
abbrev pub edited_views : List NamedTable → Route → Edit → List NamedTable
edited_views [] route edit = []
edited_views (v ∷ rest) route edit =
    if same_bytes v.name route.name then record { name = v.name; table = edited route.steps edit v.table } ∷ rest
    else v ∷ edited_views rest route edit

-- names beside their tables
abbrev pub named : List (List ℕ) → List StoredTable → List NamedTable
named (name ∷ names) (t ∷ rest) = record { name = name; table = t } ∷ named names rest
named _ _ = []

-- what a root keeps: a table for each name, a whole root, and in each table homes of its shape
pub record IsRoot (names : List (List ℕ)) (tables : List StoredTable) : Type 0 where
  pub paired : length names ≡ length tables
  pub views : AreViews (named names tables)
  pub shaped : All (λ v. HasHomes v.table) (named names tables)
