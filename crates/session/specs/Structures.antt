-- The structures of views: their texts, and a view under another one.
use Rattle.std.specs.Prelude.{ℕ, if◌then◌else◌, List, [], ◌∷◌, map, Option, Some, None}
use Rattle.mk_value.specs.Heading.{Attribute}
use Rattle.mk_value.specs.Names.{same_bytes}
use Rattle.restructure.specs.Restructuring.{restructured}
use Rattle.struct_text.specs.Spelling.{spelling}
use Rattle.tables.specs.Tables.{StoredTable, table_without_homes}
use Rattle.view_store.specs.Views.{NamedTable, table_of, with_view}

-- the structure texts of the views, in the order in which the views were made
abbrev pub structures : List NamedTable → List (List ℕ)
structures root = map (λ v. spelling v.name v.table.schema) root

-- the structure texts of names and their tables
abbrev pub structure_texts : List (List ℕ) → List StoredTable → List (List ℕ)
structure_texts (name ∷ names) (t ∷ tables) = spelling name t.schema ∷ structure_texts names tables
structure_texts _ _ = []

-- The views after one of a name was given a structure: where none has the name, a view without rows is added last; where its structure is
-- the same, nothing changes; else its rows are restructured, and it keeps its place.
abbrev pub with_structure : List NamedTable → Option StoredTable → List ℕ → List Attribute → List NamedTable
with_structure root None name schema = with_view root name (table_without_homes schema [])
with_structure root (Some t) name schema =
    if same_bytes (spelling name t.schema) (spelling name schema) then root else with_view root name (restructured t schema)

abbrev pub structured : List NamedTable → List ℕ → List Attribute → List NamedTable
structured root name schema = with_structure root (table_of root name) name schema
