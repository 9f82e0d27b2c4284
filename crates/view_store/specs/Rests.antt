-- When views rest on others, and when a table may be put in the place of another.
use Rattle.std.specs.Prelude.{◌≡◌, List, [], Option, None, Some, ◌⊎◌}
use Rattle.std.specs.List.{flat_map}
use Rattle.tables.specs.Tables.{StoredTable}
use Rattle.tables.specs.Homes.{PlainColumn}
use Rattle.tables.specs.Rests.{homed_columns, Rest, RestsOn}
use Rattle.view_store.specs.Views.{NamedTable}

abbrev pub homed_views : List NamedTable → List PlainColumn
homed_views views = flat_map (λ v. homed_columns v.table) views

abbrev pub ViewsRestOn : List NamedTable → List NamedTable → Type 0
ViewsRestOn new old = Rest (homed_views new) (homed_views old)

-- a table may be put in the place of another, or where none is, without a home that was not there: it rests on that one, or has no homes
abbrev pub MayReplace : StoredTable → Option StoredTable → Type 0
MayReplace new None = homed_columns new ≡ []
MayReplace new (Some old) = RestsOn new old ⊎ (homed_columns new ≡ [])
