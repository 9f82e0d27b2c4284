-- Mapped views once the views are others.
use Rattle.std.proofs.Common.{◌≡◌, ℕ, suc, Bool, true, false, ◌||◌, List, [], ◌∷◌, Option, Some, None, refl, ap, sym, subst, ◌∙◌, arith}
use Rattle.std.specs.Option.{option_map, unwrap_or}
use Rattle.std.specs.Result.{result_unwrap_or}
use Rattle.std.proofs.lemmas.Bool.{false≢true}
use Rattle.keyed_views.specs.Keeping.{AreKept, IsKept, mapped}
use Rattle.keyed_views.specs.Mapped.{MappedView, is_mapped, mapping_of}
use Rattle.keyed_views.specs.declared.kept.Kept.{Kept}
use Rattle.keyed_views.proofs.Holding.{kept_where_others}
use Rattle.keyed_views.proofs.Inside.{kept_inside}
use Rattle.mk_value.specs.Names.{same_bytes}
use Rattle.mk_value.specs.Paths.{Route}
use Rattle.mk_value.specs.declared.path.Step.{Step}
use Rattle.relations.proofs.Faults.{cases}
use Rattle.tables.specs.Tables.{StoredTable}
use Rattle.view_store.specs.Edits.{Edit, table_at}
use Rattle.view_store.specs.Refusals.{due, schema_in}
use Rattle.view_store.specs.Views.{NamedTable, edited_views, table_of, with_view, without_view}
use Rattle.view_store.proofs.Roots.{same_name}
use Rattle.session.specs.Keyed.{KeepKeys, mapping_at}
use Rattle.session.specs.Values.{rows_named, schema_named}
use Rattle.session.proofs.KeyedLines.{Stands}
use Rattle.session.proofs.LinesOn.{other_edited}
use Rattle.session.proofs.Watched.{other_with, other_without}

-- a view has a mapping, or none
pub none_mapped : (all : List MappedView) (view : List ℕ) → mapping_of all view ≡ None → is_mapped all view ≡ false
none_mapped [] view h = refl
none_mapped (m ∷ all) view h = cases (same_bytes m.view view)
    (λ e. absurd (let f : ◌≡◌ {A = Option MappedView} (Some m) None = rw e at h in cc))
    (λ e. rw e (none_mapped all view (rw e at h)))

pub some_mapped : (all : List MappedView) (view : List ℕ) (m : MappedView) → mapping_of all view ≡ Some m → is_mapped all view ≡ true
some_mapped [] view m h = absurd (let f : ◌≡◌ {A = Option MappedView} None (Some m) = h in cc)
some_mapped (k ∷ all) view m h = cases (same_bytes k.view view)
    (λ e. rw e refl)
    (λ e. rw e (some_mapped all view m (rw e at h)))

-- an edit of rows that no mapping keeps by key, or inside one of them
kept_at : (views : List NamedTable) (all : List Kept) (name : List ℕ) (steps : List Step) (edit : Edit) → mapping_at (mapped all) name steps ≡ None → due views (record { name = name; steps = steps }) edit ≡ None
    → AreKept views all → AreKept (edited_views views (record { name = name; steps = steps }) edit) all
kept_at views all name [] edit none free h =
    kept_where_others views (edited_views views (record { name = name; steps = [] }) edit) all name (none_mapped (mapped all) name none) (other_edited views (record { name = name; steps = [] }) edit) h
kept_at views all name (s ∷ steps) edit none free h = kept_inside views all name s steps edit free h

pub keeps_apart : (mappings : List MappedView) (views new : List NamedTable) (route : Route) (edit : Edit) → new ≡ edited_views views route edit → mapping_at mappings route.name route.steps ≡ None
    → due views route edit ≡ None → KeepKeys mappings views new
keeps_apart mappings views new route edit is none free all same h =
    subst (λ v. AreKept v all) (sym is) (kept_at views all route.name route.steps edit (ap (λ ms. mapping_at ms route.name route.steps) same ∙ none) free h)

-- another table of a view that is not mapped, and a view that goes
pub mapped_with : (views : List NamedTable) (all : List Kept) (name : List ℕ) (t : StoredTable) → is_mapped (mapped all) name ≡ false → AreKept views all → AreKept (with_view views name t) all
mapped_with views all name t none h = kept_where_others views (with_view views name t) all name none (other_with views name t) h

pub mapped_without : (views : List NamedTable) (all : List Kept) (name : List ℕ) → is_mapped (mapped all) name ≡ false → AreKept views all → AreKept (without_view views name) all
mapped_without views all name none h = kept_where_others views (without_view views name) all name none (other_without views name) h

-- a view that is not there is not mapped
pub absent_unmapped : (views : List NamedTable) (all : List Kept) (name : List ℕ) → AreKept views all → table_of views name ≡ None → is_mapped (mapped all) name ≡ false
absent_unmapped views [] name h none = refl
absent_unmapped views (k ∷ all) name h none = cases (same_bytes k.view name)
    (λ e. let first : IsKept views k = h 0 k (omega arith) in
    absurd (let f : ◌≡◌ {A = Option StoredTable} (Some first.table) None = sym first.there ∙ ap (λ n. table_of views n) (same_name k.view name e) ∙ none in cc))
    (λ e. rw e (absent_unmapped views all name (λ i d p. h (suc i) d (omega (arith, p))) none))

pub neither_of : (a b c : Bool) → a || (b || c) ≡ false → (b ≡ false) × (c ≡ false)
neither_of true b c h = absurd (false≢true (sym h))
neither_of false true c h = absurd (false≢true (sym h))
neither_of false false c h = (refl, h)

pub first_false : (a b : Bool) → a || b ≡ false → a ≡ false
first_false true b h = absurd (false≢true (sym h))
first_false false b h = refl

-- The view that a route names has a mapping: the route has no steps, and the view is there.
pub record HasKeys (views : List NamedTable) (route : Route) : Type 0 where
  pub here : route.steps ≡ []
  pub table : StoredTable
  pub found : table_of views route.name ≡ Some table
  pub schema : schema_named views route ≡ table.schema
  pub rows : rows_named views route ≡ table.rows

there_of : (views : List NamedTable) (all : List Kept) (name : List ℕ) (m : MappedView) → mapping_of (mapped all) name ≡ Some m → AreKept views all → (t : StoredTable) × (table_of views name ≡ Some t)
there_of views [] name m h kept = absurd (let f : ◌≡◌ {A = Option MappedView} None (Some m) = h in cc)
there_of views (k ∷ all) name m h kept = cases (same_bytes k.view name)
    (λ e. let first : IsKept views k = kept 0 k (omega arith) in (first.table, sym (ap (λ n. table_of views n) (same_name k.view name e)) ∙ first.there))
    (λ e. there_of views all name m (rw e at h) (λ i d p. kept (suc i) d (omega (arith, p))))

keys_at : (views : List NamedTable) (all : List Kept) (name : List ℕ) (steps : List Step) (m : MappedView) → mapping_at (mapped all) name steps ≡ Some m → AreKept views all → HasKeys views (record { name = name; steps = steps })
keys_at views all name (s ∷ steps) m h kept = absurd (let f : ◌≡◌ {A = Option MappedView} None (Some m) = h in cc)
keys_at views all name [] m h kept =
    let there = there_of views all name m h kept in record {
      here = refl;
      table = there.0;
      found = there.1;
      schema = ap (λ o. result_unwrap_or (schema_in o []) []) there.1;
      rows = ap (λ o. unwrap_or (option_map (λ (t : StoredTable). t.rows) (option_map (λ (t : StoredTable). table_at [] t) o)) []) there.1;
    }

pub has_keys : (views : List NamedTable) (all : List Kept) (mappings : List MappedView) (route : Route) (m : MappedView) → mapped all ≡ mappings → mapping_at mappings route.name route.steps ≡ Some m → AreKept views all
    → HasKeys views route
has_keys views all mappings route m same h kept = keys_at views all route.name route.steps m (ap (λ ms. mapping_at ms route.name route.steps) same ∙ h) kept

mapped_at : (mappings : List MappedView) (name : List ℕ) (steps : List Step) (m : MappedView) → mapping_at mappings name steps ≡ Some m → (mapping_of mappings name ≡ Some m) × (is_mapped mappings name ≡ true)
mapped_at mappings name [] m h = (h, some_mapped mappings name m h)
mapped_at mappings name (s ∷ steps) m h = absurd (let f : ◌≡◌ {A = Option MappedView} None (Some m) = h in cc)

pub is_mapped_at : (mappings : List MappedView) (route : Route) (m : MappedView) → mapping_at mappings route.name route.steps ≡ Some m → (mapping_of mappings route.name ≡ Some m) × (is_mapped mappings route.name ≡ true)
is_mapped_at mappings route m h = mapped_at mappings route.name route.steps m h

pub stands_first : (views : List NamedTable) (route : Route) (h : HasKeys views route) → Stands views views route h.table.schema h.table.rows
stands_first views route h = record { here = h.here; table = h.table; found = h.found; schema_is = refl; rows_is = refl; others = λ name other. refl }
