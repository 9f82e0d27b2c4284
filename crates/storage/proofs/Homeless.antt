-- Views of which no column has a home.
use Rattle.std.proofs.Common.{◌≡◌, ◌≢◌, ℕ, List, [], ◌∷◌, ◌++◌, length, map, refl, ap, sym, subst, ◌∙◌, arith, All}
use Rattle.std.specs.List.{AllPairs}
use Rattle.std.proofs.lemmas.List.{length-map}
use Rattle.std.proofs.lemmas.List.Elements.{All-cons, All-head, All-nil, All-tail}
use Rattle.mk_value.specs.Heading.{heading_of}
use Rattle.tables.specs.Shapes.{HasHomes}
use Rattle.tables.specs.Tables.{StoredTable}
use Rattle.tables.proofs.EditedColumns.{empty_homes-shape}
use Rattle.tables.proofs.Resting.{homed_columns-empty}
use Rattle.view_store.specs.Rests.{homed_views}
use Rattle.view_store.specs.Views.{AreViews, IsRoot, IsView, NamedTable, named, view_names}
use Rattle.storage.specs.Reverting.{views_without_homes, without_homes}

named_anew : (views : List NamedTable) → named (view_names views) (map without_homes (map (λ v. v.table) views)) ≡ views_without_homes views
named_anew [] = refl
named_anew (v ∷ views) = ap (λ vs. record { name = v.name; table = without_homes v.table } ∷ vs) (named_anew views)

names_anew : (views : List NamedTable) → view_names (views_without_homes views) ≡ view_names views
names_anew [] = refl
names_anew (v ∷ views) = ap (λ ns. v.name ∷ ns) (names_anew views)

whole_anew : (views : List NamedTable) → All IsView views → All IsView (views_without_homes views)
whole_anew [] h = All-nil IsView
whole_anew (v ∷ views) h =
    let one = All-head IsView v views h in
    All-cons IsView (record { name = v.name; table = without_homes v.table }) (views_without_homes views)
    (record { name = one.name; table = record { schema = one.table.schema; rows = one.table.rows }; short = one.short })
    (whole_anew views (All-tail IsView v views h))

shaped_anew : (views : List NamedTable) → All (λ (v : NamedTable). HasHomes v.table) (views_without_homes views)
shaped_anew [] = All-nil (λ (v : NamedTable). HasHomes v.table)
shaped_anew (v ∷ views) =
    All-cons (λ (v : NamedTable). HasHomes v.table) (record { name = v.name; table = without_homes v.table }) (views_without_homes views)
    (empty_homes-shape (heading_of v.table.schema) 0 v.table.rows) (shaped_anew views)

views_anew : (views : List NamedTable) → AreViews views → AreViews (views_without_homes views)
views_anew views are = record {
  few = (let n = length-map views (λ (v : NamedTable). (let w : NamedTable = record { name = v.name; table = without_homes v.table } in w)) in let few = are.few in omega (arith, n, few));
  distinct = subst (AllPairs (λ a b. a ≢ b)) (sym (names_anew views)) are.distinct;
  whole = whole_anew views are.whole;
}

-- the names and the tables of the views, which have no homes any more
module _ (views : List NamedTable) (names : List (List ℕ)) (tables : List StoredTable) (names_are : names ≡ view_names views) (tables_are : tables ≡ map without_homes (map (λ v. v.table) views)) where
  pub named_is : named names tables ≡ views_without_homes views
  named_is = ap (λ ns. named ns tables) names_are ∙ ap (named (view_names views)) tables_are ∙ named_anew views

  pub root_anew : AreViews views → IsRoot names tables
  root_anew are = record {
    paired = ap length names_are ∙ length-map views (λ (v : NamedTable). v.name) ∙ sym (ap length tables_are ∙ length-map (map (λ (v : NamedTable). v.table) views) without_homes ∙ length-map views (λ (v : NamedTable). v.table));
    views = subst AreViews (sym named_is) (views_anew views are);
    shaped = subst (All (λ (v : NamedTable). HasHomes v.table)) (sym named_is) (shaped_anew views);
  }

pub homeless_anew : (views : List NamedTable) → homed_views (views_without_homes views) ≡ []
homeless_anew [] = refl
homeless_anew (v ∷ views) = ap (λ cs. cs ++ homed_views (views_without_homes views)) (homed_columns-empty (without_homes v.table) refl) ∙ homeless_anew views
