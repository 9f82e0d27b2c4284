-- The views of a directory, once their tables are read, are whole views with homes of their shapes.
use Rattle.std.proofs.Common.{◌≡◌, ◌≢◌, ℕ, zero, suc, ◌<◌, ◌≤◌, List, [], ◌∷◌, length, get_or, map, All, refl, ap, sym, subst, ◌∙◌, arith}
use Rattle.std.specs.Prelude.{AllPairs}
use Rattle.std.proofs.lemmas.List.{length-map}
use Rattle.std.proofs.lemmas.List.Elements.{All-head, All-tail, All-cons, All-nil}
use Rattle.mk_value.specs.Heading.{Attribute, IsHeading}
use Rattle.mk_value.specs.Limits.{max_structure}
use Rattle.mk_value.specs.Names.{IsName}
use Rattle.struct_text.specs.Lengths.{structure_length}
use Rattle.struct_text.proofs.Lengths.{structure_is}
use Rattle.dir_codec.specs.Dir.{IsViewEntry, ViewEntry}
use Rattle.tables.specs.Shapes.{HasHomes}
use Rattle.view_store.specs.Views.{AreViews, IsView, NamedTable, view_names}
use Rattle.recovery.specs.Found.{AreEntriesOfViews, AreViewsFormed, IsViewFormed}

as_many : (own : List ViewEntry) (views : List NamedTable) → AreViewsFormed own views → length views ≡ length own
as_many [] [] h = refl
as_many [] (v ∷ views) h = absurd h
as_many (e ∷ own) [] h = absurd h
as_many (e ∷ own) (v ∷ views) h = ap suc (as_many own views h.1)

same_names : (own : List ViewEntry) (views : List NamedTable) → AreViewsFormed own views → view_names views ≡ map (λ (e : ViewEntry). e.name) own
same_names [] [] h = refl
same_names [] (v ∷ views) h = absurd h
same_names (e ∷ own) [] h = absurd h
same_names (e ∷ own) (v ∷ views) h = ap (λ n. n ∷ view_names views) h.0.name ∙ ap (λ ns. e.name ∷ ns) (same_names own views h.1)

names_differ : (own : List ViewEntry) → AllPairs (λ v w. v.name ≢ w.name) own → AllPairs (λ a b. a ≢ b) (map (λ (e : ViewEntry). e.name) own)
names_differ [] h i j d p q same = omega (arith, q)
names_differ (e ∷ own) h i j d p q same =
    let long = length-map (e ∷ own) (λ (x : ViewEntry). x.name) in
    h i j e p (omega (arith, q, long)) (sym (name_at (e ∷ own) i d e (omega (arith, p, q, long))) ∙ same ∙ name_at (e ∷ own) j d e (omega (arith, q, long)))
  where
    name_at : (es : List ViewEntry) (k : ℕ) (d : List ℕ) (x : ViewEntry) → k < length es → get_or (map (λ (e : ViewEntry). e.name) es) k d ≡ (get_or es k x).name
    name_at [] k d x p = absurd (omega (arith, p))
    name_at (e ∷ es) zero d x p = refl
    name_at (e ∷ es) (suc k) d x p = name_at es k d x (omega (arith, p))

view_whole : (end : ℕ) (e : ViewEntry) (v : NamedTable) → IsViewEntry end e → IsViewFormed e v → IsView v
view_whole end e v is formed =
    let schema : e.schema ≡ v.table.schema = sym formed.form.table.same_schema in
    let heading : IsHeading v.table.schema = subst IsHeading schema is.whole in
    record {
      name = subst IsName (sym formed.name) is.named;
      table = record { schema = heading; rows = formed.form.table.rows };
      short = (let length_is = structure_is e.name e.schema is.whole in
          subst (λ n. structure_length n v.table.schema ≤ max_structure) (sym formed.name)
          (subst (λ (s : List Attribute). structure_length e.name s ≤ max_structure) schema (subst (λ n. n ≤ max_structure) (sym length_is) is.short)));
    }

views_whole : (end : ℕ) (own : List ViewEntry) (views : List NamedTable) → All (IsViewEntry end) own → AreViewsFormed own views → All IsView views
views_whole end [] [] is h = All-nil IsView
views_whole end [] (v ∷ views) is h = absurd h
views_whole end (e ∷ own) [] is h = absurd h
views_whole end (e ∷ own) (v ∷ views) is h =
    All-cons IsView v views (view_whole end e v (All-head (IsViewEntry end) e own is) h.0) (views_whole end own views (All-tail (IsViewEntry end) e own is) h.1)

pub views_shaped : (own : List ViewEntry) (views : List NamedTable) → AreViewsFormed own views → All (λ v. HasHomes v.table) views
views_shaped [] [] h = All-nil (λ (v : NamedTable). HasHomes v.table)
views_shaped [] (v ∷ views) h = absurd h
views_shaped (e ∷ own) [] h = absurd h
views_shaped (e ∷ own) (v ∷ views) h = All-cons (λ (v : NamedTable). HasHomes v.table) v views h.0.form.table.homes (views_shaped own views h.1)

pub whole_views : (end : ℕ) (own : List ViewEntry) (views : List NamedTable) → AreEntriesOfViews end own → AreViewsFormed own views → AreViews views
whole_views end own views is h = record {
  few = (let p = is.few in let e = as_many own views h in omega (arith, p, e));
  distinct = subst (AllPairs (λ a b. a ≢ b)) (sym (same_names own views h)) (names_differ own is.distinct);
  whole = views_whole end own views is.each h;
}
