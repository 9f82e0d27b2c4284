-- Views that differ in their homes alone are whole together.
use Rattle.std.proofs.Common.{◌≡◌, ◌≢◌, ◌≤◌, List, [], ◌∷◌, length, map, All, refl, ap, sym, subst, ◌∙◌, arith}
use Rattle.std.specs.Prelude.{AllPairs}
use Rattle.std.proofs.lemmas.List.{length-map}
use Rattle.std.proofs.lemmas.List.Elements.{All-head, All-tail, All-cons, All-nil}
use Rattle.mk_value.specs.Limits.{max_structure}
use Rattle.mk_value.specs.Names.{IsName}
use Rattle.mk_value.specs.Heading.{IsHeading}
use Rattle.mk_value.specs.Data.{AreRowsOf}
use Rattle.struct_text.specs.Lengths.{structure_length}
use Rattle.view_store.specs.Views.{AreViews, IsView, NamedTable, view_names}
use Rattle.commit_plan.specs.Following.{NamedRows, rows_of_views}

-- a whole view, its homes left out
record IsWholeView (r : NamedRows) : Type 0 where
  pub name : IsName r.name
  pub schema : IsHeading r.schema
  pub rows : AreRowsOf r.rows r.schema
  pub short : structure_length r.name r.schema ≤ max_structure

its_rows : NamedTable → NamedRows
its_rows v = record { name = v.name; schema = v.table.schema; rows = v.table.rows }

pub out_of_map : {X Y : Type 0} (P : Y → Type 0) (f : X → Y) (xs : List X) → All P (map f xs) → All (λ x. P (f x)) xs
out_of_map P f [] h = All-nil (λ x. P (f x))
out_of_map P f (x ∷ xs) h = All-cons (λ x. P (f x)) x xs (All-head P (f x) (map f xs) h) (out_of_map P f xs (All-tail P (f x) (map f xs) h))

names_are : (views : List NamedTable) → map (λ r. r.name) (rows_of_views views) ≡ view_names views
names_are [] = refl
names_are (v ∷ views) = ap (λ names. v.name ∷ names) (names_are views)

views_whole : (views : List NamedTable) → All IsView views → All IsWholeView (rows_of_views views)
views_whole [] h = All-nil IsWholeView
views_whole (v ∷ views) h =
    let is = All-head IsView v views h in
    All-cons IsWholeView _ (rows_of_views views) (record { name = is.name; schema = is.table.schema; rows = is.table.rows; short = is.short })
    (views_whole views (All-tail IsView v views h))

whole_views : (views : List NamedTable) → All IsWholeView (rows_of_views views) → All IsView views
whole_views [] h = All-nil IsView
whole_views (v ∷ views) h =
    let is = All-head IsWholeView _ (rows_of_views views) h in
    All-cons IsView v views (record { name = is.name; table = record { schema = is.schema; rows = is.rows }; short = is.short })
    (whole_views views (All-tail IsWholeView _ (rows_of_views views) h))

pub same_rows_whole : (one other : List NamedTable) → rows_of_views one ≡ rows_of_views other → AreViews other → AreViews one
same_rows_whole one other same h =
    let names : view_names one ≡ view_names other = sym (names_are one) ∙ ap (λ rs. map (λ r. r.name) rs) same ∙ names_are other in
    let count : length one ≡ length other = sym (length-map one (λ v. v.name)) ∙ ap length names ∙ length-map other (λ v. v.name) in
    record {
      few = let p = h.few in omega (arith, p, count);
      distinct = subst (AllPairs (λ a b. a ≢ b)) (sym names) h.distinct;
      whole = whole_views one (subst (All IsWholeView) (sym same) (views_whole other h.whole));
    }
