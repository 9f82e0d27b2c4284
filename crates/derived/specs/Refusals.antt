-- Refusals: what an operator is due to answer. Within one operator they are tested in this order: a name that is taken, a property
-- that is absent, a view where none may be, a value or a kind that does not fit, another schema, a step of 0, too many properties,
-- too deep a schema, too many rows. Where several properties give one of them, the first that is named decides.
use Rattle.std.specs.Prelude.{ℕ, ℤ, pos, zero, Bool, true, false, not, ◌&&◌, ◌||◌, List, [], ◌∷◌, Option}
use Rattle.std.specs.List.{list_any}
use Rattle.mk_value.specs.Heading.{Attribute}
use Rattle.mk_value.specs.Tables.{Table}
use Rattle.relations.specs.declared.error.DerivedError.{DerivedError}
use Rattle.relations.specs.declared.error.DerivedError.TheVariants.{NoProp, WrongKind, KeyIsView, NameTaken, ZeroStep}
use Rattle.relations.specs.Equality.{same_domain}
use Rattle.relations.specs.Fitting.{is_view}
use Rattle.relations.specs.Refusals.{absent, a_view, where_so, too_many_rows, too_wide, too_deep, other_schema, first_of, none_left, first_key}
use Rattle.relations.specs.Rows.{is_named, has, is_among, domain_of, others}
use Rattle.derived.specs.Operators.{concat, union, different}
use Rattle.derived.specs.Grouping.{group_by, counts}
use Rattle.derived.specs.Joining.{pair, product, join, join_prop}

abbrev pub project_due : List (List ℕ) → List Attribute → Option DerivedError
project_due names schema = absent schema names

abbrev pub without_due : List (List ℕ) → List Attribute → Option DerivedError
without_due names schema = first_of (absent schema names ∷ none_left (others schema names) names ∷ [])

-- another property has the new name
abbrev pub rename_due : List ℕ → List ℕ → List Attribute → Option DerivedError
rename_due from to schema =
    first_of (where_so (list_any (λ a. is_named to a && not (is_named from a)) schema) (NameTaken to) ∷ absent schema (from ∷ []) ∷ [])

abbrev pub is_zero : ℤ → Bool
is_zero (pos zero) = true
is_zero _ = false

abbrev pub slice_due : ℤ → Option DerivedError
slice_due step = where_so (is_zero step) ZeroStep

abbrev pub concat_due : Table → Table → Option DerivedError
concat_due a b = first_of (other_schema a b ∷ too_many_rows (concat a b) ∷ [])

abbrev pub union_due : Table → Table → Option DerivedError
union_due a b = first_of (other_schema a b ∷ too_many_rows (union a b) ∷ [])

abbrev pub different_due : Table → Table → Option DerivedError
different_due a b = first_of (other_schema a b ∷ too_many_rows (different a b) ∷ [])

-- SUB is a key; an absent key, or no property is left for SUB, which is refused then; a key is a view; too deep
abbrev pub group_by_due : List (List ℕ) → List ℕ → Table → Option DerivedError
group_by_due keys sub t =
    first_of (
    where_so (is_among keys sub) (NameTaken sub) ∷ absent t.schema keys ∷ none_left (others t.schema keys) (sub ∷ [])
    ∷ a_view t.schema keys ∷ too_deep (group_by keys sub t) ∷ [])

abbrev pub counts_due : List (List ℕ) → List ℕ → Table → Option DerivedError
counts_due keys count t =
    first_of (where_so (is_among keys count) (NameTaken count) ∷ absent t.schema keys ∷ a_view t.schema keys ∷ too_wide (counts keys count t) ∷ [])

abbrev pub pair_due : Table → Table → Option DerivedError
pair_due a b = too_wide (pair a b)

abbrev pub product_due : Table → Table → Option DerivedError
product_due a b = first_of (too_wide (product a b) ∷ too_many_rows (product a b) ∷ [])

-- a key that one of the two has not, one that is a view in one of them, one whose kinds differ
abbrev pub join_due : Bool → List (List ℕ) → Table → Table → Option DerivedError
join_due outer keys a b =
    first_of (
    first_key NoProp (λ key. not (has a.schema key && has b.schema key)) keys
    ∷ first_key KeyIsView (λ key. is_view (domain_of a.schema key) || is_view (domain_of b.schema key)) keys
    ∷ first_key WrongKind (λ key. not (same_domain (domain_of a.schema key) (domain_of b.schema key))) keys
    ∷ too_wide (join outer keys a b) ∷ too_many_rows (join outer keys a b) ∷ [])

abbrev pub join_prop_due : Bool → List ℕ → Table → Option DerivedError
join_prop_due outer sub t =
    first_of (
    absent t.schema (sub ∷ []) ∷ where_so (not (is_view (domain_of t.schema sub))) (WrongKind sub)
    ∷ too_wide (join_prop outer sub t) ∷ too_many_rows (join_prop outer sub t) ∷ [])
