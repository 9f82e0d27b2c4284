-- Counts of the same rows in another order.
use Rattle.std.proofs.Common.{◌≡◌, ℕ, Bool, cond, List, [], ◌∷◌, ◌++◌, length, map, pos, None, sym, ◌∙◌, arith}
use Rattle.std.specs.List.Sorted.{IsPermutation}
use Rattle.std.proofs.lemmas.List.Sorted.{All-permutation, Contains-permutation, IsPermutation-map, IsPermutation-sym, length_permutation, sum_by-IsPermutation}
use Rattle.std.proofs.lemmas.List.Sums.{length-filter}
use Rattle.mk_value.specs.Data.{AreRowsOf, Datum, IsRowOf, integer}
use Rattle.mk_value.specs.Heading.{Attribute, Domain}
use Rattle.mk_value.specs.Tables.{Table}
use Rattle.relations.specs.Equality.{same_row}
use Rattle.relations.specs.Refusals.{a_view}
use Rattle.relations.specs.Rows.{once, properties_of, values_of}
use Rattle.relations.proofs.Ascending.{IsIn, contains_from_in, in_from_contains}
use Rattle.derived.specs.Grouping.{counts, distinct_keys, group}
use Rattle.grouping.specs.Index.{keys_of}
use Rattle.grouping.proofs.DistinctRows.{in_keys, in_keys_back, keys_are, keys_ascend}
use Rattle.grouping.proofs.KeyColumns.{index_keys}

module _ (keys : List (List ℕ)) (count : List ℕ) (schema : List Attribute) (rows other : List (List Datum)) (whole : AreRowsOf rows schema) (plain : a_view schema keys ≡ None) (moved : IsPermutation rows other) where
  abbrev names : List (List ℕ)
  names = once keys

  abbrev t : Table
  t = record { schema = schema; rows = rows }

  abbrev u : Table
  u = record { schema = schema; rows = other }

  other_whole : AreRowsOf other schema
  other_whole = record {
    few = let n = length_permutation rows other moved in let few = whole.few in omega arith;
    whole = All-permutation (λ row. IsRowOf row schema) rows other moved whole.whole;
  }

  keyed : IsPermutation (map (values_of schema names) rows) (map (values_of schema names) other)
  keyed = IsPermutation-map (values_of schema names) rows other moved

  in_moved : (xs ys : List (List Datum)) (z : List Datum) → IsPermutation xs ys → IsIn z xs → IsIn z ys
  in_moved xs ys z h i = in_from_contains ys z (Contains-permutation xs ys z h (contains_from_in xs z i))

  same_keys : distinct_keys names u ≡ distinct_keys names t
  same_keys =
      let first = map (values_of schema names) rows in
      let second = map (values_of schema names) other in
      index_keys u keys other_whole plain
      ∙ sym (keys_are second (keys_of first) (keys_ascend first)
      (λ z h. in_moved first second z keyed (in_keys_back first z h))
      (λ z h. in_keys first z (in_moved second first z (IsPermutation-sym first second keyed) h)))
      ∙ sym (index_keys t keys whole plain)

  same_group : (key : List Datum) → length (group names u key) ≡ length (group names t key)
  same_group key =
      let test : List Datum → Bool = λ row. same_row (values_of schema names row) key in
      length-filter test other ∙ sum_by-IsPermutation (λ (row : List Datum). cond (test row) 1 0) rows other moved ∙ sym (length-filter test rows)

  pub counts_same : counts keys count u ≡ counts keys count t
  counts_same =
      (λ i. record {
        schema = properties_of schema names ++ record { name = count; domain = Domain.integer } ∷ [];
        rows = map (λ key. key ++ integer (pos (same_group key i)) ∷ []) (same_keys i);
      })
