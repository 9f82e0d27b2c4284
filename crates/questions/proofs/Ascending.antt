-- Rows that ascend by their first values stand in the order of the first properties, upwards.
use Rattle.std.proofs.Common.{◌≡◌, ℕ, zero, suc, ◌+◌, ◌<◌, ◌≤◌, pos, false, List, [], ◌∷◌, length, get_or, map, take, drop, All, refl, ap, sym, ◌∙◌, arith}
use Rattle.std.proofs.Math.Seq.{drop-cons}
use Rattle.std.proofs.lemmas.List.Folds.{list_any_at}
use Rattle.std.specs.Cmp.Lexicographic.{nat_list_eq_equiv, slice_cmp}
use Rattle.std.specs.List.Sorted.{IsSorted}
use Rattle.std.specs.Ordering.{is_lt, ordering_reverse, ordering_then}
use Rattle.std.specs.declared.cmp.Ordering.TheVariants.{Less}
use Rattle.mapped.specs.Keys.{AscendByKey, key_cmp}
use Rattle.mk_value.specs.Data.{Datum, integer}
use Rattle.mk_value.specs.Heading.{Attribute, HaveDistinctNames}
use Rattle.mk_value.specs.Order.{value_cmp}
use Rattle.relations.specs.Rows.{is_named, value_of}
use Rattle.relations.specs.Sorting.{row_cmp}
use Rattle.relations.specs.declared.criteria.Key.{Key}
use Rattle.relations.proofs.Headings.{column_here}
use Rattle.relations.proofs.Names.{value_at_column}
use Rattle.relations.proofs.RowOrder.{row_cmp_total}
use Rattle.questions.specs.Places.{upwards}

-- the key of a property, upwards
abbrev up : Attribute → Key
up a = record { prop = a.name; down = false }

-- the value of a property is the one at its place
value_here : (schema : List Attribute) (row : List Datum) (i : ℕ) (d : Attribute) → HaveDistinctNames schema → i < length schema → value_of schema row (get_or schema i d).name ≡ get_or row i (integer (pos 0))
value_here schema row i d distinct p =
    value_at_column schema row (get_or schema i d).name (list_any_at (is_named (get_or schema i d).name) schema i d p (nat_list_eq_equiv.refl (get_or schema i d).name)) ∙ ap (λ k. get_or row k (integer (pos 0))) (column_here schema i d distinct p)

module _ (schema : List Attribute) (d : Attribute) (distinct : HaveDistinctNames schema) (a b : List Datum) (a_long : length a ≡ length schema) (b_long : length b ≡ length schema) where
  -- from a place on, so many properties are compared as so many values
  cmp_from : (n i : ℕ) → i + n ≤ length schema → row_cmp schema (map up (take n (drop i schema))) a b ≡ slice_cmp value_cmp (take n (drop i a)) (take n (drop i b))
  cmp_from zero i p = refl
  cmp_from (suc n) i p =
      let x : Datum = integer (pos 0) in
      let here : i < length schema = omega arith in
      let s = get_or schema i d in
      ap (λ ss. row_cmp schema (map up (take (suc n) ss)) a b) (drop-cons schema i d here)
      ∙ ap (λ (v : Datum). ordering_then (value_cmp v (value_of schema b s.name)) (row_cmp schema (map up (take n (drop (suc i) schema))) a b)) (value_here schema a i d distinct here)
      ∙ ap (λ (v : Datum). ordering_then (value_cmp (get_or a i x) v) (row_cmp schema (map up (take n (drop (suc i) schema))) a b)) (value_here schema b i d distinct here)
      ∙ ap (ordering_then (value_cmp (get_or a i x) (get_or b i x))) (cmp_from n (suc i) (omega arith))
      ∙ sym (ap (λ xs. slice_cmp value_cmp (take (suc n) xs) (take (suc n) (drop i b))) (drop-cons a i x (omega arith))
      ∙ ap (λ ys. slice_cmp value_cmp (get_or a i x ∷ take n (drop (suc i) a)) (take (suc n) ys)) (drop-cons b i x (omega arith)))

  first_cmp : (count : ℕ) → count ≤ length schema → row_cmp schema (upwards count schema) a b ≡ key_cmp (take count a) (take count b)
  first_cmp count p = cmp_from count 0 (omega arith)

-- the first attribute, where there is one
first_of : (schema : List Attribute) → 0 < length schema → Attribute
first_of [] p = absurd (omega arith)
first_of (a ∷ schema) p = a

pub ascending_sorted : (schema : List Attribute) (rows : List (List Datum)) (count : ℕ) → HaveDistinctNames schema → 0 < length schema → All (λ row. length row ≡ length schema) rows → count ≤ length schema → AscendByKey count rows
    → IsSorted (row_cmp schema (upwards count schema)) rows
ascending_sorted schema rows count distinct some long few ascend = λ k d low p.
    let a = get_or rows k d in
    let b = get_or rows (k + 1) d in
    let less : row_cmp schema (upwards count schema) a b ≡ Less =
    first_cmp schema (first_of schema some) distinct a b (long k d (omega arith)) (long (k + 1) d p) count few ∙ ascend k (k + 1) d (omega arith) p in
    let more : row_cmp schema (upwards count schema) b a ≡ ordering_reverse Less = (row_cmp_total schema (upwards count schema)).antisymm b a ∙ ap ordering_reverse less in
    ap is_lt more
