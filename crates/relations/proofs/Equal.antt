-- Rows are the same exactly where the order of whole rows ties.
use Rattle.std.proofs.Common.{◌≡◌, true, List, [], ◌∷◌, refl, ap, sym, subst, ◌∙◌}
use Rattle.std.specs.declared.cmp.Ordering.{Ordering}
use Rattle.std.specs.declared.cmp.Ordering.TheVariants.{Less, Equal, Greater}
use Rattle.std.specs.Ordering.{is_eq, ordering_reverse, ordering_then}
use Rattle.std.specs.Cmp.{both_tied}
use Rattle.std.specs.Cmp.Lexicographic.{texts_ties, lists_ties}
use Rattle.std.proofs.lemmas.Bool.{false≢true}
use Rattle.std.proofs.lemmas.Cmp.{tied_itself}
use Rattle.mk_value.specs.Data.{Datum, integer, long, text, bytes, relation, Tuple, no_values, value, Relation, no_tuples, tuple, tuple_of, relation_of}
use Rattle.relations.specs.Equality.{same_value, same_tuple, same_relation, same_row}
use Rattle.relations.specs.WholeOrder.{whole_cmp, tuple_cmp, relation_cmp, whole_row_cmp, whole_rows_cmp}
use Rattle.relations.specs.OrderLaws.{whole_row_cmp_total, whole_row_ties}

mutual
  same_is : (a b : Datum) → same_value a b ≡ is_eq (whole_cmp a b)
  same_is (integer a) (integer b) = refl
  same_is (long a) (long b) = refl
  same_is (text a) (text b) = texts_ties a b
  same_is (bytes a) (bytes b) = texts_ties a b
  same_is (relation r) (relation s) = same_relation_is r s
  same_is _ _ = refl

  same_tuple_is : (t u : Tuple) → same_tuple t u ≡ is_eq (tuple_cmp t u)
  same_tuple_is no_values no_values = refl
  same_tuple_is no_values (value e others) = refl
  same_tuple_is (value d rest) no_values = refl
  same_tuple_is (value d rest) (value e others) =
      both_tied (same_value d e) (same_tuple rest others) (whole_cmp d e) (tuple_cmp rest others) (same_is d e) (same_tuple_is rest others)

  same_relation_is : (r s : Relation) → same_relation r s ≡ is_eq (relation_cmp r s)
  same_relation_is no_tuples no_tuples = refl
  same_relation_is no_tuples (tuple u others) = refl
  same_relation_is (tuple t rest) no_tuples = refl
  same_relation_is (tuple t rest) (tuple u others) =
      both_tied (same_tuple t u) (same_relation rest others) (tuple_cmp t u) (relation_cmp rest others) (same_tuple_is t u) (same_relation_is rest others)

pub same_row_is : (a b : List Datum) → same_row a b ≡ is_eq (whole_row_cmp a b)
same_row_is = lists_ties whole_cmp same_is

pub equal_from_is : (o : Ordering) → is_eq o ≡ true → o ≡ Equal
equal_from_is Less e = absurd (false≢true e)
equal_from_is Equal e = refl
equal_from_is Greater e = absurd (false≢true e)

pub rows_equal : (a b : List Datum) → same_row a b ≡ true → a ≡ b
rows_equal a b e = whole_row_ties a b (equal_from_is (whole_row_cmp a b) (sym (same_row_is a b) ∙ e))

pub same_itself : (a : List Datum) → same_row a a ≡ true
same_itself a = same_row_is a a ∙ ap is_eq (tied_itself whole_row_cmp_total a)

pub same_from_equal : (a b : List Datum) → a ≡ b → same_row a b ≡ true
same_from_equal a b e = subst (λ c. same_row a c ≡ true) e (same_itself a)

reverse_eq : (o : Ordering) → is_eq (ordering_reverse o) ≡ is_eq o
reverse_eq Less = refl
reverse_eq Equal = refl
reverse_eq Greater = refl

-- a row is the same as another where that is the same as it
pub same_row_symm : (a b : List Datum) → same_row a b ≡ same_row b a
same_row_symm a b =
    same_row_is a b ∙ ap is_eq (whole_row_cmp_total.antisymm a b) ∙ reverse_eq (whole_row_cmp b a) ∙ sym (same_row_is b a)

-- rows as lists and as plain data have one order
tuple_cmp_is : (a b : List Datum) → tuple_cmp (tuple_of a) (tuple_of b) ≡ whole_row_cmp a b
tuple_cmp_is [] [] = refl
tuple_cmp_is [] (e ∷ es) = refl
tuple_cmp_is (d ∷ ds) [] = refl
tuple_cmp_is (d ∷ ds) (e ∷ es) = λ i. ordering_then (whole_cmp d e) (tuple_cmp_is ds es i)

pub relation_cmp_is : (r s : List (List Datum)) → relation_cmp (relation_of r) (relation_of s) ≡ whole_rows_cmp r s
relation_cmp_is [] [] = refl
relation_cmp_is [] (u ∷ us) = refl
relation_cmp_is (t ∷ ts) [] = refl
relation_cmp_is (t ∷ ts) (u ∷ us) = λ i. ordering_then (tuple_cmp_is t u i) (relation_cmp_is ts us i)
