-- What the first criterion of a scan asks.
use Rattle.std.proofs.Common.{◌≡◌, ℤ, true, false, ◌&&◌, ap, sym, ◌∙◌, ◌<ℤ◌, arith}
use Rattle.std.specs.declared.cmp.Ordering.{Ordering}
use Rattle.std.specs.declared.cmp.Ordering.TheVariants.{Less, Equal, Greater}
use Rattle.std.specs.Cmp.{int_ranks}
use Rattle.std.specs.Int.Signed.{le_z}
use Rattle.std.specs.Ordering.{MatchOrdering, int_cmp, is_eq, is_ge, is_le}
use Rattle.std.proofs.lemmas.Int.{ints}
use Rattle.mk_value.specs.Heading.{Domain}
use Rattle.mk_value.specs.Data.{Datum, integer, long, IsOf}
use Rattle.mk_value.specs.Order.{value_cmp}
use Rattle.mk_value.specs.Tables.{IsComparable, number_in}
use Rattle.relations.specs.OrderLaws.{whole_ties}
use Rattle.relations.specs.Scanning.{AreBounds}
use Rattle.relations.specs.WholeOrder.{whole_cmp}
use Rattle.relations.proofs.Equal.{equal_from_is}

pub same_values : (a b : Datum) (o : Ordering) → o ≡ whole_cmp a b → is_eq o ≡ true → a ≡ b
same_values a b o e t = whole_ties a b (sym e ∙ equal_from_is o t)

-- a comparison of numbers, as a test
ge_from : (n low : ℤ) (o : Ordering) → MatchOrdering o (n <ℤ low) (n ≡ low) (low <ℤ n) → is_ge o ≡ le_z low n
ge_from n low Less h = grind (arith, ints)
ge_from n low Equal h = grind (arith, ints)
ge_from n low Greater h = grind (arith, ints)

le_from : (n high : ℤ) (o : Ordering) → MatchOrdering o (n <ℤ high) (n ≡ high) (high <ℤ n) → is_le o ≡ le_z n high
le_from n high Less h = grind (arith, ints)
le_from n high Equal h = grind (arith, ints)
le_from n high Greater h = grind (arith, ints)

between : (z x y low high n : ℤ) → low ≡ x → high ≡ y → n ≡ z → (is_ge (int_cmp z x) && is_le (int_cmp z y)) ≡ (le_z low n && le_z n high)
between z x y low high n p q r =
    ap (λ t. t && is_le (int_cmp z y)) (ge_from z x (int_cmp z x) (int_ranks z x)) ∙ ap (λ t. le_z x z && t) (le_from z y (int_cmp z y) (int_ranks z y))
    ∙ sym (ap (λ k. le_z k n && le_z n high) p ∙ ap (λ k. le_z x n && le_z n k) q ∙ ap (λ k. le_z x k && le_z k y) r)

integers_between : (x y : ℤ) (d : Datum) (e : Domain) (low high n : ℤ) → low ≡ x → high ≡ y → IsComparable (integer x) e → IsOf d e → n ≡ number_in d
    → (is_ge (value_cmp d (integer x)) && is_le (value_cmp d (integer y))) ≡ (le_z low n && le_z n high)
integers_between x y (integer z) Domain.integer low high n p q c f r = between z x y low high n p q r
integers_between x y _ Domain.integer low high n p q c f r = absurd f
integers_between x y _ _ low high n p q c f r = absurd c

longs_between : (x y : ℤ) (d : Datum) (e : Domain) (low high n : ℤ) → low ≡ x → high ≡ y → IsComparable (long x) e → IsOf d e → n ≡ number_in d
    → (is_ge (value_cmp d (long x)) && is_le (value_cmp d (long y))) ≡ (le_z low n && le_z n high)
longs_between x y (long z) Domain.long low high n p q c f r = between z x y low high n p q r
longs_between x y _ Domain.long low high n p q c f r = absurd f
longs_between x y _ _ low high n p q c f r = absurd c

-- a value lies within bounds that are numbers where its number does
pub number_between : (a b d : Datum) (e : Domain) (low high n : ℤ) → AreBounds a b low high → IsComparable a e → IsOf d e → n ≡ number_in d
    → (is_ge (value_cmp d a) && is_le (value_cmp d b)) ≡ (le_z low n && le_z n high)
number_between (integer x) (integer y) d e low high n h c f r = integers_between x y d e low high n h.0 h.1 c f r
number_between (long x) (long y) d e low high n h c f r = longs_between x y d e low high n h.0 h.1 c f r
number_between _ _ d e low high n h c f r = absurd h

-- and as it is tested: the greater bound only where the number is not below the lesser
module _ (a b d : Datum) (e : Domain) (low high n l m k : ℤ) (h : AreBounds a b low high) (c : IsComparable a e) (f : IsOf d e) (r : n ≡ number_in d) (p : l ≡ low) (q : m ≡ high) (s : k ≡ n) where
  as_tested : (is_ge (value_cmp d a) && is_le (value_cmp d b)) ≡ (le_z l k && le_z k m)
  as_tested =
      number_between a b d e low high n h c f r
      ∙ sym (ap (λ x. le_z x k && le_z k m) p ∙ ap (λ x. le_z low k && le_z k x) q ∙ ap (λ x. le_z low x && le_z x high) s)

  pub tested_high : le_z l k ≡ true → le_z k m ≡ (is_ge (value_cmp d a) && is_le (value_cmp d b))
  tested_high t = sym (as_tested ∙ ap (λ x. x && le_z k m) t)

  pub tested_low : le_z l k ≡ false → le_z l k ≡ (is_ge (value_cmp d a) && is_le (value_cmp d b))
  tested_low t = t ∙ sym (as_tested ∙ ap (λ x. x && le_z k m) t)
