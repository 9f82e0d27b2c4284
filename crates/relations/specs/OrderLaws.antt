-- The order of whole rows is total, and ties only where the rows are the same.
use Rattle.std.specs.Prelude.{◌≡◌, ℕ, List, [], ◌∷◌, refl}
use Rattle.std.specs.declared.cmp.Ordering.{Ordering}
use Rattle.std.specs.declared.cmp.Ordering.TheVariants.{Less, Equal, Greater}
use Rattle.std.specs.Ordering.{nat_cmp, is_eq, is_lt, ordering_then, ordering_reverse}
use Rattle.std.specs.Cmp.{IsTotalOrder}
use Rattle.std.specs.Cmp.Lexicographic.{slice_cmp, lists_total}
use Rattle.std.proofs.Common.{ap, sym, ◌∙◌}
use Rattle.std.proofs.lemmas.Bool.{false≢true}
use Rattle.std.proofs.lemmas.Cmp.{ranked, int_ranked}
use Rattle.mk_value.specs.Data.{Datum, integer, long, text, bytes, relation, Tuple, no_values, value, Relation, no_tuples, tuple}
use Rattle.mk_value.specs.OrderLaws.{value_cmp_total}
use Rattle.relations.specs.WholeOrder.{whole_cmp, tuple_cmp, relation_cmp, whole_row_cmp}

less≢equal : Less ≡ Equal → ⊥
less≢equal e = false≢true (ap is_eq e)

greater≢equal : Greater ≡ Equal → ⊥
greater≢equal e = false≢true (ap is_eq e)

greater≢less : Greater ≡ Less → ⊥
greater≢less e = false≢true (ap is_lt e)

-- one order and then another: when they tie, the other way round, and along three
then_equal : (o p : Ordering) → ordering_then o p ≡ Equal → (o ≡ Equal) × (p ≡ Equal)
then_equal Less p e = absurd (less≢equal e)
then_equal Equal p e = (refl, e)
then_equal Greater p e = absurd (greater≢equal e)

then_reverse : (o p : Ordering) → ordering_then (ordering_reverse o) (ordering_reverse p) ≡ ordering_reverse (ordering_then o p)
then_reverse Less p = refl
then_reverse Equal p = refl
then_reverse Greater p = refl

then_trans : (o p q r s t : Ordering) → (o ≡ Less → q ≡ Less → s ≡ Less) → (o ≡ Equal → s ≡ q) → (q ≡ Equal → s ≡ o) → (p ≡ Less → r ≡ Less → t ≡ Less)
    → ordering_then o p ≡ Less → ordering_then q r ≡ Less → ordering_then s t ≡ Less
then_trans Less p Less r s t both first second more e f = ap (λ u. ordering_then u t) (both refl refl)
then_trans Less p Equal r s t both first second more e f = ap (λ u. ordering_then u t) (second refl)
then_trans Less p Greater r s t both first second more e f = absurd (greater≢less f)
then_trans Equal p Less r s t both first second more e f = ap (λ u. ordering_then u t) (first refl)
then_trans Equal p Equal r s t both first second more e f = ap (λ u. ordering_then u t) (first refl) ∙ more e f
then_trans Equal p Greater r s t both first second more e f = absurd (greater≢less f)
then_trans Greater p q r s t both first second more e f = absurd (greater≢less e)

-- lists tie only where they are the same, if their elements do
slice_ties : {X : Type 0} (R : X → X → Ordering) → ((x y : X) → R x y ≡ Equal → x ≡ y) → (xs ys : List X) → slice_cmp R xs ys ≡ Equal → xs ≡ ys
slice_ties R ties [] [] e = refl
slice_ties R ties [] (y ∷ ys) e = absurd (less≢equal e)
slice_ties R ties (x ∷ xs) [] e = absurd (greater≢equal e)
slice_ties R ties (x ∷ xs) (y ∷ ys) e =
    let both = then_equal (R x y) (slice_cmp R xs ys) e in
    ap (λ z. z ∷ xs) (ties x y both.0) ∙ ap (λ zs. y ∷ zs) (slice_ties R ties xs ys both.1)

nat_ties : (a b : ℕ) → nat_cmp a b ≡ Equal → a ≡ b
nat_ties a b e = ranked a b Equal (sym e)

content_ties : (a b : List ℕ) → slice_cmp nat_cmp a b ≡ Equal → a ≡ b
content_ties = slice_ties nat_cmp nat_ties

mutual
  pub whole_ties : (a b : Datum) → whole_cmp a b ≡ Equal → a ≡ b
  whole_ties (integer a) (integer b) e = ap integer (int_ranked a b Equal (sym e))
  whole_ties (long a) (long b) e = ap long (int_ranked a b Equal (sym e))
  whole_ties (text a) (text b) e = ap text (content_ties a b e)
  whole_ties (bytes a) (bytes b) e = ap bytes (content_ties a b e)
  whole_ties (relation r) (relation s) e = ap relation (relation_ties r s e)
  whole_ties _ _ e = absurd (false≢true (ap is_eq e))

  tuple_ties : (t u : Tuple) → tuple_cmp t u ≡ Equal → t ≡ u
  tuple_ties no_values no_values e = refl
  tuple_ties no_values (value e' others) e = absurd (less≢equal e)
  tuple_ties (value d rest) no_values e = absurd (greater≢equal e)
  tuple_ties (value d rest) (value e' others) e =
      let both = then_equal (whole_cmp d e') (tuple_cmp rest others) e in
      ap (λ z. value z rest) (whole_ties d e' both.0) ∙ ap (λ z. value e' z) (tuple_ties rest others both.1)

  relation_ties : (r s : Relation) → relation_cmp r s ≡ Equal → r ≡ s
  relation_ties no_tuples no_tuples e = refl
  relation_ties no_tuples (tuple u others) e = absurd (less≢equal e)
  relation_ties (tuple t rest) no_tuples e = absurd (greater≢equal e)
  relation_ties (tuple t rest) (tuple u others) e =
      let both = then_equal (tuple_cmp t u) (relation_cmp rest others) e in
      ap (λ z. tuple z rest) (tuple_ties t u both.0) ∙ ap (λ z. tuple u z) (relation_ties rest others both.1)

mutual
  whole_antisymm : (a b : Datum) → whole_cmp a b ≡ ordering_reverse (whole_cmp b a)
  whole_antisymm (integer a) (integer b) = value_cmp_total.antisymm (integer a) (integer b)
  whole_antisymm (long a) (long b) = value_cmp_total.antisymm (long a) (long b)
  whole_antisymm (text a) (text b) = value_cmp_total.antisymm (text a) (text b)
  whole_antisymm (bytes a) (bytes b) = value_cmp_total.antisymm (bytes a) (bytes b)
  whole_antisymm (relation r) (relation s) = relation_antisymm r s
  whole_antisymm _ _ = refl

  tuple_antisymm : (t u : Tuple) → tuple_cmp t u ≡ ordering_reverse (tuple_cmp u t)
  tuple_antisymm no_values no_values = refl
  tuple_antisymm no_values (value e others) = refl
  tuple_antisymm (value d rest) no_values = refl
  tuple_antisymm (value d rest) (value e others) =
      ap (λ o. ordering_then o (tuple_cmp rest others)) (whole_antisymm d e) ∙ ap (ordering_then (ordering_reverse (whole_cmp e d))) (tuple_antisymm rest others)
      ∙ then_reverse (whole_cmp e d) (tuple_cmp others rest)

  relation_antisymm : (r s : Relation) → relation_cmp r s ≡ ordering_reverse (relation_cmp s r)
  relation_antisymm no_tuples no_tuples = refl
  relation_antisymm no_tuples (tuple u others) = refl
  relation_antisymm (tuple t rest) no_tuples = refl
  relation_antisymm (tuple t rest) (tuple u others) =
      ap (λ o. ordering_then o (relation_cmp rest others)) (tuple_antisymm t u) ∙ ap (ordering_then (ordering_reverse (tuple_cmp u t))) (relation_antisymm rest others)
      ∙ then_reverse (tuple_cmp u t) (relation_cmp others rest)

mutual
  whole_trans : (a b c : Datum) → whole_cmp a b ≡ Less → whole_cmp b c ≡ Less → whole_cmp a c ≡ Less
  whole_trans (relation r) (relation s) (relation t) p q = relation_trans r s t p q
  whole_trans (relation r) (relation s) c p q = absurd (greater≢less q)
  whole_trans (relation r) b c p q = absurd (greater≢less p)
  whole_trans a (relation s) (relation t) p q = refl
  whole_trans a (relation s) c p q = absurd (greater≢less q)
  whole_trans a b (relation t) p q = refl
  whole_trans a b c p q = value_cmp_total.trans a b c p q

  tuple_trans : (t u v : Tuple) → tuple_cmp t u ≡ Less → tuple_cmp u v ≡ Less → tuple_cmp t v ≡ Less
  tuple_trans no_values no_values v p q = q
  tuple_trans no_values (value e others) no_values p q = absurd (greater≢less q)
  tuple_trans no_values (value e others) (value f more) p q = refl
  tuple_trans (value d rest) no_values v p q = absurd (greater≢less p)
  tuple_trans (value d rest) (value e others) no_values p q = absurd (greater≢less q)
  tuple_trans (value d rest) (value e others) (value f more) p q =
      then_trans (whole_cmp d e) (tuple_cmp rest others) (whole_cmp e f) (tuple_cmp others more) (whole_cmp d f) (tuple_cmp rest more) (whole_trans d e f)
      (λ tied. ap (λ z. whole_cmp z f) (whole_ties d e tied)) (λ tied. ap (whole_cmp d) (sym (whole_ties e f tied))) (tuple_trans rest others more) p q

  relation_trans : (r s t : Relation) → relation_cmp r s ≡ Less → relation_cmp s t ≡ Less → relation_cmp r t ≡ Less
  relation_trans no_tuples no_tuples t p q = q
  relation_trans no_tuples (tuple u others) no_tuples p q = absurd (greater≢less q)
  relation_trans no_tuples (tuple u others) (tuple v more) p q = refl
  relation_trans (tuple t rest) no_tuples s p q = absurd (greater≢less p)
  relation_trans (tuple t rest) (tuple u others) no_tuples p q = absurd (greater≢less q)
  relation_trans (tuple t rest) (tuple u others) (tuple v more) p q =
      then_trans (tuple_cmp t u) (relation_cmp rest others) (tuple_cmp u v) (relation_cmp others more) (tuple_cmp t v) (relation_cmp rest more) (tuple_trans t u v)
      (λ tied. ap (λ z. tuple_cmp z v) (tuple_ties t u tied)) (λ tied. ap (tuple_cmp t) (sym (tuple_ties u v tied))) (relation_trans rest others more) p q

pub whole_cmp_total : IsTotalOrder whole_cmp
whole_cmp_total = record {
  antisymm = whole_antisymm;
  trans = whole_trans;
  congr = λ x y z tied. ap (λ w. whole_cmp w z) (whole_ties x y tied);
}

pub whole_row_cmp_total : IsTotalOrder whole_row_cmp
whole_row_cmp_total = lists_total whole_cmp_total

pub whole_row_ties : (a b : List Datum) → whole_row_cmp a b ≡ Equal → a ≡ b
whole_row_ties = slice_ties whole_cmp whole_ties
