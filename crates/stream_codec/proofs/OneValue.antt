-- The bytes of a value of a domain are those of no other, whatever comes behind them.
use Rattle.std.proofs.Common.{◌≡◌, ℕ, ◌<◌, ◌^◌, ℤ, List, ◌++◌, length, take, drop, refl, sym, ◌∙◌, ap, arith}
use Rattle.std.specs.Prelude.{FitsSigned}
use Rattle.std.specs.Int.{Width, w32, w64, cast_signed, cast_unsigned}
use Rattle.std.proofs.Math.Facts.{Fits-lt-pow, Fits-of_z}
use Rattle.std.proofs.lemmas.Int.{to_z-of_z}
use Rattle.std.proofs.lemmas.List.{append_assoc, drop_at, take_at}
use Rattle.byteorder.specs.Endian.{little_bytes, little_number}
use Rattle.byteorder.specs.Numbers.{little_number-reads_back}
use Rattle.mk_value.specs.Data.{Datum, Tuple, no_values, value, Relation, no_tuples, tuple, rows_of, IsOf, IsTupleOf, AreTuplesOf}
use Rattle.mk_value.specs.Heading.{Domain, Heading, no_attributes, attribute}
use Rattle.stream_codec.specs.Stream.{counted, spelled_value, spelled_tuple, spelled_tuples}

-- ---- two fields with bytes behind them

pub front_4 : (x y : ℕ) (a b : List ℕ) → x < 2 ^ 32 → y < 2 ^ 32 → little_bytes 4 x ++ a ≡ little_bytes 4 y ++ b → (x ≡ y) × (a ≡ b)
front_4 x y a b fits also is =
    (sym (little_number-reads_back 4 x a fits) ∙ ap (λ (l : List ℕ). little_number 4 l) is ∙ little_number-reads_back 4 y b also, ap (λ (l : List ℕ). drop 4 l) is)

front_8 : (x y : ℕ) (a b : List ℕ) → x < 2 ^ 64 → y < 2 ^ 64 → little_bytes 8 x ++ a ≡ little_bytes 8 y ++ b → (x ≡ y) × (a ≡ b)
front_8 x y a b fits also is =
    (sym (little_number-reads_back 8 x a fits) ∙ ap (λ (l : List ℕ). little_number 8 l) is ∙ little_number-reads_back 8 y b also, ap (λ (l : List ℕ). drop 8 l) is)

front_same : (x y a b : List ℕ) → length x ≡ length y → x ++ a ≡ y ++ b → (x ≡ y) × (a ≡ b)
front_same x y a b same is = (
  sym (take_at x a (length x) refl) ∙ ap (λ (l : List ℕ). take (length x) l) is ∙ take_at y b (length x) (sym same),
  sym (drop_at x a (length x) refl) ∙ ap (λ (l : List ℕ). drop (length x) l) is ∙ drop_at y b (length x) (sym same),
)

pub front_counted : (x y a b : List ℕ) → length x < 2 ^ 32 → length y < 2 ^ 32 → counted x ++ a ≡ counted y ++ b → (x ≡ y) × (a ≡ b)
front_counted x y a b short brief is =
    let lens = front_4 (length x) (length y) (x ++ a) (y ++ b) short brief is in
    front_same x y a b lens.0 lens.1

-- two numbers of a width have two forms
one_number : (w : Width) (x y : ℤ) → FitsSigned w x → FitsSigned w y → cast_unsigned w x ≡ cast_unsigned w y → x ≡ y
one_number w x y fits also same = sym (to_z-of_z w x fits) ∙ ap (λ (n : ℕ). cast_signed w n) same ∙ to_z-of_z w y also

-- ---- values and rows

mutual
  pub one_value : (x : Datum) (d : Domain) (y : Datum) (a b : List ℕ) → IsOf x d → IsOf y d → spelled_value x ++ a ≡ spelled_value y ++ b → (x ≡ y) × (a ≡ b)
  one_value (Datum.integer z) Domain.integer (Datum.integer w) a b one two is =
      let low : cast_unsigned w32 z < 2 ^ 32 = Fits-lt-pow (Fits-of_z one) in
      let high : cast_unsigned w32 w < 2 ^ 32 = Fits-lt-pow (Fits-of_z two) in
      let front = front_4 (cast_unsigned w32 z) (cast_unsigned w32 w) a b low high is in
      (ap Datum.integer (one_number w32 z w one two front.0), front.1)
  one_value (Datum.long z) Domain.long (Datum.long w) a b one two is =
      let low : cast_unsigned w64 z < 2 ^ 64 = Fits-lt-pow (Fits-of_z one) in
      let high : cast_unsigned w64 w < 2 ^ 64 = Fits-lt-pow (Fits-of_z two) in
      let front = front_8 (cast_unsigned w64 z) (cast_unsigned w64 w) a b low high is in
      (ap Datum.long (one_number w64 z w one two front.0), front.1)
  one_value (Datum.text x) Domain.text (Datum.text y) a b one two is =
      let short = one.1 in
      let brief = two.1 in
      let front = front_counted x y a b (omega (arith, short)) (omega (arith, brief)) is in
      (ap Datum.text front.0, front.1)
  one_value (Datum.bytes x) Domain.bytes (Datum.bytes y) a b one two is =
      let front = front_counted x y a b (omega (arith, one)) (omega (arith, two)) is in
      (ap Datum.bytes front.0, front.1)
  one_value (Datum.relation r) (Domain.relation h) (Datum.relation s) a b one two is =
      let few = one.0 in
      let also = two.0 in
      let counts = front_4 (length (rows_of r)) (length (rows_of s)) (spelled_tuples r ++ a) (spelled_tuples s ++ b) (omega (arith, few)) (omega (arith, also)) is in
      let rows = one_relation r h s a b one.1 two.1 counts.0 counts.1 in
      (ap Datum.relation rows.0, rows.1)
  one_value (Datum.integer z) Domain.integer y a b one two is = absurd two
  one_value (Datum.long z) Domain.long y a b one two is = absurd two
  one_value (Datum.text x) Domain.text y a b one two is = absurd two
  one_value (Datum.bytes x) Domain.bytes y a b one two is = absurd two
  one_value (Datum.relation r) (Domain.relation h) y a b one two is = absurd two
  one_value (Datum.integer z) d y a b one two is = absurd one
  one_value (Datum.long z) d y a b one two is = absurd one
  one_value (Datum.text x) d y a b one two is = absurd one
  one_value (Datum.bytes x) d y a b one two is = absurd one
  one_value (Datum.relation r) d y a b one two is = absurd one

  pub one_tuple : (t : Tuple) (h : Heading) (u : Tuple) (a b : List ℕ) → IsTupleOf t h → IsTupleOf u h → spelled_tuple t ++ a ≡ spelled_tuple u ++ b → (t ≡ u) × (a ≡ b)
  one_tuple no_values no_attributes no_values a b one two is = (refl, is)
  one_tuple (value x others) (attribute n d h) (value y rest) a b one two is =
      let first = one_value x d y (spelled_tuple others ++ a) (spelled_tuple rest ++ b) one.0 two.0
      (sym (append_assoc (spelled_value x) (spelled_tuple others) a) ∙ is ∙ append_assoc (spelled_value y) (spelled_tuple rest) b) in
      let then = one_tuple others h rest a b one.1 two.1 first.1 in
      (ap (λ (d : Datum). value d others) first.0 ∙ ap (λ (t : Tuple). value y t) then.0, then.1)
  one_tuple no_values no_attributes u a b one two is = absurd two
  one_tuple (value x others) (attribute n d h) u a b one two is = absurd two
  one_tuple no_values h u a b one two is = absurd one
  one_tuple (value x others) h u a b one two is = absurd one

  pub one_relation : (r : Relation) (h : Heading) (s : Relation) (a b : List ℕ) → AreTuplesOf r h → AreTuplesOf s h → length (rows_of r) ≡ length (rows_of s)
      → spelled_tuples r ++ a ≡ spelled_tuples s ++ b → (r ≡ s) × (a ≡ b)
  one_relation no_tuples h no_tuples a b one two same is = (refl, is)
  one_relation no_tuples h (tuple u rest) a b one two same is = absurd (omega (arith, same))
  one_relation (tuple t others) h no_tuples a b one two same is = absurd (omega (arith, same))
  one_relation (tuple t others) h (tuple u rest) a b one two same is =
      let first = one_tuple t h u (spelled_tuples others ++ a) (spelled_tuples rest ++ b) one.0 two.0
      (sym (append_assoc (spelled_tuple t) (spelled_tuples others) a) ∙ is ∙ append_assoc (spelled_tuple u) (spelled_tuples rest) b) in
      let then = one_relation others h rest a b one.1 two.1 (omega (arith, same)) first.1 in
      (ap (λ (t : Tuple). tuple t others) first.0 ∙ ap (λ (r : Relation). tuple u r) then.0, then.1)
