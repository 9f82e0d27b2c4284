-- The bytes of a value, a row and rows go over whole fields, from what is due of them to what is due behind them.
use Rattle.std.proofs.Common.{◌≡◌, ℕ, ◌≤◌, ◌<◌, ◌^◌, List, [], ◌∷◌, ◌++◌, length, refl, sym, ◌∙◌, ap, subst, arith}
use Rattle.std.specs.List.{flat_map}
use Rattle.std.specs.Int.{w32, w64, cast_unsigned}
use Rattle.std.proofs.lemmas.List.{append_assoc}
use Rattle.byteorder.specs.Endian.{little_bytes}
use Rattle.byteorder.specs.Numbers.{little_number-reads_back}
use Rattle.mk_value.specs.Data.{Datum, Tuple, no_values, value, Relation, no_tuples, tuple, tuple_of, rows_of, relation_of, IsOf, IsTupleOf, AreTuplesOf}
use Rattle.mk_value.specs.Heading.{Domain, Heading, no_attributes, attribute}
use Rattle.mk_value.specs.Limits.{max_bytes}
use Rattle.mk_value.proofs.Relations.{rows_of-relation_of}
use Rattle.stream_codec.specs.Fields.{Due, row_count, number, content_length, content, value_due, row_due, rows_due, number_of_field, IsContent, Goes, stays}
use Rattle.stream_codec.specs.Stream.{counted, spelled_value, spelled_tuple, spelled_tuples, spelled_rows}
use Rattle.stream_codec.proofs.Going.{goes_field, goes_joins}

-- ---- numbers, texts and byte strings

-- a number in four bytes
pub number_4 : (n : ℕ) → n < 2 ^ 32 → number_of_field (little_bytes 4 n) ≡ n
number_4 n fits = little_number-reads_back 4 n [] fits

-- a field of so many bytes that may be any
pub goes_number : (len : ℕ) (due : List Due) (field rest : List ℕ) → length field ≡ len → Goes (number len ∷ due) (field ++ rest) due rest
goes_number len due field rest long = goes_field (number len) due [] field rest long refl

-- bytes behind their number
pub goes_counted : (d : Domain) (bytes : List ℕ) (due : List Due) (rest : List ℕ) → length bytes ≤ max_bytes → IsContent d bytes → Goes (content_length d ∷ due) (counted bytes ++ rest) due rest
goes_counted d bytes due rest short is =
    let len_is : number_of_field (little_bytes 4 (length bytes)) ≡ length bytes = number_4 (length bytes) (omega (arith, short)) in
    goes_joins
    (goes_field (content_length d) due (content d (length bytes) ∷ []) (little_bytes 4 (length bytes)) (bytes ++ rest) refl
    (omega (arith, short, len_is), ap (λ (n : ℕ). content d n ∷ []) (sym len_is)))
    (goes_field (content d (length bytes)) due [] bytes rest refl (is, refl))

-- ---- values and rows

mutual
  pub goes_value : (x : Datum) (d : Domain) (due : List Due) (rest : List ℕ) → IsOf x d → Goes (value_due d ∷ due) (spelled_value x ++ rest) due rest
  goes_value (Datum.integer z) Domain.integer due rest is = goes_number 4 due (little_bytes 4 (cast_unsigned w32 z)) rest refl
  goes_value (Datum.long z) Domain.long due rest is = goes_number 8 due (little_bytes 8 (cast_unsigned w64 z)) rest refl
  goes_value (Datum.text bytes) Domain.text due rest is = goes_counted Domain.text bytes due rest is.1 is.0
  goes_value (Datum.bytes bytes) Domain.bytes due rest is = goes_counted Domain.bytes bytes due rest is tt
  goes_value (Datum.relation r) (Domain.relation h) due rest is =
      let few = is.0 in
      let count_is : number_of_field (little_bytes 4 (length (rows_of r))) ≡ length (rows_of r) = number_4 (length (rows_of r)) (omega (arith, few)) in
      goes_joins
      (goes_field (row_count h) due (rows_due (length (rows_of r)) h) (little_bytes 4 (length (rows_of r))) (spelled_tuples r ++ rest) refl
      (omega (arith, few, count_is), ap (λ (n : ℕ). rows_due n h) (sym count_is)))
      (goes_tuples r h due rest is.1)
  goes_value (Datum.integer z) d due rest is = absurd is
  goes_value (Datum.long z) d due rest is = absurd is
  goes_value (Datum.text bytes) d due rest is = absurd is
  goes_value (Datum.bytes bytes) d due rest is = absurd is
  goes_value (Datum.relation r) d due rest is = absurd is

  pub goes_tuple : (t : Tuple) (h : Heading) (due : List Due) (rest : List ℕ) → IsTupleOf t h → Goes (row_due h ++ due) (spelled_tuple t ++ rest) due rest
  goes_tuple no_values no_attributes due rest is = stays due rest
  goes_tuple (value x others) (attribute n d h) due rest is =
      subst (λ (bytes : List ℕ). Goes (value_due d ∷ (row_due h ++ due)) bytes due rest) (sym (append_assoc (spelled_value x) (spelled_tuple others) rest))
      (goes_joins (goes_value x d (row_due h ++ due) (spelled_tuple others ++ rest) is.0) (goes_tuple others h due rest is.1))
  goes_tuple no_values (attribute n d h) due rest is = absurd is
  goes_tuple (value x others) no_attributes due rest is = absurd is

  pub goes_tuples : (r : Relation) (h : Heading) (due : List Due) (rest : List ℕ) → AreTuplesOf r h → Goes (rows_due (length (rows_of r)) h ++ due) (spelled_tuples r ++ rest) due rest
  goes_tuples no_tuples h due rest are = stays due rest
  goes_tuples (tuple t others) h due rest are =
      let left = rows_due (length (rows_of others)) h ++ due in
      subst (λ (l : List Due). Goes l (spelled_tuples (tuple t others) ++ rest) due rest) (sym (append_assoc (row_due h) (rows_due (length (rows_of others)) h) due))
      (subst (λ (bytes : List ℕ). Goes (row_due h ++ left) bytes due rest) (sym (append_assoc (spelled_tuple t) (spelled_tuples others) rest))
      (goes_joins (goes_tuple t h left (spelled_tuples others ++ rest) are.0) (goes_tuples others h due rest are.1)))

-- ---- the bytes of a row and of rows, value by value

pub spelled_row_is : (row : List Datum) → spelled_tuple (tuple_of row) ≡ flat_map spelled_value row
spelled_row_is [] = refl
spelled_row_is (x ∷ rest) = ap (λ (l : List ℕ). spelled_value x ++ l) (spelled_row_is rest)

pub spelled_tuples_are : (rows : List (List Datum)) → spelled_tuples (relation_of rows) ≡ flat_map (λ row. flat_map spelled_value row) rows
spelled_tuples_are [] = refl
spelled_tuples_are (row ∷ rest) =
    ap (λ (l : List ℕ). l ++ spelled_tuples (relation_of rest)) (spelled_row_is row) ∙ ap (λ (l : List ℕ). flat_map spelled_value row ++ l) (spelled_tuples_are rest)

pub spelled_rows_are : (rows : List (List Datum)) → spelled_rows rows ≡ little_bytes 4 (length rows) ++ flat_map (λ row. flat_map spelled_value row) rows
spelled_rows_are rows =
    ap (λ (n : ℕ). little_bytes 4 n ++ spelled_tuples (relation_of rows)) (ap length (rows_of-relation_of rows))
    ∙ ap (λ (l : List ℕ). little_bytes 4 (length rows) ++ l) (spelled_tuples_are rows)
