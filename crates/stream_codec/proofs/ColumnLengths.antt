-- How many bytes rows have, counted column by column.
use Rattle.std.proofs.Common.{◌≡◌, ℕ, ◌+◌, ◌*◌, ◌≤◌, ◌<◌, List, [], ◌∷◌, ◌++◌, length, drop, take, get_or, Result, Ok, Err, pos, All, refl, ◌∙◌, ap, arith}
use Rattle.std.specs.List.{flat_map}
use Rattle.std.specs.Result.{IsErr, OkIff}
use Rattle.std.proofs.lemmas.Bool.{false≢true}
use Rattle.std.proofs.lemmas.List.{append-nil, get_or-map, length-append, take-append-drop, take_all, take_more}
use Rattle.std.proofs.lemmas.List.Concat.{flat_map-append}
use Rattle.std.proofs.lemmas.List.Elements.{All-head, All-tail}
use Rattle.byteorder.specs.Endian.{little_bytes}
use Rattle.mk_value.specs.Data.{Datum, integer, long, text, bytes, relation, cell, IsOf, IsRowOf}
use Rattle.mk_value.specs.Heading.{Attribute, Domain}
use Rattle.mk_value.specs.Tables.{domain_at}
use Rattle.mk_value.proofs.Relations.{row_fits_length}
use Rattle.tables.specs.Homes.{column_of}
use Rattle.tables.specs.Tables.{IsTable, StoredTable}
use Rattle.tables.proofs.Reading.{length-column_of}
use Rattle.tables.proofs.Values.{column_fits}
use Rattle.stream_codec.specs.Stream.{spelled_rows, spelled_value}
use Rattle.stream_codec.proofs.ValueFields.{spelled_rows_are}

-- one value more at the end of values
pub length_more : (values : List Datum) (i : ℕ) → i < length values
    → length (flat_map spelled_value (take (i + 1) values)) ≡ length (flat_map spelled_value (take i values)) + length (spelled_value (get_or values i (integer (pos 0))))
length_more values i within =
    let d = get_or values i (integer (pos 0)) in
    ap (λ (l : List Datum). length (flat_map spelled_value l)) (take_more values i (integer (pos 0)) within)
    ∙ ap length (flat_map-append spelled_value (take i values) (d ∷ []) ∙ ap (λ (l : List ℕ). flat_map spelled_value (take i values) ++ l) (append-nil (spelled_value d)))
    ∙ length-append (flat_map spelled_value (take i values)) (spelled_value d)

-- the first so many values have no more bytes than all
taken_within : (values : List Datum) (i : ℕ) → length (flat_map spelled_value (take i values)) ≤ length (flat_map spelled_value values)
taken_within values i =
    let parts = ap (λ (l : List Datum). length (flat_map spelled_value l)) (take-append-drop i values) in
    let split = ap length (flat_map-append spelled_value (take i values) (drop i values)) in
    let joined = length-append (flat_map spelled_value (take i values)) (flat_map spelled_value (drop i values)) in
    omega (arith, parts, split, joined)

-- ---- rows, column by column

-- the number of bytes of the first so many values of each row
abbrev pub front_length : List (List Datum) → ℕ → ℕ
front_length [] k = 0
front_length (row ∷ rows) k = length (flat_map spelled_value (take k row)) + front_length rows k

-- none of the values, one value of each row more, never more than all, and all
pub front_none : (rows : List (List Datum)) → front_length rows 0 ≡ 0
front_none [] = refl
front_none (row ∷ rows) = let others = front_none rows in omega (arith, others)

pub front_more : (rows : List (List Datum)) (schema : List Attribute) (k : ℕ) → All (λ r. IsRowOf r schema) rows → k < length schema
    → front_length rows (k + 1) ≡ front_length rows k + length (flat_map spelled_value (column_of rows k))
front_more [] schema k whole within = refl
front_more (row ∷ rows) schema k whole within =
    let long = row_fits_length row schema (All-head (λ r. IsRowOf r schema) row rows whole) in
    let first = length_more row k (omega (arith, long, within)) in
    let others = front_more rows schema k (All-tail (λ r. IsRowOf r schema) row rows whole) within in
    let joined = length-append (spelled_value (get_or row k (integer (pos 0)))) (flat_map spelled_value (column_of rows k)) in
    omega (arith, first, others, joined)

front_within : (rows : List (List Datum)) (k : ℕ) → front_length rows k ≤ length (flat_map (λ row. flat_map spelled_value row) rows)
front_within [] k = omega arith
front_within (row ∷ rows) k =
    let first = taken_within row k in
    let others = front_within rows k in
    let joined = length-append (flat_map spelled_value row) (flat_map (λ row. flat_map spelled_value row) rows) in
    let whole_is : length (flat_map (λ row. flat_map spelled_value row) (row ∷ rows)) ≡ length (flat_map spelled_value row ++ flat_map (λ row. flat_map spelled_value row) rows) = refl in
    omega (arith, first, others, joined, whole_is)

front_all : (rows : List (List Datum)) (schema : List Attribute) → All (λ r. IsRowOf r schema) rows → front_length rows (length schema) ≡ length (flat_map (λ row. flat_map spelled_value row) rows)
front_all [] schema whole = refl
front_all (row ∷ rows) schema whole =
    let long = row_fits_length row schema (All-head (λ r. IsRowOf r schema) row rows whole) in
    let first = ap (λ (l : List Datum). length (flat_map spelled_value l)) (take_all (length schema) row (omega (arith, long))) in
    let others = front_all rows schema (All-tail (λ r. IsRowOf r schema) row rows whole) in
    let joined = length-append (flat_map spelled_value row) (flat_map (λ row. flat_map spelled_value row) rows) in
    let whole_is : length (flat_map (λ row. flat_map spelled_value row) (row ∷ rows)) ≡ length (flat_map spelled_value row ++ flat_map (λ row. flat_map spelled_value row) rows) = refl in
    omega (arith, first, others, joined, whole_is)

-- the rows have the number of rows before them
rows_long : (rows : List (List Datum)) → length (spelled_rows rows) ≡ 4 + length (flat_map (λ row. flat_map spelled_value row) rows)
rows_long rows =
    let spelled = ap length (spelled_rows_are rows) in
    let joined = length-append (little_bytes 4 (length rows)) (flat_map (λ row. flat_map spelled_value row) rows) in
    omega (arith, spelled, joined)

-- all columns are all rows, and one column more is no more than they
pub rows_counted : (t : StoredTable) → IsTable t → 4 + front_length t.rows (length t.schema) ≡ length (spelled_rows t.rows)
rows_counted t whole = let all = front_all t.rows t.schema whole.rows.whole in let long = rows_long t.rows in omega (arith, all, long)

pub columns_within : (t : StoredTable) (k : ℕ) → IsTable t → k < length t.schema → 4 + front_length t.rows k + length (flat_map spelled_value (column_of t.rows k)) ≤ length (spelled_rows t.rows)
columns_within t k whole within =
    let more = front_more t.rows t.schema k whole.rows.whole within in
    let most = front_within t.rows (k + 1) in
    let long = rows_long t.rows in omega (arith, more, most, long)

-- ---- one column

-- values of so many bytes each
same_lengths : (n : ℕ) (values : List Datum) → All (λ d. length (spelled_value d) ≡ n) values → length (flat_map spelled_value values) ≡ n * length values
same_lengths n [] each = omega arith
same_lengths n (d ∷ values) each =
    let first = All-head (λ d. length (spelled_value d) ≡ n) d values each in
    let others = same_lengths n values (All-tail (λ d. length (spelled_value d) ≡ n) d values each) in
    let joined = length-append (spelled_value d) (flat_map spelled_value values) in
    omega (arith, first, others, joined)

-- a number has four bytes, or eight
integer_long : (d : Datum) (e : Domain) → e ≡ Domain.integer → IsOf d e → length (spelled_value d) ≡ 4
integer_long (integer z) e is of = refl
integer_long (long z) Domain.integer is of = absurd of
integer_long (text content) Domain.integer is of = absurd of
integer_long (bytes content) Domain.integer is of = absurd of
integer_long (relation r) Domain.integer is of = absurd of
integer_long d Domain.long is of = cc
integer_long d Domain.text is of = cc
integer_long d Domain.bytes is of = cc
integer_long d (Domain.relation h) is of = cc

long_long : (d : Datum) (e : Domain) → e ≡ Domain.long → IsOf d e → length (spelled_value d) ≡ 8
long_long (long z) e is of = refl
long_long (integer z) Domain.long is of = absurd of
long_long (text content) Domain.long is of = absurd of
long_long (bytes content) Domain.long is of = absurd of
long_long (relation r) Domain.long is of = absurd of
long_long d Domain.integer is of = cc
long_long d Domain.text is of = cc
long_long d Domain.bytes is of = cc
long_long d (Domain.relation h) is of = cc

-- a column of numbers
pub integers_counted : (t : StoredTable) (k : ℕ) → IsTable t → k < length t.schema → domain_at t.schema k ≡ Domain.integer → 4 * length t.rows ≡ length (flat_map spelled_value (column_of t.rows k))
integers_counted t k whole within is =
    let of = column_fits t.schema k within t.rows whole.rows.whole in
    let long = length-column_of t.rows k in
    let all = same_lengths 4 (column_of t.rows k) (λ i d p. integer_long (get_or (column_of t.rows k) i d) (domain_at t.schema k) is (of i d p)) in
    omega (arith, long, all)

pub longs_counted : (t : StoredTable) (k : ℕ) → IsTable t → k < length t.schema → domain_at t.schema k ≡ Domain.long → 8 * length t.rows ≡ length (flat_map spelled_value (column_of t.rows k))
longs_counted t k whole within is =
    let of = column_fits t.schema k within t.rows whole.rows.whole in
    let long = length-column_of t.rows k in
    let all = same_lengths 8 (column_of t.rows k) (λ i d p. long_long (get_or (column_of t.rows k) i d) (domain_at t.schema k) is (of i d p)) in
    omega (arith, long, all)

-- one value more of a column, which is no more than the whole column, and all of them
cell_at : (rows : List (List Datum)) (k i : ℕ) → i < length rows → get_or (column_of rows k) i (integer (pos 0)) ≡ cell rows i k
cell_at rows k i within = get_or-map (λ values. get_or values k (integer (pos 0))) rows i [] (integer (pos 0)) within

pub column_more : (rows : List (List Datum)) (k i : ℕ) → i < length rows
    → length (flat_map spelled_value (take (i + 1) (column_of rows k))) ≡ length (flat_map spelled_value (take i (column_of rows k))) + length (spelled_value (cell rows i k))
column_more rows k i within =
    let long = length-column_of rows k in
    let more = length_more (column_of rows k) i (omega (arith, long, within)) in
    let same = ap (λ (d : Datum). length (spelled_value d)) (cell_at rows k i within) in
    omega (arith, more, same)

pub column_within : (rows : List (List Datum)) (k i : ℕ) → i < length rows
    → length (flat_map spelled_value (take i (column_of rows k))) + length (spelled_value (cell rows i k)) ≤ length (flat_map spelled_value (column_of rows k))
column_within rows k i within = let more = column_more rows k i within in let most = taken_within (column_of rows k) (i + 1) in omega (arith, more, most)

pub column_all : (rows : List (List Datum)) (k i : ℕ) → length rows ≤ i → length (flat_map spelled_value (take i (column_of rows k))) ≡ length (flat_map spelled_value (column_of rows k))
column_all rows k i past =
    let long = length-column_of rows k in
    ap (λ (l : List Datum). length (flat_map spelled_value l)) (take_all i (column_of rows k) (omega (arith, long, past)))

-- an error is right where the fact does not hold
pub too_long : {T E : Type 0} (result : Result T E) (P : Type 0) (len : T) → IsErr result → ¬ P → OkIff result P len
too_long (Ok x) P len is none = absurd (false≢true is)
too_long (Err e) P len is none = none
