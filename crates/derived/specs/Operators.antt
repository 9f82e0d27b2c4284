-- The operators on one table, and those that put the rows of two under one another: of each the schema and the rows.
use Rattle.std.specs.Prelude.{ℕ, suc, zero, ◌-◌, ℤ, pos, negsuc, unsigned_abs, Bool, true, false, not, if◌then◌else◌, List, [], ◌∷◌, ◌++◌, map, take, filter, reverse}
use Rattle.mk_value.specs.Heading.{Attribute}
use Rattle.mk_value.specs.Data.{Datum}
use Rattle.mk_value.specs.Tables.{Table}
use Rattle.relations.specs.declared.criteria.Key.{Key}
use Rattle.relations.specs.Criteria.{Interval, is_in_range, has_values}
use Rattle.relations.specs.Equality.{same_row, is_row_among}
use Rattle.relations.specs.Rows.{is_named, once, only, others}
use Rattle.relations.specs.Sorting.{sorted, row_cmp, keys_or_all}

-- other rows under the schema
abbrev pub with_rows : Table → List (List Datum) → Table
with_rows t rows = record { schema = t.schema; rows = rows }

-- the rows with these values, in base order
abbrev pub select : List Interval → Table → Table
select criteria t = with_rows t (filter (has_values t.schema criteria) t.rows)

-- the rows with each value at or between its bounds, in base order
abbrev pub range : List Interval → Table → Table
range bounds t = with_rows t (filter (is_in_range t.schema bounds) t.rows)

-- the rows ordered by the keys, ties in base order; without keys by all properties that are no views, upwards
abbrev pub sort : List Key → Table → Table
sort keys t = with_rows t (sorted (row_cmp t.schema (keys_or_all t.schema keys)) t.rows)

-- the first rows, so many
abbrev pub first_rows : ℕ → Table → Table
first_rows count t = with_rows t (take count t.rows)

-- the named properties in this order, a repeated name once
abbrev pub project : List (List ℕ) → Table → Table
project names t = only (once names) t

-- all other properties
abbrev pub without : List (List ℕ) → Table → Table
without names t = only (others t.schema names) t

-- a property, with another name where it has the old one
abbrev pub renamed : List ℕ → List ℕ → Attribute → Attribute
renamed from to a = if is_named from a then record { name = to; domain = a.domain } else a

-- the same rows, with a property under another name
abbrev pub rename : List ℕ → List ℕ → Table → Table
rename from to t = record { schema = map (renamed from to) t.schema; rows = t.rows }

-- each s-th element behind the first n: element n, element n + s and so on, for s above 0
abbrev pub every : {X : Type 0} → ℕ → ℕ → List X → List X
every s n [] = []
every s zero (x ∷ xs) = x ∷ every s (s - 1) xs
every s (suc n) (x ∷ xs) = every s n xs

-- the step goes backwards
abbrev pub is_backwards : ℤ → Bool
is_backwards (pos n) = false
is_backwards (negsuc n) = true

abbrev pub turned_if : {X : Type 0} → Bool → List X → List X
turned_if backwards xs = if backwards then reverse xs else xs

-- with s the step without its sign: rows first, first + s and so on below the limit; reversed where the step is negative
abbrev pub slice : ℕ → ℕ → ℤ → Table → Table
slice first limit step t = with_rows t (turned_if (is_backwards step) (every (unsigned_abs step) first (take limit t.rows)))

-- the first's rows, then the second's
abbrev pub concat : Table → Table → Table
concat a b = with_rows a (a.rows ++ b.rows)

-- the first of equal rows, in base order
abbrev pub distinct : List (List Datum) → List (List Datum)
distinct [] = []
distinct (row ∷ rest) = row ∷ filter (λ other. not (same_row row other)) (distinct rest)

abbrev pub unique : Table → Table
unique t = with_rows t (distinct t.rows)

abbrev pub union : Table → Table → Table
union a b = unique (concat a b)

-- the first's rows that the second has, and those that it has not
abbrev pub intersect : Table → Table → Table
intersect a b = with_rows a (filter (is_row_among b.rows) a.rows)

abbrev pub minus : Table → Table → Table
minus a b = with_rows a (filter (λ row. not (is_row_among b.rows row)) a.rows)

-- what the first has alone, then what the second has alone
abbrev pub different : Table → Table → Table
different a b = concat (minus a b) (minus b a)
