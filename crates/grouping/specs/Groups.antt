-- Each key of an index with what is made of its rows: a form in which the code has counts and groups.
use Rattle.std.specs.Prelude.{ℕ, pos, List, [], ◌∷◌, ◌++◌, length, map, slice_index_or}
use Rattle.mk_value.specs.Data.{Datum, integer, relation, relation_of}
use Rattle.relations.specs.Columns.{values_at}
use Rattle.grouping.specs.Index.{keys_of, positions_of}

-- a key and the number of its rows
abbrev pub counted_key : List (List Datum) → List Datum → List Datum
counted_key keyed key = key ++ integer (pos (length (positions_of keyed key))) ∷ []

abbrev pub counted_keys : List (List Datum) → List (List Datum)
counted_keys keyed = map (counted_key keyed) (keys_of keyed)

-- a key and the view of the values that its rows have in these columns
abbrev pub grouped_key : List ℕ → List (List Datum) → List (List Datum) → List Datum → List Datum
grouped_key columns rows keyed key =
    key ++ relation (relation_of (map (λ i. values_at columns (slice_index_or rows i [])) (positions_of keyed key))) ∷ []

abbrev pub grouped_keys : List ℕ → List (List Datum) → List (List Datum) → List (List Datum)
grouped_keys columns rows keyed = map (grouped_key columns rows keyed) (keys_of keyed)
