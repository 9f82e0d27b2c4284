-- Groups: one row for each distinct key, ascending by key.
use Rattle.std.specs.Prelude.{ℕ, pos, false, List, [], ◌∷◌, ◌++◌, length, map, filter}
use Rattle.mk_value.specs.Heading.{Domain, heading_of}
use Rattle.mk_value.specs.Data.{Datum, integer, relation, relation_of}
use Rattle.mk_value.specs.Tables.{Table}
use Rattle.relations.specs.Equality.{same_row}
use Rattle.derived.specs.Operators.{distinct}
use Rattle.relations.specs.Rows.{once, others, properties_of, values_of}
use Rattle.relations.specs.Sorting.{sorted, row_cmp}

-- each distinct row of values for these names, ascending
abbrev pub distinct_keys : List (List ℕ) → Table → List (List Datum)
distinct_keys names t =
    sorted (row_cmp (properties_of t.schema names) (map (λ name. record { prop = name; down = false }) names))
    (distinct (map (values_of t.schema names) t.rows))

-- the rows with this key, in base order
abbrev pub group : List (List ℕ) → Table → List Datum → List (List Datum)
group names t key = filter (λ row. same_row (values_of t.schema names row) key) t.rows

-- for each key the view SUB of the other properties of its rows
abbrev pub group_by : List (List ℕ) → List ℕ → Table → Table
group_by keys sub t =
    let names = once keys in
    let rest = others t.schema names in
    record {
      schema = properties_of t.schema names ++ record { name = sub; domain = Domain.relation (heading_of (properties_of t.schema rest)) } ∷ [];
      rows = map (λ key. key ++ relation (relation_of (map (values_of t.schema rest) (group names t key))) ∷ []) (distinct_keys names t);
    }

-- for each key the number of its rows
abbrev pub counts : List (List ℕ) → List ℕ → Table → Table
counts keys count t =
    let names = once keys in
    record {
      schema = properties_of t.schema names ++ record { name = count; domain = Domain.integer } ∷ [];
      rows = map (λ key. key ++ integer (pos (length (group names t key))) ∷ []) (distinct_keys names t);
    }
