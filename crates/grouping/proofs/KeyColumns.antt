-- The columns of named properties: the schema that they make, and the values that rows have in them.
use Rattle.std.proofs.Common.{◌≡◌, ℕ, ◌<◌, true, false, List, [], length, get_or, map, All, None, refl, ap, sym, subst, ◌∙◌}
use Rattle.std.proofs.lemmas.List.Elements.{All-map, recursion_from_All}
use Rattle.mk_value.specs.Heading.{Attribute}
use Rattle.mk_value.specs.Data.{Datum, AreRowsOf, IsRowOf}
use Rattle.mk_value.specs.Tables.{Table}
use Rattle.relations.specs.declared.error.DerivedError.TheVariants.{KeyIsView}
use Rattle.relations.specs.Fitting.{is_view}
use Rattle.derived.specs.Grouping.{distinct_keys}
use Rattle.relations.specs.Columns.{column_of, properties_at, values_at}
use Rattle.relations.specs.Keys.{IsPlainColumn}
use Rattle.relations.specs.Refusals.{absent, a_view}
use Rattle.relations.specs.Rows.{has, domain_of, once, properties_of, values_of}
use Rattle.relations.proofs.Faults.{none_refused}
use Rattle.relations.proofs.Headings.{once_all, once_distinct}
use Rattle.relations.proofs.Asking.{domain_here}
use Rattle.relations.proofs.Names.{all_present, column_in}
use Rattle.relations.proofs.Projections.{columns_in, properties_here, only_here, are_columns}
use Rattle.relations.proofs.Wholes.{columns_fit}
use Rattle.grouping.specs.Index.{keys_of}
use Rattle.grouping.proofs.Agreeing.{distinct_keys_are}
use Rattle.relations.proofs.Ascending.{IsIn, place_of}

-- the keys are there, each once
pub keys_here : (schema : List Attribute) (keys : List (List ℕ)) → absent schema keys ≡ None → All (λ name. has schema name ≡ true) (once keys)
keys_here schema keys h = once_all (λ name. has schema name ≡ true) keys (all_present schema keys h)

-- and none of them is a view
pub keys_plain : (schema : List Attribute) (keys : List (List ℕ)) → a_view schema keys ≡ None → All (λ n. is_view (domain_of schema n) ≡ false) (once keys)
keys_plain schema keys h = once_all (λ n. is_view (domain_of schema n) ≡ false) keys (none_refused KeyIsView (λ n. is_view (domain_of schema n)) keys h)

module _ (schema : List Attribute) (names : List (List ℕ)) (here : All (λ name. has schema name ≡ true) names) (columns : List ℕ) (e : columns ≡ map (column_of schema) names) where
  pub in_range : All (λ j. j < length schema) columns
  in_range = subst (All (λ j. j < length schema)) (sym e) (columns_in schema names here)

  pub plain_here : All (λ name. is_view (domain_of schema name) ≡ false) names → All (IsPlainColumn schema) columns
  plain_here plain =
      subst (All (IsPlainColumn schema)) (sym e)
      (All-map (IsPlainColumn schema) (column_of schema) names (λ k d p. record {
        in_range = column_in schema (get_or names k d) (here k d p);
        plain = ap is_view (domain_here schema (get_or names k d) (here k d p)) ∙ plain k d p;
      }))

  pub properties_are : properties_at schema columns ≡ properties_of schema names
  properties_are = ap (properties_at schema) e ∙ properties_here schema names here

  pub rows_are : (rows : List (List Datum)) → map (values_at columns) rows ≡ map (values_of schema names) rows
  rows_are rows =
      ap (λ (t : Table). t.rows)
      (only_here schema (properties_at schema columns) rows names columns here e refl (record { schema = properties_at schema columns; rows = map (values_at columns) rows }) refl)

  pub columns_whole : (rows : List (List Datum)) → AreRowsOf rows schema → AreRowsOf (map (values_at columns) rows) (properties_of schema names)
  columns_whole rows whole =
      subst (AreRowsOf (map (values_at columns) rows)) properties_are
      (columns_fit rows schema columns (properties_at schema columns) whole (are_columns schema (properties_at schema columns) columns in_range refl))

-- the keys of the rows of a whole table are whole
pub keyed_whole : (schema : List Attribute) (names : List (List ℕ)) (rows : List (List Datum)) → All (λ name. has schema name ≡ true) names → AreRowsOf rows schema
    → AreRowsOf (map (values_of schema names) rows) (properties_of schema names)
keyed_whole schema names rows here whole =
    let columns = map (column_of schema) names in
    subst (λ zs. AreRowsOf zs (properties_of schema names)) (rows_are schema names here columns refl rows) (columns_whole schema names here columns refl rows whole)

each_whole : (rows : List (List Datum)) (schema : List Attribute) → AreRowsOf rows schema → (row : List Datum) → IsIn row rows → IsRowOf row schema
each_whole rows schema whole row h = let r = place_of rows row h in subst (λ row. IsRowOf row schema) (r.2 []) (whole.whole r.0 [] r.1)

-- the distinct keys of a whole table are those of the index of its keys
pub index_keys : (t : Table) (keys : List (List ℕ)) → AreRowsOf t.rows t.schema → a_view t.schema keys ≡ None
    → distinct_keys (once keys) t ≡ keys_of (map (values_of t.schema (once keys)) t.rows)
index_keys t keys whole h =
    distinct_keys_are (once keys) t (once_distinct keys) (recursion_from_All (λ n. is_view (domain_of t.schema n) ≡ false) (once keys) (keys_plain t.schema keys h)) (each_whole t.rows t.schema whole)
