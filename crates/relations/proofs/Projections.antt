-- The columns of named properties, and what they show.
use Rattle.std.proofs.Common.{◌≡◌, ℕ, ◌+◌, ◌<◌, Bool, true, false, not, cond, ◌||◌, List, [], ◌∷◌, ◌++◌, length, get_or, map, take, All, Some, None, refl, ap, sym, subst, ◌∙◌}
use Rattle.std.specs.List.{filter, list_any}
use Rattle.std.proofs.lemmas.List.{map-append, take_more, append-nil}
use Rattle.std.proofs.lemmas.List.Elements.{All-head, All-tail, All-map, All-weaker, filter-append}
use Rattle.mk_value.specs.Names.{same_bytes}
use Rattle.mk_value.specs.Heading.{Domain, Attribute, names_of, HaveDistinctNames, IsHeading}
use Rattle.mk_value.specs.Data.{Datum}
use Rattle.mk_value.specs.Tables.{Table, domain_at}
use Rattle.relations.specs.Columns.{column_of, properties_at, values_at, AreColumns}
use Rattle.relations.specs.Rows.{only}
use Rattle.relations.specs.Rows.{has, is_among, once, others, properties_of, values_of}
use Rattle.relations.specs.Refusals.{absent, none_left}
use Rattle.relations.specs.declared.error.DerivedError.TheVariants.{NoProp}
use Rattle.relations.proofs.Headings.{column_here, heading_of_names, once_all, once_distinct, once_some}
use Rattle.relations.proofs.Names.{all_present, column_in, value_at_column, property_at_column}

pub columns_in : (schema : List Attribute) (names : List (List ℕ)) → All (λ name. has schema name ≡ true) names → All (λ j. j < length schema) (map (column_of schema) names)
columns_in schema names all = All-map (λ j. j < length schema) (column_of schema) names (All-weaker (λ name. has schema name ≡ true) (λ name. column_of schema name < length schema) (λ name h. column_in schema name h) names all)

pub properties_here : (schema : List Attribute) (names : List (List ℕ)) → All (λ name. has schema name ≡ true) names → properties_at schema (map (column_of schema) names) ≡ properties_of schema names
properties_here schema [] all = refl
properties_here schema (name ∷ names) all =
    let first = property_at_column schema name (record { name = []; domain = Domain.integer }) (All-head (λ name. has schema name ≡ true) name names all) in
    let rest = properties_here schema names (All-tail (λ name. has schema name ≡ true) name names all) in
    cc

values_here : (schema : List Attribute) (names : List (List ℕ)) (row : List Datum) → All (λ name. has schema name ≡ true) names → values_at (map (column_of schema) names) row ≡ values_of schema names row
values_here schema [] row all = refl
values_here schema (name ∷ names) row all =
    let first = value_at_column schema row name (All-head (λ name. has schema name ≡ true) name names all) in
    let rest = values_here schema names row (All-tail (λ name. has schema name ≡ true) name names all) in
    cc

rows_here : (schema : List Attribute) (names : List (List ℕ)) (rows : List (List Datum)) → All (λ name. has schema name ≡ true) names → map (values_at (map (column_of schema) names)) rows ≡ map (values_of schema names) rows
rows_here schema names [] all = refl
rows_here schema names (row ∷ rows) all =
    let first = values_here schema names row all in
    let rest = rows_here schema names rows all in
    cc

-- the columns of these names are the table with these properties alone
pub only_here : (schema properties : List Attribute) (rows : List (List Datum)) (names : List (List ℕ)) (columns : List ℕ) → All (λ name. has schema name ≡ true) names → columns ≡ map (column_of schema) names
    → properties ≡ properties_at schema columns → (t : Table) → t ≡ record { schema = properties; rows = map (values_at columns) rows } → t ≡ only names (record { schema = schema; rows = rows })
only_here schema properties rows names columns all e f t g =
    let s : properties ≡ properties_of schema names = f ∙ ap (properties_at schema) e ∙ properties_here schema names all in
    let r : map (values_at columns) rows ≡ map (values_of schema names) rows = ap (λ cs. map (values_at cs) rows) e ∙ rows_here schema names rows all in
    g ∙ ap (λ (x : List Attribute). record { schema = x; rows = map (values_at columns) rows }) s ∙ ap (λ (x : List (List Datum)). record { schema = properties_of schema names; rows = x }) r

kinds_here : (schema : List Attribute) (columns : List ℕ) → map (λ (a : Attribute). a.domain) (properties_at schema columns) ≡ map (λ j. domain_at schema j) columns
kinds_here schema [] = refl
kinds_here schema (j ∷ columns) = ap (λ (ds : List Domain). domain_at schema j ∷ ds) (kinds_here schema columns)

pub are_columns : (schema properties : List Attribute) (columns : List ℕ) → All (λ j. j < length schema) columns → properties ≡ properties_at schema columns → AreColumns schema columns properties
are_columns schema properties columns within e = record { in_range = within; kinds = ap (λ (ps : List Attribute). map (λ (a : Attribute). a.domain) ps) e ∙ kinds_here schema columns }

-- one name further
once_step : (p : List ℕ → Bool) (first name : List ℕ) (names : List (List ℕ)) (a s : Bool) → p name ≡ not s
    → first ∷ filter p (names ++ cond a [] (name ∷ [])) ≡ (first ∷ filter p names) ++ cond (s || a) [] (name ∷ [])
once_step p first name names true true h = ap (λ ns. first ∷ filter p ns) (append-nil names) ∙ sym (append-nil (first ∷ filter p names))
once_step p first name names true false h = ap (λ ns. first ∷ filter p ns) (append-nil names) ∙ sym (append-nil (first ∷ filter p names))
once_step p first name names false true h = ap (λ ns. first ∷ ns) (filter-append p names (name ∷ [])) ∙ ap (λ b. first ∷ (filter p names ++ cond b (name ∷ []) [])) h
once_step p first name names false false h = ap (λ ns. first ∷ ns) (filter-append p names (name ∷ [])) ∙ ap (λ b. first ∷ (filter p names ++ cond b (name ∷ []) [])) h

pub once_more : (names : List (List ℕ)) (name : List ℕ) → once (names ++ name ∷ []) ≡ once names ++ cond (is_among names name) [] (name ∷ [])
once_more [] name = refl
once_more (first ∷ names) name =
    ap (λ ns. first ∷ filter (λ other. not (same_bytes first other)) ns) (once_more names name)
    ∙ once_step (λ other. not (same_bytes first other)) first name (once names) (is_among names name) (same_bytes first name) refl

module _ (schema : List Attribute) (names : List (List ℕ)) (i : ℕ) (name : List ℕ) (columns : List ℕ) (p : i < length names) (read : name ≡ get_or names i name)
    (so_far : columns ≡ map (column_of schema) (once (take i names))) where
  taken : once (take (i + 1) names) ≡ once (take i names) ++ cond (is_among (take i names) name) [] (name ∷ [])
  taken = ap once (take_more names i name p ∙ ap (λ n. take i names ++ n ∷ []) (sym read)) ∙ once_more (take i names) name

  pub named_again : is_among (take i names) name ≡ true → columns ≡ map (column_of schema) (once (take (i + 1) names))
  named_again h = so_far ∙ ap (map (column_of schema)) (sym (taken ∙ ap (λ b. once (take i names) ++ cond b [] (name ∷ [])) h ∙ append-nil (once (take i names))))

  pub named_more : is_among (take i names) name ≡ false → columns ++ column_of schema name ∷ [] ≡ map (column_of schema) (once (take (i + 1) names))
  named_more h =
      ap (λ cs. cs ++ column_of schema name ∷ []) so_far ∙ sym (map-append (column_of schema) (once (take i names)) (name ∷ []))
      ∙ ap (map (column_of schema)) (sym (taken ∙ ap (λ b. once (take i names) ++ cond b [] (name ∷ [])) h))

module _ (schema : List Attribute) (names : List (List ℕ)) (i : ℕ) (x : Attribute) (columns : List ℕ) (distinct : HaveDistinctNames schema) (p : i < length schema) (read : x ≡ get_or schema i x)
    (so_far : columns ≡ map (column_of schema) (others (take i schema) names)) where
  left : others (take (i + 1) schema) names ≡ others (take i schema) names ++ cond (not (is_among names x.name)) (x.name ∷ []) []
  left =
      ap (λ s. others s names) (take_more schema i x p ∙ ap (λ a. take i schema ++ a ∷ []) (sym read))
      ∙ ap (filter (λ name. not (is_among names name))) (map-append (λ (a : Attribute). a.name) (take i schema) (x ∷ []))
      ∙ filter-append (λ name. not (is_among names name)) (names_of (take i schema)) (x.name ∷ [])

  pub dropped : is_among names x.name ≡ true → columns ≡ map (column_of schema) (others (take (i + 1) schema) names)
  dropped h = so_far ∙ ap (map (column_of schema)) (sym (left ∙ ap (λ b. others (take i schema) names ++ cond (not b) (x.name ∷ []) []) h ∙ append-nil (others (take i schema) names)))

  pub kept : is_among names x.name ≡ false → columns ++ i ∷ [] ≡ map (column_of schema) (others (take (i + 1) schema) names)
  kept h =
      let here : column_of schema x.name ≡ i = ap (λ (a : Attribute). column_of schema a.name) read ∙ column_here schema i x distinct p in
      ap (λ cs. cs ++ i ∷ []) so_far ∙ ap (λ k. map (column_of schema) (others (take i schema) names) ++ k ∷ []) (sym here)
      ∙ sym (map-append (column_of schema) (others (take i schema) names) (x.name ∷ []))
      ∙ ap (map (column_of schema)) (sym (left ∙ ap (λ b. others (take i schema) names ++ cond (not b) (x.name ∷ []) []) h))

-- what the columns of named properties are
pub named_whole : (schema s : List Attribute) (names : List (List ℕ)) (columns : List ℕ) → s ≡ schema → IsHeading schema → absent schema names ≡ None → 0 < length names → columns ≡ map (column_of schema) (once names)
    → IsHeading (properties_at s columns) × All (λ j. j < length s) columns
named_whole schema s names columns same whole h some e =
    let here = once_all (λ name. has schema name ≡ true) names (all_present schema names h) in
    let P : List Attribute → Type 0 = λ x. IsHeading (properties_at x columns) × All (λ j. j < length x) columns in
    subst P (sym same) (
      subst IsHeading (sym (ap (properties_at schema) e ∙ properties_here schema (once names) here)) (heading_of_names schema (once names) whole here (once_distinct names) (once_some names some)),
      subst (All (λ j. j < length schema)) (sym e) (columns_in schema (once names) here),
    )

-- whether a property is left
none_left_by : (a : Attribute) (schema : List Attribute) (names given : List (List ℕ)) (b : Bool)
    → none_left (others schema names) given ≡ cond (list_any (λ (a : Attribute). not (is_among names a.name)) schema) None (Some (NoProp (get_or given 0 [])))
    → none_left (cond (not b) (a.name ∷ others schema names) (others schema names)) given ≡ cond (not b || list_any (λ (a : Attribute). not (is_among names a.name)) schema) None (Some (NoProp (get_or given 0 [])))
none_left_by a schema names given true rest = rest
none_left_by a schema names given false rest = refl

pub none_left_is : (schema : List Attribute) (names given : List (List ℕ)) → none_left (others schema names) given ≡ cond (list_any (λ (a : Attribute). not (is_among names a.name)) schema) None (Some (NoProp (get_or given 0 [])))
none_left_is [] names given = refl
none_left_is (a ∷ schema) names given = none_left_by a schema names given (is_among names a.name) (none_left_is schema names given)
