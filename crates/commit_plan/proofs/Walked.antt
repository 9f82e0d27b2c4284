-- A walk over tables, column by column: what each plain column does to what the walk carries, all of them do.
use Rattle.std.proofs.Common.{◌≡◌, ℕ, ◌+◌, ◌<◌, ◌≤◌, List, [], ◌∷◌, ◌++◌, length, get_or, take, map, ap, sym, subst, ◌∙◌, arith, append-nil}
use Rattle.std.specs.Prelude.{Some}
use Rattle.std.specs.List.{slice_get}
use Rattle.std.proofs.lemmas.Grind.{flat_map-append}
use Rattle.std.proofs.lemmas.List.{get_or-map, length-map, take_all, take_more}
use Rattle.std.proofs.lemmas.Option.{get_or_from_slice_get, slice_get_within}
use Rattle.mk_value.specs.Heading.{Domain, Attribute}
use Rattle.mk_value.specs.Tables.{domain_at}
use Rattle.tables.specs.Homes.{PlainColumn}
use Rattle.tables.specs.Tables.{StoredTable}
use Rattle.tables.specs.Columns.{StoredColumn, views, no_column, column_values, table_of_columns, IsColumnOf, AreColumnsOf}
use Rattle.tables.specs.Cells.{IsWholeColumn}
use Rattle.tables.specs.Blocks.{plain_columns}
use Rattle.tables.specs.Stored.{stored_of}
use Rattle.tables.specs.declared.cols.Col.{Col}
use Rattle.tables.proofs.Gathering.{column_at, length-column_values, length-columns}
use Rattle.commit_plan.specs.Plain.{plain_of, plain_stored, plain_tables}
use Rattle.commit_plan.proofs.Plain.{plain_columns_of, plain_more, plain_views_of}

-- G says what columns do, from one state of the walk to another, one after another
module _ {X : Type 0} (G : List PlainColumn → X → X → Type 0) (joins : (xs ys : List PlainColumn) (old mid new : X) → G xs old mid → G ys mid new → G (xs ++ ys) old new) where
  -- the tables of a view column
  walked_tables : (n : ℕ) (e : Domain) (ts : List StoredTable) (old new : X) → IsColumnOf n e (views ts) → G (plain_tables ts) old new → G (plain_of e (views ts)) old new
  walked_tables n Domain.integer ts old new h g = absurd h
  walked_tables n Domain.long ts old new h g = absurd h
  walked_tables n Domain.text ts old new h g = absurd h
  walked_tables n Domain.bytes ts old new h g = absurd h
  walked_tables n (Domain.relation x) ts old new h g = subst (λ cs. G cs old new) (sym (plain_views_of x ts h.whole)) g

  pub walked_views : (e : Domain) (c : StoredColumn) (ts : List StoredTable) (old new : X) → c ≡ views ts → G (plain_tables ts) old new → IsWholeColumn e c → G (plain_of e c) old new
  walked_views e c ts old new is g whole =
      subst (λ x. G (plain_of e x) old new) (sym is) (walked_tables (length (column_values e c)) e ts old new (subst (λ x. IsColumnOf (length (column_values e c)) e x) is whole) g)

  -- One column more of a table.
  pub walked_column : (n k : ℕ) (schema : List Attribute) (cols : List StoredColumn) (items : List Col) (item : Col) (old mid new : X) → AreColumnsOf n schema cols → map stored_of items ≡ cols → item ≡ get_or items k item → k < length items
      → G (plain_stored (take k schema) (take k (map stored_of items))) old mid → ((e : Domain) → IsWholeColumn e (stored_of item) → G (plain_of e (stored_of item)) mid new)
      → G (plain_stored (take (k + 1) schema) (take (k + 1) (map stored_of items))) old new
  walked_column n k schema cols items item old mid new h same is p done one =
      let each = subst (λ cs. AreColumnsOf n schema cs) (sym same) h in
      let long = length-map items stored_of in
      let paired = length-columns n schema (map stored_of items) each.each in
      let within : k < length schema = omega (arith, p, long, paired) in
      let here : get_or (map stored_of items) k no_column ≡ stored_of item = get_or-map stored_of items k item no_column p ∙ ap stored_of (sym is) in
      let whole : IsColumnOf n (domain_at schema k) (stored_of item) = subst (λ c. IsColumnOf n (domain_at schema k) c) here (column_at n k schema (map stored_of items) no_column each.each within) in
      let is_whole : IsWholeColumn (domain_at schema k) (stored_of item) = subst (λ m. IsColumnOf m (domain_at schema k) (stored_of item)) (sym (length-column_values n (domain_at schema k) (stored_of item) whole)) whole in
      subst (λ cs. G cs old new) (sym (plain_more k n schema (map stored_of items) each.each within ∙ ap (λ c. plain_stored (take k schema) (take k (map stored_of items)) ++ plain_of (domain_at schema k) c) here))
      (joins (plain_stored (take k schema) (take k (map stored_of items))) (plain_of (domain_at schema k) (stored_of item)) old mid new done (one (domain_at schema k) is_whole))

  -- All columns of a table.
  pub walked_all : (n k : ℕ) (schema : List Attribute) (cols : List StoredColumn) (items : List Col) (t : StoredTable) (old new : X) → t ≡ table_of_columns n schema cols → AreColumnsOf n schema cols → map stored_of items ≡ cols → length items ≤ k
      → G (plain_stored (take k schema) (take k (map stored_of items))) old new → G (plain_columns t) old new
  walked_all n k schema cols items t old new view h same p done =
      let each = subst (λ cs. AreColumnsOf n schema cs) (sym same) h in
      let long = length-map items stored_of in
      let paired = length-columns n schema (map stored_of items) each.each in
      let all : plain_stored (take k schema) (take k (map stored_of items)) ≡ plain_stored schema cols =
      ap (λ s. plain_stored s (take k (map stored_of items))) (take_all k schema (omega (arith, p, long, paired)))
      ∙ ap (λ cs. plain_stored schema cs) (take_all k (map stored_of items) (omega (arith, p, long)) ∙ same) in
      subst (λ cs. G cs old new) (all ∙ sym (ap plain_columns view ∙ plain_columns_of n schema cols h)) done

  -- One table more of a view column.
  pub walked_row : (k : ℕ) (ts : List StoredTable) (t u : StoredTable) (old mid new : X) → slice_get ts k ≡ Some t → u ≡ t → G (plain_tables (take k ts)) old mid → G (plain_columns u) mid new → G (plain_tables (take (k + 1) ts)) old new
  walked_row k ts t u old mid new at is done one =
      let more : take (k + 1) ts ≡ take k ts ++ t ∷ [] = take_more ts k t (slice_get_within ts k t at) ∙ ap (λ x. take k ts ++ x ∷ []) (get_or_from_slice_get ts k t t at) in
      subst (λ cs. G cs old new) (sym (ap plain_tables more ∙ flat_map-append plain_columns (take k ts) (t ∷ []) ∙ ap (λ cs. plain_tables (take k ts) ++ cs) (append-nil (plain_columns t))))
      (joins (plain_tables (take k ts)) (plain_columns t) old mid new done (subst (λ x. G (plain_columns x) mid new) is one))

  -- One table more of some tables.
  pub walked_next : (tables : List StoredTable) (k : ℕ) (t u : StoredTable) (old mid new : X) → k < length tables → t ≡ get_or tables k t → u ≡ t → G (plain_tables (take k tables)) old mid → G (plain_columns u) mid new → G (plain_tables (take (k + 1) tables)) old new
  walked_next tables k t u old mid new p at is done one =
      let more : take (k + 1) tables ≡ take k tables ++ t ∷ [] = take_more tables k t p ∙ ap (λ x. take k tables ++ x ∷ []) (sym at) in
      subst (λ cs. G cs old new) (sym (ap plain_tables more ∙ flat_map-append plain_columns (take k tables) (t ∷ []) ∙ ap (λ cs. plain_tables (take k tables) ++ cs) (append-nil (plain_columns t))))
      (joins (plain_tables (take k tables)) (plain_columns t) old mid new done (subst (λ x. G (plain_columns x) mid new) is one))
