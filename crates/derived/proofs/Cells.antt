-- The cells of tables that are made of others.
use Rattle.std.proofs.Common.{◌≡◌, ℕ, zero, suc, ◌<◌, pos, List, [], ◌∷◌, length, get_or, map, refl, ap, sym, ◌∙◌, arith}
use Rattle.std.proofs.lemmas.List.{length-map, get_or-map}
use Rattle.mk_value.specs.Heading.{Domain, Attribute}
use Rattle.mk_value.specs.Data.{Datum, integer, cell}
use Rattle.mk_value.specs.Tables.{column_numbers, domain_at}
use Rattle.derived.specs.Layers.{Layered}
use Rattle.relations.specs.Columns.{AreColumns, values_at}
use Rattle.derived.proofs.Fills.{same_numbers}

-- of columns
pub cell_columns : (rows : List (List Datum)) (columns : List ℕ) (i j k : ℕ) → i < length rows → j < length columns → k ≡ get_or columns j 0 → cell (map (values_at columns) rows) i j ≡ cell rows i k
cell_columns rows columns i j k p q e =
    ap (λ row. get_or row j (integer (pos 0))) (get_or-map (values_at columns) rows i [] [] p)
    ∙ get_or-map (λ k. get_or (get_or rows i []) k (integer (pos 0))) columns j 0 (integer (pos 0)) q
    ∙ ap (λ k. cell rows i k) (sym e)

pub domain_columns : (schema : List Attribute) (columns : List ℕ) (properties : List Attribute) (j k : ℕ) → AreColumns schema columns properties → j < length columns → k ≡ get_or columns j 0 → domain_at properties j ≡ domain_at schema k
domain_columns schema columns properties j k h q e =
    sym (kinds_at properties j)
    ∙ ap (λ (ds : List Domain). get_or ds j Domain.integer) h.kinds
    ∙ get_or-map (λ k. domain_at schema k) columns j 0 Domain.integer q
    ∙ ap (λ k. domain_at schema k) (sym e)
  where
    kinds_at : (schema : List Attribute) (j : ℕ) → get_or (map (λ (a : Attribute). a.domain) schema) j Domain.integer ≡ domain_at schema j
    kinds_at [] j = refl
    kinds_at (a ∷ schema) zero = refl
    kinds_at (a ∷ schema) (suc j) = kinds_at schema j

pub columns_length : (schema : List Attribute) (columns : List ℕ) (properties : List Attribute) → AreColumns schema columns properties → length columns ≡ length properties
columns_length schema columns properties h =
    sym (length-map columns (λ j. domain_at schema j)) ∙ sym (ap length h.kinds) ∙ length-map properties (λ (a : Attribute). a.domain)

-- Of a table's columns, v is what is seen, and d is the table that is read.
module _ (base v d : Layered) (columns read : List ℕ) (properties : List Attribute) (l row col : ℕ)
    (seen : record { schema = properties; rows = map (values_at columns) base.rows; layers = l } ≡ v) (h : AreColumns base.schema columns properties)
    (row_in : row < length v.rows) (col_in : col < length v.schema) (same : d ≡ base) (as_read : read ≡ columns) where
  row_in_base : row < length base.rows
  row_in_base =
      let e = ap (λ (t : Layered). length t.rows) seen in
      let m = length-map base.rows (values_at columns) in
      omega arith

  col_in_columns : col < length columns
  col_in_columns =
      let e = ap (λ (t : Layered). length t.schema) seen in
      let m = columns_length base.schema columns properties h in
      omega arith

  pub column_at : (row < length d.rows) × (get_or read col 0 < length d.schema)
  column_at =
      let r = ap (λ (t : Layered). length t.rows) same in
      let s = ap (λ (t : Layered). length t.schema) same in
      let i = row_in_base in
      let k = h.in_range col 0 col_in_columns in
      let e = ap (λ js. get_or js col 0) as_read in
      (omega arith, omega arith)

  pub column_cell : cell v.rows row col ≡ cell d.rows row (get_or read col 0)
  column_cell =
      ap (λ (t : Layered). cell t.rows row col) (sym seen) ∙ cell_columns base.rows columns row col (get_or read col 0) row_in_base col_in_columns (ap (λ js. get_or js col 0) as_read)
      ∙ ap (λ (t : Layered). cell t.rows row (get_or read col 0)) (sym same)

  pub column_domain : domain_at v.schema col ≡ domain_at d.schema (get_or read col 0)
  column_domain =
      ap (λ (t : Layered). domain_at t.schema col) (sym seen)
      ∙ domain_columns base.schema columns properties col (get_or read col 0) h col_in_columns (ap (λ js. get_or js col 0) as_read)
      ∙ ap (λ (t : Layered). domain_at t.schema (get_or read col 0)) (sym same)

-- the numbers of a column, read in the table that has it
pub column_fills : (base v d : Layered) (columns read : List ℕ) (properties : List Attribute) (l col : ℕ) → record { schema = properties; rows = map (values_at columns) base.rows; layers = l } ≡ v
    → AreColumns base.schema columns properties → col < length v.schema → d ≡ base → read ≡ columns → column_numbers v.rows col ≡ column_numbers d.rows (get_or read col 0)
column_fills base v d columns read properties l col seen h col_in same as_read =
    let long = ap (λ (t : Layered). length t.rows) seen in
    let all = length-map base.rows (values_at columns) in
    let own = ap (λ (t : Layered). length t.rows) same in
    same_numbers v.rows d.rows col (get_or read col 0) (omega arith) (λ row p. column_cell base v d columns read properties l row col seen h p col_in same as_read)

module _ (base v d : Layered) (columns read : List ℕ) (properties : List Attribute) (l col : ℕ) (seen : record { schema = properties; rows = map (values_at columns) base.rows; layers = l } ≡ v)
    (h : AreColumns base.schema columns properties) (col_in : col < length v.schema) (same : d ≡ base) (as_read : read ≡ columns) where
  within : col < length columns
  within =
      let e = ap (λ (t : Layered). length t.schema) seen in
      let m = columns_length base.schema columns properties h in
      omega arith

  pub column_place : (get_or read col 0 < length d.schema) × (length d.rows ≡ length v.rows)
  column_place =
      let s = ap (λ (t : Layered). length t.schema) same in
      let k = h.in_range col 0 within in
      let e = ap (λ js. get_or js col 0) as_read in
      let r = ap (λ (t : Layered). length t.rows) same in
      let m = length-map base.rows (values_at columns) in
      let long = ap (λ (t : Layered). length t.rows) seen in
      (omega arith, omega arith)

  pub column_kind : domain_at v.schema col ≡ domain_at d.schema (get_or read col 0)
  column_kind =
      ap (λ (t : Layered). domain_at t.schema col) (sym seen)
      ∙ domain_columns base.schema columns properties col (get_or read col 0) h within (ap (λ js. get_or js col 0) as_read)
      ∙ ap (λ (t : Layered). domain_at t.schema (get_or read col 0)) (sym same)
