-- The plain columns of a table are those of its columns, one after another.
use Rattle.std.proofs.Common.{◌≡◌, ℕ, zero, suc, ◌+◌, ◌<◌, List, [], ◌∷◌, ◌++◌, length, get_or, take, map, All, refl, ap, sym, ◌∙◌, arith, append_assoc, append-nil}
use Rattle.std.specs.List.{AllZip}
use Rattle.std.proofs.lemmas.List.Elements.{All-head, All-tail}
use Rattle.mk_value.specs.Heading.{Domain, Heading, Attribute, attributes_of, heading_of}
use Rattle.mk_value.specs.Data.{Datum}
use Rattle.mk_value.specs.Tables.{domain_at, IsPlainDomain}
use Rattle.mk_value.proofs.Headings.{heading_of-attributes_of}
use Rattle.mk_value.proofs.Relations.{rows_of-relation_of}
use Rattle.int_col.specs.Numbers.{Numbers}
use Rattle.bytes_col.specs.Strings.{Strings}
use Rattle.tables.specs.Homes.{Home, no_home, numbers, strings, tables, column_homes, column_of}
use Rattle.tables.specs.Shapes.{IsHomeOf}
use Rattle.tables.specs.Tables.{StoredTable}
use Rattle.tables.specs.Blocks.{plain_columns, plain_from, plain_in}
use Rattle.tables.specs.Columns.{StoredColumn, integers, texts, views, no_column, home_of, column_values, rows_of_columns, table_of_columns, IsTableOf, IsColumnOf, AreColumnsOf}
use Rattle.tables.proofs.Gathering.{column_of-columns, home_fits}
use Rattle.commit_plan.specs.Plain.{plain_of, plain_stored, plain_tables}

plain_columns_from : (n k : ℕ) (schema : List Attribute) (cols : List StoredColumn) (rows : List (List Datum)) → AllZip (λ a c. IsColumnOf n a.domain c) schema cols
    → ((m : ℕ) → m < length schema → column_of rows (k + m) ≡ column_values (domain_at schema m) (get_or cols m no_column))
    → plain_from (column_homes (map home_of cols)) (heading_of schema) k rows ≡ plain_stored schema cols
plain_columns_from n k [] [] rows h values = refl
plain_columns_from n k [] (c ∷ cols) rows h values = absurd h
plain_columns_from n k (a ∷ schema) [] rows h values = absurd h
plain_columns_from n k (a ∷ schema) (c ∷ cols) rows h values =
    let first : column_of rows k ≡ column_values a.domain c = ap (λ j. column_of rows j) (let e : k ≡ k + 0 = omega arith in e) ∙ values 0 (omega arith) in
    ap (λ vs. plain_in (home_of c) a.domain vs ++ plain_from (column_homes (map home_of cols)) (heading_of schema) (k + 1) rows) first
    ∙ ap (λ cs. plain_of a.domain c ++ cs) (plain_columns_from n (k + 1) schema cols rows h.1
    (λ m p. ap (λ j. column_of rows j) (let e : (k + 1) + m ≡ k + suc m = omega arith in e) ∙ values (suc m) (omega arith)))

-- of a table that columns are
pub plain_columns_of : (n : ℕ) (schema : List Attribute) (cols : List StoredColumn) → AreColumnsOf n schema cols → plain_columns (table_of_columns n schema cols) ≡ plain_stored schema cols
plain_columns_of n schema cols h =
    plain_columns_from n 0 schema cols (rows_of_columns n schema cols) h.each
    (λ m p. ap (λ j. column_of (rows_of_columns n schema cols) j) (let e : 0 + m ≡ m = omega arith in e) ∙ column_of-columns n m schema cols no_column h.each p)

-- of the tables in the rows of a view column
pub plain_views_of : (h : Heading) (ts : List StoredTable) → All (IsTableOf (attributes_of h)) ts → plain_of (Domain.relation h) (views ts) ≡ plain_tables ts
plain_views_of h [] whole = refl
plain_views_of h (t ∷ ts) whole =
    let first = All-head (IsTableOf (attributes_of h)) t ts whole in
    let heading : h ≡ heading_of t.schema = sym (ap heading_of first.same_schema ∙ heading_of-attributes_of h) in
    ap (λ rows. plain_from (column_homes t.homes) h 0 rows ++ plain_of (Domain.relation h) (views ts)) (rows_of-relation_of t.rows)
    ∙ ap (λ g. plain_from (column_homes t.homes) g 0 t.rows ++ plain_of (Domain.relation h) (views ts)) heading
    ∙ ap (λ cs. plain_columns t ++ cs) (plain_views_of h ts (All-tail (IsTableOf (attributes_of h)) t ts whole))

-- a column of a plain domain
pub plain_in_one : (h : Home) (e : Domain) (values : List Datum) → IsHomeOf h e values → IsPlainDomain e → plain_in h e values ≡ record { domain = e; values = values; home = h } ∷ []
plain_in_one h (Domain.relation g) values s kind = absurd kind
plain_in_one (tables rows) Domain.integer values s kind = absurd s
plain_in_one (tables rows) Domain.long values s kind = absurd s
plain_in_one (tables rows) Domain.text values s kind = absurd s
plain_in_one (tables rows) Domain.bytes values s kind = absurd s
plain_in_one no_home Domain.integer values s kind = refl
plain_in_one no_home Domain.long values s kind = refl
plain_in_one no_home Domain.text values s kind = refl
plain_in_one no_home Domain.bytes values s kind = refl
plain_in_one (numbers block) Domain.integer values s kind = refl
plain_in_one (numbers block) Domain.long values s kind = refl
plain_in_one (numbers block) Domain.text values s kind = refl
plain_in_one (numbers block) Domain.bytes values s kind = refl
plain_in_one (strings a b c) Domain.integer values s kind = refl
plain_in_one (strings a b c) Domain.long values s kind = refl
plain_in_one (strings a b c) Domain.text values s kind = refl
plain_in_one (strings a b c) Domain.bytes values s kind = refl

pub plain_one : (n : ℕ) (e : Domain) (c : StoredColumn) → IsColumnOf n e c → IsPlainDomain e → plain_of e c ≡ record { domain = e; values = column_values e c; home = home_of c } ∷ []
plain_one n e c h kind = plain_in_one (home_of c) e (column_values e c) (home_fits n e c h) kind

-- numbers, texts and byte strings are of plain domains
pub numbers_kind : (n : ℕ) (e : Domain) (c : Numbers) → IsColumnOf n e (integers c) → IsPlainDomain e
numbers_kind n Domain.integer c h = tt
numbers_kind n Domain.long c h = tt
numbers_kind n Domain.text c h = absurd h
numbers_kind n Domain.bytes c h = absurd h
numbers_kind n (Domain.relation g) c h = absurd h

pub strings_kind : (n : ℕ) (e : Domain) (c : Strings) → IsColumnOf n e (texts c) → IsPlainDomain e
strings_kind n Domain.integer c h = absurd h
strings_kind n Domain.long c h = absurd h
strings_kind n Domain.text c h = tt
strings_kind n Domain.bytes c h = tt
strings_kind n (Domain.relation g) c h = absurd h

-- one column more
pub plain_more : (k n : ℕ) (schema : List Attribute) (cols : List StoredColumn) → AllZip (λ a c. IsColumnOf n a.domain c) schema cols → k < length schema
    → plain_stored (take (k + 1) schema) (take (k + 1) cols) ≡ plain_stored (take k schema) (take k cols) ++ plain_of (domain_at schema k) (get_or cols k no_column)
plain_more k n [] cols h p = absurd (omega arith)
plain_more k n (a ∷ schema) [] h p = absurd h
plain_more zero n (a ∷ schema) (c ∷ cols) h p = append-nil (plain_of a.domain c)
plain_more (suc k) n (a ∷ schema) (c ∷ cols) h p =
    ap (λ j. plain_stored (take j (a ∷ schema)) (take j (c ∷ cols))) (let e : suc k + 1 ≡ suc (k + 1) = omega arith in e)
    ∙ ap (λ cs. plain_of a.domain c ++ cs) (plain_more k n schema cols h.1 (omega arith))
    ∙ sym (append_assoc (plain_of a.domain c) (plain_stored (take k schema) (take k cols)) (plain_of (domain_at schema k) (get_or cols k no_column)))
