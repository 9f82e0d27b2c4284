-- The blocks that a column of a table is due, by what is kept in it.
use Rattle.std.proofs.Common.{◌≡◌, ℕ, ◌+◌, ℤ, List, [], ◌∷◌, ◌++◌, length, map, cond, refl, ap, ◌∙◌, append-nil}
use Rattle.std.specs.List.{AllZip}
use Rattle.std.proofs.lemmas.List.{length-append}
use Rattle.std.proofs.lemmas.Grind.{flat_map-append}
use Rattle.mk_value.specs.Heading.{Domain, Attribute}
use Rattle.mk_value.specs.Data.{Datum}
use Rattle.mk_value.specs.Tables.{number_in}
use Rattle.bit_pack.specs.Packed.{packed}
use Rattle.bytes_col.specs.Strings.{string_blocks}
use Rattle.tables.specs.Homes.{PlainColumn}
use Rattle.tables.specs.Shapes.{bytes_in}
use Rattle.tables.specs.Tables.{StoredTable}
use Rattle.tables.specs.Columns.{StoredColumn, integers, texts, views, home_of, column_values, table_of_columns, IsColumnOf, AreColumnsOf}
use Rattle.tables.specs.Blocks.{blocks_of_values, has_home, plain_columns}
use Rattle.commit_plan.specs.Following.{blocks_due, due_of}
use Rattle.commit_plan.specs.Plain.{plain_of, plain_stored, plain_tables}
use Rattle.commit_plan.specs.Settling.{column_count, column_due, counted, stored_blocks, table_count}
use Rattle.commit_plan.proofs.Plain.{plain_columns_of, plain_one, plain_views_of}

pub numbers_back : (make : ℤ → Datum) (zs : List ℤ) → ((z : ℤ) → number_in (make z) ≡ z) → map number_in (map make zs) ≡ zs
numbers_back make [] same = refl
numbers_back make (z ∷ zs) same = ap (λ y. y ∷ map number_in (map make zs)) (same z) ∙ ap (λ ys. z ∷ ys) (numbers_back make zs same)

pub strings_back : (make : List ℕ → Datum) (vs : List (List ℕ)) → ((v : List ℕ) → bytes_in (make v) ≡ v) → map bytes_in (map make vs) ≡ vs
strings_back make [] same = refl
strings_back make (v ∷ vs) same = ap (λ y. y ∷ map bytes_in (map make vs)) (same v) ∙ ap (λ ys. v ∷ ys) (strings_back make vs same)

-- the blocks of a leaf column's values
pub blocks_kept : (n : ℕ) (e : Domain) (c : StoredColumn) → IsColumnOf n e c → blocks_of_values e (column_values e c) ≡ stored_blocks c
blocks_kept n Domain.integer (integers c) h = ap (λ zs. packed zs ∷ []) (numbers_back Datum.integer c.values (λ z. refl))
blocks_kept n Domain.long (integers c) h = ap (λ zs. packed zs ∷ []) (numbers_back Datum.long c.values (λ z. refl))
blocks_kept n Domain.text (integers c) h = absurd h
blocks_kept n Domain.bytes (integers c) h = absurd h
blocks_kept n (Domain.relation g) (integers c) h = absurd h
blocks_kept n Domain.integer (texts c) h = absurd h
blocks_kept n Domain.long (texts c) h = absurd h
blocks_kept n Domain.text (texts c) h = ap string_blocks (strings_back Datum.text c.values (λ v. refl))
blocks_kept n Domain.bytes (texts c) h = ap string_blocks (strings_back Datum.bytes c.values (λ v. refl))
blocks_kept n (Domain.relation g) (texts c) h = absurd h
blocks_kept n Domain.integer (views ts) h = absurd h
blocks_kept n Domain.long (views ts) h = absurd h
blocks_kept n Domain.text (views ts) h = absurd h
blocks_kept n Domain.bytes (views ts) h = absurd h
blocks_kept n (Domain.relation g) (views ts) h = refl

-- what one plain column is due
pub one_due : (c : PlainColumn) → blocks_due (c ∷ []) ≡ due_of c
one_due c = append-nil (due_of c)

-- what a column of the domain is due
pub due_is : (n : ℕ) (e : Domain) (c : StoredColumn) → IsColumnOf n e c → blocks_due (plain_of e c) ≡ column_due c
due_is n Domain.integer (integers c) h =
    ap blocks_due (plain_one n Domain.integer (integers c) h tt) ∙ one_due (record { domain = Domain.integer; values = map Datum.integer c.values; home = home_of (integers c) }) ∙ ap (λ bs. cond (has_home (home_of (integers c))) [] bs) (blocks_kept n Domain.integer (integers c) h)
due_is n Domain.long (integers c) h =
    ap blocks_due (plain_one n Domain.long (integers c) h tt) ∙ one_due (record { domain = Domain.long; values = map Datum.long c.values; home = home_of (integers c) }) ∙ ap (λ bs. cond (has_home (home_of (integers c))) [] bs) (blocks_kept n Domain.long (integers c) h)
due_is n Domain.text (integers c) h = absurd h
due_is n Domain.bytes (integers c) h = absurd h
due_is n (Domain.relation g) (integers c) h = absurd h
due_is n Domain.integer (texts c) h = absurd h
due_is n Domain.long (texts c) h = absurd h
due_is n Domain.text (texts c) h =
    ap blocks_due (plain_one n Domain.text (texts c) h tt) ∙ one_due (record { domain = Domain.text; values = map Datum.text c.values; home = home_of (texts c) }) ∙ ap (λ bs. cond (has_home (home_of (texts c))) [] bs) (blocks_kept n Domain.text (texts c) h)
due_is n Domain.bytes (texts c) h =
    ap blocks_due (plain_one n Domain.bytes (texts c) h tt) ∙ one_due (record { domain = Domain.bytes; values = map Datum.bytes c.values; home = home_of (texts c) }) ∙ ap (λ bs. cond (has_home (home_of (texts c))) [] bs) (blocks_kept n Domain.bytes (texts c) h)
due_is n (Domain.relation g) (texts c) h = absurd h
due_is n Domain.integer (views ts) h = absurd h
due_is n Domain.long (views ts) h = absurd h
due_is n Domain.text (views ts) h = absurd h
due_is n Domain.bytes (views ts) h = absurd h
due_is n (Domain.relation g) (views ts) h = ap blocks_due (plain_views_of g ts h.whole)

pub due-append : (xs ys : List PlainColumn) → blocks_due (xs ++ ys) ≡ blocks_due xs ++ blocks_due ys
due-append xs ys = flat_map-append due_of xs ys

pub count-append : (xs ys : List PlainColumn) → length (blocks_due (xs ++ ys)) ≡ length (blocks_due xs) + length (blocks_due ys)
count-append xs ys = ap length (due-append xs ys) ∙ length-append (blocks_due xs) (blocks_due ys)

-- the columns of a table together
stored_count : (n : ℕ) (schema : List Attribute) (cols : List StoredColumn) → AllZip (λ a c. IsColumnOf n a.domain c) schema cols → length (blocks_due (plain_stored schema cols)) ≡ counted column_count cols
stored_count n [] [] h = refl
stored_count n [] (c ∷ cols) h = absurd h
stored_count n (a ∷ schema) [] h = absurd h
stored_count n (a ∷ schema) (c ∷ cols) h =
    count-append (plain_of a.domain c) (plain_stored schema cols)
    ∙ ap (λ bs. length bs + length (blocks_due (plain_stored schema cols))) (due_is n a.domain c h.0)
    ∙ ap (λ m. column_count c + m) (stored_count n schema cols h.1)

pub table_counted : (n : ℕ) (schema : List Attribute) (cols : List StoredColumn) → AreColumnsOf n schema cols → table_count (table_of_columns n schema cols) ≡ counted column_count cols
table_counted n schema cols h = ap (λ cs. length (blocks_due cs)) (plain_columns_of n schema cols h) ∙ stored_count n schema cols h.each

-- and the tables in the rows of a view column
pub views_counted : (ts : List StoredTable) → column_count (views ts) ≡ counted table_count ts
views_counted [] = refl
views_counted (t ∷ ts) = count-append (plain_columns t) (plain_tables ts) ∙ ap (λ m. table_count t + m) (views_counted ts)
