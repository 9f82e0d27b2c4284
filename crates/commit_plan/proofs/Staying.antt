-- A table that is due no blocks is settled as it is.
use Rattle.std.proofs.Common.{◌≡◌, ℕ, ◌+◌, ◌<◌, ◌≤◌, List, [], ◌∷◌, length, get_or, take, drop, Bool, true, false, cond, pos, All, refl, ap, sym, ◌∙◌, arith}
use Rattle.std.proofs.lemmas.List.{length-drop}
use Rattle.std.proofs.lemmas.List.Elements.{All-append, All-cons, All-head, All-nil, All-tail}
use Rattle.mk_value.specs.declared.span.Span.{Span}
use Rattle.mk_value.specs.Heading.{Domain, Heading, no_attributes, attribute, heading_of}
use Rattle.mk_value.specs.Data.{Datum}
use Rattle.mk_value.specs.Tables.{IsPlainDomain}
use Rattle.tables.specs.Homes.{Home, no_home, numbers, strings, tables, PlainColumn, ColumnHomes, no_columns, column, column_homes, RowHomes, no_rows, row, column_of, rows_in}
use Rattle.tables.specs.Pools.{HasAllHomes}
use Rattle.tables.specs.Shapes.{HasHomes}
use Rattle.tables.specs.Tables.{StoredTable}
use Rattle.tables.specs.Blocks.{blocks_of_values, is_homed, plain_columns, plain_from, plain_in, plain_rows}
use Rattle.commit_plan.specs.Following.{blocks_due, due_of, home_at, settled, settled_at}
use Rattle.commit_plan.specs.Settling.{InTurn, IsSettledTable, SettlesTable, SettlesTables, counted, table_count}
use Rattle.commit_plan.proofs.DueBlocks.{count-append, one_due}
use Rattle.commit_plan.proofs.Gained.{nothing_due}

one_kind : (c : PlainColumn) → IsPlainDomain c.domain → All (λ c. IsPlainDomain c.domain) (c ∷ [])
one_kind c kind = All-cons (λ c. IsPlainDomain c.domain) c [] kind (All-nil (λ c. IsPlainDomain c.domain))

-- Plain columns are of plain domains.
mutual
  kinds_in : (h : Home) (e : Domain) (values : List Datum) → All (λ c. IsPlainDomain c.domain) (plain_in h e values)
  kinds_in (tables rows) (Domain.relation g) values = kinds_rows rows g values
  kinds_in (tables rows) Domain.integer values = one_kind (record { domain = Domain.integer; values = values; home = tables rows }) tt
  kinds_in (tables rows) Domain.long values = one_kind (record { domain = Domain.long; values = values; home = tables rows }) tt
  kinds_in (tables rows) Domain.text values = one_kind (record { domain = Domain.text; values = values; home = tables rows }) tt
  kinds_in (tables rows) Domain.bytes values = one_kind (record { domain = Domain.bytes; values = values; home = tables rows }) tt
  kinds_in no_home (Domain.relation g) values = All-nil (λ c. IsPlainDomain c.domain)
  kinds_in no_home Domain.integer values = one_kind (record { domain = Domain.integer; values = values; home = no_home }) tt
  kinds_in no_home Domain.long values = one_kind (record { domain = Domain.long; values = values; home = no_home }) tt
  kinds_in no_home Domain.text values = one_kind (record { domain = Domain.text; values = values; home = no_home }) tt
  kinds_in no_home Domain.bytes values = one_kind (record { domain = Domain.bytes; values = values; home = no_home }) tt
  kinds_in (numbers block) (Domain.relation g) values = All-nil (λ c. IsPlainDomain c.domain)
  kinds_in (numbers block) Domain.integer values = one_kind (record { domain = Domain.integer; values = values; home = numbers block }) tt
  kinds_in (numbers block) Domain.long values = one_kind (record { domain = Domain.long; values = values; home = numbers block }) tt
  kinds_in (numbers block) Domain.text values = one_kind (record { domain = Domain.text; values = values; home = numbers block }) tt
  kinds_in (numbers block) Domain.bytes values = one_kind (record { domain = Domain.bytes; values = values; home = numbers block }) tt
  kinds_in (strings a b c) (Domain.relation g) values = All-nil (λ c. IsPlainDomain c.domain)
  kinds_in (strings a b c) Domain.integer values = one_kind (record { domain = Domain.integer; values = values; home = strings a b c }) tt
  kinds_in (strings a b c) Domain.long values = one_kind (record { domain = Domain.long; values = values; home = strings a b c }) tt
  kinds_in (strings a b c) Domain.text values = one_kind (record { domain = Domain.text; values = values; home = strings a b c }) tt
  kinds_in (strings a b c) Domain.bytes values = one_kind (record { domain = Domain.bytes; values = values; home = strings a b c }) tt

  kinds_rows : (rows : RowHomes) (g : Heading) (values : List Datum) → All (λ c. IsPlainDomain c.domain) (plain_rows rows g values)
  kinds_rows no_rows g values = All-nil (λ c. IsPlainDomain c.domain)
  kinds_rows (row homes rest) g values =
      let rows = rows_in (get_or values 0 (Datum.integer (pos 0))) in
      All-append (λ c. IsPlainDomain c.domain) (plain_from homes g 0 rows) (plain_rows rest g (drop 1 values)) (kinds_from homes g 0 rows) (kinds_rows rest g (drop 1 values))

  kinds_from : (homes : ColumnHomes) (g : Heading) (k : ℕ) (rows : List (List Datum)) → All (λ c. IsPlainDomain c.domain) (plain_from homes g k rows)
  kinds_from no_columns no_attributes k rows = All-nil (λ c. IsPlainDomain c.domain)
  kinds_from no_columns (attribute n e others) k rows = All-nil (λ c. IsPlainDomain c.domain)
  kinds_from (column h rest) no_attributes k rows = All-nil (λ c. IsPlainDomain c.domain)
  kinds_from (column h rest) (attribute n e others) k rows =
      All-append (λ c. IsPlainDomain c.domain) (plain_in h e (column_of rows k)) (plain_from rest others (k + 1) rows) (kinds_in h e (column_of rows k)) (kinds_from rest others (k + 1) rows)

some_blocks : (e : Domain) (values : List Datum) → IsPlainDomain e → 0 < length (blocks_of_values e values)
some_blocks Domain.integer values kind = omega arith
some_blocks Domain.long values kind = omega arith
some_blocks Domain.text values kind = omega arith
some_blocks Domain.bytes values kind = omega arith
some_blocks (Domain.relation g) values kind = absurd kind

-- a column that is due no blocks has a home
has_its_home : (c : PlainColumn) → IsPlainDomain c.domain → length (due_of c) ≡ 0 → is_homed c ≡ true
has_its_home c kind none = by_test (is_homed c) refl
  where
    by_test : (t : Bool) → is_homed c ≡ t → is_homed c ≡ true
    by_test true e = e
    by_test false e =
        let due = sym none ∙ ap (λ (b : Bool). length (cond b [] (blocks_of_values c.domain c.values))) e in
        let some = some_blocks c.domain c.values kind in
        absurd (omega (arith, due, some))

none_settled : (columns : List PlainColumn) (spans : List Span) → All (λ c. IsPlainDomain c.domain) columns → length (blocks_due columns) ≡ 0 → settled_at columns spans ≡ columns
none_settled [] spans kinds none = refl
none_settled (c ∷ columns) spans kinds none =
    let sum = count-append (c ∷ []) columns in
    let one = ap length (one_due c) in
    let here : length (due_of c) ≡ 0 = omega (arith, none, sum, one) in
    let later : length (blocks_due columns) ≡ 0 = omega (arith, none, sum) in
    let homed = has_its_home c (All-head (λ c. IsPlainDomain c.domain) c columns kinds) here in
    ap (λ cs. settled c (take (length (due_of c)) spans) ∷ cs) (none_settled columns (drop (length (due_of c)) spans) (All-tail (λ c. IsPlainDomain c.domain) c columns kinds) later)
    ∙ ap (λ (b : Bool). cond b c (let given : PlainColumn = record { domain = c.domain; values = c.values; home = home_at c.domain (take (length (due_of c)) spans) } in given) ∷ columns) homed

-- a table all of whose plain columns have a home is settled as it is
pub homed_stays : (t : StoredTable) (spans : List Span) → HasHomes t → HasAllHomes t → IsSettledTable t spans t
homed_stays t spans shaped homed = record {
  schema = refl;
  rows = refl;
  shaped = shaped;
  plain = sym (none_settled (plain_columns t) spans (kinds_from (column_homes t.homes) (heading_of t.schema) 0 t.rows) (ap length (nothing_due (plain_columns t) homed)));
}

pub homed_settles : (t : StoredTable) (spans : List Span) → HasHomes t → HasAllHomes t → SettlesTable t spans spans t
homed_settles t spans shaped homed = record {
  rest_is = sym (ap (λ bs. drop (length bs) spans) (nothing_due (plain_columns t) homed));
  settled = homed_stays t spans shaped homed;
}

-- and so are several
all_stay : (ts : List StoredTable) (spans : List Span) → All HasHomes ts → All HasAllHomes ts → InTurn table_count IsSettledTable ts spans ts
all_stay [] spans shaped homed = tt
all_stay (t ∷ ts) spans shaped homed =
    (homed_stays t spans (All-head HasHomes t ts shaped) (All-head HasAllHomes t ts homed), all_stay ts (drop (table_count t) spans) (All-tail HasHomes t ts shaped) (All-tail HasAllHomes t ts homed))

none_counted : (ts : List StoredTable) → All HasAllHomes ts → counted table_count ts ≡ 0
none_counted [] homed = refl
none_counted (t ∷ ts) homed =
    let one = ap length (nothing_due (plain_columns t) (All-head HasAllHomes t ts homed)) in
    let rest = none_counted ts (All-tail HasAllHomes t ts homed) in
    omega (arith, one, rest)

pub all_settle : (ts : List StoredTable) (spans : List Span) → All HasHomes ts → All HasAllHomes ts → SettlesTables ts spans spans ts
all_settle ts spans shaped homed = record {
  rest_is = sym (ap (λ n. drop n spans) (none_counted ts homed));
  settled = all_stay ts spans shaped homed;
}

-- a table that is due no blocks is settled as it is
pub table_stays : (t : StoredTable) (spans rest : List Span) → HasHomes t → table_count t ≤ length spans → rest ≡ drop (table_count t) spans → length rest ≡ length spans → SettlesTable t spans rest t
table_stays t spans rest shaped enough left same =
    let d = length-drop (table_count t) spans in
    let e = ap length left in
    let none : table_count t ≡ 0 = omega (arith, enough, same, d, e) in
    record {
      rest_is = left;
      settled = record {
        schema = refl;
        rows = refl;
        shaped = shaped;
        plain = sym (none_settled (plain_columns t) spans (kinds_from (column_homes t.homes) (heading_of t.schema) 0 t.rows) none);
      };
    }
