-- Columns and tables that were settled: what they keep, and the homes of their plain columns.
use Rattle.std.proofs.Common.{◌≡◌, ℕ, suc, ◌+◌, List, [], ◌∷◌, ◌++◌, length, get_or, take, drop, map, Bool, true, false, cond, Option, None, Some, pos, All, refl, ap, sym, subst, ◌∙◌, append-nil}
use Rattle.std.specs.List.{AllZip, range_with_len}
use Rattle.std.proofs.Math.Seq.{drop-append_seam}
use Rattle.std.proofs.lemmas.List.{drop-drop, take_at}
use Rattle.std.proofs.lemmas.List.Elements.{All-cons, All-head, All-nil, All-tail}
use Rattle.mk_value.specs.declared.span.Span.{Span}
use Rattle.mk_value.specs.Heading.{Domain, Attribute, attributes_of}
use Rattle.mk_value.specs.Data.{Datum, AreRowsOf, relation_of}
use Rattle.mk_value.specs.Tables.{IsPlainDomain}
use Rattle.int_col.specs.Numbers.{Numbers}
use Rattle.bytes_col.specs.Strings.{Strings, string_blocks}
use Rattle.bytes_col.specs.declared.home.BytesHome.{BytesHome}
use Rattle.tables.specs.Homes.{Home, PlainColumn}
use Rattle.tables.specs.Tables.{StoredTable}
use Rattle.tables.specs.Columns.{StoredColumn, integers, texts, views, home_of, home_of_numbers, home_of_strings, column_values, row_of_columns, table_of_columns, IsTableOf, IsColumnOf, AreColumnsOf}
use Rattle.tables.specs.Blocks.{blocks_of_values, has_home, is_homed, plain_columns}
use Rattle.tables.proofs.Gathering.{HasHomes-columns}
use Rattle.commit_plan.specs.Following.{blocks_due, due_of, home_at, settled, settled_at}
use Rattle.commit_plan.specs.Plain.{plain_of, plain_stored, plain_tables}
use Rattle.commit_plan.specs.Settling.{AreSettledColumns, AreSettledTables, IsGivenHome, IsSettledAs, IsSettledTable, SettlesColumn, SettlesColumns, SettlesTable, SettlesTables, column_count, stored_blocks, table_count}
use Rattle.commit_plan.proofs.Plain.{numbers_kind, plain_columns_of, plain_one, plain_views_of, strings_kind}
use Rattle.commit_plan.proofs.DueBlocks.{blocks_kept, count-append, due_is, table_counted, views_counted}
use Rattle.commit_plan.proofs.Turns.{turns_long}

-- the spans behind those that the first ones take
pub settled-append : (xs ys : List PlainColumn) (spans : List Span) → settled_at (xs ++ ys) spans ≡ settled_at xs spans ++ settled_at ys (drop (length (blocks_due xs)) spans)
settled-append [] ys spans = refl
settled-append (x ∷ xs) ys spans =
    ap (λ cs. settled x (take (length (due_of x)) spans) ∷ cs) (settled-append xs ys (drop (length (due_of x)) spans))
    ∙ ap (λ ss. settled x (take (length (due_of x)) spans) ∷ (settled_at xs (drop (length (due_of x)) spans) ++ settled_at ys ss))
    (drop-drop (length (blocks_due xs)) (length (due_of x)) spans ∙ ap (λ m. drop m spans) (sym (count-append (x ∷ []) xs ∙ ap (λ m. m + length (blocks_due xs)) (one x))))
  where
    one : (c : PlainColumn) → length (blocks_due (c ∷ [])) ≡ length (due_of c)
    one c = ap length (append-nil (due_of c))

-- one plain column
kept_one : (p : PlainColumn) (spans : List Span) → is_homed p ≡ true → settled_at (p ∷ []) spans ≡ p ∷ []
kept_one p spans e =
    let given : PlainColumn = record { domain = p.domain; values = p.values; home = home_at p.domain (take (length (due_of p)) spans) } in
    ap (λ (b : Bool). cond b p given ∷ []) e

given_one : (p : PlainColumn) (spans own : List Span) → is_homed p ≡ false → take (length (due_of p)) spans ≡ own → settled_at (p ∷ []) spans ≡ record { domain = p.domain; values = p.values; home = home_at p.domain own } ∷ []
given_one p spans own e is =
    let given : List Span → PlainColumn = λ ss. record { domain = p.domain; values = p.values; home = home_at p.domain ss } in
    ap (λ (b : Bool). cond b p (given (take (length (due_of p)) spans)) ∷ []) e ∙ ap (λ ss. given ss ∷ []) is

-- a leaf column that has a home stays as it is
stays : (c : StoredColumn) (spans : List Span) → has_home (home_of c) ≡ true → ((n : ℕ) (e : Domain) → IsColumnOf n e c → IsPlainDomain e) → IsSettledAs c spans c
stays c spans has kind n e h = record {
  whole = h;
  same = refl;
  plain = let one = plain_one n e c h (kind n e h) in one ∙ sym (ap (λ cs. settled_at cs spans) one ∙ kept_one (record { domain = e; values = column_values e c; home = home_of c }) spans has);
}

pub numbers_kept : (c : Numbers) (spans : List Span) → has_home (home_of (integers c)) ≡ true → SettlesColumn (integers c) spans spans (integers c)
numbers_kept c spans has = record {
  rest_is = sym (ap (λ (b : Bool). drop (length (cond b [] (stored_blocks (integers c)))) spans) has);
  settled = stays (integers c) spans has (λ n e h. numbers_kind n e c h);
}

pub strings_kept : (c : Strings) (spans : List Span) → has_home (home_of (texts c)) ≡ true → SettlesColumn (texts c) spans spans (texts c)
strings_kept c spans has = record {
  rest_is = sym (ap (λ (b : Bool). drop (length (cond b [] (stored_blocks (texts c)))) spans) has);
  settled = stays (texts c) spans has (λ n e h. strings_kind n e c h);
}

-- one that has none is given the next spans
pub numbers_given : (c : Numbers) (block : Span) (rest : List Span) → c.home ≡ None → SettlesColumn (integers c) (block ∷ rest) rest (integers (record c { home = Some block }))
numbers_given c block rest none = record {
  rest_is = sym (ap (λ (b : Bool). drop (length (cond b [] (stored_blocks (integers c)))) (block ∷ rest)) has);
  settled = by_domain;
} where
  has : has_home (home_of (integers c)) ≡ false
  has = ap (λ (h : Option Span). has_home (home_of_numbers h)) none

  own : (e : Domain) (values : List Datum) (h : Home) → has_home h ≡ false → length (blocks_of_values e values) ≡ 1 → take (length (due_of (record { domain = e; values = values; home = h }))) (block ∷ rest) ≡ block ∷ []
  own e values h f one = ap (λ (b : Bool). take (length (cond b [] (blocks_of_values e values))) (block ∷ rest)) f ∙ ap (λ m. take m (block ∷ rest)) one

  by_domain : IsSettledAs (integers c) (block ∷ rest) (integers (record c { home = Some block }))
  by_domain n Domain.integer h =
      let is : IsColumnOf n Domain.integer (integers (record c { home = Some block })) = record { count = h.count; fit = h.fit } in
      record {
        whole = is;
        same = refl;
        plain = plain_one n Domain.integer (integers (record c { home = Some block })) is tt
            ∙ sym (ap (λ cs. settled_at cs (block ∷ rest)) (plain_one n Domain.integer (integers c) h tt)
            ∙ given_one (record { domain = Domain.integer; values = map Datum.integer c.values; home = home_of (integers c) }) (block ∷ rest) (block ∷ []) has (own Domain.integer (map Datum.integer c.values) (home_of (integers c)) has refl));
      }
  by_domain n Domain.long h =
      let is : IsColumnOf n Domain.long (integers (record c { home = Some block })) = record { count = h.count; fit = h.fit } in
      record {
        whole = is;
        same = refl;
        plain = plain_one n Domain.long (integers (record c { home = Some block })) is tt
            ∙ sym (ap (λ cs. settled_at cs (block ∷ rest)) (plain_one n Domain.long (integers c) h tt)
            ∙ given_one (record { domain = Domain.long; values = map Datum.long c.values; home = home_of (integers c) }) (block ∷ rest) (block ∷ []) has (own Domain.long (map Datum.long c.values) (home_of (integers c)) has refl));
      }
  by_domain n Domain.text h = absurd h
  by_domain n Domain.bytes h = absurd h
  by_domain n (Domain.relation g) h = absurd h

own_taken : (e : Domain) (values : List Datum) (h : Home) (home : BytesHome) (spans rest : List Span) → has_home h ≡ false → length (blocks_of_values e values) ≡ suc (suc (length home.memos)) → spans ≡ home.sizes ∷ home.short ∷ (home.memos ++ rest)
    → take (length (due_of (record { domain = e; values = values; home = h }))) spans ≡ home.sizes ∷ home.short ∷ home.memos
own_taken e values h home spans rest f long split =
    ap (λ (b : Bool). take (length (cond b [] (blocks_of_values e values))) spans) f ∙ ap (λ m. take m spans) long ∙ ap (λ ss. take (suc (suc (length home.memos))) ss) split
    ∙ ap (λ ss. home.sizes ∷ home.short ∷ ss) (take_at home.memos rest (length home.memos) refl)

pub strings_given : (c d : Strings) (spans rest : List Span) → c.home ≡ None → IsGivenHome c spans rest d → SettlesColumn (texts c) spans rest (texts d)
strings_given c d spans rest none given = record {
  rest_is = sym (ap (λ (b : Bool). drop (length (cond b [] (stored_blocks (texts c)))) spans) has ∙ ap (λ m. drop m spans) count ∙ ap (λ ss. drop (suc (suc (length given.home.memos))) ss) given.split ∙ drop-append_seam given.home.memos rest);
  settled = subst (λ (x : Strings). IsSettledAs (texts c) spans (texts x)) (sym given.new_is) by_domain;
} where
  has : has_home (home_of (texts c)) ≡ false
  has = ap (λ (h : Option BytesHome). has_home (home_of_strings h)) none

  count : length (string_blocks c.values) ≡ suc (suc (length given.home.memos))
  count = ap (λ m. suc (suc m)) (sym given.long)

  by_domain : IsSettledAs (texts c) spans (texts (record c { home = Some given.home }))
  by_domain n Domain.integer h = absurd h
  by_domain n Domain.long h = absurd h
  by_domain n Domain.text h =
      let is : IsColumnOf n Domain.text (texts (record c { home = Some given.home })) = record { count = h.count; fit = h.fit; home = given.long } in
      record {
        whole = is;
        same = refl;
        plain = plain_one n Domain.text (texts (record c { home = Some given.home })) is tt
            ∙ sym (ap (λ cs. settled_at cs spans) (plain_one n Domain.text (texts c) h tt)
            ∙ given_one (record { domain = Domain.text; values = map Datum.text c.values; home = home_of (texts c) }) spans (given.home.sizes ∷ given.home.short ∷ given.home.memos) has
            (own_taken Domain.text (map Datum.text c.values) (home_of (texts c)) given.home spans rest has (ap length (blocks_kept n Domain.text (texts c) h) ∙ count) given.split));
      }
  by_domain n Domain.bytes h =
      let is : IsColumnOf n Domain.bytes (texts (record c { home = Some given.home })) = record { count = h.count; fit = h.fit; home = given.long } in
      record {
        whole = is;
        same = refl;
        plain = plain_one n Domain.bytes (texts (record c { home = Some given.home })) is tt
            ∙ sym (ap (λ cs. settled_at cs spans) (plain_one n Domain.bytes (texts c) h tt)
            ∙ given_one (record { domain = Domain.bytes; values = map Datum.bytes c.values; home = home_of (texts c) }) spans (given.home.sizes ∷ given.home.short ∷ given.home.memos) has
            (own_taken Domain.bytes (map Datum.bytes c.values) (home_of (texts c)) given.home spans rest has (ap length (blocks_kept n Domain.bytes (texts c) h) ∙ count) given.split));
      }
  by_domain n (Domain.relation g) h = absurd h

-- The tables in the rows of a view column.
tables_whole : (schema : List Attribute) (old new : List StoredTable) (spans : List Span) → All (IsTableOf schema) old → AreSettledTables old spans new → All (IsTableOf schema) new
tables_whole schema [] [] spans whole h = All-nil (IsTableOf schema)
tables_whole schema [] (u ∷ new) spans whole h = absurd h
tables_whole schema (t ∷ old) [] spans whole h = absurd h
tables_whole schema (t ∷ old) (u ∷ new) spans whole h =
    let first = All-head (IsTableOf schema) t old whole in
    All-cons (IsTableOf schema) u new
    (record {
      same_schema = h.0.schema ∙ first.same_schema;
      rows = subst (λ rs. AreRowsOf rs u.schema) (sym h.0.rows) (subst (λ s. AreRowsOf t.rows s) (sym h.0.schema) first.rows);
      homes = h.0.shaped;
    })
    (tables_whole schema old new (drop (table_count t) spans) (All-tail (IsTableOf schema) t old whole) h.1)

abbrev as_view : StoredTable → Datum
as_view t = Datum.relation (relation_of t.rows)

tables_same : (old new : List StoredTable) (spans : List Span) → AreSettledTables old spans new → map as_view new ≡ map as_view old
tables_same [] [] spans h = refl
tables_same [] (u ∷ new) spans h = absurd h
tables_same (t ∷ old) [] spans h = absurd h
tables_same (t ∷ old) (u ∷ new) spans h =
    ap (λ rs. Datum.relation (relation_of rs) ∷ map as_view new) h.0.rows ∙ ap (λ ds. as_view t ∷ ds) (tables_same old new (drop (table_count t) spans) h.1)

pub tables_plain : (old new : List StoredTable) (spans : List Span) → AreSettledTables old spans new → plain_tables new ≡ settled_at (plain_tables old) spans
tables_plain [] [] spans h = refl
tables_plain [] (u ∷ new) spans h = absurd h
tables_plain (t ∷ old) [] spans h = absurd h
tables_plain (t ∷ old) (u ∷ new) spans h =
    ap (λ cs. cs ++ plain_tables new) h.0.plain
    ∙ ap (λ cs. settled_at (plain_columns t) spans ++ cs) (tables_plain old new (drop (table_count t) spans) h.1)
    ∙ sym (settled-append (plain_columns t) (plain_tables old) spans)

pub views_settled : (old new : List StoredTable) (spans rest : List Span) → SettlesTables old spans rest new → SettlesColumn (views old) spans rest (views new)
views_settled old new spans rest h = record { rest_is = h.rest_is ∙ ap (λ m. drop m spans) (sym (views_counted old)); settled = by_domain } where
  by_domain : IsSettledAs (views old) spans (views new)
  by_domain n Domain.integer w = absurd w
  by_domain n Domain.long w = absurd w
  by_domain n Domain.text w = absurd w
  by_domain n Domain.bytes w = absurd w
  by_domain n (Domain.relation g) w =
      let whole = tables_whole (attributes_of g) old new spans w.whole h.settled in
      record {
        whole = record { count = turns_long table_count IsSettledTable old spans new h.settled ∙ w.count; whole = whole };
        same = tables_same old new spans h.settled;
        plain = plain_views_of g new whole ∙ tables_plain old new spans h.settled ∙ ap (λ cs. settled_at cs spans) (sym (plain_views_of g old w.whole));
      }

-- The columns of a table.
columns_whole : (n : ℕ) (schema : List Attribute) (old new : List StoredColumn) (spans : List Span) → AllZip (λ a c. IsColumnOf n a.domain c) schema old → AreSettledColumns old spans new → AllZip (λ a c. IsColumnOf n a.domain c) schema new
columns_whole n [] [] [] spans w h = tt
columns_whole n [] [] (d ∷ new) spans w h = absurd h
columns_whole n [] (c ∷ old) new spans w h = absurd w
columns_whole n (a ∷ schema) [] new spans w h = absurd w
columns_whole n (a ∷ schema) (c ∷ old) [] spans w h = absurd h
columns_whole n (a ∷ schema) (c ∷ old) (d ∷ new) spans w h = ((h.0 n a.domain w.0).whole, columns_whole n schema old new (drop (column_count c) spans) w.1 h.1)

row_same : (n i : ℕ) (schema : List Attribute) (old new : List StoredColumn) (spans : List Span) → AllZip (λ a c. IsColumnOf n a.domain c) schema old → AreSettledColumns old spans new → row_of_columns i schema new ≡ row_of_columns i schema old
row_same n i [] [] [] spans w h = refl
row_same n i [] [] (d ∷ new) spans w h = absurd h
row_same n i [] (c ∷ old) new spans w h = absurd w
row_same n i (a ∷ schema) [] new spans w h = absurd w
row_same n i (a ∷ schema) (c ∷ old) [] spans w h = absurd h
row_same n i (a ∷ schema) (c ∷ old) (d ∷ new) spans w h =
    ap (λ vs. get_or vs i (Datum.integer (pos 0)) ∷ row_of_columns i schema new) (h.0 n a.domain w.0).same
    ∙ ap (λ ds. get_or (column_values a.domain c) i (Datum.integer (pos 0)) ∷ ds) (row_same n i schema old new (drop (column_count c) spans) w.1 h.1)

each_same : {X Y : Type 0} (f g : X → Y) (xs : List X) → ((x : X) → f x ≡ g x) → map f xs ≡ map g xs
each_same f g [] h = refl
each_same f g (x ∷ xs) h = ap (λ y. y ∷ map f xs) (h x) ∙ ap (λ ys. g x ∷ ys) (each_same f g xs h)

columns_plain : (n : ℕ) (schema : List Attribute) (old new : List StoredColumn) (spans : List Span) → AllZip (λ a c. IsColumnOf n a.domain c) schema old → AreSettledColumns old spans new → plain_stored schema new ≡ settled_at (plain_stored schema old) spans
columns_plain n [] [] [] spans w h = refl
columns_plain n [] [] (d ∷ new) spans w h = absurd h
columns_plain n [] (c ∷ old) new spans w h = absurd w
columns_plain n (a ∷ schema) [] new spans w h = absurd w
columns_plain n (a ∷ schema) (c ∷ old) [] spans w h = absurd h
columns_plain n (a ∷ schema) (c ∷ old) (d ∷ new) spans w h =
    ap (λ cs. cs ++ plain_stored schema new) (h.0 n a.domain w.0).plain
    ∙ ap (λ cs. settled_at (plain_of a.domain c) spans ++ cs) (columns_plain n schema old new (drop (column_count c) spans) w.1 h.1)
    ∙ ap (λ bs. settled_at (plain_of a.domain c) spans ++ settled_at (plain_stored schema old) (drop (length bs) spans)) (sym (due_is n a.domain c w.0))
    ∙ sym (settled-append (plain_of a.domain c) (plain_stored schema old) spans)

-- columns that were settled are columns of the table
pub columns_kept : (n : ℕ) (schema : List Attribute) (old new : List StoredColumn) (spans rest : List Span) → AreColumnsOf n schema old → SettlesColumns old spans rest new → AreColumnsOf n schema new
columns_kept n schema old new spans rest w h = record { few = w.few; each = columns_whole n schema old new spans w.each h.settled }

pub table_settled : (n : ℕ) (schema : List Attribute) (old new : List StoredColumn) (spans rest : List Span) → AreColumnsOf n schema old → SettlesColumns old spans rest new
    → SettlesTable (table_of_columns n schema old) spans rest (table_of_columns n schema new)
table_settled n schema old new spans rest w h =
    let whole = columns_kept n schema old new spans rest w h in
    record {
      rest_is = h.rest_is ∙ ap (λ m. drop m spans) (sym (table_counted n schema old w));
      settled = record {
        schema = refl;
        rows = each_same (λ i. row_of_columns i schema new) (λ i. row_of_columns i schema old) (range_with_len 0 n) (λ i. row_same n i schema old new spans w.each h.settled);
        shaped = HasHomes-columns n schema new whole;
        plain = plain_columns_of n schema new whole ∙ columns_plain n schema old new spans w.each h.settled ∙ ap (λ cs. settled_at cs spans) (sym (plain_columns_of n schema old w));
      };
    }
