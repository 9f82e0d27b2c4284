-- Views that differ in their homes alone are the same where their plain columns are.
use Rattle.std.proofs.Common.{◌≡◌, ℕ, ◌+◌, List, [], ◌∷◌, ◌++◌, All, refl, ap, sym, subst, ◌∙◌, append_assoc}
use Rattle.std.proofs.lemmas.List.Elements.{All-head, All-tail}
use Rattle.mk_value.specs.Heading.{Domain, Heading, no_attributes, attribute, Attribute, heading_of}
use Rattle.mk_value.specs.Data.{Datum}
use Rattle.mk_value.specs.Tables.{IsPlainDomain}
use Rattle.tables.specs.Homes.{Home, no_home, numbers, strings, tables, PlainColumn, ColumnHomes, no_columns, column, column_homes, columns_of, RowHomes, no_rows, row, column_of, rows_in}
use Rattle.tables.specs.Shapes.{AreHomesOf, AreRowHomesOf, HasHomes, IsHomeOf}
use Rattle.tables.specs.Blocks.{plain_columns, plain_from, plain_in, plain_rows}
use Rattle.tables.proofs.Lists.{columns_of-column_homes}
use Rattle.view_store.specs.Views.{NamedTable}
use Rattle.recovery.specs.Commits.{plain_views}
use Rattle.commit_plan.specs.Following.{NamedRows, rows_of_views}
use Rattle.commit_plan.proofs.Plain.{plain_in_one}

pub heads : {X : Type 0} (x y : X) (xs ys : List X) → x ∷ xs ≡ y ∷ ys → x ≡ y
heads x y xs ys e = cc

tails : {X : Type 0} (x y : X) (xs ys : List X) → x ∷ xs ≡ y ∷ ys → xs ≡ ys
tails x y xs ys e = cc

-- a column of a plain domain, before others
same_one : (h k : Home) (e : Domain) (values : List Datum) (xs ys : List PlainColumn) → IsPlainDomain e → IsHomeOf h e values → IsHomeOf k e values → plain_in h e values ++ xs ≡ plain_in k e values ++ ys → (h ≡ k) × (xs ≡ ys)
same_one h k e values xs ys kind s t same =
    let one : PlainColumn = record { domain = e; values = values; home = h } in
    let other : PlainColumn = record { domain = e; values = values; home = k } in
    let joined : one ∷ xs ≡ other ∷ ys = sym (ap (λ cs. cs ++ xs) (plain_in_one h e values s kind)) ∙ same ∙ ap (λ cs. cs ++ ys) (plain_in_one k e values t kind) in
    (ap (λ (c : PlainColumn). c.home) (heads one other xs ys joined), tails one other xs ys joined)

mutual
  same_in : (h k : Home) (e : Domain) (values : List Datum) (xs ys : List PlainColumn) → IsHomeOf h e values → IsHomeOf k e values → plain_in h e values ++ xs ≡ plain_in k e values ++ ys → (h ≡ k) × (xs ≡ ys)
  same_in h k Domain.integer values xs ys s t same = same_one h k Domain.integer values xs ys tt s t same
  same_in h k Domain.long values xs ys s t same = same_one h k Domain.long values xs ys tt s t same
  same_in h k Domain.text values xs ys s t same = same_one h k Domain.text values xs ys tt s t same
  same_in h k Domain.bytes values xs ys s t same = same_one h k Domain.bytes values xs ys tt s t same
  same_in (tables rs) (tables ss) (Domain.relation g) values xs ys s t same =
      let found = same_rows rs ss g values xs ys s t same in
      (ap tables found.0, found.1)
  same_in (tables rs) no_home (Domain.relation g) values xs ys s t same = absurd t
  same_in (tables rs) (numbers block) (Domain.relation g) values xs ys s t same = absurd t
  same_in (tables rs) (strings a b c) (Domain.relation g) values xs ys s t same = absurd t
  same_in no_home k (Domain.relation g) values xs ys s t same = absurd s
  same_in (numbers block) k (Domain.relation g) values xs ys s t same = absurd s
  same_in (strings a b c) k (Domain.relation g) values xs ys s t same = absurd s

  same_rows : (rs ss : RowHomes) (g : Heading) (values : List Datum) (xs ys : List PlainColumn) → AreRowHomesOf rs g values → AreRowHomesOf ss g values → plain_rows rs g values ++ xs ≡ plain_rows ss g values ++ ys → (rs ≡ ss) × (xs ≡ ys)
  same_rows no_rows no_rows g [] xs ys s t same = (refl, same)
  same_rows no_rows ss g (d ∷ values) xs ys s t same = absurd s
  same_rows no_rows (row ks rest) g [] xs ys s t same = absurd t
  same_rows (row hs more) ss g [] xs ys s t same = absurd s
  same_rows (row hs more) no_rows g (d ∷ values) xs ys s t same = absurd t
  same_rows (row hs more) (row ks rest) g (d ∷ values) xs ys s t same =
      let one = plain_from hs g 0 (rows_in d) in
      let other = plain_from ks g 0 (rows_in d) in
      let first = same_from hs ks g 0 (rows_in d) (plain_rows more g values ++ xs) (plain_rows rest g values ++ ys) s.0 t.0
      (sym (append_assoc one (plain_rows more g values) xs) ∙ same ∙ append_assoc other (plain_rows rest g values) ys) in
      let behind = same_rows more rest g values xs ys s.1 t.1 first.1 in
      (ap (λ z. row z more) first.0 ∙ ap (λ z. row ks z) behind.0, behind.1)

  same_from : (hs ks : ColumnHomes) (g : Heading) (k : ℕ) (rows : List (List Datum)) (xs ys : List PlainColumn) → AreHomesOf hs g k rows → AreHomesOf ks g k rows → plain_from hs g k rows ++ xs ≡ plain_from ks g k rows ++ ys → (hs ≡ ks) × (xs ≡ ys)
  same_from no_columns no_columns no_attributes k rows xs ys s t same = (refl, same)
  same_from no_columns (column h rest) no_attributes k rows xs ys s t same = absurd t
  same_from (column h rest) ks no_attributes k rows xs ys s t same = absurd s
  same_from no_columns ks (attribute n e x) k rows xs ys s t same = absurd s
  same_from (column h hs) no_columns (attribute n e x) k rows xs ys s t same = absurd t
  same_from (column h hs) (column i ks) (attribute n e x) k rows xs ys s t same =
      let values = column_of rows k in
      let first = same_in h i e values (plain_from hs x (k + 1) rows ++ xs) (plain_from ks x (k + 1) rows ++ ys) s.0 t.0
      (sym (append_assoc (plain_in h e values) (plain_from hs x (k + 1) rows) xs) ∙ same ∙ append_assoc (plain_in i e values) (plain_from ks x (k + 1) rows) ys) in
      let behind = same_from hs ks x (k + 1) rows xs ys s.1 t.1 first.1 in
      (ap (λ z. column z hs) first.0 ∙ ap (λ z. column i z) behind.0, behind.1)

-- a table, by its parts
same_table : (name : List ℕ) (schema : List Attribute) (rows : List (List Datum)) (hs ks : List Home) (xs ys : List PlainColumn) → AreHomesOf (column_homes hs) (heading_of schema) 0 rows → AreHomesOf (column_homes ks) (heading_of schema) 0 rows
    → plain_from (column_homes hs) (heading_of schema) 0 rows ++ xs ≡ plain_from (column_homes ks) (heading_of schema) 0 rows ++ ys → (hs ≡ ks) × (xs ≡ ys)
same_table name schema rows hs ks xs ys s t same =
    let found = same_from (column_homes hs) (column_homes ks) (heading_of schema) 0 rows xs ys s t same in
    (sym (columns_of-column_homes hs) ∙ ap columns_of found.0 ∙ columns_of-column_homes ks, found.1)

its_rows : NamedTable → NamedRows
its_rows v = record { name = v.name; schema = v.table.schema; rows = v.table.rows }

one_view : (v w : NamedTable) (xs ys : List PlainColumn) → its_rows v ≡ its_rows w → HasHomes v.table → HasHomes w.table → plain_columns v.table ++ xs ≡ plain_columns w.table ++ ys → (v ≡ w) × (xs ≡ ys)
unfolding its_rows
one_view v w xs ys same s t plain =
    let name : v.name ≡ w.name = ap (λ (r : NamedRows). r.name) same in
    let schema : v.table.schema ≡ w.table.schema = ap (λ (r : NamedRows). r.schema) same in
    let rows : v.table.rows ≡ w.table.rows = ap (λ (r : NamedRows). r.rows) same in
    let named : List Attribute → List (List Datum) → NamedTable = λ sc rs. record { name = v.name; table = record { schema = sc; rows = rs; homes = v.table.homes } } in
    let moved : v ≡ named w.table.schema w.table.rows = ap (λ sc. named sc v.table.rows) schema ∙ ap (λ rs. named w.table.schema rs) rows in
    let found = same_table w.name w.table.schema w.table.rows v.table.homes w.table.homes xs ys
    (subst (λ (u : NamedTable). HasHomes u.table) moved s) t (subst (λ (u : NamedTable). plain_columns u.table ++ xs ≡ plain_columns w.table ++ ys) moved plain) in (
      moved ∙ ap (λ hs. let u : NamedTable = record { name = v.name; table = record { schema = w.table.schema; rows = w.table.rows; homes = hs } } in u) found.0
          ∙ ap (λ n. let u : NamedTable = record { name = n; table = w.table } in u) name,
      found.1,
    )

pub same_views : (vs ws : List NamedTable) → rows_of_views vs ≡ rows_of_views ws → All (λ v. HasHomes v.table) vs → All (λ v. HasHomes v.table) ws → plain_views vs ≡ plain_views ws → vs ≡ ws
unfolding its_rows
same_views [] [] same s t plain = refl
same_views [] (w ∷ ws) same s t plain = absurd (let e : ◌≡◌ {A = List NamedRows} [] (its_rows w ∷ rows_of_views ws) = same in cc)
same_views (v ∷ vs) [] same s t plain = absurd (let e : ◌≡◌ {A = List NamedRows} (its_rows v ∷ rows_of_views vs) [] = same in cc)
same_views (v ∷ vs) (w ∷ ws) same s t plain =
    let first = one_view v w (plain_views vs) (plain_views ws) (heads (its_rows v) (its_rows w) (rows_of_views vs) (rows_of_views ws) same)
    (All-head (λ v. HasHomes v.table) v vs s) (All-head (λ v. HasHomes v.table) w ws t) plain in
    let others = same_views vs ws (tails (its_rows v) (its_rows w) (rows_of_views vs) (rows_of_views ws) same) (All-tail (λ v. HasHomes v.table) v vs s) (All-tail (λ v. HasHomes v.table) w ws t) first.1 in
    ap (λ z. z ∷ vs) first.0 ∙ ap (λ zs. w ∷ zs) others
