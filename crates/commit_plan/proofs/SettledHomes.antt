-- Views whose plain columns were settled at spans: there are some, wherever the spans are enough.
use Rattle.std.proofs.Common.{◌≡◌, ℕ, ◌+◌, ◌≤◌, List, [], ◌∷◌, ◌++◌, length, take, drop, Bool, true, false, cond, All, refl, ap, sym, subst, ◌∙◌, arith}
use Rattle.std.proofs.lemmas.List.{length-drop, length-take-le}
use Rattle.std.proofs.lemmas.List.Elements.{All-cons, All-head, All-nil, All-tail}
use Rattle.mk_value.specs.declared.span.Span.{Span}
use Rattle.mk_value.specs.Heading.{Domain, Heading, no_attributes, attribute, heading_of}
use Rattle.mk_value.specs.Data.{Datum}
use Rattle.mk_value.specs.Tables.{IsPlainDomain}
use Rattle.tables.specs.Homes.{Home, no_home, numbers, strings, tables, PlainColumn, ColumnHomes, no_columns, column, column_homes, columns_of, RowHomes, no_rows, row, column_of, rows_in}
use Rattle.tables.specs.Shapes.{AreHomesOf, AreRowHomesOf, HasHomes, IsHomeOf}
use Rattle.tables.specs.Blocks.{blocks_of_values, has_home, plain_columns, plain_from, plain_in, plain_rows}
use Rattle.tables.proofs.ColumnwiseHomes.{column_homes-columns_of}
use Rattle.view_store.specs.Views.{NamedTable}
use Rattle.recovery.specs.Commits.{plain_views}
use Rattle.commit_plan.specs.Following.{NamedRows, blocks_due, due_of, home_at, rows_of_views, settled_at}
use Rattle.commit_plan.specs.Settling.{AreSettledViews}
use Rattle.commit_plan.proofs.Columns.{home_at-is}
use Rattle.commit_plan.proofs.DueBlocks.{count-append, one_due}
use Rattle.commit_plan.proofs.Plain.{plain_in_one}
use Rattle.commit_plan.proofs.Settled.{settled-append}

-- the home of a column, of the tables in the rows of a view column, and of the columns of a table, after each plain column was settled
record SettledHome (h : Home) (e : Domain) (values : List Datum) (spans : List Span) : Type 0 where
  home : Home
  shaped : IsHomeOf home e values
  plain : plain_in home e values ≡ settled_at (plain_in h e values) spans

record SettledRows (rs : RowHomes) (g : Heading) (values : List Datum) (spans : List Span) : Type 0 where
  rows : RowHomes
  shaped : AreRowHomesOf rows g values
  plain : plain_rows rows g values ≡ settled_at (plain_rows rs g values) spans

record SettledColumns (hs : ColumnHomes) (g : Heading) (k : ℕ) (rows : List (List Datum)) (spans : List Span) : Type 0 where
  homes : ColumnHomes
  shaped : AreHomesOf homes g k rows
  plain : plain_from homes g k rows ≡ settled_at (plain_from hs g k rows) spans

-- a column of a plain domain keeps its home, or gets the one at its spans
settled_one : (h : Home) (e : Domain) (values : List Datum) (spans : List Span) → IsPlainDomain e → IsHomeOf h e values → length (blocks_due (plain_in h e values)) ≤ length spans → SettledHome h e values spans
settled_one h e values spans kind shaped enough = by_home (has_home h) refl
  where
    c : PlainColumn
    c = record { domain = e; values = values; home = h }

    own : List Span
    own = take (length (due_of c)) spans

    made : PlainColumn
    made = record { domain = e; values = values; home = home_at e own }

    alone : plain_in h e values ≡ c ∷ []
    alone = plain_in_one h e values shaped kind

    count : length (blocks_due (plain_in h e values)) ≡ length (due_of c)
    count = ap (λ cs. length (blocks_due cs)) alone ∙ ap length (one_due c)

    long : length own ≡ length (due_of c)
    long = length-take-le (length (due_of c)) spans (omega (arith, count, enough))

    by_home : (b : Bool) → has_home h ≡ b → SettledHome h e values spans
    by_home true has = record {
      home = h;
      shaped = shaped;
      plain = alone ∙ sym (ap (λ cs. settled_at cs spans) alone ∙ ap (λ (b : Bool). cond b c made ∷ []) has);
    }
    by_home false has =
        let due : due_of c ≡ blocks_of_values e values = ap (λ (b : Bool). cond b [] (blocks_of_values e values)) has in
        let at = home_at-is e values own kind (long ∙ ap length due) in
        record {
          home = home_at e own;
          shaped = at.shaped;
          plain = plain_in_one (home_at e own) e values at.shaped kind ∙ sym (ap (λ cs. settled_at cs spans) alone ∙ ap (λ (b : Bool). cond b c made ∷ []) has);
        }

mutual
  settled_in : (h : Home) (e : Domain) (values : List Datum) (spans : List Span) → IsHomeOf h e values → length (blocks_due (plain_in h e values)) ≤ length spans → SettledHome h e values spans
  settled_in h Domain.integer values spans s p = settled_one h Domain.integer values spans tt s p
  settled_in h Domain.long values spans s p = settled_one h Domain.long values spans tt s p
  settled_in h Domain.text values spans s p = settled_one h Domain.text values spans tt s p
  settled_in h Domain.bytes values spans s p = settled_one h Domain.bytes values spans tt s p
  settled_in (tables rs) (Domain.relation g) values spans s p =
      let found = settled_rows rs g values spans s p in
      record { home = tables found.rows; shaped = found.shaped; plain = found.plain }
  settled_in no_home (Domain.relation g) values spans s p = absurd s
  settled_in (numbers block) (Domain.relation g) values spans s p = absurd s
  settled_in (strings a b c) (Domain.relation g) values spans s p = absurd s

  settled_rows : (rs : RowHomes) (g : Heading) (values : List Datum) (spans : List Span) → AreRowHomesOf rs g values → length (blocks_due (plain_rows rs g values)) ≤ length spans → SettledRows rs g values spans
  settled_rows no_rows g [] spans s p = record { rows = no_rows; shaped = tt; plain = refl }
  settled_rows no_rows g (d ∷ values) spans s p = absurd s
  settled_rows (row hs rest) g [] spans s p = absurd s
  settled_rows (row hs rest) g (d ∷ values) spans s p =
      let one = plain_from hs g 0 (rows_in d) in
      let others = plain_rows rest g values in
      let total : length (blocks_due (one ++ others)) ≡ length (blocks_due one) + length (blocks_due others) = count-append one others in
      let enough : length (blocks_due (one ++ others)) ≤ length spans = p in
      let left = length-drop (length (blocks_due one)) spans in
      let first = settled_columns hs g 0 (rows_in d) spans s.0 (omega (arith, total, enough)) in
      let behind = settled_rows rest g values (drop (length (blocks_due one)) spans) s.1 (omega (arith, total, enough, left)) in
      record {
        rows = row first.homes behind.rows;
        shaped = (first.shaped, behind.shaped);
        plain = ap (λ cs. cs ++ plain_rows behind.rows g values) first.plain ∙ ap (λ cs. settled_at one spans ++ cs) behind.plain ∙ sym (settled-append one others spans);
      }

  settled_columns : (hs : ColumnHomes) (g : Heading) (k : ℕ) (rows : List (List Datum)) (spans : List Span) → AreHomesOf hs g k rows → length (blocks_due (plain_from hs g k rows)) ≤ length spans → SettledColumns hs g k rows spans
  settled_columns no_columns no_attributes k rows spans s p = record { homes = no_columns; shaped = tt; plain = refl }
  settled_columns no_columns (attribute n e x) k rows spans s p = absurd s
  settled_columns (column h hs) no_attributes k rows spans s p = absurd s
  settled_columns (column h hs) (attribute n e x) k rows spans s p =
      let one = plain_in h e (column_of rows k) in
      let others = plain_from hs x (k + 1) rows in
      let total : length (blocks_due (one ++ others)) ≡ length (blocks_due one) + length (blocks_due others) = count-append one others in
      let enough : length (blocks_due (one ++ others)) ≤ length spans = p in
      let left = length-drop (length (blocks_due one)) spans in
      let first = settled_in h e (column_of rows k) spans s.0 (omega (arith, total, enough)) in
      let behind = settled_columns hs x (k + 1) rows (drop (length (blocks_due one)) spans) s.1 (omega (arith, total, enough, left)) in
      record {
        homes = column first.home behind.homes;
        shaped = (first.shaped, behind.shaped);
        plain = ap (λ cs. cs ++ plain_from behind.homes x (k + 1) rows) first.plain ∙ ap (λ cs. settled_at one spans ++ cs) behind.plain ∙ sym (settled-append one others spans);
      }

-- a view
record SettledView (v : NamedTable) (spans : List Span) : Type 0 where
  view : NamedTable
  name : view.name ≡ v.name
  schema : view.table.schema ≡ v.table.schema
  rows : view.table.rows ≡ v.table.rows
  shaped : HasHomes view.table
  plain : plain_columns view.table ≡ settled_at (plain_columns v.table) spans

settled_view : (v : NamedTable) (spans : List Span) → HasHomes v.table → length (blocks_due (plain_columns v.table)) ≤ length spans → SettledView v spans
settled_view v spans s p =
    let found = settled_columns (column_homes v.table.homes) (heading_of v.table.schema) 0 v.table.rows spans s p in
    let back = column_homes-columns_of found.homes in
    record {
      view = record { name = v.name; table = record { schema = v.table.schema; rows = v.table.rows; homes = columns_of found.homes } };
      name = refl;
      schema = refl;
      rows = refl;
      shaped = subst (λ hs. AreHomesOf hs (heading_of v.table.schema) 0 v.table.rows) (sym back) found.shaped;
      plain = ap (λ hs. plain_from hs (heading_of v.table.schema) 0 v.table.rows) back ∙ found.plain;
    }

-- views
pub record SettledViews (views : List NamedTable) (spans : List Span) : Type 0 where
  pub made : List NamedTable
  pub are : AreSettledViews views spans made

its_rows : NamedTable → NamedRows
its_rows v = record { name = v.name; schema = v.table.schema; rows = v.table.rows }

same_rows : (v w : NamedTable) → v.name ≡ w.name → v.table.schema ≡ w.table.schema → v.table.rows ≡ w.table.rows → its_rows v ≡ its_rows w
unfolding its_rows
same_rows v w names schemas rows = cc

pub views_settled_at : (views : List NamedTable) (spans : List Span) → All (λ v. HasHomes v.table) views → length (blocks_due (plain_views views)) ≤ length spans → SettledViews views spans
unfolding its_rows
views_settled_at [] spans shaped p = record { made = []; are = record { same_rows = refl; shaped = All-nil (λ (v : NamedTable). HasHomes v.table); plain = refl } }
views_settled_at (v ∷ views) spans shaped p =
    let one = plain_columns v.table in
    let others = plain_views views in
    let total : length (blocks_due (one ++ others)) ≡ length (blocks_due one) + length (blocks_due others) = count-append one others in
    let enough : length (blocks_due (one ++ others)) ≤ length spans = p in
    let left = length-drop (length (blocks_due one)) spans in
    let first = settled_view v spans (All-head (λ (v : NamedTable). HasHomes v.table) v views shaped) (omega (arith, total, enough)) in
    let behind = views_settled_at views (drop (length (blocks_due one)) spans) (All-tail (λ (v : NamedTable). HasHomes v.table) v views shaped) (omega (arith, total, enough, left)) in
    record {
      made = first.view ∷ behind.made;
      are = record {
        same_rows = ap (λ r. r ∷ rows_of_views behind.made) (same_rows first.view v first.name first.schema first.rows) ∙ ap (λ rs. its_rows v ∷ rs) behind.are.same_rows;
        shaped = All-cons (λ (v : NamedTable). HasHomes v.table) first.view behind.made first.shaped behind.are.shaped;
        plain = ap (λ cs. cs ++ plain_views behind.made) first.plain ∙ ap (λ cs. settled_at one spans ++ cs) behind.are.plain ∙ sym (settled-append one others spans);
      };
    }
