-- Views whose tables were settled.
use Rattle.std.proofs.Common.{◌≡◌, ◌≤◌, List, [], ◌∷◌, length, drop, map, All, refl, ap, sym, ◌∙◌, arith}
use Rattle.std.proofs.lemmas.List.{length-map}
use Rattle.std.proofs.lemmas.List.Elements.{All-cons, All-nil}
use Rattle.mk_value.specs.declared.span.Span.{Span}
use Rattle.tables.specs.Shapes.{HasHomes}
use Rattle.tables.specs.Tables.{StoredTable}
use Rattle.view_store.specs.Views.{AreViews, IsRoot, NamedTable, named, view_names}
use Rattle.view_store.proofs.Named.{tables_named}
use Rattle.recovery.specs.Commits.{plain_views}
use Rattle.commit_plan.specs.Following.{NamedRows, blocks_due, rows_of_views, settled_at}
use Rattle.commit_plan.specs.Plain.{plain_tables}
use Rattle.commit_plan.specs.Settling.{AreSettledTables, AreSettledViews, IsSettledTable, counted, table_count}
use Rattle.commit_plan.proofs.DueBlocks.{views_counted}
use Rattle.commit_plan.proofs.SameRows.{same_rows_whole}
use Rattle.commit_plan.proofs.Settled.{tables_plain}
use Rattle.commit_plan.proofs.Turns.{turns_long}
use Rattle.commit_plan.proofs.ViewColumns.{tables_of_views}

abbrev its_tables : List NamedTable → List StoredTable
its_tables views = map (λ v. v.table) views

pub views_enough : (views : List NamedTable) (tables : List StoredTable) (spans : List Span) → tables ≡ its_tables views → length (blocks_due (plain_views views)) ≤ length spans → counted table_count tables ≤ length spans
views_enough views tables spans same p =
    let count = sym (views_counted tables) ∙ ap (λ ts. length (blocks_due (plain_tables ts))) same ∙ ap (λ cs. length (blocks_due cs)) (tables_of_views views) in
    omega (arith, count, p)

rows_same : (views : List NamedTable) (spans : List Span) (new : List StoredTable) → AreSettledTables (its_tables views) spans new → rows_of_views (named (view_names views) new) ≡ rows_of_views views
rows_same [] spans [] h = refl
rows_same [] spans (t ∷ new) h = absurd h
rows_same (v ∷ views) spans [] h = absurd h
rows_same (v ∷ views) spans (t ∷ new) h =
    let others = rows_of_views (named (view_names views) new) in
    ap (λ s. (let r : NamedRows = record { name = v.name; schema = s; rows = t.rows } in r) ∷ others) h.0.schema
    ∙ ap (λ rs. (let r : NamedRows = record { name = v.name; schema = v.table.schema; rows = rs } in r) ∷ others) h.0.rows
    ∙ ap (λ rest. (let r : NamedRows = record { name = v.name; schema = v.table.schema; rows = v.table.rows } in r) ∷ rest) (rows_same views (drop (table_count v.table) spans) new h.1)

all_shaped : (views : List NamedTable) (spans : List Span) (new : List StoredTable) → AreSettledTables (its_tables views) spans new → All (λ v. HasHomes v.table) (named (view_names views) new)
all_shaped [] spans [] h = All-nil (λ (v : NamedTable). HasHomes v.table)
all_shaped [] spans (t ∷ new) h = absurd h
all_shaped (v ∷ views) spans [] h = absurd h
all_shaped (v ∷ views) spans (t ∷ new) h =
    All-cons (λ (v : NamedTable). HasHomes v.table) (let w : NamedTable = record { name = v.name; table = t } in w) (named (view_names views) new) h.0.shaped (all_shaped views (drop (table_count v.table) spans) new h.1)

paired : (views : List NamedTable) (spans : List Span) (new : List StoredTable) → AreSettledTables (its_tables views) spans new → length (view_names views) ≡ length new
paired views spans new h = length-map views (λ v. v.name) ∙ sym (turns_long table_count IsSettledTable (its_tables views) spans new h ∙ length-map views (λ v. v.table))

pub views_settled : (views : List NamedTable) (spans : List Span) (new : List StoredTable) → AreSettledTables (its_tables views) spans new → AreSettledViews views spans (named (view_names views) new)
views_settled views spans new h = record {
  same_rows = rows_same views spans new h;
  shaped = all_shaped views spans new h;
  plain = sym (tables_of_views (named (view_names views) new)) ∙ ap plain_tables (tables_named (view_names views) new (paired views spans new h))
      ∙ tables_plain (its_tables views) new spans h ∙ ap (λ cs. settled_at cs spans) (tables_of_views views);
}

pub views_root : (views : List NamedTable) (spans : List Span) (new : List StoredTable) → AreViews views → AreSettledTables (its_tables views) spans new → IsRoot (view_names views) new
views_root views spans new whole h =
    let settled = views_settled views spans new h in
    record { paired = paired views spans new h; views = same_rows_whole (named (view_names views) new) views settled.same_rows whole; shaped = settled.shaped }
