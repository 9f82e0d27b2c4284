use Rattle.std.proofs.Common.{◌≡◌, ◌∙◌, ◌≤◌, List, length, map, ap, sym, subst}
use Rattle.mk_value.specs.declared.span.Span.{Span}
use Rattle.tables.specs.Tables.{StoredTable}
use Rattle.view_store.specs.Views.{IsRoot, NamedTable, named}
use Rattle.commit_plan.specs.Settling.{AreSettledTables, AreSettledViews, SettlesTables, counted, table_count}
use Rattle.commit_plan.proofs.SettledViews.{views_enough, views_root, views_settled}
use Rattle.commit_plan.proofs.views.settle_views.Goals as goal

-- what was settled of the tables of views
of_views : (all : List NamedTable) (old new : List StoredTable) (spans places rest : List Span) → old ≡ map (λ v. v.table) all → places ≡ spans → SettlesTables old places rest new → AreSettledTables (map (λ v. v.table) all) spans new
of_views all old new spans places rest same is h = subst (λ ts. AreSettledTables ts spans new) same (subst (λ ss. AreSettledTables old ss new) is h.settled)

pub settle_each-requires : goal.settle_each-requires
settle_each-requires c =
    subst (λ ss. counted table_count c.tables.result.now ≤ length ss) (sym c.of-places.ensures)
    (views_enough c.args.views.now c.tables.result.now c.args.spans.now c.tables.ensures.tables c.requires)

pub of-requires : goal.of-requires
of-requires c =
    subst (λ names. IsRoot names c.in_ok-tables.tables.items) (sym (c.in_ok-names.ensures ∙ c.names.ensures.names))
    (views_root c.args.views.now c.args.spans.now c.in_ok-tables.tables.items c.names.ensures.whole
    (of_views c.args.views.now c.tables.result.now c.in_ok-tables.tables.items c.args.spans.now c.of-places.result c.settle_each.new.places c.tables.ensures.tables c.of-places.ensures c.in_ok-tables.ensures))

pub returns : goal.returns
returns c =
    subst (AreSettledViews c.args.views.now c.args.spans.now) (sym (c.of.ensures ∙ ap (λ names. named names c.in_ok-tables.tables.items) (c.in_ok-names.ensures ∙ c.names.ensures.names)))
    (views_settled c.args.views.now c.args.spans.now c.in_ok-tables.tables.items
    (of_views c.args.views.now c.tables.result.now c.in_ok-tables.tables.items c.args.spans.now c.of-places.result c.settle_each.new.places c.tables.ensures.tables c.of-places.ensures c.in_ok-tables.ensures))
