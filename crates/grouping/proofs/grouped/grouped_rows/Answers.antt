use Rattle.std.proofs.Common.{◌<◌, ℕ, All, List, [], ◌++◌, ◌∷◌, length, get_or, map, ap, subst, sym, ◌∙◌, arith}
use Rattle.mk_value.specs.Data.{relation, relation_of}
use Rattle.relations.specs.Columns.{values_at}
use Rattle.grouping.specs.Groups.{grouped_key}
use Rattle.grouping.specs.Index.{keys_of}
use Rattle.grouping.proofs.Entries.{map_take_more}
use Rattle.grouping.proofs.GroupTables.{positions_in}
use Rattle.grouping.proofs.grouped.grouped_rows.Goals as goal

pub rows_at-requires-clause-positions_in : goal.rows_at-requires-clause-positions_in
rows_at-requires-clause-positions_in g c =
    subst (All (λ i. i < length c.args.table.now.rows)) (sym c.group.ensures)
    (positions_in c.args.index.now c.args.table.now.rows (get_or (keys_of c.args.index.now) c.loop-group.group []) c.requires.as_many)

pub loop-group-preserved : goal.loop-group-preserved
loop-group-preserved g c =
    let keys = keys_of c.args.index.now in
    let within : c.loop-group.group < length keys = (let t = c.loop-group-test.true in let e = c.groups-group-end.ensures in omega arith) in
    let key = c.in_ok-row.ensures in
    let inner = c.in_ok-inner.ensures ∙ ap (λ (ps : List ℕ). map (λ i. values_at c.args.columns.now (get_or c.args.table.now.rows i [])) ps) c.group.ensures in
    let row = c.in_ok-push.ensures.ok ∙ (λ i. key i ++ relation (relation_of (inner i)) ∷ []) in
    c.in_ok-push-2.ensures.ok ∙ (λ i. c.loop-group.invariant i ++ row i ∷ [])
    ∙ map_take_more (grouped_key c.args.columns.now c.args.table.now.rows c.args.index.now) keys c.loop-group.group [] within
