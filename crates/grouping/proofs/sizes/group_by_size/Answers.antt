use Rattle.std.proofs.Common.{[], ap, sym, ◌∙◌}
use Rattle.derived.specs.Layers.{table_of}
use Rattle.derived.specs.Refusals.{group_by_due}
use Rattle.relations.proofs.Faults.{done_due}
use Rattle.grouping.proofs.GroupTables.{groupable, groups_long}
use Rattle.grouping.proofs.sizes.group_by_size.Goals as goal

pub count_keys-requires : goal.count_keys-requires
count_keys-requires g c =
    let due = ap (λ s. group_by_due c.args.keys.now c.args.sub.now (record { schema = s; rows = [] })) (sym c.schema.ensures.value) ∙ sym c.in_ok-check_group_by.ensures in
    let able = groupable (table_of c.args.base) c.args.keys.now c.args.sub.now due in
    record { named = able.present; plain = able.plain }

pub returns : goal.returns
returns g c =
    let due = ap (λ s. group_by_due c.args.keys.now c.args.sub.now (record { schema = s; rows = [] })) (sym c.schema.ensures.value) ∙ sym c.in_ok-check_group_by.ensures in
    let able = groupable (table_of c.args.base) c.args.keys.now c.args.sub.now due in
    record {
      due = done_due (group_by_due c.args.keys.now c.args.sub.now (table_of c.args.base)) c.in_ok-count_keys.field-0 due;
      ok = c.in_ok-count_keys.ensures ∙ groups_long (table_of c.args.base) c.args.keys.now c.args.sub.now c.size-size.ensures.whole able.plain;
    }
