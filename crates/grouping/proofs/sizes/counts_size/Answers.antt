use Rattle.std.proofs.Common.{[], ap, sym, ◌∙◌}
use Rattle.derived.specs.Layers.{table_of}
use Rattle.derived.specs.Refusals.{counts_due}
use Rattle.relations.proofs.Faults.{done_due}
use Rattle.grouping.proofs.CountTables.{countable, counts_long}
use Rattle.grouping.proofs.sizes.counts_size.Goals as goal

pub count_keys-requires : goal.count_keys-requires
count_keys-requires g c =
    let due = ap (λ s. counts_due c.args.keys.now c.args.count.now (record { schema = s; rows = [] })) (sym c.schema.ensures.value) ∙ sym c.in_ok-check_counts.ensures in
    let able = countable (table_of c.args.base) c.args.keys.now c.args.count.now due in
    record { named = able.present; plain = able.plain }

pub returns : goal.returns
returns g c =
    let due = ap (λ s. counts_due c.args.keys.now c.args.count.now (record { schema = s; rows = [] })) (sym c.schema.ensures.value) ∙ sym c.in_ok-check_counts.ensures in
    let able = countable (table_of c.args.base) c.args.keys.now c.args.count.now due in
    record {
      due = done_due (counts_due c.args.keys.now c.args.count.now (table_of c.args.base)) c.in_ok-count_keys.field-0 due;
      ok = c.in_ok-count_keys.ensures ∙ counts_long (table_of c.args.base) c.args.keys.now c.args.count.now c.size-size.ensures.whole able.plain;
    }
