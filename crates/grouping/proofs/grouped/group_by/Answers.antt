use Rattle.std.proofs.Common.{List, [], ◌++◌, ◌∷◌, length, map, ap, subst, sym, ◌∙◌}
use Rattle.std.proofs.lemmas.List.{length-map}
use Rattle.mk_value.specs.Data.{Datum, AreRowsOf}
use Rattle.mk_value.specs.Heading.{Domain, Attribute, heading_of}
use Rattle.derived.specs.Layers.{table_of}
use Rattle.relations.specs.Columns.{column_of}
use Rattle.derived.specs.Refusals.{group_by_due}
use Rattle.relations.specs.Rows.{once, others, properties_of, values_of}
use Rattle.relations.proofs.Faults.{done_due}
use Rattle.relations.proofs.Headings.{others_here}
use Rattle.grouping.specs.Groups.{grouped_keys}
use Rattle.grouping.proofs.GroupTables.{groupable, grouped_whole, grouped_table}
use Rattle.grouping.proofs.KeyColumns.{in_range}
use Rattle.grouping.proofs.grouped.group_by.Goals as goal

pub key_index-requires : goal.key_index-requires
key_index-requires g c =
    let due = ap (λ s. group_by_due c.args.keys.now c.args.sub.now (record { schema = s; rows = [] })) (sym c.schema.ensures.value) ∙ sym c.in_ok-check_group_by.ensures in
    let able = groupable (table_of c.args.base) c.args.keys.now c.args.sub.now due in
    record { named = able.present; plain = able.plain }

pub grouped_schema-requires : goal.grouped_schema-requires
grouped_schema-requires g c =
    let due = ap (λ s. group_by_due c.args.keys.now c.args.sub.now (record { schema = s; rows = [] })) (sym c.schema.ensures.value) ∙ sym c.in_ok-check_group_by.ensures in
    record { some = c.requires.some; due = ap (λ s. group_by_due c.args.keys.now c.args.sub.now (record { schema = s; rows = [] })) c.schema-2.ensures.value ∙ due }

pub grouped_rows-requires : goal.grouped_rows-requires
grouped_rows-requires g c =
    let rest = c.in_ok-rest.ensures ∙ ap (λ s. map (column_of s) (others s c.args.keys.now)) c.schema-3.ensures.value in
    let long = ap (λ (rows : List (List Datum)). length rows) c.in_ok-index.ensures in
    let own = length-map c.args.base.rows (values_of c.args.base.schema (once c.args.keys.now)) in
    record {
      columns_in = in_range c.args.base.schema (others c.args.base.schema c.args.keys.now) (others_here c.args.base.schema c.args.keys.now) c.in_ok-rest.rest rest;
      as_many = long ∙ own;
    }

pub held-requires : goal.held-requires
held-requires g c =
    let due = ap (λ s. group_by_due c.args.keys.now c.args.sub.now (record { schema = s; rows = [] })) (sym c.schema.ensures.value) ∙ sym c.in_ok-check_group_by.ensures in
    let last : List Attribute → Attribute = λ inner. record { name = c.args.sub.now; domain = Domain.relation (heading_of inner) } in
    let schema = c.in_ok-schema.ensures ∙ ap (λ s. properties_of s (once c.args.keys.now) ++ last (properties_of s (others s c.args.keys.now)) ∷ []) c.schema-2.ensures.value in
    let rest = c.in_ok-rest.ensures ∙ ap (λ s. map (column_of s) (others s c.args.keys.now)) c.schema-3.ensures.value in
    let rows = c.in_ok-rows.ensures ∙ ap (grouped_keys c.in_ok-rest.rest c.args.base.rows) c.in_ok-index.ensures in
    let able = groupable (table_of c.args.base) c.args.keys.now c.args.sub.now due in
    let whole = grouped_whole (table_of c.args.base) c.args.keys.now c.args.sub.now c.in_ok-rest.rest c.size-size.ensures.whole able.present rest in
    subst (λ rs. AreRowsOf rs c.in_ok-schema.schema) (sym rows)
    (subst (AreRowsOf (grouped_keys c.in_ok-rest.rest c.args.base.rows (map (values_of c.args.base.schema (once c.args.keys.now)) c.args.base.rows))) (sym schema) whole)

pub returns : goal.returns
returns g c =
    let due = ap (λ s. group_by_due c.args.keys.now c.args.sub.now (record { schema = s; rows = [] })) (sym c.schema.ensures.value) ∙ sym c.in_ok-check_group_by.ensures in
    let last : List Attribute → Attribute = λ inner. record { name = c.args.sub.now; domain = Domain.relation (heading_of inner) } in
    let schema = c.in_ok-schema.ensures ∙ ap (λ s. properties_of s (once c.args.keys.now) ++ last (properties_of s (others s c.args.keys.now)) ∷ []) c.schema-2.ensures.value in
    let rest = c.in_ok-rest.ensures ∙ ap (λ s. map (column_of s) (others s c.args.keys.now)) c.schema-3.ensures.value in
    let rows = c.in_ok-rows.ensures ∙ ap (grouped_keys c.in_ok-rest.rest c.args.base.rows) c.in_ok-index.ensures in
    let able = groupable (table_of c.args.base) c.args.keys.now c.args.sub.now due in
    record {
      due = done_due (group_by_due c.args.keys.now c.args.sub.now (table_of c.args.base)) c.in_ok-held.field-0 due;
      ok = c.in_ok-held.ensures
          ∙ grouped_table (table_of c.args.base) c.args.keys.now c.args.sub.now c.in_ok-rest.rest c.in_ok-schema.schema c.in_ok-rows.rows c.size-size.ensures.whole able.plain rest schema rows;
    }
