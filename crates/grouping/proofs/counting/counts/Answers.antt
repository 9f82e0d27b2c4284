use Rattle.std.proofs.Common.{List, [], ◌++◌, ◌∷◌, length, map, ap, subst, sym, ◌∙◌, arith}
use Rattle.std.proofs.lemmas.List.{length-map}
use Rattle.mk_value.specs.Data.{Datum, AreRowsOf}
use Rattle.mk_value.specs.Heading.{Domain, Attribute}
use Rattle.derived.specs.Layers.{table_of}
use Rattle.derived.specs.Refusals.{counts_due}
use Rattle.relations.specs.Rows.{once, properties_of, values_of}
use Rattle.relations.proofs.Faults.{done_due}
use Rattle.grouping.specs.Groups.{counted_keys}
use Rattle.grouping.proofs.CountTables.{countable, counted_whole, counted_table}
use Rattle.grouping.proofs.counting.counts.Goals as goal

pub key_index-requires : goal.key_index-requires
key_index-requires g c =
    let due = ap (λ s. counts_due c.args.keys.now c.args.count.now (record { schema = s; rows = [] })) (sym c.schema.ensures.value) ∙ sym c.in_ok-check_counts.ensures in
    let able = countable (table_of c.args.base) c.args.keys.now c.args.count.now due in
    record { named = able.present; plain = able.plain }

pub counted_schema-requires : goal.counted_schema-requires
counted_schema-requires g c =
    let due = ap (λ s. counts_due c.args.keys.now c.args.count.now (record { schema = s; rows = [] })) (sym c.schema.ensures.value) ∙ sym c.in_ok-check_counts.ensures in
    record { some = c.requires.some; due = ap (λ s. counts_due c.args.keys.now c.args.count.now (record { schema = s; rows = [] })) c.schema-2.ensures.value ∙ due }

pub counted_rows-requires : goal.counted_rows-requires
counted_rows-requires g c =
    let long = ap (λ (rows : List (List Datum)). length rows) c.in_ok-index.ensures in
    let own = length-map c.args.base.rows (values_of c.args.base.schema (once c.args.keys.now)) in
    let few = c.size-size.ensures.whole.few in
    omega arith

pub held-requires : goal.held-requires
held-requires g c =
    let due = ap (λ s. counts_due c.args.keys.now c.args.count.now (record { schema = s; rows = [] })) (sym c.schema.ensures.value) ∙ sym c.in_ok-check_counts.ensures in
    let last : Attribute = record { name = c.args.count.now; domain = Domain.integer } in
    let schema = c.in_ok-schema.ensures ∙ ap (λ s. properties_of s (once c.args.keys.now) ++ last ∷ []) c.schema-2.ensures.value in
    let rows = c.in_ok-rows.ensures ∙ ap counted_keys c.in_ok-index.ensures in
    let whole = counted_whole (table_of c.args.base) c.args.keys.now c.args.count.now c.size-size.ensures.whole (countable (table_of c.args.base) c.args.keys.now c.args.count.now due).present in
    subst (λ rs. AreRowsOf rs c.in_ok-schema.schema) (sym rows) (subst (AreRowsOf (counted_keys (map (values_of c.args.base.schema (once c.args.keys.now)) c.args.base.rows))) (sym schema) whole)

pub returns : goal.returns
returns g c =
    let due = ap (λ s. counts_due c.args.keys.now c.args.count.now (record { schema = s; rows = [] })) (sym c.schema.ensures.value) ∙ sym c.in_ok-check_counts.ensures in
    let last : Attribute = record { name = c.args.count.now; domain = Domain.integer } in
    let schema = c.in_ok-schema.ensures ∙ ap (λ s. properties_of s (once c.args.keys.now) ++ last ∷ []) c.schema-2.ensures.value in
    let rows = c.in_ok-rows.ensures ∙ ap counted_keys c.in_ok-index.ensures in
    record {
      due = done_due (counts_due c.args.keys.now c.args.count.now (table_of c.args.base)) c.in_ok-held.field-0 due;
      ok = c.in_ok-held.ensures
          ∙ counted_table (table_of c.args.base) c.args.keys.now c.args.count.now c.in_ok-schema.schema c.in_ok-rows.rows c.size-size.ensures.whole
          (countable (table_of c.args.base) c.args.keys.now c.args.count.now due).plain schema rows;
    }
