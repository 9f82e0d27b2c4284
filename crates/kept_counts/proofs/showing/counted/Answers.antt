use Rattle.std.proofs.Common.{List, [], ◌++◌, ◌∷◌, map, ap, sym, subst, ◌∙◌}
use Rattle.derived.specs.Grouping.{counts}
use Rattle.mk_value.specs.Data.{AreRowsOf, Datum}
use Rattle.mk_value.specs.Heading.{Attribute, Domain}
use Rattle.mk_value.specs.Tables.{Table}
use Rattle.relations.specs.Columns.{column_of}
use Rattle.relations.specs.Rows.{once, properties_of}
use Rattle.kept_counts.proofs.Keying.{are_keys, columns_within}
use Rattle.kept_counts.proofs.Reordered.{counts_same}
use Rattle.kept_counts.proofs.Tabled.{counted_fit, counted_is}
use Rattle.kept_counts.proofs.showing.counted.Goals as goal

pub counted_rows-requires-clause-columns : goal.counted_rows-requires-clause-columns
counted_rows-requires-clause-columns c =
    let schema = c.args.rows.now.schema in
    let keys = c.args.keys.now in
    let e = c.in_ok-columns.ensures ∙ ap (λ (s : List Attribute). map (column_of s) (once keys)) c.schema.ensures.value in
    columns_within schema keys c.in_ok-columns.columns (are_keys schema keys c.requires.by.keyed).present e

pub held-requires : goal.held-requires
held-requires c =
    let t : Table = record { schema = c.args.rows.now.schema; rows = c.args.rows.now.rows } in
    let keys = c.args.keys.now in
    let count = c.args.count.now in
    let k = are_keys t.schema keys c.requires.by.keyed in
    let e = c.in_ok-columns.ensures ∙ ap (λ (s : List Attribute). map (column_of s) (once keys)) c.schema.ensures.value in
    let rows = c.in_ok-made.ensures ∙ counted_is t keys count c.in_ok-columns.columns c.args.counts.now c.size-size.ensures.whole c.requires.by e in
    let schema = c.in_ok-schema.ensures ∙ ap (λ (s : List Attribute). properties_of s (once keys) ++ record { name = count; domain = Domain.integer } ∷ []) c.schema-2.ensures.value in
    subst (λ (rs : List (List Datum)). AreRowsOf rs c.in_ok-schema.schema) (sym rows) (subst (AreRowsOf (counts keys count t).rows) (sym schema) (counted_fit t keys count c.size-size.ensures.whole k.present k.plain))

pub returns : goal.returns
returns c = λ other moved.
    let t : Table = record { schema = c.args.rows.now.schema; rows = c.args.rows.now.rows } in
    let keys = c.args.keys.now in
    let count = c.args.count.now in
    let e = c.in_ok-columns.ensures ∙ ap (λ (s : List Attribute). map (column_of s) (once keys)) c.schema.ensures.value in
    let rows = c.in_ok-made.ensures ∙ counted_is t keys count c.in_ok-columns.columns c.args.counts.now c.size-size.ensures.whole c.requires.by e in
    let schema = c.in_ok-schema.ensures ∙ ap (λ (s : List Attribute). properties_of s (once keys) ++ record { name = count; domain = Domain.integer } ∷ []) c.schema-2.ensures.value in
    let plain = (are_keys t.schema keys c.requires.by.keyed).plain in
    c.in_ok-held.ensures ∙ (λ i. record { schema = schema i; rows = rows i }) ∙ sym (counts_same keys count t.schema t.rows other c.size-size.ensures.whole plain moved)
