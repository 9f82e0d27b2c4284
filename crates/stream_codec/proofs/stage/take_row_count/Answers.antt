use Rattle.std.proofs.Common.{refl, ◌∙◌, ap, subst, arith}
use Rattle.std.proofs.lemmas.Result.{err_from_is_err_and}
use Rattle.mk_value.specs.Heading.{IsHeading}
use Rattle.tables.specs.Tables.{StoredTable}
use Rattle.view_store.specs.Views.{with_view}
use Rattle.stream_codec.proofs.Names.{with_view_new}
use Rattle.stream_codec.proofs.Stages.{no_rows_pass, row_count_refused, rows_pass, short_structure}
use Rattle.stream_codec.proofs.stage.take_row_count.Goals as goal

pub returns-in_err-count-clause-refused : goal.returns-in_err-count-clause-refused
returns-in_err-count-clause-refused c =
    let p = err_from_is_err_and c.from_residual.result c.from_residual.ensures.1 in
    rw (p.1, p.2) (row_count_refused c.args.root.now c.args.name c.args.schema c.args.left c.args.field.now c.args.place _ c.requires.long c.in_err-count.ensures)

pub put_view-requires-clause-short : goal.put_view-requires-clause-short
put_view-requires-clause-short c =
    let short = short_structure c.args.name c.args.schema (subst IsHeading c.schema.view_is c.schema.invariant) c.requires.whole.whole in
    rw c.in_ok-empty_table.ensures short

pub returns-then-count-eq0-clause-taken : goal.returns-then-count-eq0-clause-taken
returns-then-count-eq0-clause-taken c =
    let views = c.args.root.now in
    let name = c.args.name in
    no_rows_pass views _ name c.args.schema c.args.left c.in_ok-count.count c.args.field.now c.requires.long c.in_ok-count.ensures c.if-count-eq0.true c.requires.whole
    (c.in_ok-put_view.ensures.ok ∙ ap (λ (t : StoredTable). with_view views name t) c.in_ok-empty_table.ensures ∙ with_view_new views name _ c.requires.whole.follows.new)

pub returns-clause-taken : goal.returns-clause-taken
returns-clause-taken c =
    rows_pass c.args.root.now c.args.name c.args.schema c.args.left c.in_ok-count.count c.args.field.now _ c.requires.long c.in_ok-count.ensures (omega arith) c.in_ok-table.ensures.some c.requires.whole
    refl c.new.ensures.items c.in_ok-table.ensures.started refl
