use Rattle.std.proofs.Common.{refl, ◌∙◌, subst, sym}
use Rattle.stream_codec.specs.declared.stage.Stage.{Stage}
use Rattle.stream_codec.specs.declared.stage.Stage.TheVariants.{Views}
use Rattle.stream_codec.specs.RowsInPlace.{EndsRow, MayEndRow}
use Rattle.stream_codec.proofs.Names.{with_view_new}
use Rattle.stream_codec.proofs.RowStages.{ended_new, ended_short}
use Rattle.stream_codec.proofs.stage.end_row.Goals as goal

pub put_view-requires-clause-short : goal.put_view-requires-clause-short
put_view-requires-clause-short c =
    let may = subst (λ (s : Stage). MayEndRow c.args.root.now s) (sym c.in-Rows.ensures.value) c.requires in
    let settled = rw c.in-Whole.is at c.in_ok-view.ensures in
    ended_short c.args.root.now c.in-Rows.left c.in-Rows.view c.in-Whole.name c.in-Whole.table may settled.0 c.len-rows.ensures.whole.schema

pub returns-in_ok-put_view-in-Whole : goal.returns-in_ok-put_view-in-Whole
returns-in_ok-put_view-in-Whole c =
    let views = c.args.root.now in
    let name = c.in-Whole.name in
    let table = c.in-Whole.table in
    let may = subst (λ (s : Stage). MayEndRow views s) (sym c.in-Rows.ensures.value) c.requires in
    let settled = rw c.in-Whole.is at c.in_ok-view.ensures in
    let new = ended_new views c.in-Rows.left c.in-Rows.view name table may settled.0 in
    subst (λ (s : Stage). EndsRow views s c.put_view.new.self (Views c.in-Rows.left)) c.in-Rows.ensures.value
    (name, table, settled.0, record { homeless = settled.1; put = c.in_ok-put_view-in-Whole.ensures.ok ∙ with_view_new views name table new }, refl)
