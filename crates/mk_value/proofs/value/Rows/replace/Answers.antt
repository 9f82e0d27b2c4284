use Rattle.std.proofs.Common.{◌≡◌, ap, ◌∙◌, [], length, map, slice_set, slice_index_or, arith}
use Rattle.std.proofs.lemmas.List.{map-set}
use Rattle.mk_value.specs.Values.{datum_of}
use Rattle.mk_value.proofs.Walks.{same_default}
use Rattle.mk_value.proofs.value.Rows.replace.Goals as goal

pub returns-clause-new : goal.returns-clause-new
returns-clause-new c =
    let rows = c.args.self.now in
    let within = ap length c.self.view_is in
    let row : map datum_of c.row.inside.cells.items ≡ slice_index_or rows c.args.row [] =
    c.row.view_is ∙ c.index_mut-row.ensures.value ∙ same_default c.self.inside.items.items c.args.row c.index_mut-row.result.now [] (omega arith)
    ∙ ap (λ rs. slice_index_or rs c.args.row []) c.self.view_is in
    ap (λ cells. slice_set c.self.inside.items.items c.args.row cells)
    (map-set datum_of c.row.inside.cells.items c.args.col c.replace.new.dest
    ∙ ap (λ v. slice_set (map datum_of c.row.inside.cells.items) c.args.col (datum_of v)) c.replace.ensures.after
    ∙ ap (λ cells. slice_set cells c.args.col (datum_of c.args.value)) row)
    ∙ ap (λ rs. slice_set rs c.args.row (slice_set (slice_index_or rows c.args.row []) c.args.col (datum_of c.args.value))) c.self.view_is
