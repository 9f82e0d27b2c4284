use Rattle.std.proofs.Common.{◌++◌, ◌∷◌, [], List, length, get_or, pos, ap, sym, ◌∙◌, arith}
use Rattle.std.proofs.lemmas.List.{take_more, take_all}
use Rattle.mk_value.specs.Data.{Datum, integer}
use Rattle.mk_value.specs.Heading.{Attribute}
use Rattle.mk_value.proofs.Cells.{row_length}
use Rattle.relations.proofs.copies.copy_row.Goals as goal

pub loop-col-preserved : goal.loop-col-preserved
loop-col-preserved g c =
    let row = get_or (g.T.TableRead.rows c.args.table.now) c.args.row [] in
    let long = row_length (g.T.TableRead.rows c.args.table.now) (g.T.TableRead.schema c.args.table.now) c.args.row c.size-size.ensures.whole c.requires in
    let width = c.len-col-end.ensures.value in
    let schema = ap (λ (s : List Attribute). length s) c.schema.ensures.value in
    let t = c.loop-col-test.true in
    c.in_ok-push.ensures.ok ∙ ap (λ (d : Datum). c.loop-col.copy ++ d ∷ []) c.in_ok-get.ensures ∙ ap (λ (ds : List Datum). ds ++ get_or row c.loop-col.col (integer (pos 0)) ∷ []) c.loop-col.invariant
    ∙ sym (take_more row c.loop-col.col (integer (pos 0)) (omega arith))

pub returns : goal.returns
returns g c =
    let row = get_or (g.T.TableRead.rows c.args.table.now) c.args.row [] in
    let long = row_length (g.T.TableRead.rows c.args.table.now) (g.T.TableRead.schema c.args.table.now) c.args.row c.size-size.ensures.whole c.requires in
    let width = c.len-col-end.ensures.value in
    let schema = ap (λ (s : List Attribute). length s) c.schema.ensures.value in
    let t = c.loop-col-test.false in
    c.loop-col.invariant ∙ take_all c.loop-col.col row (omega arith)
