use Rattle.std.proofs.Common.{◌++◌, ◌∷◌, [], List, get_or, pos, ap, sym, ◌∙◌, arith}
use Rattle.std.proofs.lemmas.List.{take_more}
use Rattle.mk_value.specs.Data.{Datum, integer}
use Rattle.mk_value.proofs.Cells.{row_length}
use Rattle.mapped.proofs.building.key_of_row.Goals as goal

pub loop-col-preserved : goal.loop-col-preserved
loop-col-preserved g c =
    let row = get_or (g.T.TableRead.rows c.args.rows.now) c.args.row [] in
    let long = row_length (g.T.TableRead.rows c.args.rows.now) (g.T.TableRead.schema c.args.rows.now) c.args.row c.size-size.ensures.whole c.requires.row_in in
    let few = c.requires.few in
    let t = c.loop-col-test.true in
    c.in_ok-push.ensures.ok ∙ ap (λ (d : Datum). c.loop-col.key ++ d ∷ []) c.in_ok-get.ensures ∙ ap (λ (ds : List Datum). ds ++ get_or row c.loop-col.col (integer (pos 0)) ∷ []) c.loop-col.invariant
    ∙ sym (take_more row c.loop-col.col (integer (pos 0)) (omega arith))
