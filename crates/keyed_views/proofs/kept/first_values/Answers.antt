use Rattle.std.proofs.Common.{◌++◌, ◌∷◌, [], List, get_or, length, pos, ap, sym, ◌∙◌, arith}
use Rattle.std.proofs.lemmas.List.{get_or-map, length-map, take_more}
use Rattle.mk_value.specs.Data.{Datum, integer}
use Rattle.mk_value.specs.Values.{datum_of}
use Rattle.keyed_views.proofs.kept.first_values.Goals as goal

pub loop-at-preserved : goal.loop-at-preserved
loop-at-preserved c =
    let row = c.args.row.now in
    let values = c.as_slice-values.result.now in
    let at = c.loop-at.at in
    let few = c.requires in
    let t = c.loop-at-test.true in
    let long = length-map values datum_of in
    let same = ap length c.as_slice-values.ensures in
    c.in_ok-push.ensures.ok
    ∙ ap (λ (d : Datum). c.loop-at.key ++ d ∷ []) (c.in_ok-copy.ensures ∙ ap datum_of c.index-values-at.is ∙ sym (get_or-map datum_of values at c.index-values-at.result (integer (pos 0)) (omega arith)) ∙ ap (λ ds. get_or ds at (integer (pos 0))) c.as_slice-values.ensures)
    ∙ ap (λ (ds : List Datum). ds ++ get_or row at (integer (pos 0)) ∷ []) c.loop-at.invariant
    ∙ sym (take_more row at (integer (pos 0)) (omega arith))
