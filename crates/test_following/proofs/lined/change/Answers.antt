use Rattle.std.proofs.Common.{◌<◌, ◌++◌, ◌∷◌, List, length, take, drop, ap, ◌∙◌, arith}
use Rattle.mk_value.specs.Data.{Datum}
use Rattle.test_following.proofs.Lining.{changed}
use Rattle.test_following.proofs.lined.change.Goals as goal

pub returns-clause-rows : goal.returns-clause-rows
returns-clause-rows c =
    let rows = c.args.rows.now in
    let at = c.args.at in
    let row = c.args.row.now in
    let within : at < length rows = omega (arith, c.if-at-len.false, c.len.ensures) in
    c.in_ok-insert.ensures.ok ∙ ap (λ (ys : List (List Datum)). take at ys ++ (row ∷ drop at ys)) c.remove.ensures ∙ changed rows at row within
