use Rattle.std.proofs.Common.{take, drop, arith}
use Rattle.std.proofs.lemmas.Bool.{OnTrue_from, eqb-true}
use Rattle.std.proofs.lemmas.List.{length-take-le, length-drop}
use Rattle.bytes_col.proofs.Orders.{same_lanes}
use Rattle.bytes_col.proofs.order.block_is_same.Goals as goal

pub returns : goal.returns
returns c =
    let xs = take 32 (drop c.args.at c.args.a.now) in
    let ys = take 32 (drop c.args.at c.args.b.now) in
    OnTrue_from _ _
    (λ is. same_lanes xs ys
    (length-take-le 32 (drop c.args.at c.args.a.now) (omega (arith, c.requires.within, length-drop c.args.at c.args.a.now)))
    (length-take-le 32 (drop c.args.at c.args.b.now) (omega (arith, c.requires.within_too, length-drop c.args.at c.args.b.now)))
    (eqb-true _ _ is))
