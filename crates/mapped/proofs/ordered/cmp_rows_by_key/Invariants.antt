use Rattle.std.proofs.Common.{◌≡◌, [], drop, take, get_or}
use Rattle.mapped.specs.Keys.{key_cmp}
use Rattle.mapped.proofs.ordered.cmp_rows_by_key.Given as goal

abbrev pub invariant-loop-col : goal.invariant-loop-col
invariant-loop-col g l =
    let rows = g.T.TableRead.rows l.rows in
    key_cmp (take l.keys (get_or rows l.a [])) (take l.keys (get_or rows l.b []))
    ≡ key_cmp (drop l.col (take l.keys (get_or rows l.a []))) (drop l.col (take l.keys (get_or rows l.b [])))
