use Rattle.std.proofs.Common.{◌≡◌, [], length, drop, take, get_or}
use Rattle.mapped.specs.Keys.{key_cmp, row_to_key}
use Rattle.mapped.proofs.probe.cmp_with_key.Given as goal

abbrev pub invariant-loop-at : goal.invariant-loop-at
invariant-loop-at g l =
    let row = get_or (g.T.TableRead.rows l.rows) l.row [] in
    row_to_key row l.key ≡ key_cmp (drop l.at (take (length l.key) row)) (drop l.at l.key)
