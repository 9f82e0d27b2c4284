use Rattle.std.proofs.Common.{◌≡◌, ◌++◌, take}
use Rattle.tables.proofs.pool.push_rows.Given as goal

-- the rows so far stand behind those that were there
abbrev pub invariant-loop-at : goal.invariant-loop-at
invariant-loop-at l = l.rows ≡ l.fn.rows ++ take l.at l.table.rows
