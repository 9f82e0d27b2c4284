use Rattle.std.proofs.Common.{◌≡◌, ◌++◌, replicate}
use Rattle.mk_value.proofs.value.push_copies.Given as goal

-- the copies so far stand behind the rows that were there
abbrev pub invariant-loop : goal.invariant-loop
invariant-loop l = l.rows.items ≡ l.fn.rows.items ++ replicate l.counter l.row
