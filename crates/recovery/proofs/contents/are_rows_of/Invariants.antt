use Rattle.std.proofs.Common.{◌≡◌, map, take}
use Rattle.recovery.proofs.contents.are_rows_of.Given as goal

abbrev pub invariant-loop-at : goal.invariant-loop-at
invariant-loop-at l = take l.at (map (λ m. m.row) l.memos) ≡ take l.at l.rows
