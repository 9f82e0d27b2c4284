use Rattle.std.proofs.Common.{◌≡◌, map, take}
use Rattle.std.specs.List.{flat_map}
use Rattle.mk_value.specs.Literals.{row_text}
use Rattle.questions.proofs.Printed.{line}
use Rattle.questions.proofs.rows.print_rows.Given as goal

-- the lines so far are those of the rows so far
abbrev pub invariant-loop-at : goal.invariant-loop-at
invariant-loop-at l = l.lines.bytes ≡ flat_map line (take l.at (map row_text l.table.rows))
