use Rattle.std.proofs.Common.{◌≡◌, map, take, All}
use Rattle.std.specs.Prelude.{FitsSigned}
use Rattle.std.specs.Int.{w64}
use Rattle.viewed.specs.Asking.{answered, asked}
use Rattle.viewed.proofs.calculated.answered_rows.Given as goal

abbrev pub invariant-loop-row : goal.invariant-loop-row
invariant-loop-row g l =
    (l.rows ≡ map (answered (g.V.Viewer.meaning l.viewer).gives l.columns) (take l.row (g.T.TableRead.rows l.table)))
    × All (λ row. FitsSigned w64 (asked (g.V.Viewer.meaning l.viewer).gives l.columns row)) (take l.row (g.T.TableRead.rows l.table))
