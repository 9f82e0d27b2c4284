use Rattle.std.proofs.Common.{◌≡◌, [], get_or}
use Rattle.std.specs.List.{filter}
use Rattle.relations.specs.Positions.{numbers}
use Rattle.viewed.specs.Asking.{is_kept}
use Rattle.viewed.proofs.kept.kept_positions.Given as goal

abbrev pub invariant-loop-row : goal.invariant-loop-row
invariant-loop-row g l = l.positions ≡ filter (λ i. is_kept (g.V.Viewer.meaning l.viewer).gives l.columns (get_or (g.T.TableRead.rows l.table) i [])) (numbers l.row)
