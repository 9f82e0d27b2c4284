use Rattle.std.proofs.Common.{◌≡◌, take}
use Rattle.mk_value.specs.Values.{datum_of}
use Rattle.keyed_views.specs.Mapped.{row_with}
use Rattle.keyed_views.proofs.kept.key_with.Given as goal

abbrev pub invariant-loop-col : goal.invariant-loop-col
invariant-loop-col g l = l.key ≡ take l.col (row_with (g.T.TableRead.schema l.table) (g.T.TableRead.rows l.table) l.place l.prop (datum_of l.value))
