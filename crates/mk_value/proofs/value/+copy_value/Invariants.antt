use Rattle.std.proofs.Common.{◌≡◌, take, map}
use Rattle.mk_value.specs.Values.{datum_of}
use Rattle.mk_value.proofs.value.+copy_value.Given as goal

abbrev pub invariant-Row::copy-loop-value : goal.invariant-Row::copy-loop-value
invariant-Row::copy-loop-value l = l.copy ≡ map datum_of (take l.value-index l.value-items)

abbrev pub invariant-Rows::copy-loop-row : goal.invariant-Rows::copy-loop-row
invariant-Rows::copy-loop-row l = l.copy ≡ take l.row-index l.row-items
