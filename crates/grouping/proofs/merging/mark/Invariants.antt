use Rattle.std.proofs.Common.{◌≡◌, take}
use Rattle.grouping.specs.Marks.{marked}
use Rattle.grouping.proofs.merging.mark.Given as goal

abbrev pub invariant-loop-place : goal.invariant-loop-place
invariant-loop-place l = l.marks ≡ marked (take l.place-index l.places) l.value l.initial.marks
