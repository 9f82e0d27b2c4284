-- Among the snapshots not looked at yet, the same one is the first of the name as among all.
use Rattle.std.proofs.Common.{drop, ◌≡◌}
use Rattle.std.specs.Prelude.{find}
use Rattle.mk_value.specs.Names.{same_bytes}
use Rattle.questions.specs.Kept.{Kept}
use Rattle.questions.proofs.known.snapshot_of.Given as goal

abbrev pub invariant-loop-snapshot : goal.invariant-loop-snapshot
invariant-loop-snapshot l =
    find (λ (s : Kept). same_bytes s.name l.name) (drop l.snapshot-index l.snapshots) ≡ find (λ (s : Kept). same_bytes s.name l.name) l.snapshots
