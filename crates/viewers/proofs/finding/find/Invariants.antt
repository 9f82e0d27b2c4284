-- Among the viewers not looked at yet, the same one is the first of the name as among all.
use Rattle.std.proofs.Common.{drop, ◌≡◌, map}
use Rattle.std.specs.Prelude.{find}
use Rattle.mk_value.specs.Names.{same_bytes}
use Rattle.viewers.specs.Meanings.{Meaning}
use Rattle.viewers.proofs.finding.find.Given as goal

abbrev pub invariant-loop-viewer : goal.invariant-loop-viewer
invariant-loop-viewer g l =
    find (λ (m : Meaning). same_bytes m.name l.name) (map g.V.Viewer.meaning (drop l.viewer-index l.viewers))
    ≡ find (λ (m : Meaning). same_bytes m.name l.name) (map g.V.Viewer.meaning l.viewers)
