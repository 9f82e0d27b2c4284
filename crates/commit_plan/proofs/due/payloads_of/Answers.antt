use Rattle.std.proofs.Common.{◌∙◌, ap}
use Rattle.std.specs.List.{flat_map}
use Rattle.std.proofs.lemmas.List.{take_all}
use Rattle.commit_plan.specs.Leaves.{due_in}
use Rattle.commit_plan.proofs.due.payloads_of.Goals as goal

pub returns : goal.returns
returns c =
    c.leaves.invariant ∙ ap (flat_map due_in) (take_all c.leaves.leaf-index c.as_slice-leaf-items.result.now c.leaves-test.false ∙ c.as_slice-leaf-items.ensures.value)
    ∙ c.in_ok-leaves.ensures.due
