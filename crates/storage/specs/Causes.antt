-- Why a commit is not made, by why it is not planned.
use Rattle.commit_plan.specs.declared.error.PlanError.{PlanError as Unplanned}
use Rattle.commit_plan.specs.declared.error.PlanError.TheVariants as unplanned
use Rattle.storage.specs.declared.error.PlanError.{PlanError}
use Rattle.storage.specs.declared.error.PlanError.TheVariants.{LastNumber, Full, Memory}

abbrev pub cause_of_plan : Unplanned → PlanError
cause_of_plan unplanned.LastNumber = LastNumber
cause_of_plan (unplanned.Full end cap) = Full end cap
cause_of_plan unplanned.Memory = Memory
