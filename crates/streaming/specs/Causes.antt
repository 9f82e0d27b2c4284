-- Why no store was made of an input, by why its stream was not read, and by why no commit was planned.
use Rattle.storage.specs.declared.error.PlanError.{PlanError}
use Rattle.storage.specs.declared.error.PlanError.TheVariants as plan_error
use Rattle.stream_codec.specs.declared.error.LoadError.{LoadError}
use Rattle.stream_codec.specs.declared.error.LoadError.TheVariants as load_error
use Rattle.streaming.specs.declared.error.LoadFault.{LoadFault}
use Rattle.streaming.specs.declared.error.LoadFault.TheVariants.{BadStream, Full, Memory}

abbrev pub fault_of_stream : LoadError → LoadFault
fault_of_stream (load_error.At place) = BadStream place
fault_of_stream load_error.Memory = Memory

-- the refusals of a first commit: the store is not only read, and has not the last number
abbrev pub IsOfNewStore : PlanError → Type 0
IsOfNewStore plan_error.ReadOnly = ⊥
IsOfNewStore plan_error.LastNumber = ⊥
IsOfNewStore (plan_error.Full end cap) = Unit {0}
IsOfNewStore plan_error.Memory = Unit {0}

abbrev pub fault_of_plan : PlanError → LoadFault
fault_of_plan (plan_error.Full end cap) = Full end cap
fault_of_plan _ = Memory
