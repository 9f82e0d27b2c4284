use Rattle.std.proofs.Common.{◌≡◌, drop}
use Rattle.host_io.specs.Memory.{effect_at}
use Rattle.host_io.proofs.fault.find_effect.Given as goal

-- what is left of the script decides
abbrev pub invariant-loop-fault : goal.invariant-loop-fault
invariant-loop-fault l = effect_at l.call (drop l.fault-index l.script) ≡ effect_at l.call l.script
