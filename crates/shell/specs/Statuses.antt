-- The status of a run, by how its lines ended, and its number.
use Rattle.std.specs.Prelude.{ℕ}
use Rattle.lines.specs.declared.serving.End.{End}
use Rattle.lines.specs.declared.serving.End.TheVariants.{Done as all_done, TakeFault as take_fault, SayFault as say_fault, TooMuch as too_much}
use Rattle.shell.specs.declared.status.Status.{Status}
use Rattle.shell.specs.declared.status.Status.TheVariants.{Done, Usage, Refused, TakeFault, SayFault, Memory, TooMuch, DiskFault}

abbrev pub status_of : End → Status
status_of all_done = Done
status_of take_fault = TakeFault
status_of say_fault = SayFault
status_of too_much = TooMuch

-- the exit status of the program
abbrev pub code_of : Status → ℕ
code_of Done = 0
code_of Usage = 2
code_of Refused = 3
code_of TakeFault = 4
code_of SayFault = 5
code_of Memory = 6
code_of TooMuch = 7
code_of DiskFault = 8
