use Rattle.std.proofs.Common.{◌-◌, length}
use Rattle.lines.proofs.Uttering.{SaidFront, CountsNone}
use Rattle.lines.proofs.saying.say_all.Given as goal

abbrev pub invariant-saying : goal.invariant-saying
invariant-saying g l = record {
  front : g.H.Disk.tells → SaidFront l.bytes l.said (g.H.Disk.outside l.initial.host) (g.H.Disk.outside l.host);
  none : CountsNone (g.H.Disk.outside l.initial.host) (g.H.Disk.outside l.host);
}

abbrev pub decreases-saying : goal.decreases-saying
decreases-saying g l = length l.bytes - l.said
