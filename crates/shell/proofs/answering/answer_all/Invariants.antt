use Rattle.std.proofs.Common.{◌≡◌, length}
use Rattle.lines.specs.Crash.{IsReady}
use Rattle.lines.specs.Rooms.{IsClear}
use Rattle.lines.specs.Served.{state_of}
use Rattle.shell.specs.Sampled.{IsLineRoom}
use Rattle.shell.proofs.InSilence.{Reaches}
use Rattle.shell.proofs.answering.answer_all.Given as goal

abbrev pub invariant-lines : goal.invariant-lines
invariant-lines g l = record {
  line : IsLineRoom l.line;
  clear : IsClear l.out;
  ready : g.H.Disk.tells → IsReady (g.S.Session.machine l.context) (state_of l.session (g.H.Disk.outside l.host));
  so_far : g.H.Disk.tells
      → Reaches (g.S.Session.machine l.context) l.initial.session (g.H.Disk.outside l.initial.host) l.session (g.H.Disk.outside l.host) l.initial.sample l.sample;
  say_faults : (g.H.Disk.outside l.host).say_faults ≡ (g.H.Disk.outside l.initial.host).say_faults;
  source : (g.H.Disk.outside l.host).source ≡ (g.H.Disk.outside l.initial.host).source;
}

abbrev pub decreases-lines : goal.decreases-lines
decreases-lines g l = length l.sample
