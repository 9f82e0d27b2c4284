use Rattle.std.proofs.Common.{◌≡◌, ℕ, ◌+◌, ◌≤◌, []}
use Rattle.lines.specs.Crash.{IsReady}
use Rattle.lines.specs.Rooms.{HasLineRoom, IsClear}
use Rattle.lines.specs.Served.{state_of}
use Rattle.lines.specs.Steps.{SoFar}
use Rattle.lines.proofs.serving.serve.Given as goal

-- All that was taken has been looked at, and the rest of the budget is left.
abbrev pub invariant-taking : goal.invariant-taking
invariant-taking g l = record {
  within : l.left ≤ l.budget;
  room : HasLineRoom l.room;
  clear : IsClear l.out;
  ready : g.H.Disk.tells → IsReady (g.S.Session.machine l.context) (state_of l.session (g.H.Disk.outside l.host));
  so_far : g.H.Disk.tells → (count : ℕ) → count + l.left ≡ l.budget
      → SoFar (g.S.Session.machine l.context) l.initial.session (g.H.Disk.outside l.initial.host) l.session (g.H.Disk.outside l.host) l.room.bytes [] count;
  take_faults : (g.H.Disk.outside l.initial.host).take_faults ≤ (g.H.Disk.outside l.host).take_faults;
  say_faults : (g.H.Disk.outside l.initial.host).say_faults ≤ (g.H.Disk.outside l.host).say_faults;
  disk_faults : (g.H.Disk.outside l.initial.host).disk_faults ≤ (g.H.Disk.outside l.host).disk_faults;
  source : (g.H.Disk.outside l.host).source ≡ (g.H.Disk.outside l.initial.host).source;
}

abbrev pub decreases-taking : goal.decreases-taking
decreases-taking g l = l.left
