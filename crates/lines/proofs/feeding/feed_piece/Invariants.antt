use Rattle.std.proofs.Common.{◌≡◌, ℕ, ◌+◌, ◌-◌, ◌≤◌, length, drop}
use Rattle.host_io.specs.Outside.{Outside}
use Rattle.lines.specs.Crash.{IsReady}
use Rattle.lines.specs.Rooms.{HasLineRoom, IsClear}
use Rattle.lines.specs.Served.{state_of}
use Rattle.lines.specs.Steps.{SoFar}
use Rattle.lines.proofs.feeding.feed_piece.Given as goal

-- The lines that end before `from` have been answered, and the room holds nothing.
abbrev pub invariant-lines : goal.invariant-lines
invariant-lines g l = record {
  within : l.from ≤ length l.piece;
  room : HasLineRoom l.room;
  clear : IsClear l.out;
  ready : g.H.Disk.tells → IsReady (g.S.Session.machine l.context) (state_of l.session (g.H.Disk.outside l.host));
  so_far : g.H.Disk.tells → (start : g.row.S.Denot) (begin : Outside) (count : ℕ)
      → SoFar (g.S.Session.machine l.context) start begin l.initial.session (g.H.Disk.outside l.initial.host) l.initial.room.bytes l.piece count
      → SoFar (g.S.Session.machine l.context) start begin l.session (g.H.Disk.outside l.host) l.room.bytes (drop l.from l.piece) (count + l.from);
  say_faults : (g.H.Disk.outside l.initial.host).say_faults ≤ (g.H.Disk.outside l.host).say_faults;
  take_faults : (g.H.Disk.outside l.host).take_faults ≡ (g.H.Disk.outside l.initial.host).take_faults;
  disk_faults : (g.H.Disk.outside l.initial.host).disk_faults ≤ (g.H.Disk.outside l.host).disk_faults;
  source : (g.H.Disk.outside l.host).source ≡ (g.H.Disk.outside l.initial.host).source;
}

abbrev pub decreases-lines : goal.decreases-lines
decreases-lines g l = length l.piece - l.from
