use Rattle.std.proofs.Common.{◌≡◌, ◌+◌, ◌≤◌, length}
use Rattle.streaming.specs.Taking.{HasTaken}
use Rattle.streaming.proofs.taking.take_stream.Given as goal

-- Each field that was taken whole is right, and the rest of the budget is left.
abbrev pub invariant-taking : goal.invariant-taking
invariant-taking g l = record {
  taken : g.H.Disk.tells → HasTaken l.budget l.left l.loader (g.H.Disk.outside l.initial.host) (g.H.Disk.outside l.host);
  count : length l.loader + l.left ≤ l.budget;
  take_faults : (g.H.Disk.outside l.initial.host).take_faults ≤ (g.H.Disk.outside l.host).take_faults;
  say_faults : (g.H.Disk.outside l.host).say_faults ≡ (g.H.Disk.outside l.initial.host).say_faults;
  disk_faults : (g.H.Disk.outside l.host).disk_faults ≡ (g.H.Disk.outside l.initial.host).disk_faults;
  source : (g.H.Disk.outside l.host).source ≡ (g.H.Disk.outside l.initial.host).source;
}

abbrev pub decreases-taking : goal.decreases-taking
decreases-taking g l = l.left
