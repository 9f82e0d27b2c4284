use Rattle.std.proofs.Common.{take, drop}
use Rattle.host_io.specs.Disk.{settled}
use Rattle.host_io.specs.Log.{disk_at, WritesFit, IsRedone}
use Rattle.host_io.proofs.crash.crash_image.Given as goal

-- the entries so far are redone, and the rest fits behind them
abbrev pub invariant-loop-entry : goal.invariant-loop-entry
invariant-loop-entry l =
    IsRedone l.choice (disk_at l.all (settled l.first) (take l.entry-index l.entries)) l.seen.items l.image.items
    × WritesFit l.all (disk_at l.all (settled l.first) (take l.entry-index l.entries)) (drop l.entry-index l.entries)
