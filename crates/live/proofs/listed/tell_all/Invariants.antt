use Rattle.std.proofs.Common.{◌≡◌, take}
use Rattle.live.specs.Telling.{told_by}
use Rattle.live.proofs.listed.tell_all.Given as goal

abbrev pub invariant-loop-watch : goal.invariant-loop-watch
invariant-loop-watch l = record {
  told : l.out.told ≡ told_by (take l.watch-index l.watches);
  spare : l.out.spare ≡ l.fn.out.spare;
}
