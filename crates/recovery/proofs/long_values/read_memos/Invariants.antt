use Rattle.std.proofs.Common.{◌≡◌, length, map, take}
use Rattle.host_io.specs.Calls.{CountsFaults, Looks}
use Rattle.dir_codec.specs.declared.dir.Memo.{Memo}
use Rattle.recovery.specs.Memos.{memo_bytes}
use Rattle.recovery.proofs.long_values.read_memos.Given as goal

abbrev pub invariant-loop-memo : goal.invariant-loop-memo
invariant-loop-memo g l = record {
  counts : CountsFaults ⊥ (g.D.Disk.outside l.fn.disk) (g.D.Disk.outside l.disk);
  same : g.D.Disk.tells → Looks (g.D.Disk.outside l.fn.disk) (g.D.Disk.outside l.disk);
  count : length l.held ≡ l.memo-index;
  lens : map length l.held ≡ map (λ (m : Memo). m.span.len) (take l.memo-index l.memos);
  bytes : g.D.Disk.tells → l.held ≡ memo_bytes (g.D.Disk.outside l.fn.disk).now.disk.seen (take l.memo-index l.memos);
}
