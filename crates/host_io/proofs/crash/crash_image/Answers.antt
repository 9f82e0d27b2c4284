use Rattle.std.proofs.Common.{◌≡◌, ◌+◌, length, take, drop, vec_len, sym, subst, arith}
use Rattle.std.proofs.lemmas.Result.{IfOk-at_ok}
use Rattle.host_io.specs.Disk.{DiskState, settled}
use Rattle.host_io.specs.Log.{IsRedone, WritesFit, disk_at}
use Rattle.host_io.proofs.Crashes.{CanRedo-redone, WritesFit-next, disk_at-more, no_entry}
use Rattle.host_io.proofs.crash.crash_image.Goals as goal

pub redo-requires : goal.redo-requires
redo-requires c =
    let i = c.loop-entry.entry-index in
    let all = c.args.all.now in
    let disk = disk_at all (settled c.args.first.now) (take i c.args.entries.now) in
    let next = WritesFit-next all disk c.args.entries.now i no_entry c.loop-entry-test.true c.loop-entry.invariant.1 in
    let seen : vec_len c.loop-entry.seen ≡ length c.loop-entry.seen.items = omega (arith, c.loop-entry.seen.ok.0) in
    let image : vec_len c.loop-entry.image ≡ length c.loop-entry.image.items = omega (arith, c.loop-entry.image.ok.0) in
    rw (seen, image) (CanRedo-redone c.args.choice disk all c.loop-entry.seen.items c.loop-entry.image.items _ c.loop-entry.invariant.0 next.0)

pub loop-entry-preserved : goal.loop-entry-preserved
loop-entry-preserved c =
    let i = c.loop-entry.entry-index in
    let all = c.args.all.now in
    let start = settled c.args.first.now in
    let disk = disk_at all start (take i c.args.entries.now) in
    let next = WritesFit-next all disk c.args.entries.now i no_entry c.loop-entry-test.true c.loop-entry.invariant.1 in
    let redone = c.redo.ensures disk c.loop-entry.invariant.0 next.0 in
    let more = sym (disk_at-more all start c.args.entries.now i no_entry c.loop-entry-test.true) in (
      subst (λ (d : DiskState). IsRedone c.args.choice d c.redo.new.seen.items c.redo.new.image.items) more (IfOk-at_ok (λ _. _) c.in_ok-redo.was redone),
      subst (λ (d : DiskState). WritesFit all d (drop (i + 1) c.args.entries.now)) more next.1,
    )
