use Rattle.std.proofs.Common.{◌≡◌, ◌≤◌, ◌<◌, ◌-◌, length, take, drop, IfOk, ◌∙◌, ap, subst, get_or}
use Rattle.std.proofs.lemmas.Result.{IfOk-weaker}
use Rattle.host_io.specs.Disk.{DiskState, IsImage, IsSound, settled}
use Rattle.host_io.specs.Memory.{History, IsLeft, moment_after}
use Rattle.host_io.specs.Log.{WritesFit, AreLater, disk_at}
use Rattle.host_io.specs.declared.entry.Entry.{Entry}
use Rattle.host_io.proofs.Images.{IsSound-settled, IsSettled-settled}
use Rattle.host_io.proofs.Crashes.{WritesFit-take, IsSound-disk_at, IsImage-left, disk_after_calls}
use Rattle.host_io.proofs.log.Log.crash.Goals as goal

pub crash_image-requires : goal.crash_image-requires
crash_image-requires c =
    let log = c.self.inside in
    rw (c.deref-2.ensures.value, c.deref-3.ensures.value, c.deref-4.ensures.value) (WritesFit-take log.all.items (settled log.image.items) log.entries.items c.count_within-count.result c.self.invariant.writes)

-- the disk after the entries that came in time is that of the moment
stands : (c : goal.After-crash_image) → disk_at c.deref-4.result.now (settled c.deref-3.result.now) (take c.count_within-count.result c.deref-2.result.now) ≡ (moment_after c.args.after c.args.self.now.trail).disk
stands c =
    let log = c.self.inside in
    let count = c.count_within-count.result in
    let within : count ≤ length log.entries.items = rw c.deref.ensures.value at c.count_within-count.ensures.within in
    let later : AreLater c.args.after (drop count log.entries.items) = rw c.deref.ensures.value at c.count_within-count.ensures.later in
    let newest : 0 < count → (e : Entry) → (get_or log.entries.items (count - 1) e).calls ≤ c.args.after = rw c.deref.ensures.value at c.count_within-count.ensures.newest in
    rw (c.deref-2.ensures.value, c.deref-3.ensures.value, c.deref-4.ensures.value)
    (disk_after_calls c.args.after count log.image.items log.all.items log.said.items log.entries.items within later newest
    ∙ ap (λ (h : History). (moment_after c.args.after h.trail).disk) c.self.view_is)

pub returns-clause-left : goal.returns-clause-left
returns-clause-left c =
    subst (λ (d : DiskState). IfOk c.crash_image.result (λ image. IsLeft c.args.choice d image.items)) (stands c) c.crash_image.ensures

pub returns-clause-possible : goal.returns-clause-possible
returns-clause-possible c =
    let disk = (moment_after c.args.after c.args.self.now.trail).disk in
    let start = settled c.deref-3.result.now in
    let entries = take c.count_within-count.result c.deref-2.result.now in
    let log = c.self.inside in
    let fit : WritesFit c.deref-4.result.now start entries =
    rw (c.deref-2.ensures.value, c.deref-3.ensures.value, c.deref-4.ensures.value) (WritesFit-take log.all.items (settled log.image.items) log.entries.items c.count_within-count.result c.self.invariant.writes) in
    let sound : IsSound disk = subst IsSound (stands c) (IsSound-disk_at c.deref-4.result.now start entries fit (IsSound-settled start (IsSettled-settled c.deref-3.result.now))) in
    IfOk-weaker c.crash_image.result (λ image. IsLeft c.args.choice disk image.items) (λ image. IsImage disk image.items)
    (λ image left. IsImage-left c.args.choice disk image.items sound left)
    (returns-clause-left c)
