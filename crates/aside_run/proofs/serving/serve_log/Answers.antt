-- The host is given back as the aside disk left it.
use Rattle.std.proofs.Common.{◌≡◌, ◌∙◌, ℕ, ap, map, subst, sym}
use Rattle.host_io.specs.Outside.{Outside, moment}
use Rattle.aside_disk.specs.Logical.{entries_of}
use Rattle.aside_disk.specs.Records.{applied}
use Rattle.aside_disk.specs.Shown.{Seen, shown, source_of}
use Rattle.host_io.specs.Calls.{Rose}
use Rattle.std.specs.Prelude.{◌⊎◌}
use Rattle.shell.specs.Ran.{RanServing}
use Rattle.aside_run.specs.Steps.{ServesLog, WearsOut}
use Rattle.aside_run.proofs.Ended.{fault_under, serves_log, shown_first}
use Rattle.aside_run.proofs.serving.serve_log.Goals as goal

pub returns-clause-served : goal.returns-clause-served
returns-clause-served g c = λ tells.
    let served = c.serve_shown-status.ensures in
    let begun = c.over-aside.ensures in
    let name = sym begun.same_reference ∙ sym served.same_reference ∙ sym c.into_disk-host.ensures.same_reference in
    let value = c.host-1.given.1 name ∙ c.into_disk-host.ensures.same in
    let source = served.same_source ∙ ap (λ (s : Seen). s.source) begun.begins
    ∙ ap (λ (k : ℕ). source_of k (moment (g.H.Disk.outside c.args.host.now)) 0 c.args.base.number c.args.base.bytes.bytes) (sym begun.same_reference ∙ sym served.same_reference) in
    subst (λ (d : g.row.H.Denot). ServesLog (map g.V.Viewer.meaning c.args.viewers.now) c.args.job.now.mode c.args.job.now.cap c.serve_shown-status.result c.args.base.bytes.bytes c.args.base.number
    (applied c.args.base.bytes.bytes (entries_of (g.H.Disk.outside c.args.host.now).now.disk.seen c.args.log.end)) (g.H.Disk.outside c.args.host.now) (g.H.Disk.outside d)) (sym value)
    (serves_log (map g.V.Viewer.meaning c.args.viewers.now) c.args.job.now.mode c.args.job.now.cap c.serve_shown-status.result _ c.args.base.number c.args.log.end c.args.base.bytes.bytes (g.H.Disk.outside c.args.host.now)
    (g.H.Disk.outside c.serve_shown-status.new.aside.0.now) c.serve_shown-status.new.aside.0.ghost_name c.serve_shown-status.new.aside.1.0 c.serve_shown-status.new.aside.1.1 served.over source tells
    (shown_first (λ (o : Outside). RanServing (map g.V.Viewer.meaning c.args.viewers.now) c.args.job.now.mode c.args.job.now.cap c.serve_shown-status.result o
    (shown (g.H.Disk.outside c.serve_shown-status.new.aside.0.now) c.serve_shown-status.new.aside.1.0 c.serve_shown-status.new.aside.1.1))
    (g.H.Disk.outside c.over-aside.result.0.now) (g.H.Disk.outside c.args.host.now) c.over-aside.result.1.0 c.over-aside.result.1.1 _ c.args.base.number c.args.log.end c.args.base.bytes.bytes
    (ap (λ (d : g.row.H.Denot). g.H.Disk.outside d) begun.same) begun.begins begun.no_fault (served.ran tells)))

pub returns-clause-disk_fault : goal.returns-clause-disk_fault
returns-clause-disk_fault g c = λ is faults low.
    let served = c.serve_shown-status.ensures in
    let begun = c.over-aside.ensures in
    let name = sym begun.same_reference ∙ sym served.same_reference ∙ sym c.into_disk-host.ensures.same_reference in
    let value = c.host-1.given.1 name ∙ c.into_disk-host.ensures.same in
    let source = served.same_source ∙ ap (λ (s : Seen). s.source) begun.begins
    ∙ ap (λ (k : ℕ). source_of k (moment (g.H.Disk.outside c.args.host.now)) 0 c.args.base.number c.args.base.bytes.bytes) (sym begun.same_reference ∙ sym served.same_reference) in
    subst (λ (d : g.row.H.Denot). Rose faults (g.H.Disk.outside d).disk_faults ⊎ WearsOut g.H.Disk.tells faults c.args.base.bytes.bytes (g.H.Disk.outside d).now.disk.seen) (sym value)
    (fault_under c.serve_shown-status.new.aside.0.ghost_name (moment (g.H.Disk.outside c.args.host.now)) c.args.base.number c.args.base.bytes.bytes
    (g.H.Disk.outside c.serve_shown-status.new.aside.0.now) c.serve_shown-status.new.aside.1.0 c.serve_shown-status.new.aside.1.1 served.over source faults (g.H.Disk.outside c.args.host.now) c.over-aside.result.1.0 low
    (shown_first (λ (o : Outside). Rose o.disk_faults (shown (g.H.Disk.outside c.serve_shown-status.new.aside.0.now) c.serve_shown-status.new.aside.1.0 c.serve_shown-status.new.aside.1.1).disk_faults)
    (g.H.Disk.outside c.over-aside.result.0.now) (g.H.Disk.outside c.args.host.now) c.over-aside.result.1.0 c.over-aside.result.1.1 _ c.args.base.number c.args.log.end c.args.base.bytes.bytes
    (ap (λ (d : g.row.H.Denot). g.H.Disk.outside d) begun.same) begun.begins begun.no_fault (served.disk_fault is)))
