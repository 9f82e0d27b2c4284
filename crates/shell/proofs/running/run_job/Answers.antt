use Rattle.std.proofs.Common.{map, sym, subst}
use Rattle.command_line.specs.declared.job.Task.{Task}
use Rattle.shell.specs.Ran.{IsWritten, RanAs}
use Rattle.shell.proofs.After.{lacks_memory, not_attached, ran_checking_after, ran_sampling_after, ran_saving_after, ran_serving_after}
use Rattle.shell.proofs.Loaded.{ran_loading_after}
use Rattle.shell.proofs.Saying.{silent_look, silent_none}
use Rattle.shell.proofs.running.run_job.Goals as goal

pub returns-in-Serve-clause-ran : goal.returns-in-Serve-clause-ran
returns-in-Serve-clause-ran g c = λ tells.
    let old = g.H.Disk.outside c.args.host.now in
    let new = g.H.Disk.outside c.serve_file.new.host in
    subst (λ (t : Task). RanAs (map g.V.Viewer.meaning c.args.viewers.now) t c.args.job.now.mode c.args.job.now.cap c.serve_file.result old new) (sym c.in-Serve.is)
    (ran_serving_after (map g.V.Viewer.meaning c.args.viewers.now) c.args.job.now.mode c.args.job.now.cap c.serve_file.result old (g.H.Disk.outside c.attach.new.host) new (silent_look old (g.H.Disk.outside c.attach.new.host) (c.attach.ensures.same tells) c.attach.ensures.counts) (c.serve_file.ensures.ran tells))

pub returns-in-Check-clause-ran : goal.returns-in-Check-clause-ran
returns-in-Check-clause-ran g c = λ tells.
    let old = g.H.Disk.outside c.args.host.now in
    let new = g.H.Disk.outside c.check_file.new.host in
    subst (λ (t : Task). RanAs (map g.V.Viewer.meaning c.args.viewers.now) t c.args.job.now.mode c.args.job.now.cap c.check_file.result old new) (sym c.in-Check.is)
    (ran_checking_after c.check_file.result old (g.H.Disk.outside c.attach.new.host) new (silent_look old (g.H.Disk.outside c.attach.new.host) (c.attach.ensures.same tells) c.attach.ensures.counts) (c.check_file.ensures.ran tells))

pub sample_file-requires-clause-writes : goal.sample_file-requires-clause-writes
sample_file-requires-clause-writes g c = subst (λ (t : Task). IsWritten t c.args.job.now.mode) c.in-Sample.is c.requires.written

pub returns-in-Sample-clause-ran : goal.returns-in-Sample-clause-ran
returns-in-Sample-clause-ran g c = λ tells.
    let old = g.H.Disk.outside c.args.host.now in
    let new = g.H.Disk.outside c.sample_file.new.host in
    let viewers = map g.V.Viewer.meaning c.args.viewers.now in
    subst (λ (t : Task). RanAs viewers t c.args.job.now.mode c.args.job.now.cap c.sample_file.result old new) (sym c.in-Sample.is)
    (ran_sampling_after old (g.H.Disk.outside c.attach.new.host) new (silent_look old (g.H.Disk.outside c.attach.new.host) (c.attach.ensures.same tells) c.attach.ensures.counts) viewers c.in-Sample.number c.in-Sample.count c.args.job.now.mode c.args.job.now.cap c.sample_file.result
    (c.sample_file.ensures.ran tells))

pub returns-in-Save-clause-ran : goal.returns-in-Save-clause-ran
returns-in-Save-clause-ran g c = λ tells.
    let old = g.H.Disk.outside c.args.host.now in
    let new = g.H.Disk.outside c.save_file.new.host in
    subst (λ (t : Task). RanAs (map g.V.Viewer.meaning c.args.viewers.now) t c.args.job.now.mode c.args.job.now.cap c.save_file.result old new) (sym c.in-Save.is)
    (ran_saving_after c.save_file.result old (g.H.Disk.outside c.attach.new.host) new (silent_look old (g.H.Disk.outside c.attach.new.host) (c.attach.ensures.same tells) c.attach.ensures.counts) (c.save_file.ensures.ran tells))

pub returns-clause-ran : goal.returns-clause-ran
returns-clause-ran g c = λ tells.
    let old = g.H.Disk.outside c.args.host.now in
    let new = g.H.Disk.outside c.load_file.new.host in
    subst (λ (t : Task). RanAs (map g.V.Viewer.meaning c.args.viewers.now) t c.args.job.now.mode c.args.job.now.cap c.load_file.result old new) (sym c.in-Load.is)
    (ran_loading_after old (g.H.Disk.outside c.attach.new.host) new (silent_look old (g.H.Disk.outside c.attach.new.host) (c.attach.ensures.same tells) c.attach.ensures.counts) c.args.job.now.cap c.load_file.result (c.load_file.ensures.ran tells))

pub returns-in_default-clause-ran : goal.returns-in_default-clause-ran
returns-in_default-clause-ran g c = λ tells.
    let old = g.H.Disk.outside c.args.host.now in
    lacks_memory (map g.V.Viewer.meaning c.args.viewers.now) c.args.job.now.task c.args.job.now.mode c.args.job.now.cap old old (silent_none old)

pub returns-then-is_err-clause-ran : goal.returns-then-is_err-clause-ran
returns-then-is_err-clause-ran g c = λ tells.
    let old = g.H.Disk.outside c.args.host.now in
    let new = g.H.Disk.outside c.attach.new.host in
    not_attached (map g.V.Viewer.meaning c.args.viewers.now) c.args.job.now.task c.args.job.now.mode c.args.job.now.cap old new (silent_look old new (c.attach.ensures.same tells) c.attach.ensures.counts)
