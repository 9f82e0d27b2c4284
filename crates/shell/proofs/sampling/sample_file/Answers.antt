use Rattle.std.proofs.Common.{length, map, ap, sym, subst, arith}
use Rattle.shell.specs.Ran.{RanSampling}
use Rattle.shell.specs.Said.{fault_line}
use Rattle.shell.specs.declared.fault.FileFault.TheVariants.{NotEmpty}
use Rattle.shell.specs.declared.status.Status.{Status}
use Rattle.shell.proofs.After.{ran_sampling_after}
use Rattle.shell.proofs.Saying.{says_only-after, silent_look}
use Rattle.shell.proofs.sampling.sample_file.Goals as goal

pub returns-then-length-gt0-clause-ran : goal.returns-then-length-gt0-clause-ran
returns-then-length-gt0-clause-ran g c = λ tells.
    let old = g.H.Disk.outside c.args.host.now in
    let new = g.H.Disk.outside c.refuse.new.host in
    subst (λ (s : Status). RanSampling (map g.V.Viewer.meaning c.args.viewers.now) c.args.asked.number c.args.asked.edits c.args.asked.mode c.args.asked.cap s old new) (sym c.refuse.ensures.status) (
      (λ none. omega (arith, ap length none, c.in-Ok-len.ensures.length tells, c.if-length-gt0.true)),
      says_only-after (fault_line NotEmpty) old (g.H.Disk.outside c.len.new.self) new (silent_look old (g.H.Disk.outside c.len.new.self) (c.len.ensures.same tells) c.len.ensures.counts) (c.refuse.ensures.says tells),
    )

pub returns-clause-ran : goal.returns-clause-ran
returns-clause-ran g c = λ tells.
    ran_sampling_after (g.H.Disk.outside c.args.host.now) (g.H.Disk.outside c.len.new.self) (g.H.Disk.outside c.sample_empty.new.host) (silent_look (g.H.Disk.outside c.args.host.now) (g.H.Disk.outside c.len.new.self) (c.len.ensures.same tells) c.len.ensures.counts) (map g.V.Viewer.meaning c.args.viewers.now)
    c.args.asked.number c.args.asked.edits c.args.asked.mode c.args.asked.cap c.sample_empty.result (c.sample_empty.ensures.ran tells)
