use Rattle.std.proofs.Common.{length, ap, sym, subst, arith, inl}
use Rattle.shell.specs.Ran.{RanLoading}
use Rattle.shell.specs.Said.{fault_line}
use Rattle.shell.specs.declared.fault.FileFault.TheVariants.{NotEmpty}
use Rattle.shell.specs.declared.status.Status.{Status}
use Rattle.shell.proofs.Loaded.{ran_loading_after}
use Rattle.shell.proofs.Saying.{says_only-after, silent_look}
use Rattle.shell.proofs.loading.load_file.Goals as goal

pub returns-in_default-clause-ran : goal.returns-in_default-clause-ran
returns-in_default-clause-ran g c = λ tells. inl (silent_look (g.H.Disk.outside c.args.host.now) (g.H.Disk.outside c.len.new.self) (c.len.ensures.same tells) c.len.ensures.counts)

pub returns-then-length-gt0-clause-ran : goal.returns-then-length-gt0-clause-ran
returns-then-length-gt0-clause-ran g c = λ tells.
    let old = g.H.Disk.outside c.args.host.now in
    let new = g.H.Disk.outside c.refuse.new.host in
    subst (λ (s : Status). RanLoading c.args.cap s old new) (sym c.refuse.ensures.status) (inl (
      (λ none. omega (arith, ap length none, c.in-Ok.ensures.length tells, c.if-length-gt0.true)),
      says_only-after (fault_line NotEmpty) old (g.H.Disk.outside c.len.new.self) new (silent_look old (g.H.Disk.outside c.len.new.self) (c.len.ensures.same tells) c.len.ensures.counts) (c.refuse.ensures.says tells),
    ))

pub returns-clause-ran : goal.returns-clause-ran
returns-clause-ran g c = λ tells.
    ran_loading_after (g.H.Disk.outside c.args.host.now) (g.H.Disk.outside c.len.new.self) (g.H.Disk.outside c.load_empty.new.host)
    (silent_look (g.H.Disk.outside c.args.host.now) (g.H.Disk.outside c.len.new.self) (c.len.ensures.same tells) c.len.ensures.counts) c.args.cap c.load_empty.result (c.load_empty.ensures.ran tells)
