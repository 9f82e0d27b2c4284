use Rattle.std.proofs.Common.{sym, subst, ◌∙◌}
use Rattle.shell.specs.Ran.{RanLoading}
use Rattle.shell.specs.declared.status.Status.{Status}
use Rattle.shell.proofs.Loaded.{ends_input, ran_loaded, refuses_input}
use Rattle.shell.proofs.loading.load_empty.Goals as goal

pub returns-in-Ok-clause-ran : goal.returns-in-Ok-clause-ran
returns-in-Ok-clause-ran g c = λ tells.
    ran_loaded c.args.cap c.say_loaded.result (g.H.Disk.outside c.args.host.now) (g.H.Disk.outside c.load.new.host) (g.H.Disk.outside c.say_loaded.new.host) c.in-Ok.views (c.requires.empty tells)
    (c.in-Ok.ensures.loads tells) (c.say_loaded.ensures.says tells) (c.say_loaded.ensures.moments tells)

pub returns-in-Ok-fault_of_load-clause-ran : goal.returns-in-Ok-fault_of_load-clause-ran
returns-in-Ok-fault_of_load-clause-ran g c = λ tells.
    let old = g.H.Disk.outside c.args.host.now in
    let new = g.H.Disk.outside c.refuse.new.host in
    subst (λ (s : Status). RanLoading c.args.cap s old new) (sym c.refuse.ensures.status)
    (refuses_input c.args.cap old (g.H.Disk.outside c.load.new.host) (c.requires.empty tells) c.in-Err.cause c.in-Ok-fault_of_load.fault new (sym c.fault_of_load.ensures ∙ c.in-Ok-fault_of_load.is) (c.in-Err.ensures.loads tells)
    (c.refuse.ensures.says tells))

pub returns-in-Err-fault_of_load-clause-ran : goal.returns-in-Err-fault_of_load-clause-ran
returns-in-Err-fault_of_load-clause-ran g c = λ tells.
    ends_input c.args.cap (g.H.Disk.outside c.args.host.now) (g.H.Disk.outside c.load.new.host) (c.requires.empty tells) c.in-Err.cause c.in-Err-fault_of_load.status (sym c.fault_of_load.ensures ∙ c.in-Err-fault_of_load.is)
    (c.in-Err.ensures.loads tells)
