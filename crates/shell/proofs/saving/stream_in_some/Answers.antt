use Rattle.std.proofs.Common.{sym, subst}
use Rattle.session.specs.Starting.{IsStartRefusal}
use Rattle.session.specs.declared.starting.StartError.{StartError}
use Rattle.session.proofs.Started.{start_refused}
use Rattle.storage.specs.declared.mode.Mode.TheVariants.{Read}
use Rattle.shell.proofs.saving.stream_in_some.Goals as goal

pub returns-in-Err-clause-refused : goal.returns-in-Err-clause-refused
returns-in-Err-clause-refused g c = λ tells.
    let old = g.H.Disk.outside c.args.host.now in
    let new = g.H.Disk.outside c.stream_of.new.disk in
    subst (λ (e : StartError). IsStartRefusal Read old new e) (sym c.from.ensures) (start_refused Read old new c.in-Err.error (c.requires.some tells) (c.in-Err.ensures.same tells) (c.in-Err.ensures.refused tells))
