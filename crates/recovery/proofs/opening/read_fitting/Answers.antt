use Rattle.std.proofs.Common.{sym, subst}
use Rattle.std.specs.Prelude.{IfErr, IfOk}
use Rattle.host_io.specs.Outside.{Moment}
use Rattle.dir_codec.specs.Values.{dir_of}
use Rattle.commit_writes.specs.Blocks.{StandsAt}
use Rattle.recovery.specs.Found.{AreViewsFound}
use Rattle.recovery.specs.Opening.{NamesColumn, NamesPlace}
use Rattle.recovery.proofs.Refused.{all_kept, all_whole, by_directory, column_refused}
use Rattle.recovery.proofs.opening.read_fitting.Goals as goal

pub returns-in-Err-clause-refused : goal.returns-in-Err-clause-refused
returns-in-Err-clause-refused g c = λ tells.
    let image = (g.D.Disk.outside c.args.disk.now).now.disk.seen in
    subst (NamesPlace image c.args.slot c.args.mark.now) (sym c.in_directory.ensures) (by_directory image c.args.slot c.args.mark.now c.in-Err.error c.requires.good (c.in-Err.ensures.flawed tells))

pub read_kept-requires-clause-room : goal.read_kept-requires-clause-room
read_kept-requires-clause-room g c = c.in-Ok.ensures.small

pub returns-clause-whole : goal.returns-clause-whole
returns-clause-whole g c =
    all_whole c.args.mark.now (dir_of c.in-Ok.dir) c.read_kept.result c.requires.good
    (record { good = c.in-Ok.ensures.whole; aligned = c.requires.aligned; behind = c.requires.behind; site = c.requires.site; long = c.in-Ok.ensures.long; apart = c.in_ok-check_apart.ensures.apart })
    c.read_kept.ensures.kept c.read_kept.ensures.made

pub returns-clause-stands : goal.returns-clause-stands
returns-clause-stands g c = λ tells.
    let image = (g.D.Disk.outside c.args.disk.now).now.disk.seen in
    all_kept image c.args.mark.now (dir_of c.in-Ok.dir) c.read_kept.result c.requires.good
    (record { good = c.in-Ok.ensures.whole; aligned = c.requires.aligned; behind = c.requires.behind; site = c.requires.site; long = c.in-Ok.ensures.long; apart = c.in_ok-check_apart.ensures.apart })
    (c.in-Ok.ensures.found tells) c.read_kept.ensures.kept c.read_kept.ensures.made
    (subst (λ (m : Moment). IfOk c.read_kept.result (λ kept. AreViewsFound (StandsAt m.disk.seen) (dir_of c.in-Ok.dir).views kept.views)) (c.in-Ok.ensures.same tells).still.now (c.read_kept.ensures.found tells))

pub returns-clause-refused : goal.returns-clause-refused
returns-clause-refused g c = λ tells.
    let image = (g.D.Disk.outside c.args.disk.now).now.disk.seen in
    column_refused image c.args.slot c.args.mark.now (dir_of c.in-Ok.dir) c.read_kept.result c.requires.good (c.in-Ok.ensures.found tells) c.in_ok-check_apart.ensures.apart
    (subst (λ (m : Moment). IfErr c.read_kept.result (NamesColumn m.disk.seen c.args.mark.now (dir_of c.in-Ok.dir))) (c.in-Ok.ensures.same tells).still.now (c.read_kept.ensures.unreadable tells))
