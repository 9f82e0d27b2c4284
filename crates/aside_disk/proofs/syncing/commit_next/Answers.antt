use Rattle.std.proofs.Common.{refl, ◌+◌, ◌-◌}
use Rattle.commit_marks.specs.declared.mark.Mark.{Mark}
use Rattle.std.proofs.lemmas.Result.{err_from_is_err_and}
use Rattle.aside_disk.proofs.Synced.{due, keeps_commits, keeps_halfway}
use Rattle.aside_disk.proofs.syncing.commit_next.Goals as goal

pub returns-in_err-commit-clause-told : goal.returns-in_err-commit-clause-told
returns-in_err-commit-clause-told g c = λ tells base number lower_since upper_since seen is.
    let p = err_from_is_err_and c.from_residual.result c.from_residual.ensures.1 in
    let log = c.args.log.now in
    let next : Mark = record { version = 1; number = log.marks.chosen.number + 1; place = 192; len = log.end - 192; end = log.end } in
    let room = c.if-number-ge-MAX_LEN.false in
    let lower = g.D.Disk.outside c.args.disk.now in
    let commits = c.in_err-commit.ensures.commits tells _ _ _ (due base number log lower_since upper_since lower seen is c.requires.well c.requires.sure next refl refl refl refl refl room) in
    rw p.1 (keeps_halfway base number log lower_since upper_since lower seen is c.requires.well c.requires.sure next refl refl refl refl refl room _ _ _ _ commits)

pub returns-clause-told : goal.returns-clause-told
returns-clause-told g c = λ tells base number lower_since upper_since seen is.
    let log = c.args.log.now in
    let next : Mark = record { version = 1; number = log.marks.chosen.number + 1; place = 192; len = log.end - 192; end = log.end } in
    let room = c.if-number-ge-MAX_LEN.false in
    let lower = g.D.Disk.outside c.args.disk.now in
    let commits = c.in_ok-commit.ensures.commits tells _ _ _ (due base number log lower_since upper_since lower seen is c.requires.well c.requires.sure next refl refl refl refl refl room) in
    keeps_commits base number log lower_since upper_since lower seen is c.requires.well c.requires.sure next refl refl refl refl refl room _ _ _ _ commits commits.ok.0 commits.ok.1
