use Rattle.std.proofs.Common.{List, ℕ, ap, sym, subst}
use Rattle.recovery.specs.Commits.{Commit}
use Rattle.recovery.specs.Keeping.{commit_in}
use Rattle.recovery.specs.Standing.{StandsFor}
use Rattle.storage.specs.Stored.{Stored}
use Rattle.storage.proofs.store.Store.reopen.Goals as goal

pub returns-clause-stands : goal.returns-clause-stands
returns-clause-stands g c = λ tells.
    let marks = c.in_ok-opened.ensures.marks tells in
    let opened = c.in_ok-opened.opened in
    subst (λ (k : Commit). StandsFor (g.D.Disk.outside c.args.disk.now).now.disk.seen k) (ap (λ (s : Stored). s.kept) (sym c.put_opened.ensures.ok))
    (subst (λ (bytes : List ℕ). StandsFor bytes (commit_in opened.kept)) (c.in_ok-settle.ensures.seen tells)
    (opened.marks.slot, opened.marks.chosen, opened.marks.other, marks.chooses, c.in_ok-opened.ensures.stands tells))
