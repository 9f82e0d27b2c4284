use Rattle.std.proofs.Common.{sym, subst}
use Rattle.commit_marks.specs.declared.mark.Mark.{Mark}
use Rattle.commit_marks.proofs.Chosen.{marks_unique}
use Rattle.recovery.specs.Standing.{Stands}
use Rattle.recovery.proofs.OneCommit.{one_commit}
use Rattle.recovery.proofs.laws.one_commit.Goals as goal

pub returns : goal.returns
returns c = λ image one other h g.
    let same = (marks_unique image h.0 g.0 h.1 g.1 h.2 g.2 h.3 g.3).1 in
    one_commit image h.1 one other h.4 (subst (λ (m : Mark). Stands image m other) (sym same) g.4)
