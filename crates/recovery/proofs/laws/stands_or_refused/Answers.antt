use Rattle.std.proofs.Common.{subst}
use Rattle.commit_marks.specs.declared.mark.Mark.{Mark}
use Rattle.recovery.specs.Refusals.{IsRefusedAt}
use Rattle.recovery.proofs.Exact.{not_refused}
use Rattle.recovery.proofs.laws.stands_or_refused.Goals as goal

pub returns : goal.returns
returns c = λ image m commit slot place stands refused.
    not_refused commit image stands.whole stands.holds slot place (subst (λ (x : Mark). IsRefusedAt image slot x place) stands.mark refused)
