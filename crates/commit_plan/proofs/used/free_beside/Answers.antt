use Rattle.std.proofs.Common.{◌∙◌, All, ap, sym, subst}
use Rattle.std.specs.List.{filter}
use Rattle.free_space.specs.Extents.{AreApart, IsBlock}
use Rattle.free_space.specs.Overlaps.{OnOverlap}
use Rattle.recovery.specs.Keeping.{commit_in}
use Rattle.commit_plan.specs.Placing.{has_bytes}
use Rattle.commit_plan.proofs.UsedSpans.{commit_spans-are, leave_beside, used_apart, used_are_blocks}
use Rattle.commit_plan.proofs.used.free_beside.Goals as goal

pub from_used-requires-clause-are_blocks : goal.from_used-requires-clause-are_blocks
from_used-requires-clause-are_blocks c =
    subst (All IsBlock) (sym (c.as_slice.ensures.value ∙ c.in_ok-spans.ensures ∙ ap (filter has_bytes) (sym (commit_spans-are (commit_in c.args.kept.now) c.requires.whole)))) (used_are_blocks (commit_in c.args.kept.now) c.requires.whole)

pub returns-in-Ok-clause-used : goal.returns-in-Ok-clause-used
returns-in-Ok-clause-used c =
    leave_beside (commit_in c.args.kept.now) c.as_slice.result.now c.in-Ok.free.used
    (c.as_slice.ensures.value ∙ c.in_ok-spans.ensures ∙ ap (filter has_bytes) (sym (commit_spans-are (commit_in c.args.kept.now) c.requires.whole))) c.in-Ok.ensures.used.permutation

pub unreachable-requires : goal.unreachable-requires
unreachable-requires c =
    let meet = subst (λ e. OnOverlap e (λ _ _. ¬ AreApart c.as_slice.result.now)) c.in-Err-Overlap.field-0-is c.in-Err-Overlap.ensures.meeting in
    meet (subst AreApart (sym (c.as_slice.ensures.value ∙ c.in_ok-spans.ensures ∙ ap (filter has_bytes) (sym (commit_spans-are (commit_in c.args.kept.now) c.requires.whole)))) (used_apart (commit_in c.args.kept.now) c.requires.whole))
