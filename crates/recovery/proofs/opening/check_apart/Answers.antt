use Rattle.std.proofs.Common.{◌++◌, ◌∷◌, [], All, List, ap, sym, subst, ◌∙◌, refl}
use Rattle.mk_value.specs.declared.span.Span.{Span}
use Rattle.free_space.specs.Extents.{AreApart, IsBlock}
use Rattle.free_space.specs.Overlaps.{AreFirstToMeet, OnOverlap}
use Rattle.commit_marks.specs.Marks.{dir_span}
use Rattle.dir_codec.specs.Values.{dir_of}
use Rattle.recovery.specs.Spans.{dir_spans, some_spans}
use Rattle.recovery.proofs.DirSpans.{all_blocks, all_met}
use Rattle.recovery.proofs.opening.check_apart.Goals as goal

pub from_used-requires-clause-are_blocks : goal.from_used-requires-clause-are_blocks
from_used-requires-clause-are_blocks c =
    let met = c.deref.ensures.value ∙ c.in_ok-spans.ensures ∙ ap (λ (s : Span). some_spans (dir_spans (dir_of c.args.dir.now)) ++ s ∷ []) c.dir.ensures in
    subst (All IsBlock) (sym met) (all_blocks c.args.mark.now.end (dir_of c.args.dir.now) (dir_span c.args.mark.now) c.requires.small c.requires.good.each c.requires.site)

pub returns-in-Ok-clause-apart : goal.returns-in-Ok-clause-apart
returns-in-Ok-clause-apart c =
    let met = c.deref.ensures.value ∙ c.in_ok-spans.ensures ∙ ap (λ (s : Span). some_spans (dir_spans (dir_of c.args.dir.now)) ++ s ∷ []) c.dir.ensures
    ∙ all_met c.args.mark.now.end (dir_of c.args.dir.now) (dir_span c.args.mark.now) c.requires.good.each in
    subst AreApart met c.in-Ok.ensures.apart

pub returns-in-Err-Overlap-clause-meeting : goal.returns-in-Err-Overlap-clause-meeting
returns-in-Err-Overlap-clause-meeting c =
    let met = c.deref.ensures.value ∙ c.in_ok-spans.ensures ∙ ap (λ (s : Span). some_spans (dir_spans (dir_of c.args.dir.now)) ++ s ∷ []) c.dir.ensures
    ∙ all_met c.args.mark.now.end (dir_of c.args.dir.now) (dir_span c.args.mark.now) c.requires.good.each in
    let later = c.in-Err-Overlap.later in
    let one = c.in-Err-Overlap.field-0-0 in (
      later,
      one,
      subst (λ (ss : List Span). AreFirstToMeet ss one later) met
          (subst (λ e. OnOverlap e (AreFirstToMeet c.deref.result.now)) c.in-Err-Overlap.field-0-is c.in-Err-Overlap.ensures.overlap),
      refl,
    )
