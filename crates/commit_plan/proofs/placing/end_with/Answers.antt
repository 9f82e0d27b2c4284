use Rattle.std.proofs.Common.{get_or, take, max, ap, sym, ◌∙◌}
use Rattle.std.proofs.lemmas.List.{take_more}
use Rattle.mk_value.specs.declared.span.Span.{Span}
use Rattle.free_space.specs.FreeSpace.{end_of}
use Rattle.commit_plan.proofs.Placed.{end_more}
use Rattle.commit_plan.proofs.placing.end_with.Goals as goal

pub spans-preserved : goal.spans-preserved
spans-preserved c =
    let none : Span = record { place = 0; len = 0 } in
    let span = get_or c.args.spans.now c.spans.span-index none in
    let front = take c.spans.span-index c.args.spans.now in
    c.max-last.ensures ∙ ap (λ n. max n c.extent_end.result) c.spans.invariant ∙ ap (λ n. max (end_of c.args.end front) n) c.extent_end.ensures
    ∙ sym (ap (λ ss. end_of c.args.end ss) (take_more c.args.spans.now c.spans.span-index none c.spans-test.true) ∙ end_more c.args.end front span)
