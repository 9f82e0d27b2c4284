use Rattle.std.proofs.Common.{List, ℕ, Bool, get_or, set, take, ap, sym, ◌∙◌}
use Rattle.std.proofs.lemmas.List.{take_more}
use Rattle.grouping.specs.Marks.{marked}
use Rattle.grouping.proofs.Shares.{marked_more}
use Rattle.grouping.proofs.merging.mark.Goals as goal

pub loop-place-preserved : goal.loop-place-preserved
loop-place-preserved c =
    let places = c.args.places.now in
    let i = c.loop-place.place-index in
    ap (λ (marks : List Bool). set marks (get_or places i 0) c.args.value) c.loop-place.invariant ∙ sym (marked_more (take i places) (get_or places i 0) c.args.value c.args.marks.now)
    ∙ ap (λ (ps : List ℕ). marked ps c.args.value c.args.marks.now) (sym (take_more places i 0 c.loop-place-test.true))
