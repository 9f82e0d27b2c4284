use Rattle.std.proofs.Common.{ℕ, List, ◌++◌, ◌+◌, drop, ap, sym, ◌∙◌}
use Rattle.relations.specs.Positions.{numbers}
use Rattle.derived.specs.Operators.{every}
use Rattle.derived.proofs.Steps.{every_from, steps_more, steps_done}
use Rattle.derived.proofs.slicing.steps.Goals as goal

pub loop-at-init : goal.loop-at-init
loop-at-init c =
    ap (λ (xs : List ℕ). xs ++ every c.args.step 0 (drop c.args.first (numbers c.args.end))) c.new-positions.ensures.items ∙ sym (every_from c.args.step c.args.first (numbers c.args.end))

pub loop-at-preserved : goal.loop-at-preserved
loop-at-preserved c =
    ap (λ (xs : List ℕ). xs ++ every c.args.step 0 (drop (c.loop-at.at + c.args.step) (numbers c.args.end))) c.in_ok-push.ensures.items
    ∙ steps_more c.args.step c.loop-at.at c.args.end c.args.first c.loop-at.positions.items c.requires.some c.loop-at-test.true c.loop-at.invariant

pub returns : goal.returns
returns c = steps_done c.args.step c.loop-at.at c.args.end c.args.first c.loop-at.positions.items c.loop-at-test.false c.loop-at.invariant
