use Rattle.std.proofs.Common.{◌≡◌, false, get_or, length, ap, ◌∙◌, arith}
use Rattle.std.specs.List.{filter}
use Rattle.relations.specs.Positions.{numbers}
use Rattle.relations.proofs.Filtering.{passing_few, skipped, taken}
use Rattle.joins.specs.Sets.{is_wanted}
use Rattle.joins.proofs.Members.{mark_left_out, mark_taken_in}
use Rattle.joins.proofs.sets.wanted.Goals as goal

pub loop-at-preserved-then-mark-among : goal.loop-at-preserved-then-mark-among
loop-at-preserved-then-mark-among c =
    skipped (is_wanted c.args.among) false c.args.marks.now c.loop-at.at c.loop-at.positions c.loop-at.invariant (mark_left_out c.args.among (get_or c.args.marks.now c.loop-at.at false) c.if-mark-among.true)

pub loop-at-preserved : goal.loop-at-preserved
loop-at-preserved c =
    c.in_ok-push.ensures.ok
    ∙ taken (is_wanted c.args.among) false c.args.marks.now c.loop-at.at c.loop-at.positions c.loop-at.invariant (mark_taken_in c.args.among (get_or c.args.marks.now c.loop-at.at false) c.if-mark-among.false)

pub returns-clause-few : goal.returns-clause-few
returns-clause-few c =
    let t = c.loop-at-test.false in
    let u = c.loop-at.auto.at-end in
    let same : c.loop-at.at ≡ length c.args.marks.now = omega arith in
    let all = c.loop-at.invariant ∙ ap (λ n. filter (λ i. is_wanted c.args.among (get_or c.args.marks.now i false)) (numbers n)) same in
    let fewer = passing_few (is_wanted c.args.among) false c.args.marks.now in
    let long = ap length all in
    omega arith
