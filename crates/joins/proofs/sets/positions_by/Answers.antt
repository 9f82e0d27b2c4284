use Rattle.std.proofs.Common.{◌≡◌, [], get_or, length, ap, sym, ◌∙◌, arith}
use Rattle.std.specs.List.{filter}
use Rattle.relations.specs.Positions.{numbers}
use Rattle.relations.proofs.Filtering.{passing_few, skipped, taken}
use Rattle.joins.specs.Sets.{is_kept}
use Rattle.joins.proofs.sets.positions_by.Goals as goal

pub loop-at-preserved-then-not-is_row_kept : goal.loop-at-preserved-then-not-is_row_kept
loop-at-preserved-then-not-is_row_kept g c =
    skipped (is_kept c.args.among c.args.index.now) [] c.args.table.now.rows c.loop-at.at c.loop-at.positions c.loop-at.invariant
    (ap (is_kept c.args.among c.args.index.now) (sym c.in_ok-row.ensures) ∙ sym c.is_row_kept.ensures ∙ c.if-not-is_row_kept.true)

pub loop-at-preserved : goal.loop-at-preserved
loop-at-preserved g c =
    c.in_ok-push.ensures.ok
    ∙ taken (is_kept c.args.among c.args.index.now) [] c.args.table.now.rows c.loop-at.at c.loop-at.positions c.loop-at.invariant
    (ap (is_kept c.args.among c.args.index.now) (sym c.in_ok-row.ensures) ∙ sym c.is_row_kept.ensures ∙ c.if-not-is_row_kept.false)

pub returns : goal.returns
returns g c =
    let n = c.size-at-end.ensures.value in
    let most = c.size-at-end.ensures.whole.few in
    let t = c.loop-at-test.false in
    let u = c.loop-at.auto.at-end in
    let same : c.loop-at.at ≡ length c.args.table.now.rows = omega arith in
    let all = c.loop-at.invariant ∙ ap (λ n. filter (λ i. is_kept c.args.among c.args.index.now (get_or c.args.table.now.rows i [])) (numbers n)) same in
    let fewer = passing_few (is_kept c.args.among c.args.index.now) [] c.args.table.now.rows in
    let long = ap length all in
    record { kept = all; few = omega arith }
