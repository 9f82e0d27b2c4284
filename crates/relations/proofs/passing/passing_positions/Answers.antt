use Rattle.std.proofs.Common.{◌≡◌, [], get_or, length, ap, sym, ◌∙◌, arith}
use Rattle.std.specs.List.{filter}
use Rattle.relations.specs.Criteria.{is_in_range}
use Rattle.relations.specs.Positions.{numbers}
use Rattle.relations.proofs.Filtering.{skipped, taken}
use Rattle.relations.proofs.passing.passing_positions.Goals as goal

pub loop-row-preserved-then-not-passes_by : goal.loop-row-preserved-then-not-passes_by
loop-row-preserved-then-not-passes_by g c = (
  skipped (is_in_range (g.T.TableRead.schema c.args.table.now) c.args.criteria.now) [] (g.T.TableRead.rows c.args.table.now) c.loop-row.row c.loop-row.positions c.loop-row.invariant.0
      (sym c.passes_by.ensures.value ∙ c.if-not-passes_by.true),
  c.passes_by.ensures.held,
)

pub loop-row-preserved : goal.loop-row-preserved
loop-row-preserved g c = (
  c.in_ok-push.ensures.ok
      ∙ taken (is_in_range (g.T.TableRead.schema c.args.table.now) c.args.criteria.now) [] (g.T.TableRead.rows c.args.table.now) c.loop-row.row c.loop-row.positions c.loop-row.invariant.0
      (sym c.passes_by.ensures.value ∙ c.if-not-passes_by.false),
  c.passes_by.ensures.held,
)

pub returns : goal.returns
returns g c =
    let n = c.size-row-end.ensures.value in
    let t = c.loop-row-test.false in
    let u = c.loop-row.auto.row-end in
    let same : c.loop-row.row ≡ length (g.T.TableRead.rows c.args.table.now) = omega arith in
    c.loop-row.invariant.0
    ∙ ap (λ n. filter (λ i. is_in_range (g.T.TableRead.schema c.args.table.now) c.args.criteria.now (get_or (g.T.TableRead.rows c.args.table.now) i [])) (numbers n)) same
