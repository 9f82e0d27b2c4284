use Rattle.std.proofs.Common.{◌≡◌, ◌<◌, [], length, All, ap, sym, subst, ◌∙◌}
use Rattle.std.proofs.lemmas.Result.{IfOk-weaker}
use Rattle.derived.specs.Layers.{table_of}
use Rattle.std.specs.List.{filter}
use Rattle.derived.specs.Operators.{with_rows}
use Rattle.relations.specs.Rows.{rows_at}
use Rattle.relations.proofs.Filtering.{passing_in, rows_passing}
use Rattle.joins.specs.Sets.{is_kept}
use Rattle.joins.proofs.sets.kept.Goals as goal

pub gather-requires : goal.gather-requires
gather-requires g c = record {
  few = c.in_ok-positions.ensures.few;
  in_range = subst (λ ps. All (λ i. i < length c.args.a.rows) ps) (sym c.in_ok-positions.ensures.kept) (passing_in (is_kept c.args.among c.args.b.now.rows) [] c.args.a.rows);
}

pub returns : goal.returns
returns g c =
    let a = table_of c.args.a in
    let test = is_kept c.args.among c.args.b.now.rows in
    IfOk-weaker c.gather.result (λ d. table_of d ≡ with_rows a (rows_at a.rows c.in_ok-positions.positions)) (λ d. table_of d ≡ with_rows a (filter test a.rows))
    (λ d h. h ∙ ap (with_rows a) (ap (rows_at a.rows) c.in_ok-positions.ensures.kept ∙ rows_passing test [] a.rows)) c.gather.ensures
