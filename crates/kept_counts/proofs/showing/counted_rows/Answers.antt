use Rattle.std.proofs.Common.{◌<◌, ◌^◌, pos, [], ◌++◌, ◌∷◌, length, get_or, map, ap, sym, subst, ◌∙◌, arith, add-one}
use Rattle.std.specs.Int.{w32}
use Rattle.std.proofs.lemmas.Int.{to_z_pos}
use Rattle.std.proofs.lemmas.List.{map_push}
use Rattle.mk_value.specs.Data.{integer}
use Rattle.grouping.proofs.CountTables.{small_fits}
use Rattle.relations.specs.Columns.{values_at}
use Rattle.relations.specs.Positions.{numbers}
use Rattle.kept_counts.specs.Following.{counted_at}
use Rattle.kept_counts.proofs.Tabled.{first_there, run_few}
use Rattle.kept_counts.proofs.showing.counted_rows.Goals as goal

pub values_in-requires-clause-row_in : goal.values_in-requires-clause-row_in
values_in-requires-clause-row_in c =
    let t = c.loop-key-test.true in
    let e = c.len-key-end.ensures in
    let there : c.loop-key.key < length c.args.counts.now.starts = omega arith in
    subst (λ n. n < length c.args.rows.now.rows) (sym c.first.ensures)
    (first_there c.args.rows.now.schema c.args.rows.now.rows c.args.counts.now c.requires.sorts.0 c.loop-key.key c.requires.now c.requires.sorts.1 there)

pub overflow_cast-count : goal.overflow_cast-count
overflow_cast-count c =
    let t = c.loop-key-test.true in
    let e = c.len-key-end.ensures in
    let there : c.loop-key.key < length c.args.counts.now.starts = omega arith in
    let few = run_few c.args.rows.now.schema c.args.rows.now.rows c.args.counts.now c.requires.sorts.0 c.loop-key.key c.requires.now c.requires.sorts.1 there in
    let same = c.count.ensures in
    small_fits c.count.result (omega arith)

pub loop-key-preserved : goal.loop-key-preserved
loop-key-preserved c =
    let t = c.loop-key-test.true in
    let e = c.len-key-end.ensures in
    let at = c.loop-key.key in
    let counts = c.args.counts.now in
    let rows = c.args.rows.now.rows in
    let columns = c.args.columns.now in
    let there : at < length counts.starts = omega arith in
    let few = run_few c.args.rows.now.schema rows counts c.requires.sorts.0 at c.requires.now c.requires.sorts.1 there in
    let same = c.count.ensures in
    let small : c.count.result < 2 ^ 31 = omega arith in
    let count = to_z_pos w32 c.count.result small ∙ ap pos same in
    let key = c.in_ok-row.ensures ∙ ap (λ n. values_at columns (get_or rows n [])) c.first.ensures in
    let row = c.in_ok-push.ensures.ok ∙ (λ i. key i ++ integer (count i) ∷ []) in
    c.in_ok-push-2.ensures.ok ∙ (λ i. c.loop-key.invariant i ++ row i ∷ []) ∙ sym (map_push (counted_at columns rows counts) (numbers at) at)
    ∙ ap (λ n. map (counted_at columns rows counts) (numbers n)) (sym (add-one at))
