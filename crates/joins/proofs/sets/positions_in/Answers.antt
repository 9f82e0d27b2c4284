use Rattle.std.proofs.Common.{◌≡◌, ◌<◌, [], ℕ, List, length, get_or, All, ap, sym, subst, ◌∙◌, arith}
use Rattle.std.specs.List.{filter}
use Rattle.mk_value.proofs.Relations.{row_fits_length}
use Rattle.relations.specs.Columns.{values_at}
use Rattle.relations.specs.Equality.{is_row_among}
use Rattle.relations.specs.Positions.{numbers}
use Rattle.relations.proofs.Filtering.{passing_few, skipped, taken}
use Rattle.relations.proofs.Numbers.{numbers_below}
use Rattle.grouping.proofs.WholeRows.{all_values}
use Rattle.joins.specs.Sets.{is_kept}
use Rattle.joins.proofs.Members.{left_out, taken_in}
use Rattle.joins.proofs.sets.positions_in.Goals as goal

pub has_partner-requires-clause-columns_in : goal.has_partner-requires-clause-columns_in
has_partner-requires-clause-columns_in g c =
    let width = length c.args.table.now.schema in
    subst (All (λ j. j < width)) (sym c.requires.all) (numbers_below width)

pub loop-at-preserved-then-has_partner-among : goal.loop-at-preserved-then-has_partner-among
loop-at-preserved-then-has_partner-among g c =
    let t = c.args.table.now in
    let row = get_or t.rows c.loop-at.at [] in
    let n = c.size-at-end.ensures.value in
    let inside : c.loop-at.at < length t.rows = omega (arith, n, c.loop-at-test.true) in
    let whole = row_fits_length row t.schema (c.size-at-end.ensures.whole.whole c.loop-at.at [] inside) in
    let values = ap (λ (columns : List ℕ). values_at columns row) c.requires.all ∙ all_values row (length t.schema) whole in
    skipped (is_kept c.args.among c.args.index.now) [] t.rows c.loop-at.at c.loop-at.positions c.loop-at.invariant
    (left_out c.args.among c.args.index.now row c.has_partner.result (c.has_partner.ensures ∙ ap (is_row_among c.args.index.now) values) c.if-has_partner-among.true)

pub loop-at-preserved : goal.loop-at-preserved
loop-at-preserved g c =
    let t = c.args.table.now in
    let row = get_or t.rows c.loop-at.at [] in
    let n = c.size-at-end.ensures.value in
    let inside : c.loop-at.at < length t.rows = omega (arith, n, c.loop-at-test.true) in
    let whole = row_fits_length row t.schema (c.size-at-end.ensures.whole.whole c.loop-at.at [] inside) in
    let values = ap (λ (columns : List ℕ). values_at columns row) c.requires.all ∙ all_values row (length t.schema) whole in
    c.in_ok-push.ensures.ok
    ∙ taken (is_kept c.args.among c.args.index.now) [] t.rows c.loop-at.at c.loop-at.positions c.loop-at.invariant
    (taken_in c.args.among c.args.index.now row c.has_partner.result (c.has_partner.ensures ∙ ap (is_row_among c.args.index.now) values) c.if-has_partner-among.false)

pub returns-clause-few : goal.returns-clause-few
returns-clause-few g c =
    let t = c.args.table.now in
    let n = c.size-at-end.ensures.value in
    let most = c.size-at-end.ensures.whole.few in
    let past = c.loop-at-test.false in
    let u = c.loop-at.auto.at-end in
    let same : c.loop-at.at ≡ length t.rows = omega arith in
    let all = c.loop-at.invariant ∙ ap (λ n. filter (λ i. is_kept c.args.among c.args.index.now (get_or t.rows i [])) (numbers n)) same in
    let fewer = passing_few (is_kept c.args.among c.args.index.now) [] t.rows in
    let long = ap length all in
    omega arith
