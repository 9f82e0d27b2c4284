use Rattle.std.proofs.Common.{◌<◌, ℕ, [], get_or, take, pos, ap, sym, ◌∙◌, arith}
use Rattle.std.proofs.lemmas.List.{get_or-take, length-take-le}
use Rattle.mk_value.specs.Data.{integer}
use Rattle.mk_value.specs.Order.{value_cmp}
use Rattle.mk_value.proofs.Cells.{row_length}
use Rattle.mapped.proofs.Keyed.{count_from, plain_at}
use Rattle.mapped.proofs.Prefixes.{decides, ties}
use Rattle.mapped.proofs.ordered.cmp_rows_by_key.Goals as goal

pub cmp_rows-order-requires-clause-plain : goal.cmp_rows-order-requires-clause-plain
cmp_rows-order-requires-clause-plain g c =
    let schema = g.T.TableRead.schema c.args.rows.now in
    plain_at c.args.keys schema (count_from c.args.keys schema c.requires.plain) c.loop-col.col c.loop-col-test.true

pub returns-then-is_ne : goal.returns-then-is_ne
returns-then-is_ne g c =
    let schema = g.T.TableRead.schema c.args.rows.now in
    let rows = g.T.TableRead.rows c.args.rows.now in
    let count = count_from c.args.keys schema c.requires.plain in
    let few = count.few in
    let col : ℕ = c.loop-col.col in
    let t : col < c.args.keys = c.loop-col-test.true in
    let one = get_or rows c.args.a [] in
    let two = get_or rows c.args.b [] in
    let long_one = row_length rows schema c.args.a c.size-size.ensures.whole c.requires.first_in in
    let long_two = row_length rows schema c.args.b c.size-size.ensures.whole c.requires.second_in in
    let cut_one = length-take-le c.args.keys one (omega arith) in
    let cut_two = length-take-le c.args.keys two (omega arith) in
    let is = c.cmp_rows-order.ensures
    ∙ ap (λ d. value_cmp d (get_or two col (integer (pos 0)))) (sym (get_or-take c.args.keys one col (integer (pos 0)) t))
    ∙ ap (value_cmp (get_or (take c.args.keys one) col (integer (pos 0)))) (sym (get_or-take c.args.keys two col (integer (pos 0)) t)) in
    decides (take c.args.keys one) (take c.args.keys two) col (omega arith) (omega arith) c.cmp_rows-order.result is (sym c.is_ne.ensures ∙ c.if-is_ne.true) c.loop-col.invariant

pub loop-col-preserved : goal.loop-col-preserved
loop-col-preserved g c =
    let schema = g.T.TableRead.schema c.args.rows.now in
    let rows = g.T.TableRead.rows c.args.rows.now in
    let count = count_from c.args.keys schema c.requires.plain in
    let few = count.few in
    let col : ℕ = c.loop-col.col in
    let t : col < c.args.keys = c.loop-col-test.true in
    let one = get_or rows c.args.a [] in
    let two = get_or rows c.args.b [] in
    let long_one = row_length rows schema c.args.a c.size-size.ensures.whole c.requires.first_in in
    let long_two = row_length rows schema c.args.b c.size-size.ensures.whole c.requires.second_in in
    let cut_one = length-take-le c.args.keys one (omega arith) in
    let cut_two = length-take-le c.args.keys two (omega arith) in
    let is = c.cmp_rows-order.ensures
    ∙ ap (λ d. value_cmp d (get_or two col (integer (pos 0)))) (sym (get_or-take c.args.keys one col (integer (pos 0)) t))
    ∙ ap (value_cmp (get_or (take c.args.keys one) col (integer (pos 0)))) (sym (get_or-take c.args.keys two col (integer (pos 0)) t)) in
    ties (take c.args.keys one) (take c.args.keys two) col (omega arith) (omega arith) c.cmp_rows-order.result is (sym c.is_ne.ensures ∙ c.if-is_ne.false) c.loop-col.invariant
