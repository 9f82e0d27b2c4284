use Rattle.std.proofs.Common.{◌≡◌, true, map, sym}
use Rattle.std.specs.Prelude.{None, count_by}
use Rattle.eval.specs.Values.{asked}
use Rattle.mk_value.specs.Tables.{Table}
use Rattle.relations.specs.Criteria.{is_in_range}
use Rattle.relations.specs.Refusals.{literals_due}
use Rattle.relations.specs.Searching.{rows_before}
use Rattle.questions.specs.Places.{begin, values_of}
use Rattle.questions.proofs.Ordered.{names_first, placed_is, values_alone}
use Rattle.questions.proofs.Runs.{values_run}
use Rattle.questions.proofs.in_order.locate_among.Goals as goal

pub lower-position-requires-clause-named : goal.lower-position-requires-clause-named
lower-position-requires-clause-named g c =
    rw (c.as_slice.ensures, c.in_ok-values.ensures.1)
    (names_first c.schema.result.now c.args.criteria.now c.args.keys.now (sym c.if-not-begin.ensures))

pub returns : goal.returns
returns g c =
    let t : Table = record { schema = g.T.TableRead.schema c.args.table.now; rows = g.T.TableRead.rows c.args.table.now } in
    let keys = c.args.keys.now in
    let list = c.args.criteria.now in
    let values = values_of t.schema list in
    let due : literals_due (map asked list) t.schema ≡ None = rw c.schema.ensures.value at c.in_ok-values.ensures.0 in
    let first : begin list keys ≡ true = sym c.if-not-begin.ensures in
    let place : c.lower-position.result ≡ rows_before t.schema keys values t.rows = rw (c.as_slice.ensures, c.in_ok-values.ensures.1, c.schema.ensures.value) at c.lower-position.ensures in
    let run = c.run_of-count.ensures in
    let count : c.run_of-count.result ≡ count_by (is_in_range t.schema values) t.rows =
    values_run t.schema keys values t.rows (names_first t.schema list keys first) (values_alone t.schema list) c.requires
    c.lower-position.result c.run_of-count.result place run.within
    (rw (c.as_slice-2.ensures, c.in_ok-values.ensures.1, c.schema.ensures.value) at run.inside)
    (rw (c.as_slice-2.ensures, c.in_ok-values.ensures.1, c.schema.ensures.value) at run.ends) in
    placed_is t keys list c.lower-position.result c.run_of-count.result due first place count
