-- What is due of a table is read column by column, and of a view column table by table.
use Rattle.std.proofs.Common.{ap, subst, arith, inl, inr}
use Rattle.std.proofs.lemmas.Result.{err_from_is_err_and}
use Rattle.mk_value.specs.Heading.{Attribute, heading_of, domain_weight, attributes_weight}
use Rattle.mk_value.specs.Kinds.{domain_of}
use Rattle.mk_value.proofs.Headings.{heading_weight-heading_of, weight_read}
use Rattle.dir_codec.specs.Dir.{IsEntry, spelled_entry}
use Rattle.dir_codec.specs.Fields.{column_due}
use Rattle.dir_codec.specs.Reads.{Flaws, Reads}
use Rattle.dir_codec.specs.Values.{body_of, entry_of}
use Rattle.dir_codec.proofs.BodyLists as bodies
use Rattle.dir_codec.proofs.ColumnLists as columns
use Rattle.dir_codec.proofs.OneColumn.{byte_strings, integers, longs, texts}
use Rattle.dir_codec.proofs.tables.+read.Goals as goal

-- ---- the tables of a view column

pub read_bodies-loop-done-init : goal.read_bodies-loop-done-init
read_bodies-loop-done-init t c = rw c.new-bodies.ensures (bodies.begins c.args.end (heading_of c.args.schema.now) c.args.bytes.now c.args.count c.args.at c.requires)

pub read_bodies-returns-in_err-body : goal.read_bodies-returns-in_err-body
read_bodies-returns-in_err-body t c = λ number.
    let p = err_from_is_err_and c.from_residual.result c.from_residual.ensures.1 in
    rw (p.1, p.2) (bodies.flaw_after number c.args.end (heading_of c.args.schema.now) c.args.bytes.now c.args.count c.args.at c.loop-done.bodies c.loop-done.done c.loop-done.place _ c.loop-done-test.true c.loop-done.invariant
    (c.in_err-body.ensures number))

pub read_bodies-loop-done-preserved : goal.read_bodies-loop-done-preserved
read_bodies-loop-done-preserved t c =
    rw c.in_ok-push.ensures.ok
    (bodies.grows c.args.end (heading_of c.args.schema.now) c.args.bytes.now c.args.count c.args.at c.loop-done.bodies c.loop-done.done c.loop-done.place c.in_ok-body.next (body_of c.in_ok-body.body) c.loop-done-test.true c.loop-done.invariant
    (c.in_ok-body.ensures 0).0 (λ number. (c.in_ok-body.ensures number).1))

pub read_bodies-returns : goal.read_bodies-returns
read_bodies-returns t c = λ number.
    bodies.ends number c.args.end (heading_of c.args.schema.now) c.args.bytes.now c.args.count c.args.at c.loop-done.bodies c.loop-done.done c.loop-done.place (omega arith) c.loop-done.invariant

-- ---- one table

pub read_body-returns-in_err-rows : goal.read_body-returns-in_err-rows
read_body-returns-in_err-rows t c = λ number.
    let p = err_from_is_err_and c.from_residual.result c.from_residual.ensures.1 in
    rw (p.1, p.2) (bodies.rows_flaw number c.args.end (heading_of c.args.schema.now) c.args.bytes.now c.args.at _ c.requires c.in_err-rows.ensures)

pub read_body-returns-in_err-cols : goal.read_body-returns-in_err-cols
read_body-returns-in_err-cols t c = λ number.
    let p = err_from_is_err_and c.from_residual-in_err-cols.result c.from_residual-in_err-cols.ensures.1 in
    rw (p.1, p.2) (bodies.columns_flaw number c.args.end (heading_of c.args.schema.now) c.args.bytes.now c.args.at c.in_ok-rows.rows _ c.in_ok-rows.ensures (c.in_err-cols.ensures number))

pub read_body-returns : goal.read_body-returns
read_body-returns t c = λ number.
    let columns = c.in_ok-cols.ensures number in
    ((c.in_ok-rows.ensures.1.3, columns.0), bodies.body_read number c.args.end (heading_of c.args.schema.now) c.args.bytes.now c.args.at c.in_ok-rows.rows c.in_ok-cols.next _ c.in_ok-rows.ensures columns.1)

-- ---- one column

pub read_column-read_bodies-requires : goal.read_column-read_bodies-requires
read_column-read_bodies-requires t c =
    let seen = ap (λ k. domain_weight (domain_of k)) c.in-V.is in
    (omega (arith, seen, heading_weight-heading_of c.in-V.schema, c.decreases), c.requires.within)

pub read_column-returns-in_err-bodies-in-V : goal.read_column-returns-in_err-bodies-in-V
read_column-returns-in_err-bodies-in-V t c = λ number.
    let p = err_from_is_err_and c.from_residual.result c.from_residual.ensures.1 in
    rw (p.1, p.2, c.in-V.is) (c.in_err-bodies-in-V.ensures number)

pub read_column-returns-in-I : goal.read_column-returns-in-I
read_column-returns-in-I t c = λ number. rw c.in-I.is (integers number c.args.end c.args.rows c.args.bytes.now c.args.at c.read_numbers.result (c.read_numbers.ensures number))

pub read_column-returns-in-L : goal.read_column-returns-in-L
read_column-returns-in-L t c = λ number. rw c.in-L.is (longs number c.args.end c.args.rows c.args.bytes.now c.args.at c.read_numbers-in-L.result (c.read_numbers-in-L.ensures number))

pub read_column-returns-in-S : goal.read_column-returns-in-S
read_column-returns-in-S t c = λ number. elim c.in-S.is [
  | inl is_text ↦ rw is_text (texts number c.args.end c.args.rows c.args.bytes.now c.args.at c.read_strings.result (c.read_strings.ensures number))
  | inr is_bytes ↦ rw is_bytes (byte_strings number c.args.end c.args.rows c.args.bytes.now c.args.at c.read_strings.result (c.read_strings.ensures number))
]

pub read_column-returns-in_ok-bodies-in-V : goal.read_column-returns-in_ok-bodies-in-V
read_column-returns-in_ok-bodies-in-V t c = λ number. rw c.in-V.is (c.in_ok-bodies-in-V.ensures number)

-- ---- the columns of a table

pub read_columns-loop-prop-init : goal.read_columns-loop-prop-init
read_columns-loop-prop-init t c = rw c.in_ok-columns.ensures (columns.begins c.args.end c.args.bytes.now c.args.rows c.args.at c.as_slice-prop-items.result.now c.requires.within)

pub read_columns-read_column-requires : goal.read_columns-read_column-requires
read_columns-read_column-requires t c =
    let whole = ap attributes_weight c.as_slice-prop-items.ensures.value in
    let at = ap (λ (a : Attribute). domain_weight a.domain) c.prop.view_is in
    (omega (arith, whole, at, weight_read c.as_slice-prop-items.result.now c.loop-prop.prop-index c.prop-item.result c.loop-prop-test.true c.prop-item.is, c.decreases), (c.loop-prop.invariant.within, c.requires.few))

pub read_columns-returns-in_err-column : goal.read_columns-returns-in_err-column
read_columns-returns-in_err-column t c = λ number.
    let p = err_from_is_err_and c.from_residual-in_err-column.result c.from_residual-in_err-column.ensures.1 in
    let props = c.as_slice-prop-items.result.now in
    let next = columns.next_read props c.loop-prop.prop-index c.prop-item.result c.loop-prop-test.true c.prop-item.is in
    rw (p.1, p.2, ← c.as_slice-prop-items.ensures.value)
    (columns.flaw_after number c.args.end c.args.bytes.now c.args.rows c.args.at props c.loop-prop.columns c.loop-prop.prop-index c.loop-prop.place c.prop-item.result _ next c.loop-prop.invariant
    (subst (λ (a : Attribute). Flaws number c.args.end (column_due c.args.rows a.domain) c.args.bytes.now c.loop-prop.place c.in_err-column.field-0.0) c.prop.view_is (c.in_err-column.ensures number)))

pub read_columns-loop-prop-preserved : goal.read_columns-loop-prop-preserved
read_columns-loop-prop-preserved t c =
    let props = c.as_slice-prop-items.result.now in
    let next = columns.next_read props c.loop-prop.prop-index c.prop-item.result c.loop-prop-test.true c.prop-item.is in
    let column = entry_of c.in_ok-column.column in
    rw c.in_ok-push.ensures.ok
    (columns.grows c.args.end c.args.bytes.now c.args.rows c.args.at props c.loop-prop.columns c.loop-prop.prop-index c.loop-prop.place c.in_ok-column.next c.prop-item.result column next c.loop-prop.invariant
    (subst (λ (a : Attribute). IsEntry c.args.end c.args.rows a.domain column) c.prop.view_is (c.in_ok-column.ensures 0).0)
    (λ number. subst (λ (a : Attribute). Reads number c.args.end (column_due c.args.rows a.domain) c.args.bytes.now c.loop-prop.place c.in_ok-column.next (spelled_entry column)) c.prop.view_is (c.in_ok-column.ensures number).1))

pub read_columns-returns : goal.read_columns-returns
read_columns-returns t c = λ number.
    rw (← c.as_slice-prop-items.ensures.value)
    (columns.ends number c.args.end c.args.bytes.now c.args.rows c.args.at c.as_slice-prop-items.result.now c.loop-prop.columns c.loop-prop.prop-index c.loop-prop.place (omega arith) c.loop-prop.invariant)
