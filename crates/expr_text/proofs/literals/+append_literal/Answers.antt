use Rattle.std.proofs.Common.{◌<◌, ◌∷◌, [], map, length, arith, ap}
use Rattle.std.proofs.lemmas.List.{length-map}
use Rattle.mk_value.specs.Data.{datum_weight}
use Rattle.mk_value.specs.Literals.{value_text, row_text}
use Rattle.mk_value.specs.LiteralValues.{literal_of}
use Rattle.mk_value.proofs.Appending.{short_first, short_second, short_mark, short_marked, appends_marked, writes_third, fell_short}
use Rattle.mk_value.proofs.Printed.{row_text_pieces, rows_text_pieces, row_text_along, rows_text_along}
use Rattle.mk_value.proofs.Relations.{relation_weight-relation_of, row_weight_read, rows_weight_read}
use Rattle.mk_value.proofs.Walks.{map_read}
use Rattle.expr_text.proofs.literals.+append_literal.Goals as goal

pub append_literal-append_rows-requires : goal.append_literal-append_rows-requires
append_literal-append_rows-requires t c =
    let seen = ap (λ v. datum_weight (literal_of v)) c.in-View.is in
    (omega (arith, seen, relation_weight-relation_of c.in-View.rows), tt)

-- a row: an opening parenthesis, its values, a closing one
pub append_row-returns-in_err-append_str : goal.append_row-returns-in_err-append_str
append_row-returns-in_err-append_str t c =
    fell_short _ _ _ _ c.from_residual.ensures.0 (short_first _ _ _ _ _ (row_text_pieces c.args.row.now) c.in_err-append_str.ensures)

pub append_row-returns-in_err-append_values : goal.append_row-returns-in_err-append_values
append_row-returns-in_err-append_values t c =
    fell_short _ _ _ _ c.from_residual-in_err-append_values.ensures.0
    (short_second _ _ _ _ _ _ _ (row_text_along _ _ c.as_slice.ensures) c.in_ok-append_str.ensures c.in_err-append_values.ensures)

pub append_row-returns : goal.append_row-returns
append_row-returns t c =
    writes_third _ _ _ _ _ _ _ _ _ (row_text_along _ _ c.as_slice.ensures) c.in_ok-append_str.ensures c.in_ok-append_values.ensures c.append_str-2.ensures

-- a view: an opening brace, its rows, a closing one
pub append_rows-returns-in_err-append_str : goal.append_rows-returns-in_err-append_str
append_rows-returns-in_err-append_str t c =
    fell_short _ _ _ _ c.from_residual.ensures.0 (short_first _ _ _ _ _ (rows_text_pieces c.args.rows.now) c.in_err-append_str.ensures)

pub append_rows-returns-in_err-append_joined_rows : goal.append_rows-returns-in_err-append_joined_rows
append_rows-returns-in_err-append_joined_rows t c =
    fell_short _ _ _ _ c.from_residual-in_err-append_joined_rows.ensures.0
    (short_second _ _ _ _ _ _ _ (rows_text_along _ _ c.as_slice.ensures) c.in_ok-append_str.ensures c.in_err-append_joined_rows.ensures)

pub append_rows-returns : goal.append_rows-returns
append_rows-returns t c =
    writes_third _ _ _ _ _ _ _ _ _ (rows_text_along _ _ c.as_slice.ensures) c.in_ok-append_str.ensures c.in_ok-append_joined_rows.ensures c.append_str-2.ensures

-- rows behind the first
pub append_more_rows-append_row-requires : goal.append_more_rows-append_row-requires
append_more_rows-append_row-requires t c =
    (omega (arith, rows_weight_read c.args.rows.now c.loop-row.row-index c.row-item.result c.loop-row-test.true c.row-item.is), tt)

pub append_more_rows-returns-in_err-append_str : goal.append_more_rows-returns-in_err-append_str
append_more_rows-returns-in_err-append_str t c =
    fell_short _ _ _ _ c.from_residual.ensures.0
    (short_mark (44 ∷ []) row_text c.args.rows.now _ c.row-item.result _ _ _ c.loop-row-test.true c.row-item.is c.loop-row.invariant c.in_err-append_str.ensures)

pub append_more_rows-returns-in_err-append_row : goal.append_more_rows-returns-in_err-append_row
append_more_rows-returns-in_err-append_row t c =
    fell_short _ _ _ _ c.from_residual-in_err-append_row.ensures.0
    (short_marked (44 ∷ []) row_text c.args.rows.now _ c.row-item.result _ _ _ _ c.loop-row-test.true c.row-item.is c.loop-row.invariant c.in_ok-append_str.ensures c.in_err-append_row.ensures)

pub append_more_rows-loop-row-preserved : goal.append_more_rows-loop-row-preserved
append_more_rows-loop-row-preserved t c =
    appends_marked (44 ∷ []) row_text c.args.rows.now _ c.row-item.result _ _ _ _ c.loop-row-test.true c.row-item.is c.loop-row.invariant c.in_ok-append_str.ensures c.in_ok-append_row.ensures

-- values behind the first
pub append_more_values-append_literal-requires : goal.append_more_values-append_literal-requires
append_more_values-append_literal-requires t c =
    let long = length-map c.args.values.now literal_of in
    (omega (arith, row_weight_read (map literal_of c.args.values.now) c.loop-value.value-index (literal_of c.value-item.result) (omega arith) (map_read literal_of _ _ _ c.loop-value-test.true c.value-item.is)), tt)

pub append_more_values-returns-in_err-append_str : goal.append_more_values-returns-in_err-append_str
append_more_values-returns-in_err-append_str t c =
    let long = length-map c.args.values.now literal_of in
    let within : c.loop-value.value-index < length (map literal_of c.args.values.now) = omega arith in
    fell_short _ _ _ _ c.from_residual.ensures.0
    (short_mark (44 ∷ []) value_text (map literal_of c.args.values.now) _ (literal_of c.value-item.result) _ _ _ within (map_read literal_of _ _ _ c.loop-value-test.true c.value-item.is)
    c.loop-value.invariant c.in_err-append_str.ensures)

pub append_more_values-returns-in_err-append_literal : goal.append_more_values-returns-in_err-append_literal
append_more_values-returns-in_err-append_literal t c =
    let long = length-map c.args.values.now literal_of in
    let within : c.loop-value.value-index < length (map literal_of c.args.values.now) = omega arith in
    fell_short _ _ _ _ c.from_residual-in_err-append_literal.ensures.0
    (short_marked (44 ∷ []) value_text (map literal_of c.args.values.now) _ (literal_of c.value-item.result) _ _ _ _ within (map_read literal_of _ _ _ c.loop-value-test.true c.value-item.is)
    c.loop-value.invariant c.in_ok-append_str.ensures c.in_err-append_literal.ensures)

pub append_more_values-loop-value-preserved : goal.append_more_values-loop-value-preserved
append_more_values-loop-value-preserved t c =
    let long = length-map c.args.values.now literal_of in
    let within : c.loop-value.value-index < length (map literal_of c.args.values.now) = omega arith in
    appends_marked (44 ∷ []) value_text (map literal_of c.args.values.now) _ (literal_of c.value-item.result) _ _ _ _ within (map_read literal_of _ _ _ c.loop-value-test.true c.value-item.is)
    c.loop-value.invariant c.in_ok-append_str.ensures c.in_ok-append_literal.ensures
