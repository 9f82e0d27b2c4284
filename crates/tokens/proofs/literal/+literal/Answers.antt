-- Each level reads its part, or stops where that does.
use Rattle.std.proofs.Common.{◌+◌, sym, ◌∙◌, arith}
use Rattle.std.proofs.lemmas.Bool.{true≢false}
use Rattle.std.proofs.lemmas.Result.{IfErr-weaker, err_from_is_err_and}
use Rattle.mk_value.specs.LiteralValues.{literal_of}
use Rattle.tokens.specs.Meanings.{tokens_of_pieces}
use Rattle.tokens.specs.Parts.{RowIn, RowsIn, SomeRowsIn, StopsAt, ValuesIn}
use Rattle.tokens.proofs.Levels.{brace_inside, brace_too_deep, row_inside_at, row_unopened_at, rows_close, rows_further, rows_inside_at, rows_item, rows_next, rows_stuck, value_close, value_further, value_item, value_next, value_stuck}
use Rattle.tokens.proofs.literal.+literal.Goals as goal

pub literal_from-returns-then-not-is_sign_at-clause-stops : goal.literal_from-returns-then-not-is_sign_at-clause-stops
literal_from-returns-then-not-is_sign_at-clause-stops t c = c.plain_from.ensures.stops c.args.deep

pub literal_from-returns-then-deep-eq0-clause-stops : goal.literal_from-returns-then-deep-eq0-clause-stops
literal_from-returns-then-deep-eq0-clause-stops t c =
    brace_too_deep (tokens_of_pieces c.args.pieces.now) c.args.at c.args.deep (c.is_sign_at.ensures.stands.0 c.if-not-is_sign_at.false) c.if-deep-eq0.true

pub literal_from-returns-in_err-rows-clause-stops : goal.literal_from-returns-in_err-rows-clause-stops
literal_from-returns-in_err-rows-clause-stops t c =
    let p = err_from_is_err_and c.from_residual.result c.from_residual.ensures.1 in
    rw (p.1, p.2) (brace_inside (tokens_of_pieces c.args.pieces.now) c.args.at c.args.deep (c.is_sign_at.ensures.stands.0 c.if-not-is_sign_at.false) c.if-deep-eq0.false
    c.in_err-rows.field-0.0 c.in_err-rows.ensures.stops)

pub row_from-returns-then-not-is_sign_at-clause-stops : goal.row_from-returns-then-not-is_sign_at-clause-stops
row_from-returns-then-not-is_sign_at-clause-stops t c =
    row_unopened_at (tokens_of_pieces c.args.pieces.now) c.args.at c.args.deep (λ s. true≢false (sym (c.is_sign_at.ensures.stands.1 s) ∙ c.if-not-is_sign_at.true))

pub row_from-returns-clause-stops : goal.row_from-returns-clause-stops
row_from-returns-clause-stops t c =
    IfErr-weaker c.values_from.result (StopsAt (ValuesIn c.args.deep) (tokens_of_pieces c.args.pieces.now) (c.args.at + 1)) (StopsAt (RowIn c.args.deep) (tokens_of_pieces c.args.pieces.now) c.args.at)
    (row_inside_at (tokens_of_pieces c.args.pieces.now) c.args.at c.args.deep (c.is_sign_at.ensures.stands.0 c.if-not-is_sign_at.false)) c.values_from.ensures.stops

pub rows_from-returns-clause-stops : goal.rows_from-returns-clause-stops
rows_from-returns-clause-stops t c =
    IfErr-weaker c.some_rows_from.result (StopsAt (SomeRowsIn c.args.deep) (tokens_of_pieces c.args.pieces.now) c.args.at) (StopsAt (RowsIn c.args.deep) (tokens_of_pieces c.args.pieces.now) c.args.at)
    (rows_inside_at (tokens_of_pieces c.args.pieces.now) c.args.at c.args.deep (λ s. true≢false (sym (c.is_sign_at.ensures.stands.1 s) ∙ c.if-is_sign_at.false))) c.some_rows_from.ensures.stops

-- rows
pub some_rows_from-returns-in_err-row-clause-stops : goal.some_rows_from-returns-in_err-row-clause-stops
some_rows_from-returns-in_err-row-clause-stops t c =
    let p = err_from_is_err_and c.from_residual.result c.from_residual.ensures.1 in
    rw (p.1, p.2) (rows_item c.args.deep (tokens_of_pieces c.args.pieces.now) c.args.start c.rows.rows c.rows.at c.rows.invariant c.in_err-row.field-0.0 c.in_err-row.ensures.stops)

pub some_rows_from-returns-then-is_sign_at-clause-reads : goal.some_rows_from-returns-then-is_sign_at-clause-reads
some_rows_from-returns-then-is_sign_at-clause-reads t c =
    rw c.in_ok-push.ensures.ok (rows_close c.args.deep (tokens_of_pieces c.args.pieces.now) c.args.start c.rows.rows c.rows.at c.rows.invariant c.in_ok-row.row c.in_ok-row.end c.in_ok-row.ensures.reads
    (c.is_sign_at.ensures.stands.0 c.if-is_sign_at.true))

pub some_rows_from-returns-then-not-is_sign_at-clause-stops : goal.some_rows_from-returns-then-not-is_sign_at-clause-stops
some_rows_from-returns-then-not-is_sign_at-clause-stops t c =
    rows_stuck c.args.deep (tokens_of_pieces c.args.pieces.now) c.args.start c.rows.rows c.rows.at c.rows.invariant c.in_ok-row.row c.in_ok-row.end c.in_ok-row.ensures.reads
    (λ s. true≢false (sym (c.is_sign_at.ensures.stands.1 s) ∙ c.if-is_sign_at.false))
    (λ s. true≢false (sym (c.is_sign_at-in-rows.ensures.stands.1 s) ∙ c.if-not-is_sign_at.true))

pub some_rows_from-rows-smaller : goal.some_rows_from-rows-smaller
some_rows_from-rows-smaller t c =
    let further = rows_further c.args.deep (tokens_of_pieces c.args.pieces.now) c.args.start c.rows.rows c.rows.at c.rows.invariant c.in_ok-row.row c.in_ok-row.end c.in_ok-row.ensures.reads in
    let within = c.is_sign_at-in-rows.ensures.within c.if-not-is_sign_at.false in
    omega (arith, further, within)

pub some_rows_from-rows-preserved : goal.some_rows_from-rows-preserved
some_rows_from-rows-preserved t c =
    rw c.in_ok-push.ensures.ok (rows_next c.args.deep (tokens_of_pieces c.args.pieces.now) c.args.start c.rows.rows c.rows.at c.rows.invariant c.in_ok-row.row c.in_ok-row.end c.in_ok-row.ensures.reads
    (c.is_sign_at-in-rows.ensures.stands.0 c.if-not-is_sign_at.false))

-- values
pub values_from-returns-in_err-literal-clause-stops : goal.values_from-returns-in_err-literal-clause-stops
values_from-returns-in_err-literal-clause-stops t c =
    let p = err_from_is_err_and c.from_residual.result c.from_residual.ensures.1 in
    rw (p.1, p.2) (value_item c.args.deep (tokens_of_pieces c.args.pieces.now) c.args.start c.values.row c.values.at c.values.invariant c.in_err-literal.field-0.0 c.in_err-literal.ensures.stops)

pub values_from-returns-then-is_sign_at-clause-reads : goal.values_from-returns-then-is_sign_at-clause-reads
values_from-returns-then-is_sign_at-clause-reads t c =
    rw c.in_ok-push.ensures.ok (value_close c.args.deep (tokens_of_pieces c.args.pieces.now) c.args.start c.values.row c.values.at c.values.invariant (literal_of c.in_ok-literal.literal) c.in_ok-literal.end c.in_ok-literal.ensures.reads
    (c.is_sign_at.ensures.stands.0 c.if-is_sign_at.true))

pub values_from-returns-then-not-is_sign_at-clause-stops : goal.values_from-returns-then-not-is_sign_at-clause-stops
values_from-returns-then-not-is_sign_at-clause-stops t c =
    value_stuck c.args.deep (tokens_of_pieces c.args.pieces.now) c.args.start c.values.row c.values.at c.values.invariant (literal_of c.in_ok-literal.literal) c.in_ok-literal.end c.in_ok-literal.ensures.reads
    (λ s. true≢false (sym (c.is_sign_at.ensures.stands.1 s) ∙ c.if-is_sign_at.false))
    (λ s. true≢false (sym (c.is_sign_at-in-values.ensures.stands.1 s) ∙ c.if-not-is_sign_at.true))

pub values_from-values-smaller : goal.values_from-values-smaller
values_from-values-smaller t c =
    let further = value_further c.args.deep (tokens_of_pieces c.args.pieces.now) c.args.start c.values.row c.values.at c.values.invariant (literal_of c.in_ok-literal.literal) c.in_ok-literal.end c.in_ok-literal.ensures.reads in
    let within = c.is_sign_at-in-values.ensures.within c.if-not-is_sign_at.false in
    omega (arith, further, within)

pub values_from-values-preserved : goal.values_from-values-preserved
values_from-values-preserved t c =
    rw c.in_ok-push.ensures.ok (value_next c.args.deep (tokens_of_pieces c.args.pieces.now) c.args.start c.values.row c.values.at c.values.invariant (literal_of c.in_ok-literal.literal) c.in_ok-literal.end c.in_ok-literal.ensures.reads
    (c.is_sign_at-in-values.ensures.stands.0 c.if-not-is_sign_at.false))
