use Rattle.std.proofs.Common.{◌≡◌, map, ap, arith, true, false, leb-true}
use Rattle.std.proofs.lemmas.List.{length-map}
use Rattle.mk_value.specs.Data.{datum_weight, row_weight, rows_weight}
use Rattle.mk_value.specs.LiteralValues.{literal_of}
use Rattle.mk_value.proofs.Relations.{relation_weight-relation_of, row_weight_read, rows_weight_read}
use Rattle.mk_value.proofs.Converting.{short_row_more, short_row_no, rows_count}
use Rattle.mk_value.proofs.Walks.{drop_map_read, map_read}
use Rattle.mk_value.proofs.conversion.+is_short.Goals as goal

pub is_short-are_short-requires : goal.is_short-are_short-requires
is_short-are_short-requires t c =
    let seen = ap (λ v. datum_weight (literal_of v)) c.in-View.is in
    (omega (arith, seen, relation_weight-relation_of c.in-View.rows), tt)

pub is_short-returns-then-len-le-MAX_ROWS : goal.is_short-returns-then-len-le-MAX_ROWS
is_short-returns-then-len-le-MAX_ROWS t c =
    let n = rows_count c.in-View.rows in
    rw c.in-View.is (λ h. (omega (arith, n), c.are_short.ensures.0 h), λ h. c.are_short.ensures.1 h.1)

pub is_short-returns-else-len-le-MAX_ROWS : goal.is_short-returns-else-len-le-MAX_ROWS
is_short-returns-else-len-le-MAX_ROWS t c =
    let n = rows_count c.in-View.rows in
    let over = c.if-len-le-MAX_ROWS.false in
    rw c.in-View.is (λ h. absurd (let le = leb-true _ _ h in omega arith), λ h. absurd (let few = h.0 in omega (arith, n, few)))

pub are_short-is_short_row-requires : goal.are_short-is_short_row-requires
are_short-is_short_row-requires t c =
    let whole = ap rows_weight c.as_slice-row-items.ensures in
    (omega (arith, whole, rows_weight_read _ _ _ c.loop-row-test.true c.row-item.is), tt)

pub is_short_row-is_short-requires : goal.is_short_row-is_short-requires
is_short_row-is_short-requires t c =
    let row = ap row_weight c.as_slice-literal-items.ensures in
    let inside = length-map c.as_slice-literal-items.result.now literal_of in
    let at = map_read literal_of _ _ _ c.loop-literal-test.true c.literal-item.is in
    (omega (arith, row, row_weight_read (map literal_of c.as_slice-literal-items.result.now) c.loop-literal.literal-index (literal_of c.literal-item.result) (omega arith) at), tt)

pub is_short_row-loop-literal-preserved : goal.is_short_row-loop-literal-preserved
is_short_row-loop-literal-preserved t c =
    short_row_more _ _ (literal_of c.literal-item.result) (drop_map_read literal_of _ _ _ c.loop-literal-test.true c.literal-item.is)
    (c.is_short.ensures.0 c.if-not-is_short.false) c.loop-literal.invariant

pub is_short_row-returns-then-not-is_short : goal.is_short_row-returns-then-not-is_short
is_short_row-returns-then-not-is_short t c = (
  λ h. absurd (let e : false ≡ true = h in cc),
  λ h. absurd (short_row_no _ _ (literal_of c.literal-item.result) (drop_map_read literal_of _ _ _ c.loop-literal-test.true c.literal-item.is)
      (λ short. let yes = c.is_short.ensures.1 short in let no = c.if-not-is_short.true in cc)
      c.loop-literal.invariant (rw c.as_slice-literal-items.ensures h)),
)
