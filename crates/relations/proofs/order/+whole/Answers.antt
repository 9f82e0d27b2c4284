use Rattle.std.proofs.Common.{map, length, ap, sym, ◌∙◌, arith}
use Rattle.std.specs.Ordering.{nat_cmp}
use Rattle.std.proofs.lemmas.List.{length-map}
use Rattle.mk_value.specs.Data.{relation, relation_of, datum_weight, row_weight, rows_weight}
use Rattle.mk_value.specs.Values.{datum_of}
use Rattle.mk_value.proofs.Relations.{relation_weight-relation_of, row_weight_read, rows_weight_read}
use Rattle.mk_value.proofs.Walks.{drop_read, drop_map_read, map_read}
use Rattle.relations.specs.WholeOrder.{whole_cmp, whole_row_cmp, whole_rows_cmp}
use Rattle.relations.proofs.Equal.{relation_cmp_is}
use Rattle.relations.proofs.Walked.{walk_on, walk_ends, walk_over, ne_false, ne_true, min_ends}
use Rattle.relations.proofs.order.+whole.Goals as goal

pub cmp_whole_value-cmp_whole_rows-requires : goal.cmp_whole_value-cmp_whole_rows-requires
cmp_whole_value-cmp_whole_rows-requires t c =
    let seen = ap (λ v. datum_weight (datum_of v)) c.in-V-V.is-0 in
    (omega (arith, seen, relation_weight-relation_of c.in-V-V.ones), tt)

pub cmp_whole_value-returns-in-V-V : goal.cmp_whole_value-returns-in-V-V
cmp_whole_value-returns-in-V-V t c =
    let one = ap datum_of c.in-V-V.is-0 in
    let two = ap datum_of c.in-V-V.is-1 in
    c.cmp_whole_rows.ensures ∙ sym (relation_cmp_is c.in-V-V.ones c.in-V-V.twos)
    ∙ sym (ap (λ d. whole_cmp d (datum_of c.args.b.now)) one ∙ ap (whole_cmp (relation (relation_of c.in-V-V.ones))) two)

pub cmp_whole_row-cmp_whole_value-order-requires : goal.cmp_whole_row-cmp_whole_value-order-requires
cmp_whole_row-cmp_whole_value-order-requires t c =
    let row = ap row_weight c.as_slice-ones.ensures in
    let inside = length-map c.as_slice-ones.result.now datum_of in
    let at = map_read datum_of c.as_slice-ones.result.now c.loop-at.at c.index-ones-at.result (omega arith) c.index-ones-at.is in
    (omega (arith, row, row_weight_read (map datum_of c.as_slice-ones.result.now) c.loop-at.at (datum_of c.index-ones-at.result) (omega arith) at), tt)

pub cmp_whole_row-loop-at-preserved : goal.cmp_whole_row-loop-at-preserved
cmp_whole_row-loop-at-preserved t c =
    walk_on whole_cmp (map datum_of c.as_slice-ones.result.now) (map datum_of c.as_slice-twos.result.now) c.loop-at.at (datum_of c.index-ones-at.result) (datum_of c.index-twos-at.result)
    (drop_map_read datum_of c.as_slice-ones.result.now c.loop-at.at c.index-ones-at.result (omega arith) c.index-ones-at.is)
    (drop_map_read datum_of c.as_slice-twos.result.now c.loop-at.at c.index-twos-at.result (omega arith) c.index-twos-at.is)
    (sym c.cmp_whole_value-order.ensures ∙ ne_false c.cmp_whole_value-order.result (sym c.is_ne.ensures ∙ c.if-is_ne.false)) c.loop-at.invariant

pub cmp_whole_row-returns-then-is_ne : goal.cmp_whole_row-returns-then-is_ne
cmp_whole_row-returns-then-is_ne t c =
    let ends = walk_ends whole_cmp (map datum_of c.as_slice-ones.result.now) (map datum_of c.as_slice-twos.result.now) c.loop-at.at (datum_of c.index-ones-at.result) (datum_of c.index-twos-at.result)
    (drop_map_read datum_of c.as_slice-ones.result.now c.loop-at.at c.index-ones-at.result (omega arith) c.index-ones-at.is)
    (drop_map_read datum_of c.as_slice-twos.result.now c.loop-at.at c.index-twos-at.result (omega arith) c.index-twos-at.is)
    (λ tied. ne_true c.cmp_whole_value-order.result (sym c.is_ne.ensures ∙ c.if-is_ne.true) (c.cmp_whole_value-order.ensures ∙ tied)) c.loop-at.invariant in
    c.cmp_whole_value-order.ensures ∙ sym ends ∙ (λ i. whole_row_cmp (c.as_slice-ones.ensures i) (c.as_slice-twos.ensures i))

pub cmp_whole_row-returns : goal.cmp_whole_row-returns
cmp_whole_row-returns t c =
    let one = length-map c.as_slice-ones.result.now datum_of in
    let two = length-map c.as_slice-twos.result.now datum_of in
    let m = min_ends (length (map datum_of c.as_slice-ones.result.now)) (length (map datum_of c.as_slice-twos.result.now)) c.loop-at.at (omega arith) in
    let over = walk_over whole_cmp (map datum_of c.as_slice-ones.result.now) (map datum_of c.as_slice-twos.result.now) c.loop-at.at m.0 m.1 m.2 c.loop-at.invariant in
    c.cmp.ensures ∙ (λ i. nat_cmp (sym one i) (sym two i)) ∙ sym over ∙ (λ i. whole_row_cmp (c.as_slice-ones.ensures i) (c.as_slice-twos.ensures i))

pub cmp_whole_rows-cmp_whole_row-order-requires : goal.cmp_whole_rows-cmp_whole_row-order-requires
cmp_whole_rows-cmp_whole_row-order-requires t c =
    let whole = ap rows_weight c.as_slice-ones.ensures in
    (omega (arith, whole, rows_weight_read c.as_slice-ones.result.now c.loop-at.at c.index-ones-at.result (omega arith) c.index-ones-at.is), tt)

pub cmp_whole_rows-loop-at-preserved : goal.cmp_whole_rows-loop-at-preserved
cmp_whole_rows-loop-at-preserved t c =
    walk_on whole_row_cmp c.as_slice-ones.result.now c.as_slice-twos.result.now c.loop-at.at c.index-ones-at.result c.index-twos-at.result
    (drop_read c.as_slice-ones.result.now c.loop-at.at c.index-ones-at.result (omega arith) c.index-ones-at.is)
    (drop_read c.as_slice-twos.result.now c.loop-at.at c.index-twos-at.result (omega arith) c.index-twos-at.is)
    (sym c.cmp_whole_row-order.ensures ∙ ne_false c.cmp_whole_row-order.result (sym c.is_ne.ensures ∙ c.if-is_ne.false)) c.loop-at.invariant

pub cmp_whole_rows-returns-then-is_ne : goal.cmp_whole_rows-returns-then-is_ne
cmp_whole_rows-returns-then-is_ne t c =
    let ends = walk_ends whole_row_cmp c.as_slice-ones.result.now c.as_slice-twos.result.now c.loop-at.at c.index-ones-at.result c.index-twos-at.result
    (drop_read c.as_slice-ones.result.now c.loop-at.at c.index-ones-at.result (omega arith) c.index-ones-at.is)
    (drop_read c.as_slice-twos.result.now c.loop-at.at c.index-twos-at.result (omega arith) c.index-twos-at.is)
    (λ tied. ne_true c.cmp_whole_row-order.result (sym c.is_ne.ensures ∙ c.if-is_ne.true) (c.cmp_whole_row-order.ensures ∙ tied)) c.loop-at.invariant in
    c.cmp_whole_row-order.ensures ∙ sym ends ∙ (λ i. whole_rows_cmp (c.as_slice-ones.ensures i) (c.as_slice-twos.ensures i))

pub cmp_whole_rows-returns : goal.cmp_whole_rows-returns
cmp_whole_rows-returns t c =
    let m = min_ends (length c.as_slice-ones.result.now) (length c.as_slice-twos.result.now) c.loop-at.at (omega arith) in
    let over = walk_over whole_row_cmp c.as_slice-ones.result.now c.as_slice-twos.result.now c.loop-at.at m.0 m.1 m.2 c.loop-at.invariant in
    c.cmp.ensures ∙ sym over ∙ (λ i. whole_rows_cmp (c.as_slice-ones.ensures i) (c.as_slice-twos.ensures i))
