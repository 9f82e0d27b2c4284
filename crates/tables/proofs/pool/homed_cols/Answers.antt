use Rattle.std.proofs.Common.{◌≡◌, ◌<◌, ◌≤◌, List, length, drop, ap, sym, subst, ◌∙◌, arith}
use Rattle.std.proofs.lemmas.List.{take_rest}
use Rattle.mk_value.specs.declared.span.Span.{Span}
use Rattle.mk_value.specs.Heading.{Domain, Attribute}
use Rattle.mk_value.specs.Kinds.{domain_of}
use Rattle.tables.specs.Build.{AreCells}
use Rattle.tables.specs.Columns.{IsColumnWith}
use Rattle.tables.specs.Homes.{column_of}
use Rattle.tables.specs.Pools.{block_count, home_at}
use Rattle.tables.specs.Shapes.{IsHomeOf}
use Rattle.tables.specs.Stored.{stored_of}
use Rattle.tables.proofs.Cells.{cells_of_rows}
use Rattle.tables.proofs.Homed.{all_homed_columns, enough_left, homed_more, next_few, next_within, none_homed, shape_left}
use Rattle.tables.proofs.Reading.{domain_read}
use Rattle.tables.proofs.pool.homed_cols.Goals as goal

pub loop-at-init : goal.loop-at-init
loop-at-init c = none_homed c.args.schema.now c.args.rows.now c.args.blocks.now c.in_ok-cols.cols c.in_ok-cols.ensures

pub offset_bounds-blocks-next : goal.offset_bounds-blocks-next
offset_bounds-blocks-next c =
    let props = ap length c.as_slice-props.ensures.value in
    let within : c.loop-at.at < length c.args.schema.now = omega (arith, props) in
    let limits = c.as_slice-props.ensures.whole.limits in
    let few = next_few c.args.schema.now c.loop-at.at c.loop-at.next within c.loop-at.invariant.next_is in
    let fits = next_within c.args.schema.now c.args.blocks.now c.loop-at.at c.loop-at.next within c.loop-at.invariant.next_is c.requires.enough in
    omega (arith, limits, few)

pub slice_bounds-homed_col-count : goal.slice_bounds-homed_col-count
slice_bounds-homed_col-count c =
    let props = ap length c.as_slice-props.ensures.value in
    let within : c.loop-at.at < length c.args.schema.now = omega (arith, props) in
    let limits = c.as_slice-props.ensures.whole.limits in
    let few = next_few c.args.schema.now c.loop-at.at c.loop-at.next within c.loop-at.invariant.next_is in
    let fits = next_within c.args.schema.now c.args.blocks.now c.loop-at.at c.loop-at.next within c.loop-at.invariant.next_is c.requires.enough in
    omega (arith, fits)

pub slice_bounds-homed_col-start : goal.slice_bounds-homed_col-start
slice_bounds-homed_col-start c =
    let props = ap length c.as_slice-props.ensures.value in
    let within : c.loop-at.at < length c.args.schema.now = omega (arith, props) in
    let limits = c.as_slice-props.ensures.whole.limits in
    let few = next_few c.args.schema.now c.loop-at.at c.loop-at.next within c.loop-at.invariant.next_is in
    let fits = next_within c.args.schema.now c.args.blocks.now c.loop-at.at c.loop-at.next within c.loop-at.invariant.next_is c.requires.enough in
    omega (arith, fits)

pub overflow_add-next : goal.overflow_add-next
overflow_add-next c =
    let props = ap length c.as_slice-props.ensures.value in
    let within : c.loop-at.at < length c.args.schema.now = omega (arith, props) in
    let kind = ap (λ (a : Attribute). a.domain) c.prop.view_is in
    let domain = domain_read c.args.schema.now c.loop-at.at c.index-props-at.result (domain_of c.prop.inside.kind) within (rw c.as_slice-props.ensures.value at c.index-props-at.is) kind in
    let limits = c.as_slice-props.ensures.whole.limits in
    let few = next_few c.args.schema.now c.loop-at.at c.loop-at.next within c.loop-at.invariant.next_is in
    let fits = next_within c.args.schema.now c.args.blocks.now c.loop-at.at c.loop-at.next within c.loop-at.invariant.next_is c.requires.enough in
    omega (arith, limits, few, c.blocks_of_kind.ensures, ap block_count domain)

pub homed_col-requires : goal.homed_col-requires
homed_col-requires c =
    let props = ap length c.as_slice-props.ensures.value in
    let within : c.loop-at.at < length c.args.schema.now = omega (arith, props) in
    let kind = ap (λ (a : Attribute). a.domain) c.prop.view_is in
    let domain = domain_read c.args.schema.now c.loop-at.at c.index-props-at.result (domain_of c.prop.inside.kind) within (rw c.as_slice-props.ensures.value at c.index-props-at.is) kind in
    let rest = take_rest c.args.blocks.now c.loop-at.next in
    let e = domain_of c.prop.inside.kind in
    let column = column_of c.args.rows.now c.loop-at.at in
    record {
      cells = subst (λ d. AreCells c.args.rows.now c.loop-at.at d) domain (cells_of_rows c.args.rows.now c.args.schema.now c.loop-at.at c.requires.rows within);
      enough =
          subst (λ (bs : List Span). block_count e ≤ length bs) (sym rest)
          (omega (arith, ap block_count domain, enough_left c.args.schema.now c.args.blocks.now c.loop-at.at c.loop-at.next within c.loop-at.invariant.next_is c.requires.enough));
      shaped =
          subst (λ (bs : List Span). IsHomeOf (home_at e bs) e column) (sym rest)
          (subst (λ d. IsHomeOf (home_at d (drop c.loop-at.next c.args.blocks.now)) d column) domain (shape_left c.args.schema.now c.args.rows.now c.args.blocks.now c.loop-at.at c.loop-at.next within c.loop-at.invariant.next_is c.requires.shaped));
    }

pub loop-at-preserved : goal.loop-at-preserved
loop-at-preserved c =
    let props = ap length c.as_slice-props.ensures.value in
    let within : c.loop-at.at < length c.args.schema.now = omega (arith, props) in
    let kind = ap (λ (a : Attribute). a.domain) c.prop.view_is in
    let domain = domain_read c.args.schema.now c.loop-at.at c.index-props-at.result (domain_of c.prop.inside.kind) within (rw c.as_slice-props.ensures.value at c.index-props-at.is) kind in
    let rest = take_rest c.args.blocks.now c.loop-at.next in
    let e = domain_of c.prop.inside.kind in
    let column = column_of c.args.rows.now c.loop-at.at in
    let made = subst (λ (bs : List Span). IsColumnWith e column (home_at e bs) (stored_of c.in_ok-homed_col.field-0)) rest c.in_ok-homed_col.ensures in
    homed_more c.args.schema.now c.args.rows.now c.args.blocks.now c.loop-at.at c.loop-at.cols c.push.new.self c.loop-at.next c.blocks_of_kind.result (stored_of c.in_ok-homed_col.field-0) within
    c.loop-at.invariant c.in_ok-push.ensures.ok (c.blocks_of_kind.ensures ∙ ap block_count (sym domain))
    (subst (λ d. IsColumnWith d column (home_at d (drop c.loop-at.next c.args.blocks.now)) (stored_of c.in_ok-homed_col.field-0)) (sym domain) made)

pub returns : goal.returns
returns c =
    let props = ap length c.as_slice-props.ensures.value in
    all_homed_columns c.args.schema.now c.args.rows.now c.args.blocks.now c.loop-at.at c.loop-at.cols c.loop-at.next c.loop-at.invariant (omega (arith, props))
