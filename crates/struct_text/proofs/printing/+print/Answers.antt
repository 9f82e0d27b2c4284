-- Each call appends its part, or a front of it, behind what stands there.
use Rattle.std.proofs.Common.{◌+◌, ℕ, List, [], ◌∷◌, ◌++◌, drop, get_or, sym, ap, subst, ◌∙◌, arith}
use Rattle.std.proofs.lemmas.Result.{err_from_is_err_and}
use Rattle.mk_value.specs.Heading.{heading_of, domain_weight}
use Rattle.mk_value.specs.Kinds.{domain_of}
use Rattle.mk_value.proofs.Headings.{heading_weight-heading_of, weight_read}
use Rattle.struct_text.specs.Bytes.{close_bracket}
use Rattle.struct_text.specs.Spelling.{spelled_domain, spelled_properties}
use Rattle.struct_text.specs.Printing.{Appends, spelled_property, spelled_others}
use Rattle.struct_text.proofs.PrintParts.{Appends-after, Cut, cut_first, cut_next, spelled_first, next_of, printed_more, cut_at_comma, cut_at_property}
use Rattle.struct_text.proofs.printing.+print.Goals as goal

pub print_brackets-returns-in_err-append : goal.print_brackets-returns-in_err-append
print_brackets-returns-in_err-append t c =
    let p = err_from_is_err_and c.from_residual.result c.from_residual.ensures.1 in
    rw (p.1) (cut_first (spelled_properties (heading_of c.args.schema.now) ++ close_bracket ∷ []) c.in_err-append.ensures)

pub print_brackets-returns-in_err-print_properties :
    goal.print_brackets-returns-in_err-print_properties
print_brackets-returns-in_err-print_properties t c =
    let p = err_from_is_err_and c.from_residual-in_err-print_properties.result c.from_residual-in_err-print_properties.ensures.1 in
    rw (p.1) (cut_next c.in_ok-append.ensures (cut_first (close_bracket ∷ []) c.in_err-print_properties.ensures))

pub print_kind-print_brackets-requires : goal.print_kind-print_brackets-requires
print_kind-print_brackets-requires t c =
    let seen = ap (λ k. domain_weight (domain_of k)) c.in-V.is in
    (omega (arith, seen, heading_weight-heading_of c.in-V.schema, c.decreases), tt)

pub print_properties-returns-in_err-print_property :
    goal.print_properties-returns-in_err-print_property
print_properties-returns-in_err-print_property t c =
    let p = err_from_is_err_and c.from_residual.result c.from_residual.ensures.1 in
    let P : List ℕ → Type 0 = λ whole. Cut c.args.out.now c.print_property.new.out whole in
    let first = ap spelled_property (c.index-props-0.is ∙ ap (λ xs. get_or xs 0 c.index-props-0.result) c.as_slice-props.ensures.value) in
    rw (p.1) (subst P (ap (λ s. s ++ spelled_others (drop 1 c.args.schema.now)) first ∙ sym (spelled_first c.args.schema.now c.index-props-0.result c.as_slice-props.ensures.whole.limits.some))
    (cut_first (spelled_others (drop 1 c.args.schema.now)) c.in_err-print_property.ensures))

pub print_properties-returns-in_err-append : goal.print_properties-returns-in_err-append
print_properties-returns-in_err-append t c =
    let p = err_from_is_err_and c.from_residual-in_err-append.result c.from_residual-in_err-append.ensures.1 in
    let next = next_of c.as_slice-props.result.now c.args.schema.now c.loop-prop.prop-index c.prop-item.result c.as_slice-props.ensures.value c.loop-prop-test.true c.prop-item.is in
    rw (p.1) (cut_at_comma c.args.schema.now c.loop-prop.prop-index c.prop-item.result next c.loop-prop.invariant c.in_err-append.ensures)

pub print_properties-print_property-requires-in-loop-prop :
    goal.print_properties-print_property-requires-in-loop-prop
print_properties-print_property-requires-in-loop-prop t c =
    let next = next_of c.as_slice-props.result.now c.args.schema.now c.loop-prop.prop-index c.prop-item.result c.as_slice-props.ensures.value c.loop-prop-test.true c.prop-item.is in
    (omega (arith, weight_read c.args.schema.now (c.loop-prop.prop-index + 1) c.prop-item.result next.within next.at, c.decreases), tt)

pub print_properties-returns-in_err-print_property-2 :
    goal.print_properties-returns-in_err-print_property-2
print_properties-returns-in_err-print_property-2 t c =
    let p = err_from_is_err_and c.from_residual-in_err-print_property-2.result c.from_residual-in_err-print_property-2.ensures.1 in
    let next = next_of c.as_slice-props.result.now c.args.schema.now c.loop-prop.prop-index c.prop-item.result c.as_slice-props.ensures.value c.loop-prop-test.true c.prop-item.is in
    rw (p.1) (cut_at_property c.args.schema.now c.loop-prop.prop-index c.prop-item.result next c.loop-prop.invariant c.in_ok-append.ensures c.in_err-print_property-2.ensures)

pub print_properties-loop-prop-preserved : goal.print_properties-loop-prop-preserved
print_properties-loop-prop-preserved t c =
    let next = next_of c.as_slice-props.result.now c.args.schema.now c.loop-prop.prop-index c.prop-item.result c.as_slice-props.ensures.value c.loop-prop-test.true c.prop-item.is in
    printed_more c.args.schema.now c.loop-prop.prop-index c.prop-item.result next c.loop-prop.invariant c.in_ok-append.ensures c.in_ok-print_property-2.ensures

pub print_property-returns-in_err-append : goal.print_property-returns-in_err-append
print_property-returns-in_err-append t c =
    let p = err_from_is_err_and c.from_residual.result c.from_residual.ensures.1 in
    let P : List ℕ → Type 0 = λ whole. Cut c.args.out.now c.append.new.out whole in
    rw (p.1) (subst P (ap (λ w. w ++ spelled_domain (domain_of c.prop.inside.kind)) c.as_str.ensures.value ∙ ap spelled_property c.prop.view_is)
    (cut_first (spelled_domain (domain_of c.prop.inside.kind)) c.in_err-append.ensures))

pub print_property-returns : goal.print_property-returns
print_property-returns t c =
    let P : List ℕ → Type 0 = λ whole. Appends c.args.out.now c.print_kind.new.out whole c.print_kind.result in
    subst P (ap (λ w. w ++ spelled_domain (domain_of c.prop.inside.kind)) c.as_str.ensures.value ∙ ap spelled_property c.prop.view_is)
    (Appends-after c.print_kind.new.out (spelled_domain (domain_of c.prop.inside.kind)) c.print_kind.result c.in_ok-append.ensures c.print_kind.ensures)
