use Rattle.std.proofs.Common.{◌≡◌, ◌+◌, ◌<◌, length, MatchOption, drop, ap, sym, subst, arith}
use Rattle.mk_value.specs.Heading.{Attribute, heading_of, domain_weight, attributes_weight}
use Rattle.mk_value.specs.Kinds.{domain_of}
use Rattle.mk_value.proofs.Headings.{weight_read, heading_weight-heading_of}
use Rattle.struct_text.specs.Lengths.{domain_length, properties_length}
use Rattle.view_store.proofs.Lengths.{properties_length-next, properties_length-some}
use Rattle.view_store.proofs.structure.+room.Goals as goal

pub room_after-room_after_kind-requires : goal.room_after-room_after_kind-requires
room_after-room_after_kind-requires t c =
    let read = weight_read c.as_slice-prop-items.result.now c.loop-prop.prop-index c.prop-item.result c.loop-prop-test.true c.prop-item.is in
    let kind = ap (λ (a : Attribute). domain_weight a.domain) c.prop.view_is in
    let whole = ap attributes_weight c.as_slice-prop-items.ensures.value in
    (omega (arith, read, kind, whole), tt)

pub room_after-returns-in_err-left-3 : goal.room_after-returns-in_err-left-3
room_after-returns-in_err-left-3 t c =
    let props = c.as_slice-prop-items.result.now in
    let schema = c.args.schema.now in
    let i = c.loop-prop.prop-index in
    let next = properties_length-next props i c.prop-item.result c.loop-prop-test.true c.prop-item.is in
    let some = properties_length-some (heading_of (drop (i + 1) props)) in
    let name : length c.prop.inside.name ≡ length c.prop-item.result.name = ap (λ (a : Attribute). length a.name) c.prop.view_is in
    let kind : domain_length (domain_of c.prop.inside.kind) ≡ domain_length c.prop-item.result.domain = ap (λ (a : Attribute). domain_length a.domain) c.prop.view_is in
    let whole : properties_length (heading_of props) ≡ properties_length (heading_of schema) = ap (λ s. properties_length (heading_of s)) c.as_slice-prop-items.ensures.value in
    let bytes : length c.as_bytes-name.result.now ≡ length c.prop.inside.name = ap length c.as_bytes-name.ensures.value in
    let was : c.loop-prop.left + properties_length (heading_of props) + 1 ≡ c.args.room + properties_length (heading_of (drop i props)) = c.loop-prop.invariant in
    let taken = c.in_ok-left-2.ensures in
    let fails : c.in_ok-left-2.left < domain_length (domain_of c.prop.inside.kind) = c.in_err-left-3.ensures in
    subst (λ r. MatchOption r (c.args.room < properties_length (heading_of schema)) (λ left. left + properties_length (heading_of schema) ≡ c.args.room))
    (sym c.from_residual-in_err-left-3.ensures) (omega (arith, next, some, name, kind, whole, bytes, was, taken.0, taken.1, fails))

pub room_after_kind-room_after-requires : goal.room_after_kind-room_after-requires
room_after_kind-room_after-requires t c =
    let inside = ap (λ k. domain_weight (domain_of k)) c.in-V.is in
    (omega (arith, inside, heading_weight-heading_of c.in-V.inner), tt)
