use Rattle.std.proofs.Common.{◌≡◌, ◌<◌, List, filter, length, get_or, max, not, ap, sym, ◌∙◌, arith}
use Rattle.mk_value.specs.Heading.{Attribute, domain_depth, heading_depth, heading_of}
use Rattle.relations.specs.Rows.{is_among}
use Rattle.grouping.proofs.Limits.{max_is, filter_depth, depth_skipped, depth_taken}
use Rattle.grouping.proofs.grouped.depth_of_others.Goals as goal
use Rattle.grouping.proofs.grouped.depth_of_others.Goals.{then-not-is_among, else-not-is_among}

pub loop-prop-preserved : goal.loop-prop-preserved
loop-prop-preserved c =
    let schema = c.args.schema.now in
    let i = c.loop-prop.prop-index in
    let x = c.prop-item.result in
    let same = c.as_slice-prop-items.ensures.value in
    let read = c.prop-item.is ∙ ap (λ (s : List Attribute). get_or s i x) same in
    let long = ap (λ (s : List Attribute). length s) same in
    let test = c.loop-prop-test.true in
    let within : i < length schema = omega arith in
    let named = ap (λ (a : Attribute). is_among c.args.names.now a.name) (sym c.prop.view_is) ∙ sym c.is_among.ensures in
    elim c.if-not-is_among.branch [
      | then-not-is_among w ↦ (
          let deeper : c.if-not-is_among.depth ≡ max c.loop-prop.depth (domain_depth x.domain) =
          w.depth-is ∙ w.max-depth.ensures ∙ max_is c.loop-prop.depth w.depth.result ∙ ap (max c.loop-prop.depth) (w.depth.ensures ∙ ap (λ (a : Attribute). domain_depth a.domain) c.prop.view_is) in
          depth_taken schema c.args.names.now i x within read c.loop-prop.depth c.if-not-is_among.depth
          (heading_depth (heading_of (filter (λ a. not (is_among c.args.names.now a.name)) schema))) (named ∙ w.if-not-is_among.true) deeper c.loop-prop.invariant)
      | else-not-is_among w ↦ (
          let kept : c.if-not-is_among.depth ≡ c.loop-prop.depth = w.depth-is in
          let next = depth_skipped schema c.args.names.now i x within read c.loop-prop.depth
          (heading_depth (heading_of (filter (λ a. not (is_among c.args.names.now a.name)) schema))) (named ∙ w.if-not-is_among.false) c.loop-prop.invariant in
          omega (arith, kept, next))
    ]

pub returns-clause-shallow : goal.returns-clause-shallow
returns-clause-shallow c =
    let schema = c.args.schema.now in
    let total = c.loop-prop.invariant in
    let most = filter_depth (λ a. not (is_among c.args.names.now a.name)) schema in
    let shallow = c.as_slice-prop-items.ensures.whole.limits.shallow in
    omega arith
