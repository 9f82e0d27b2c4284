use Rattle.std.proofs.Common.{List, length, ◌∙◌, ap, arith}
use Rattle.mk_value.specs.Heading.{Attribute}
use Rattle.mk_value.specs.Tables.{domain_at}
use Rattle.stream_codec.proofs.Inners.{domain_read, seen_domain, seen_more}
use Rattle.stream_codec.proofs.partial_table.PartialTable.kind.Goals as goal

pub bounds-as_slice-len : goal.bounds-as_slice-len
bounds-as_slice-len c =
    let i = c.self.inside in
    let more = seen_more i.table i.row i.inners.items i.left c.args.self.now c.self.view_is c.requires in
    let long = ap length (c.as_slice.ensures.value ∙ c.schema.ensures.value) in
    let at = c.len.ensures in omega (arith, more, long, at)

pub returns : goal.returns
returns c =
    let i = c.self.inside in
    let schema = c.as_slice.ensures.value ∙ c.schema.ensures.value in
    let more = seen_more i.table i.row i.inners.items i.left c.args.self.now c.self.view_is c.requires in
    let long = ap length schema in
    let at = c.len.ensures in
    ap (λ (a : Attribute). a.domain) c.prop.view_is
    ∙ domain_read c.as_slice.result.now c.len.result c.index-as_slice-len.result (omega (arith, more, long, at)) c.index-as_slice-len.is
    ∙ ap (λ (s : List Attribute). domain_at s c.len.result) schema ∙ ap (λ k. domain_at i.table.schema k) at
    ∙ seen_domain i.table i.row i.inners.items i.left c.args.self.now c.self.view_is
