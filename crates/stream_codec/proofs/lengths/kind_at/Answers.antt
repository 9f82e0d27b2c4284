use Rattle.std.proofs.Common.{get_or, ap, ◌∙◌}
use Rattle.mk_value.specs.Heading.{Attribute}
use Rattle.mk_value.specs.Kinds.{domain_of}
use Rattle.tables.proofs.Reading.{domain_read}
use Rattle.stream_codec.proofs.lengths.kind_at.Goals as goal

pub returns : goal.returns
returns c =
    domain_read c.args.schema.now c.args.col c.index-as_slice-col.result (domain_of c.prop.inside.kind) c.requires
    (c.index-as_slice-col.is ∙ ap (λ s. get_or s c.args.col c.index-as_slice-col.result) c.as_slice.ensures.value) (ap (λ (a : Attribute). a.domain) c.prop.view_is)
