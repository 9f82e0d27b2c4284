use Rattle.std.proofs.Common.{not, ap, sym, ◌∙◌}
use Rattle.relations.specs.declared.error.DerivedError.TheVariants.{OtherSchema}
use Rattle.relations.specs.Equality.{same_schema}
use Rattle.relations.specs.Refusals.{where_so}
use Rattle.relations.proofs.SameSchemas.{same_schema_is}
use Rattle.joins.proofs.sets.check_same.Goals as goal

pub returns-then-not-is_same : goal.returns-then-not-is_same
returns-then-not-is_same g c =
    let same = same_schema_is c.is_same.result c.schema.result.now c.schema-2.result.now c.is_same.ensures in
    sym (ap (λ x. where_so (not (same_schema x c.args.b.now.schema)) OtherSchema) (sym c.schema.ensures.value) ∙ ap (λ y. where_so (not (same_schema c.schema.result.now y)) OtherSchema) (sym c.schema-2.ensures.value)
    ∙ ap (λ b. where_so (not b) OtherSchema) (sym same ∙ c.if-not-is_same.true))

pub returns : goal.returns
returns g c =
    let same = same_schema_is c.is_same.result c.schema.result.now c.schema-2.result.now c.is_same.ensures in
    sym (ap (λ x. where_so (not (same_schema x c.args.b.now.schema)) OtherSchema) (sym c.schema.ensures.value) ∙ ap (λ y. where_so (not (same_schema c.schema.result.now y)) OtherSchema) (sym c.schema-2.ensures.value)
    ∙ ap (λ b. where_so (not b) OtherSchema) (sym same ∙ c.if-not-is_same.false))
