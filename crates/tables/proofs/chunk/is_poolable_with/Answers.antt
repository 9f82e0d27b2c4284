use Rattle.std.proofs.Common.{List, ◌≡◌, ◌∙◌, sym, subst}
use Rattle.std.proofs.lemmas.Bool.{OnTrue_at, OnTrue_from}
use Rattle.mk_value.specs.Heading.{Attribute}
use Rattle.tables.specs.Pools.{IsPoolable}
use Rattle.tables.proofs.chunk.is_poolable_with.Goals as goal

pub returns : goal.returns
returns c =
    let same : c.args.table.now.schema ≡ c.args.schema.now = sym c.shared_schema.ensures ∙ sym c.get.ensures ∙ c.is_same.ensures.0 c.if-not-is_same.false in
    OnTrue_from c.is_poolable.result _ (λ yes. subst (λ (s : List Attribute). IsPoolable s c.args.table.now) same (OnTrue_at yes c.is_poolable.ensures))
