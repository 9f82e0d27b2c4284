use Rattle.std.proofs.Common.{List, ℕ, [], ◌++◌, ◌∷◌, ap, subst, sym, ◌∙◌}
use Rattle.mk_value.specs.Heading.{Domain, Attribute, IsWithinLimits}
use Rattle.relations.specs.Rows.{once, properties_of}
use Rattle.grouping.proofs.CountTables.{countable, counted_limits}
use Rattle.grouping.proofs.counting.counted_schema.Goals as goal

pub key_properties-requires : goal.key_properties-requires
key_properties-requires c = (countable (record { schema = c.args.schema.now; rows = [] }) c.args.keys.now c.args.count.now c.requires.due).present

pub of-requires : goal.of-requires
of-requires c =
    let able = countable (record { schema = c.args.schema.now; rows = [] }) c.args.keys.now c.args.count.now c.requires.due in
    let last : List ℕ → Attribute = λ name. record { name = name; domain = Domain.integer } in
    subst IsWithinLimits
    (sym (
    c.in_ok-push.ensures.ok ∙ ap (λ (ps : List Attribute). ps ++ last c.in_ok-name.name ∷ []) c.in_ok-props.ensures
    ∙ ap (λ n. properties_of c.args.schema.now (once c.args.keys.now) ++ last n ∷ []) c.in_ok-name.ensures))
    (counted_limits c.args.schema.now c.args.keys.now c.args.count.now c.len-width.ensures.whole c.requires.some able)

pub returns : goal.returns
returns c =
    let last : List ℕ → Attribute = λ name. record { name = name; domain = Domain.integer } in
    c.of.ensures.value ∙ c.in_ok-push.ensures.ok ∙ ap (λ (ps : List Attribute). ps ++ last c.in_ok-name.name ∷ []) c.in_ok-props.ensures
    ∙ ap (λ n. properties_of c.args.schema.now (once c.args.keys.now) ++ last n ∷ []) c.in_ok-name.ensures
