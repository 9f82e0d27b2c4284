use Rattle.std.proofs.Common.{List, ℕ, [], ◌++◌, ◌∷◌, ap, subst, sym, ◌∙◌}
use Rattle.mk_value.specs.Heading.{Domain, Attribute, IsWithinLimits}
use Rattle.relations.specs.Rows.{once, properties_of}
use Rattle.grouping.proofs.CountTables.{countable, counted_limits}
use Rattle.grouping.proofs.KeyColumns.{keys_here, properties_are}
use Rattle.kept_counts.proofs.Keying.{columns_within}
use Rattle.kept_counts.proofs.showing.counted_schema.Goals as goal

pub properties_in-requires : goal.properties_in-requires
properties_in-requires c =
    let able = countable (record { schema = c.args.schema.now; rows = [] }) c.args.keys.now c.args.count.now c.requires.due in
    columns_within c.args.schema.now c.args.keys.now c.args.columns.now able.present c.requires.columns

pub of-requires : goal.of-requires
of-requires c =
    let schema = c.args.schema.now in
    let keys = c.args.keys.now in
    let able = countable (record { schema = schema; rows = [] }) keys c.args.count.now c.requires.due in
    let last : List ℕ → Attribute = λ name. record { name = name; domain = Domain.integer } in
    let props = c.in_ok-props.ensures ∙ properties_are schema (once keys) (keys_here schema keys able.present) c.args.columns.now c.requires.columns in
    subst IsWithinLimits
    (sym (
    c.in_ok-push.ensures.ok ∙ ap (λ (ps : List Attribute). ps ++ last c.in_ok-name.name ∷ []) props
    ∙ ap (λ n. properties_of schema (once keys) ++ last n ∷ []) c.in_ok-name.ensures))
    (counted_limits schema keys c.args.count.now c.len-width.ensures.whole c.requires.some able)

pub returns : goal.returns
returns c =
    let schema = c.args.schema.now in
    let keys = c.args.keys.now in
    let able = countable (record { schema = schema; rows = [] }) keys c.args.count.now c.requires.due in
    let last : List ℕ → Attribute = λ name. record { name = name; domain = Domain.integer } in
    let props = c.in_ok-props.ensures ∙ properties_are schema (once keys) (keys_here schema keys able.present) c.args.columns.now c.requires.columns in
    c.of.ensures.value ∙ c.in_ok-push.ensures.ok ∙ ap (λ (ps : List Attribute). ps ++ last c.in_ok-name.name ∷ []) props
    ∙ ap (λ n. properties_of schema (once keys) ++ last n ∷ []) c.in_ok-name.ensures
