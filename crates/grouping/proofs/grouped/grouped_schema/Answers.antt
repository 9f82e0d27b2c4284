use Rattle.std.proofs.Common.{List, ℕ, [], ◌++◌, ◌∷◌, ap, subst, sym, ◌∙◌}
use Rattle.mk_value.specs.Heading.{Domain, Attribute, IsWithinLimits, heading_of}
use Rattle.mk_value.specs.Names.{IsName}
use Rattle.mk_value.proofs.Headings.{view_is_domain}
use Rattle.relations.specs.Rows.{once, properties_of}
use Rattle.grouping.proofs.GroupTables.{groupable, grouped_limits, others_whole}
use Rattle.grouping.proofs.grouped.grouped_schema.Goals as goal

pub key_properties-requires : goal.key_properties-requires
key_properties-requires c = (groupable (record { schema = c.args.schema.now; rows = [] }) c.args.keys.now c.args.sub.now c.requires.due).present

pub of-inner-requires : goal.of-inner-requires
of-inner-requires c =
    let able = groupable (record { schema = c.args.schema.now; rows = [] }) c.args.keys.now c.args.sub.now c.requires.due in
    subst IsWithinLimits (sym c.in_ok-other_properties.ensures) (others_whole c.args.schema.now c.args.keys.now c.len-width.ensures.whole able.left).limits

pub invariant_of-push : goal.invariant_of-push
invariant_of-push c = record { name = subst IsName (sym c.in_ok-name.ensures) c.as_bytes-sub.ensures.name; domain = view_is_domain c.of-inner.result c.of-inner.ensures.whole }

pub of-requires : goal.of-requires
of-requires c =
    let able = groupable (record { schema = c.args.schema.now; rows = [] }) c.args.keys.now c.args.sub.now c.requires.due in
    let last : List ℕ → List Attribute → Attribute = λ name inner. record { name = name; domain = Domain.relation (heading_of inner) } in
    subst IsWithinLimits
    (sym (
    c.in_ok-push.ensures.ok ∙ ap (λ (ps : List Attribute). ps ++ last c.in_ok-name.name c.of-inner.result ∷ []) c.in_ok-props.ensures
    ∙ ap (λ n. properties_of c.args.schema.now (once c.args.keys.now) ++ last n c.of-inner.result ∷ []) c.in_ok-name.ensures
    ∙ ap (λ inner. properties_of c.args.schema.now (once c.args.keys.now) ++ last c.args.sub.now inner ∷ []) (c.of-inner.ensures.value ∙ c.in_ok-other_properties.ensures)))
    (grouped_limits c.args.schema.now c.args.keys.now c.args.sub.now c.len-width.ensures.whole c.requires.some able)

pub returns : goal.returns
returns c =
    let last : List ℕ → List Attribute → Attribute = λ name inner. record { name = name; domain = Domain.relation (heading_of inner) } in
    c.of.ensures.value
    ∙ c.in_ok-push.ensures.ok ∙ ap (λ (ps : List Attribute). ps ++ last c.in_ok-name.name c.of-inner.result ∷ []) c.in_ok-props.ensures
    ∙ ap (λ n. properties_of c.args.schema.now (once c.args.keys.now) ++ last n c.of-inner.result ∷ []) c.in_ok-name.ensures
    ∙ ap (λ inner. properties_of c.args.schema.now (once c.args.keys.now) ++ last c.args.sub.now inner ∷ []) (c.of-inner.ensures.value ∙ c.in_ok-other_properties.ensures)
